pub mod Transactions
pub mod Undoing
pub mod Runs
pub mod MessageOutcomes
