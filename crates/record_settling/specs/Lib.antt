pub mod Accounts
pub mod Senders
pub mod Settled
pub mod Summed
pub mod StreamNames
