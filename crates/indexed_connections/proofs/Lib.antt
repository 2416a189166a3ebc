mod Expiring
mod Dropping
mod Whole
mod Prefixes
mod Times
mod Removals
mod Counted
mod ProducerConsumers
mod Logic
mod Gathering
mod Entries
mod Numbers
mod Settling
mod Keyed
mod SentTurns
mod Written
mod Singles
mod Remaining
mod Runs
mod Peers
mod Cyclic
mod DueTimes
pub mod Orders
pub mod Loops
pub mod Advancing
