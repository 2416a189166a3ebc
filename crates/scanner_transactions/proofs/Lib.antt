pub mod Found
pub mod Steps
pub mod RequestSteps
pub mod Faultless
mod Undone
mod Tame
mod Narrowed
pub mod Selected
pub mod Remaining
pub mod SlotNumbers
pub mod Ordered
pub mod Answering
pub mod SessionSteps
