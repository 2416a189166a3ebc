pub mod Kept
mod Doing
mod Ticking
mod Undone
pub mod Waking
