pub mod Time
pub mod Timeouts
pub mod Rests
pub mod Waits
