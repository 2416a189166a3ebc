pub mod Ends
pub mod Readiness
pub mod Refusals
pub mod Sessions
pub mod Waits
