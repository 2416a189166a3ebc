pub mod Calls
pub mod Waits
pub mod Page
pub mod Reads
pub mod IdleThreads
