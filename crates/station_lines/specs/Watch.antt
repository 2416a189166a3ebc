pub mod Closing
pub mod Groups
pub mod Notes
pub mod Peers
pub mod Slots
pub mod Traffic
pub mod Waits
pub mod DatagramCounts
