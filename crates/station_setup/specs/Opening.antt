pub mod Counts
pub mod Devices
pub mod Places
pub mod Profiles
pub mod Starts
pub mod Unserved
