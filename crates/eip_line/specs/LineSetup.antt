pub mod Scripts
pub mod Devices
