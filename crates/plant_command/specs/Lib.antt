pub mod DeviceLines
pub mod Endings
pub mod Lives
pub mod Paths
pub mod Setups
pub mod Statuses
