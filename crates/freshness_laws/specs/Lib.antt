pub mod Passing
pub mod InTime
pub mod Outputs
pub mod Images
