pub mod Plants
pub mod Restarts
pub mod Stories
