pub mod Views
pub mod Bounding
