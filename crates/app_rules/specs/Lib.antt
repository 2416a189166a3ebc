pub mod Views
pub mod Stages
pub mod Counts
