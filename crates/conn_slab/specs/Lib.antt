pub mod Index
pub mod Records
pub mod Layout
pub mod Connections
pub mod Reception
pub mod Bounds
pub mod Producing
