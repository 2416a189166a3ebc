pub mod Results
pub mod Turns
