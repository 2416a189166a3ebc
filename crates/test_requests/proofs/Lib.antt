pub mod Lengths
pub mod Samples
