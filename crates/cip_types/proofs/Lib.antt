mod Blocks
pub mod Samples
pub mod Insertion
