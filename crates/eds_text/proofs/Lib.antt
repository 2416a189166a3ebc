mod NameBytes
mod Samples
pub mod Words
