pub mod DatagramLaws
pub mod HeaderLaws
pub mod Samples
