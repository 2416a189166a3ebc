pub mod Following
pub mod Pieces
mod ClockSamples
mod Samples
