pub mod Walks
pub mod Samples
pub mod Parts
mod MessageWalk
mod AnyWalk
pub mod AnySamples
