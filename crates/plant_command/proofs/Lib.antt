pub mod Apart
mod Samples
