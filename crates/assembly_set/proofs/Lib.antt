pub mod Shaping
mod Putting
