pub mod Failures
pub mod Story
