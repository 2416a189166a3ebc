mod Lines
mod Ties
pub mod Apart
pub mod Groups
pub mod Named
pub mod Placed
pub mod PlacedWords
pub mod NumberedLines
mod LineSamples
