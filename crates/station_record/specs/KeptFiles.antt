pub mod FileWords
pub mod StateFiles
pub mod Timestamps
