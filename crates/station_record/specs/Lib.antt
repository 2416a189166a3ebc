pub mod Files
pub mod Records
pub mod Shortened
pub mod Summed
pub mod KeptState
pub mod KeptFiles
