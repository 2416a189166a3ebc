pub mod Outcomes
pub mod Ways
pub mod Streams
pub mod Rules
