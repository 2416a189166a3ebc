pub mod Lexical
pub mod Reasons
pub mod ProfileFaults
pub mod ProfileLines
