pub mod Failures
pub mod Needs
pub mod Rules
pub mod Texts
