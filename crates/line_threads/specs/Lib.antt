pub mod Scripts
pub mod Accounts
pub mod Lines
pub mod Openings
