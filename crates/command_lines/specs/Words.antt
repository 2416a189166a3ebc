pub mod Help
pub mod Values
