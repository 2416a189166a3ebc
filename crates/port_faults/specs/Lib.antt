pub mod Impairments
pub mod Holds
pub mod Passing
pub mod Orders
