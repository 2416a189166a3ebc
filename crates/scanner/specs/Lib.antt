pub mod Allowed
pub mod Tables
