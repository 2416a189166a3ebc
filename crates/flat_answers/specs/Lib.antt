pub mod Flat
pub mod Places
