pub mod Facts
pub mod Changes
pub mod Orders
mod Turns
