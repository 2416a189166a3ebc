pub mod Ids
pub mod States
