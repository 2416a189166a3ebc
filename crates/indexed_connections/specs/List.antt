pub mod Orders
pub mod Tables
pub mod Whole
pub mod Lone
pub mod Replacing
pub mod Removals
pub mod Receiving
pub mod Quiet
