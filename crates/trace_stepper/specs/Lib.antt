pub mod Compared
pub mod Playing
pub mod Stepping
pub mod Written
