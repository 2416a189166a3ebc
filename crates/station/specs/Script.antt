pub mod Checks
pub mod Due
pub mod Looks
pub mod Report
pub mod Runs
pub mod Texts
