pub mod Adding
pub mod Distinct
pub mod Gathering
pub mod Incarnations
pub mod Reaching
pub mod Reporting
pub mod Comparing
