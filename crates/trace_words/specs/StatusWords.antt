pub mod Reasons
pub mod Statuses
