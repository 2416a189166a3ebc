pub mod Points
pub mod Lists
