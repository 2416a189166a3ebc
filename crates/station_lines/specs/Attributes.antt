pub mod Requested
pub mod Calls
pub mod Lemmas
pub mod Names
pub mod Replies
pub mod Values
