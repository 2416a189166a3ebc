pub mod Items
pub mod Replies
