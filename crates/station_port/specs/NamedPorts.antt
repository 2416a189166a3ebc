pub mod Naming
pub mod Closing
pub mod Destinations
pub mod Editing
pub mod Replies
pub mod Held
pub mod Ports
