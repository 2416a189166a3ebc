pub mod Inquiries
pub mod Routes
pub mod Packets
pub mod Services
pub mod Identities
pub mod Counts
