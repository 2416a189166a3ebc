pub mod Identity
pub mod Inquiries
pub mod Names
