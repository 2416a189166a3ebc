pub mod HostFiles
pub mod HostLines
pub mod Requests
