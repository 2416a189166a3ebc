pub mod Requests
pub mod Datagrams
