pub mod Requests
pub mod Connections
pub mod Lemmas
