pub mod Calls
pub mod Cells
pub mod Exchange
pub mod Inquiries
pub mod Memory
pub mod States
pub mod Statuses
