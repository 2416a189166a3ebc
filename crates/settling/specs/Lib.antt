pub mod Receipts
pub mod Settlings
pub mod Search
pub mod SharedIds
