pub mod GroupUse
