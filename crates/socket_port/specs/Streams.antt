pub mod Nil
pub mod StreamArrivals
pub mod Slots
pub mod Routing
pub mod Polling
pub mod Shortening
