pub mod Asking
pub mod Delays
pub mod Gates
pub mod Holds
