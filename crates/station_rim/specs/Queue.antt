pub mod Queues
pub mod Outlets
pub mod StateLaw
