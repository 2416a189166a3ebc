pub mod Spares
pub mod Streams
pub mod Links
pub mod Fronts
pub mod Queues
pub mod Log
pub mod Spans
