pub mod MarkLemmas
pub mod WheelLemmas
