pub mod Parts
pub mod WrittenOutcomes
pub mod Sums
