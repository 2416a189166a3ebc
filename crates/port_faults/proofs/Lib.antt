pub mod OrderLemmas
mod Samples
mod OrdersSamples
