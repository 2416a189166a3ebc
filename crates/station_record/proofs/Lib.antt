mod Growing
mod Repeating
mod Samples
mod NumberTexts
mod ReadBack
mod KeptStateSamples
mod NameSamples
pub mod Padding
pub mod LastSplits
