pub mod Unsent
mod Putting
mod Samples
mod MakingRoom
mod RulesSamples
mod LinkSamples
