pub mod Messages
mod Alone
mod Samples
mod InquiriesSamples
mod RoundsSamples
pub mod LinkNames
mod HostSamples
pub mod HostWalks
