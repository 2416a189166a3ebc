pub mod Paths
mod Samples
mod WatchSamples
mod DatagramCountsSamples
mod ReportedSamples
mod NumbersSamples
