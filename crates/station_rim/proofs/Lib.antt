mod Appended
mod InOrder
mod NeverLost
mod QueueSamples
mod Samples
