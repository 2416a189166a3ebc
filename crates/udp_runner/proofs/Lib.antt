mod Joining
mod SentOutputs
mod Handed
mod Driven
mod AtPorts
mod TakenInTime
mod Samples
mod GroupsSamples
