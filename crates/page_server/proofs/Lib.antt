mod ServingSamples
mod Samples
