mod Lengths
mod Samples
