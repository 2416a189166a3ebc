mod Samples
mod StreamNamesSamples
