mod ActSamples
mod Samples
mod Lines
mod Cuts
mod ScriptLines
mod FileSamples
mod Words
