mod Lines
mod LineNumbers
mod Samples
mod AddressWords
mod OptionWords
mod WordsSamples
