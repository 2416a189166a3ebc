mod ExplicitSamples
mod ResetSamples
mod OwnRequestSamples
mod Samples
mod Crc32Samples
