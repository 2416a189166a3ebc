mod DescriptionSamples
mod Keys
mod LimitSamples
mod ObjectSamples
mod Pieces
mod Skipping
mod SlotSamples
