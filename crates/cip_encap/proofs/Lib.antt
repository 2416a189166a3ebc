pub mod MessageLaws
pub mod StreamLaws
pub mod PacketLaws
pub mod Samples
mod ConnectedLaws
mod ConnectedSamples
mod AnyItemLaws
mod AnyItemSamples
