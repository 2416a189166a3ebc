pub mod Askers
pub mod Class3Connections
pub mod Changes
pub mod Times
pub mod Endings
pub mod Sound
pub mod Lemmas
