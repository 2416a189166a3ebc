pub mod SlotLemmas
pub mod Bounded
pub mod Resting
pub mod Changes
pub mod Few
pub mod FirstDue
mod Turns
mod Singly
mod OrderedViews
