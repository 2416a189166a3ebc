-- Lemmas that the laws cite: the slots of a table, what each event does to them, which events leave a table as it is or change
-- slots and the mode alone, and what follows for a list of events.
pub mod SlotLookups
pub mod Moves
pub mod Slotwise
pub mod Events
pub mod FreshSlots
pub mod PassiveLemmas
pub mod SlotEventLemmas
