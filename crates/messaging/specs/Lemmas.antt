-- Lemmas that crates above cite: what each change of class 3 connections and of requests to the application keeps.
pub mod EachOfLemmas
pub mod ChangedLemmas
pub mod SoundLemmas
pub mod KeptLemmas
pub mod IdleLemmas
pub mod FoundLemmas
