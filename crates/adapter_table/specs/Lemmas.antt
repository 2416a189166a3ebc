-- Lemmas that crates above cite: the checks of an opening, what each effect does to rows, values, groups and numbers, and how long the
-- answers of objects are.
pub mod PathLemmas
pub mod RefusalLemmas
pub mod CheckLemmas
pub mod SoundLemmas
pub mod GroupLemmas
pub mod SupportLemmas
pub mod LikeLemmas
pub mod LimitLemmas
pub mod MessageLemmas
pub mod FrameLemmas
pub mod RequestLemmas
pub mod PassiveLemmas
pub mod PlainLemmas
pub mod ControlLemmas
pub mod EffectLemmas
pub mod ValueLemmas
pub mod DriverLemmas
pub mod FedLemmas
pub mod CounterSteps
pub mod ObjectSizes
pub mod ItemLemmas
pub mod CountLemmas
