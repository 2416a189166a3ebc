-- Consequences of the definitions, for the crates above: look-ups in a map of deadlines, and that the fired tokens
-- are determined.
pub mod MapLemmas
pub mod LevelLemmas
pub mod SweepLemmas
pub mod FireLemmas
pub mod TimersLemmas
