-- Lemmas that crates above cite: names and times that pass the derived test are equal.
pub mod EqualLemmas
