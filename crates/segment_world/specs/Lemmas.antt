-- Lemmas that crates above cite: which events the calls of an application make.
pub mod CallLemmas
