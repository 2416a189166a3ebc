-- Lemmas that crates above cite: the times of a profile without a fault.
pub mod Waits
