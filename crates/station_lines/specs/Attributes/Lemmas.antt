-- Lemmas that crates above cite: texts that are appended.
pub mod Appended
