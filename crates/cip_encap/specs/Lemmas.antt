-- Lemmas that crates above cite: what is read with socket addresses alone behind it is read the same with items of any type behind it.
pub mod AnyItemLemmas
