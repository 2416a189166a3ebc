-- Lemmas that crates above cite: productions and accepted datagrams that pass the derived test are equal.
pub mod EqualLemmas
