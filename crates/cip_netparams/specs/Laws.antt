-- Consequences of the definitions, for the crates above: a word is the sum of its fields, and is read as it was
-- written.
pub mod Bits
pub mod Words
