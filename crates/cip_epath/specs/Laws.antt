-- Consequences of the definitions, for the crates above: a text has one reading, which is that of the relations, and
-- a written value is read back.
pub mod Numbers
pub mod Segments
pub mod Taken
pub mod Faults
pub mod Cuts
pub mod Arrangements
pub mod Texts
pub mod PathLaws
pub mod AnyLaws
