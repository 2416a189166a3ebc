pub mod Reader
pub mod Words
pub mod PointNames
pub mod StatusWords
