pub mod Sums
pub mod SumLines
pub mod Crc32
