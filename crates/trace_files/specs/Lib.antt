pub mod Entries
pub mod Lines
pub mod Playing
pub mod Profile
pub mod Regular
pub mod Pcap
