pub mod Datagram
pub mod Reading
pub mod Header
pub mod DatagramFront
pub mod ReadsBack
