pub mod Acceptance
pub mod Window
pub mod Watchdog
pub mod Productions
pub mod Kinds
pub mod Ages
pub mod Lemmas
