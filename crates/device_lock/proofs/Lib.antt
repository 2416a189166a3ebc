pub mod Replays
pub mod Places
