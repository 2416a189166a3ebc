pub mod Timers
pub mod Levels
pub mod Marks
pub mod Hints
pub mod Layout
pub mod Laws
