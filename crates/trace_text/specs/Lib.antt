pub mod Clock
pub mod Forms
pub mod Reading
pub mod Recorded
pub mod Texts
pub mod Written
