pub mod Holding
pub mod Judging
pub mod Reading
pub mod Reports
pub mod Texts
pub mod Verdicts
