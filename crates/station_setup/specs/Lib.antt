pub mod Reports
pub mod Settings
pub mod Unservable
pub mod Opening
