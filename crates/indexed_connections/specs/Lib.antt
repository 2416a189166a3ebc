pub mod Layout
pub mod CountChanges
pub mod Turns
pub mod Keys
pub mod ConsumerTables
pub mod ConsumerLaws
pub mod Peers
pub mod List
