pub mod Chronicling
pub mod OwnIds
