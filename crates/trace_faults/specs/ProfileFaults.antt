pub mod Defects
pub mod Instances
pub mod Named
