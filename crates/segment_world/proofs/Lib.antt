mod Acts
mod CameTo
mod Listing
mod Projecting
mod Outputs
mod Frames
mod Live
mod Spares
mod Views
mod Ways
mod Appending
pub mod Lists
pub mod Ends
pub mod Extending
pub mod Cutting
pub mod Playing
pub mod Naming
pub mod Restarting
pub mod Growing
