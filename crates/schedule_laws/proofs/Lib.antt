pub mod Openings
pub mod OwnersFollowing
pub mod OpeningIds
pub mod OwnIncarnations
pub mod Later
pub mod LaterSlots
pub mod OutputsWritten
pub mod EndedProducers
pub mod LaterConnections
pub mod Acted
pub mod NewLives
pub mod LifeIds
pub mod WaitingCounts
pub mod UsedOnce
pub mod OneConnection
pub mod StandingStreams
pub mod MarkedStreams
pub mod Forms
pub mod OwnerRows
pub mod Holding
pub mod Moments
pub mod Outputs
pub mod ImageSteps
pub mod ImageActs
pub mod GatheredImages
pub mod ProducedImages
pub mod InputsMade
pub mod Makings
mod Asking
mod RequestedOpenings
mod ConnectionRows
mod Admitting
mod Requested
mod Joining
mod Drawing
mod Acting
mod OpeningNumberSamples
