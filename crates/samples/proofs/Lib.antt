pub mod Opens
pub mod Checks
pub mod Groups
pub mod Capacity
mod LimitSamples
pub mod Deliveries
pub mod AdapterStates
mod OwnerData
pub mod Productions
pub mod Times
pub mod Requests
mod ObjectSamples
mod InquirySamples
pub mod Profiles
pub mod Frames
pub mod AdapterWakes
mod SmallScanner
mod ScannerStates
mod Scanners
mod Adapters
mod ScannerWakes
pub mod WorldPlaying
pub mod Streams
pub mod Datagrams
pub mod Faults
mod ExplicitActs
pub mod Turns
pub mod Ids
pub mod Schedules
mod Settling
mod OwnerSamples
mod GroupSamples
mod OrderSamples
mod CircleSamples
mod OnceSamples
mod Passing
mod Testing
mod NameTesting
mod ImageTesting
mod SegmentTesting
mod MomentTesting
mod LawTesting
mod PointSamples
mod BentSamples
mod BentNames
mod BentImages
mod BentSegment
mod BentMoments
mod LifeSamples
mod PlantSamples
mod StepTesting
mod BentSteps
