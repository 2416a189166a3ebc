mod OneOwner
mod OwnerEffects
mod OwnerSteps
mod TurnRuns
mod TurnReading
pub mod Carrying
pub mod Class3Carrying
pub mod Emptied
pub mod AdapterDue
pub mod ScannerDue
pub mod Framing
pub mod Answering
mod PlainTexts
mod ScannerPlain
mod PlainSteps
pub mod Requests
pub mod OwnIds
pub mod RequestedRows
pub mod SentStreams
pub mod ScannerSending
pub mod SentTexts
pub mod Values
mod DrawnSteps
mod RisingNumbers
mod ScratchSteps
mod NewestSteps
mod DeadlineSteps
mod RunLemmas
mod SlotLemmas
mod SmallTables
mod LawSamples
mod OwnerReports
mod OwnerDataSteps
mod OwnerDataRuns
mod StatedLimits
mod WindowSteps
mod TidyEffects
mod TidyEvents
mod TidyRuns
mod TidySamples
mod TimedOutSteps
mod CutCloses
