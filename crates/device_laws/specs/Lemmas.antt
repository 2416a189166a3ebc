-- Lemmas that laws here and crates above cite: texts of replies and requests, explicit requests, what messages of class 3
-- connections and replies of the application leave, lists of what is sent, the ids in them, and a scanner's slots; how rows and
-- slots keep their ids; what a device sends at an event, and how its books of productions go on; the step and the runs of a device
-- that is a scanner.
pub mod Texts
pub mod Payloads
pub mod ExplicitRequests
pub mod InquiryTexts
pub mod ConnectedTexts
pub mod MessageSteps
pub mod Lists
pub mod AdapterIds
pub mod Slots
pub mod ScannerIds
pub mod ReplyTexts
pub mod Serving
pub mod SlotIds
pub mod RowIds
pub mod OpenedRows
pub mod Admissions
pub mod RequestTexts
pub mod Numbered
pub mod RequestedIds
pub mod ScannerEffects
pub mod ListCounts
pub mod Books
pub mod Inputs
pub mod Quietly
pub mod ScannerBooks
pub mod ScannerTicks
pub mod AdapterBooks
pub mod AdapterTicks
pub mod DeviceBooks
pub mod BookSteps
pub mod ProductionRuns
pub mod Reading
pub mod OpeningNumbers
pub mod Folds
pub mod Stepping
