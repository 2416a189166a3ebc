pub mod IdWays
pub mod Reads
pub mod Queue
pub mod UnreadCalls
pub mod LineWays
pub mod RecordWays
pub mod RecordLaw
pub mod Written
