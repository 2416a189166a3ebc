pub mod Recording
pub mod TraceBack
pub mod WordsBack
