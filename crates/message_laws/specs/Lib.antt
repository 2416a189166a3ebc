pub mod Repetitions
pub mod Executions
