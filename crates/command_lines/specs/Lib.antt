pub mod LineCommands
pub mod LineTasks
pub mod StationOptions
pub mod Questions
pub mod StationTasks
pub mod Version
pub mod Words
