mod Changing
mod Deadlines
mod Ordering
mod Samples
