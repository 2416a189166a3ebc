mod Deadlines
mod Judged
mod Resting
