mod Plays
mod Steps
mod Writes
