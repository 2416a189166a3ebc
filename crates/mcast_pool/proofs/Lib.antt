mod Places
mod Keeping
mod Limits
mod Joining
