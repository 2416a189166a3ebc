mod Appending
mod Samples
mod Signs
