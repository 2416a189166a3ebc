mod Equal
mod Sent
