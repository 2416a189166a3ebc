mod Chronicles
mod SharedIds
