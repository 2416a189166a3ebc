mod Pieces
mod Samples
