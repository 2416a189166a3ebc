mod LastBlocks
mod RunKeeps
mod ScratchLemmas
mod NewestLemmas
