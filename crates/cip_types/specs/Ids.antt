-- Connection ids that a device draws (Volume 1, chapter 3, network connection ids): the blocks that it holds, and the id of each
-- number.
use Rattle.std.specs.Prelude.{ℕ, ◌≡◌, ◌≤◌, ◌+◌, ◌-◌, ◌*◌, ◌/◌, ◌^◌, ◌==◌, ◌&&◌, not, nat_le, nat_lt, min, max, if◌then◌else◌, Bool, true, false, List, [], ◌∷◌, length, Option, Some, None}
use Rattle.std.specs.List.{list_any}
use Rattle.cip_types.specs.declared.names.ConnId.{ConnId}
use Rattle.cip_types.specs.declared.ids.IdBlock.{IdBlock}

-- ONE BLOCK

-- the first number behind a block
abbrev pub end_of : IdBlock → ℕ
end_of block = block.first + block.count

-- no id of the block is 0, and each has 32 bits
abbrev pub is_block : IdBlock → Bool
is_block block = nat_le 1 block.first && (nat_lt block.first (2 ^ 32) && nat_le (end_of block) (2 ^ 32))

-- the ids that begin with an incarnation: its byte is their high byte, and the other 24 bits count from 1
abbrev pub ids_of_incarnation : ℕ → IdBlock
ids_of_incarnation incarnation = record { first = incarnation * 2 ^ 24 + 1; count = 2 ^ 24 - 1 }

-- the block that a device begins with: the one that its profile states, or the ids of its incarnation
abbrev pub first_block : ℕ → Option IdBlock → IdBlock
first_block incarnation None = ids_of_incarnation incarnation
first_block incarnation (Some block) = block

-- the incarnation is not 0, and the ids that a device begins with are a block
abbrev pub are_ids : ℕ → Option IdBlock → Bool
are_ids incarnation ids = not (incarnation == 0) && is_block (first_block incarnation ids)

-- an id is of both blocks
abbrev pub shares_ids : IdBlock → IdBlock → Bool
shares_ids block other = nat_lt (max block.first other.first) (min (end_of block) (end_of other))

-- ONE LIFE AND THE NEXT

-- what is left of the block for a next life, where a life has left so many of its ids: never the first one, so that no two lives
-- begin with one id
abbrev pub rest_of : IdBlock → ℕ → ℕ
rest_of block left = min left (block.count - 1)

-- The block of a next life. Behind the last id of all there is none.
abbrev pub ids_behind : IdBlock → ℕ → IdBlock
ids_behind block left =
    if end_of block - rest_of block left == 2 ^ 32 then record { first = block.first; count = 0 } else record { first = end_of block - rest_of block left; count = rest_of block left }

-- the ids of a device of a plant of so many: all ids but 0 in equal parts, as near as can be, one behind the other
abbrev pub part_of_ids : (device devices : ℕ) → IdBlock
part_of_ids device devices = record {
  first = device * ((2 ^ 32 - 1) / devices) + 1;
  count = (2 ^ 32 - 1) / devices;
}

-- THE BLOCKS OF A DEVICE

-- Numbers count the ids of blocks that are laid one behind the other: 1 is the number of the first id of the first block.
abbrev pub id_at : List IdBlock → ℕ → ConnId
id_at [] number = record { 0 = 0 }
id_at (block ∷ blocks) number = if nat_le number block.count then record { 0 = block.first + (number - 1) } else id_at blocks (number - block.count)

-- how many ids they have
abbrev pub ids_in : List IdBlock → ℕ
ids_in [] = 0
ids_in (block ∷ blocks) = block.count + ids_in blocks

-- the number of which there is no id any more; a device gives at most 2^32 - 2 ids
abbrev pub end_number : List IdBlock → ℕ
end_number blocks = min (ids_in blocks + 1) (2 ^ 32 - 1)

-- how many ids are left, from this number on
abbrev pub ids_left : List IdBlock → ℕ → ℕ
ids_left blocks number = end_number blocks - number

-- it is a block, and has no id of these ones
abbrev pub is_apart : List IdBlock → IdBlock → Bool
is_apart blocks block = is_block block && not (list_any (shares_ids block) blocks)

-- a device holds so many blocks at most
abbrev pub most_blocks : ℕ
most_blocks = 64

-- A further block has no id of those that the device holds, and they are not the most yet.
abbrev pub may_take : List IdBlock → IdBlock → Bool
may_take blocks block = is_apart blocks block && nat_lt (length blocks) most_blocks

-- a block that begins where the last one ends continues it
abbrev pub continued : IdBlock → IdBlock → List IdBlock
continued last block =
    if end_of last == block.first then record { first = last.first; count = last.count + block.count } ∷ [] else last ∷ block ∷ []

-- the last one is continued
abbrev pub is_continued : List IdBlock → IdBlock → Bool
is_continued [] block = false
is_continued (last ∷ []) block = end_of last == block.first
is_continued (first ∷ (second ∷ rest)) block = is_continued (second ∷ rest) block

-- the blocks with a further one behind them
abbrev pub with_block : List IdBlock → IdBlock → List IdBlock
with_block [] block = block ∷ []
with_block (last ∷ []) block = continued last block
with_block (first ∷ (second ∷ rest)) block = first ∷ with_block (second ∷ rest) block

-- each is a block, and no two have an id in common
abbrev pub are_blocks : List IdBlock → Bool
are_blocks [] = true
are_blocks (block ∷ blocks) = is_apart blocks block && are_blocks blocks

-- the later blocks are the earlier ones with further ones behind them, and no two have an id in common
pub record Extends (old new : List IdBlock) : Type 0 where
  pub more : ids_in old ≤ ids_in new
  pub same : (number : ℕ) → 1 ≤ number → number ≤ ids_in old → id_at new number ≡ id_at old number
  pub apart : are_blocks old ≡ true → are_blocks new ≡ true
