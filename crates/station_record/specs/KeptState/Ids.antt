-- The connection ids of a station, which its state keeps from one start to the next: they go round all numbers of 32 bits but 0
-- (Volume 1, chapter 3, network connection ids).
use Rattle.std.specs.Prelude.{ℕ, ◌≤◌, ◌<◌, ◌+◌, ◌-◌, ◌/◌, ◌%◌, ◌^◌, ◌==◌, nat_le, nat_lt, min, if◌then◌else◌, Bool}
use Rattle.cip_types.specs.declared.ids.IdBlock.{IdBlock}
use Rattle.cip_types.specs.Ids.{end_of}
use Rattle.station_record.specs.declared.kept_state.ids.KeptIds.{KeptIds}

-- how many ids are reserved at a time, and how many there are
abbrev pub block_ids : ℕ
block_ids = 4096

abbrev pub all_ids : ℕ
all_ids = 2 ^ 32 - 1

-- the next id is one, and no more are left than there are
pub record IsKept (ids : KeptIds) : Type 0 where
  pub begins : 1 ≤ ids.from
  pub ends : ids.from < 2 ^ 32
  pub left : ids.left ≤ all_ids

-- a state that is made: a drawn place, and none was given
abbrev pub drawn_ids : ℕ → KeptIds
drawn_ids drawn = record { from = drawn % all_ids + 1; left = all_ids }

-- RESERVING

-- the block that is reserved next: it does not go over the last id of all
abbrev pub next_block : KeptIds → IdBlock
next_block ids = record { first = ids.from; count = min (2 ^ 32 - ids.from) block_ids }

-- the number behind a block: 1 follows the last id of all
abbrev pub behind : IdBlock → ℕ
behind block = if end_of block == 2 ^ 32 then 1 else end_of block

-- fewer ids are left than the next block has: it has some that were given first of all
abbrev pub ends_circle : KeptIds → Bool
ends_circle ids = nat_lt ids.left (next_block ids).count

-- from then on all ids are counted as left again
abbrev pub left_in : KeptIds → ℕ
left_in ids = if ends_circle ids then all_ids else ids.left

-- what is kept once the next block is reserved
abbrev pub with_reserved : KeptIds → KeptIds
with_reserved ids = record { from = behind (next_block ids); left = left_in ids - (next_block ids).count }

-- GIVING BACK

-- what is kept where so many ids of what was reserved were not given
abbrev pub given_back : KeptIds → ℕ → KeptIds
given_back ids unused = record { from = (ids.from - 1 + all_ids - unused) % all_ids + 1; left = min (ids.left + unused) all_ids }

-- A LIFE

-- its ids begin at a drawn place of the first half of the block that it has reserved
abbrev pub place_in : IdBlock → ℕ → ℕ
place_in block drawn = drawn % (block.count / 2 + 1)

abbrev pub life_block : IdBlock → ℕ → IdBlock
life_block block drawn = record { first = min (block.first + place_in block drawn) (2 ^ 32 - 1); count = block.count - place_in block drawn }

-- half of a block is used: a further one is wanted
abbrev pub wants_block : ℕ → Bool
wants_block left = nat_le left (block_ids / 2)

-- how many of so many ids of a life are reserved again, where its device has so many left: never its first one, so that no two
-- lives begin with one id
abbrev pub unused_ids : ℕ → ℕ → ℕ
unused_ids left all = min left (all - 1)
