-- The blocks of connection ids on their way from the state's file to a device.
use Rattle.std.specs.Prelude.{ℕ, ◌+◌, ◌-◌, ◌^◌, ◌||◌, not, min, Bool, true, false, Option, Some, None, is_some, unwrap_or}
use Rattle.cip_types.specs.declared.ids.IdBlock.{IdBlock}
use Rattle.station_record.specs.declared.kept_state.ids.KeptIds.{KeptIds}
use Rattle.station_record.specs.declared.kept_state.state.StationState.{StationState}
use Rattle.station_record.specs.KeptState.Ids.{ends_circle, given_back, next_block, unused_ids, wants_block, with_reserved}
use Rattle.station_record.specs.KeptState.States.{with_ids}
use Rattle.station_rim.specs.declared.id_way.IdWay.{IdWay}

-- a life begins with a block, which the state has reserved
abbrev pub begun_way : StationState → KeptIds → IdBlock → IdWay
begun_way state ids block = record { state = state; taken = ids; all = block.count; is_desired = false; is_busy = false; ready = None }

-- from where on no id was given, as the state on the medium says
abbrev pub kept_in : StationState → KeptIds → KeptIds
kept_in state taken = unwrap_or state.ids taken

-- THE DEVICE

-- the block that it takes
abbrev pub supplied : IdWay → Option IdBlock
supplied way = way.ready

-- it takes what is ready, or a block is wanted where it has few ids left
abbrev pub asks_with : IdWay → ℕ → Option IdBlock → IdWay
asks_with way left (Some block) = record way { taken = kept_in way.state way.taken; all = min (way.all + block.count) (2 ^ 32 - 1); ready = None }
asks_with way left None = record way { is_desired = way.is_desired || wants_block left }

abbrev pub asks : IdWay → ℕ → IdWay
asks way left = asks_with way left way.ready

-- THE FILE

-- nothing is to be reserved
abbrev pub is_resting : IdWay → Bool
is_resting way = not way.is_desired || is_some way.ready

-- the state that reserves the next block, and that block
abbrev pub next_reserved : IdWay → StationState × IdBlock
next_reserved way = (with_ids way.state (with_reserved (kept_in way.state way.taken)), next_block (kept_in way.state way.taken))

-- the next block has ids that were given before
abbrev pub ends_way_circle : IdWay → Bool
ends_way_circle way = ends_circle (kept_in way.state way.taken)

abbrev pub reserving : IdWay → IdWay
reserving way = record way { is_busy = true }

-- a block is ready only once the state that reserves it is on the medium
abbrev pub noted : IdWay → Bool → IdWay
noted way true = record way { state = (next_reserved way).0; is_desired = false; is_busy = false; ready = Some (next_reserved way).1 }
noted way false = record way { is_busy = false }

-- THE END

-- what the life did not give is reserved again later
abbrev pub given_back_state : IdWay → ℕ → StationState
given_back_state way left = with_ids way.state (given_back way.taken (unused_ids left way.all))
