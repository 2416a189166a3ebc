-- A restart of a device: its life ends and the next one begins.
use Rattle.std.specs.Prelude.{◌≡◌, ℕ, suc, ◌==◌, ◌&&◌, ◌||◌, not, if◌then◌else◌, Bool, true, false, List, [], ◌∷◌, ◌++◌, map, set, length, slice_get, Option, Some, None, Result, Ok, Err, IsOk, is_none}
use Rattle.std.specs.List.{list_any}
use Rattle.cip_types.specs.declared.ids.IdBlock.{IdBlock}
use Rattle.cip_tables.specs.declared.table.DeviceTable.{DeviceTable}
use Rattle.cip_tables.specs.Ids.{next_ids, stated_ids, with_ids}
use Rattle.cip_tables.specs.declared.table.Config.{Config}
use Rattle.cip_tables.specs.declared.table.Config.TheVariants as config
use Rattle.segment_world.specs.Transit.Streams.{Stream, cut_stream}
use Rattle.segment_world.specs.declared.act.Act.{Act}
use Rattle.segment_world.specs.declared.act.Act.TheVariants.{CutStream}
use Rattle.segment_world.specs.declared.configs.DeviceKey.TheVariants.{Incarnation}
use Rattle.segment_world.specs.Configs.{key_in, with_device}
use Rattle.segment_world.specs.World.{World}
use Rattle.segment_world.specs.declared.lives.fault.RestartFault.{RestartFault}
use Rattle.segment_world.specs.declared.lives.fault.RestartFault.TheVariants.{NoSuchDevice, UsedIncarnation, ZeroIncarnation, OutOfMemory}
use Rattle.segment_world.specs.Lives.Plants.{Plant, life_of}

-- THE CONFIGURATION OF THE NEXT LIFE

abbrev pub with_incarnation : ℕ → Config → Config
with_incarnation byte (config.Adapter profile) = config.Adapter (record profile { incarnation = byte })
with_incarnation byte (config.Scanner profile) = config.Scanner (record profile { incarnation = byte })

-- the ids that the life behind this one states: if it states some, what it has left of them
abbrev pub ids_from : Option DeviceTable → Option IdBlock → Option IdBlock
ids_from table None = None
ids_from None (Some block) = Some block
ids_from (Some t) (Some block) = Some (next_ids t)

abbrev pub ids_of_next : Plant → ℕ → Option IdBlock → Option IdBlock
ids_of_next p life stated = ids_from (slice_get p.world.tables life) stated

-- the configuration of the next life
abbrev pub next_config : Plant → ℕ → ℕ → Config → Config
next_config p byte life config = with_ids (ids_of_next p life (stated_ids config)) (with_incarnation byte config)

-- a life, which may have ended, has this byte
abbrev pub is_used : ℕ → List Config → Bool
is_used byte configs = list_any (λ config. key_in Incarnation config == byte) configs

-- STREAMS

-- the stream has not ended, and the life is one of its ends
abbrev pub is_open_at : ℕ → Stream → Bool
is_open_at life s = not s.ended && (s.from == life || s.to == life)

-- the stream is cut, if it is open at the life
abbrev pub severed : ℕ → Stream → Stream
severed life s = if is_open_at life s then cut_stream s else s

-- the mark that the stream was cut waits for the other ends; a life that has ended takes none
abbrev pub severed_world : ℕ → World → World
severed_world life w = record w { streams = map (severed life) w.streams }

-- the acts that cut these streams, the first of which has this number
abbrev pub cuts : ℕ → ℕ → List Stream → List Act
cuts life n [] = []
cuts life n (s ∷ streams) = if is_open_at life s then CutStream n ∷ cuts life (suc n) streams else cuts life (suc n) streams

-- THE RESTART

-- The plant after the restart of a device, whose next life has this configuration. What its earlier lives sent is still on
-- its way.
abbrev pub restarted : ℕ → ℕ → Config → Plant → Plant
restarted device life config p = record {
  world = with_device config (severed_world life p.world);
  configs = p.configs ++ config ∷ [];
  current = set p.current device (length p.world.tables);
}

abbrev pub Restarted : Type 0
Restarted = Result Plant RestartFault

abbrev pub restarts_unless : Plant → ℕ → ℕ → ℕ → Config → Bool → Bool → Restarted
restarts_unless p device byte life config true none = Err UsedIncarnation
restarts_unless p device byte life config false true = Err ZeroIncarnation
restarts_unless p device byte life config false false = Ok (restarted device life (next_config p byte life config) p)

abbrev pub restarts_as : Plant → ℕ → ℕ → ℕ → Option Config → Restarted
restarts_as p device byte life None = Err NoSuchDevice
restarts_as p device byte life (Some config) = restarts_unless p device byte life config (is_none (stated_ids config) && is_used byte p.configs) (byte == 0)

abbrev pub restarts_at : Plant → ℕ → ℕ → Option ℕ → Restarted
restarts_at p device byte None = Err NoSuchDevice
restarts_at p device byte (Some life) = restarts_as p device byte life (slice_get p.configs life)

-- the plant after a restart of a device with this incarnation byte, or the first fault of the restart
abbrev pub restarts : Plant → ℕ → ℕ → Restarted
restarts p device byte = restarts_at p device byte (life_of p device)

-- A restart has this outcome and leads from old to new, where `said` is what the definition gives. `OutOfMemory` comes only
-- where no other fault does. After any fault the plant is unchanged.
abbrev pub RestartFollows : Restarted → Plant → Result Unit RestartFault → Plant → Type 0
RestartFollows said old (Ok done) new = said ≡ Ok new
RestartFollows said old (Err OutOfMemory) new = IsOk said × (new ≡ old)
RestartFollows said old (Err fault) new = (said ≡ Err fault) × (new ≡ old)
