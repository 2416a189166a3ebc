-- An adapter with two outputs of one length, and a scanner with a slot for each.
use Rattle.std.specs.Prelude.{ℕ, ◌==◌, if◌then◌else◌, List, [], ◌∷◌, ◌++◌, map}
use Rattle.adapter_table.specs.declared.profile.Action.TheVariants.{Zero}
use Rattle.adapter_table.specs.declared.profile.Profile.{Profile}
use Rattle.adapter_table.specs.declared.table.PointValue.{PointValue}
use Rattle.adapter_table.specs.Connections.{Row}
use Rattle.scanner_table.specs.declared.profile.SlotConfig.{SlotConfig}
use Rattle.cip_tables.specs.declared.table.Config.{Config}
use Rattle.cip_tables.specs.declared.table.Config.TheVariants as config
use Rattle.cip_tables.specs.declared.table.DeviceTable.{DeviceTable}
use Rattle.cip_tables.specs.declared.table.DeviceTable.TheVariants.{Adapter, Scanner}
use Rattle.segment_world.specs.declared.act.Act.{Act}
use Rattle.segment_world.specs.declared.act.Act.TheVariants.{Deliver, Local, NextFrame}
use Rattle.segment_world.specs.declared.act.Call.TheVariants as call
use Rattle.segment_world.specs.declared.transit.direction.Direction.TheVariants.{Forth, Back}
use Rattle.samples.specs.Devices.{common, output}
use Rattle.schedule_laws.specs.Chronicle.{Chronicle}
use Rattle.samples.specs.Schedules.{owner, scanner, meets, opens, runs_mode, ticks, writes}

-- the adapter's outputs are 150 and 160, of 4 bytes each
abbrev pub twofold : Profile
twofold = record common { outputs = output 150 4 Zero Zero ∷ output 160 4 Zero Zero ∷ [] }

-- the owner of the other output
abbrev pub other_owner : SlotConfig
other_owner = record owner { consumed = 160 }

-- the adapter at index 0, and at index 1 a scanner whose slots own one output each
abbrev pub both_owned : List Config
both_owned = config.Adapter twofold ∷ config.Scanner (record (scanner owner) { slots = owner ∷ other_owner ∷ [] }) ∷ []

-- both slots open, the first one writes 7 and the second one 8, and each datagram is delivered
abbrev pub both_written : List Act
both_written =
    meets 1 0 ++ opens 1 0 ++ Local 1 (call.Start 1) ∷ NextFrame 0 Forth ∷ NextFrame 0 Back ∷ runs_mode 1 ∷ writes 1 0 7 ∷ writes 1 1 8 ∷ ticks 1
    ∷ Deliver 0 0 ∷ Deliver 1 0 ∷ []

-- THE CROSSED STORY

abbrev pub other_output : ℕ → ℕ
other_output point = if point == 150 then 160 else (if point == 160 then 150 else point)

abbrev pub crossed_row : Row → Row
crossed_row row = record row { consumed = other_output row.consumed }

abbrev pub crossed_value : PointValue → PointValue
crossed_value value = record value { point = other_output value.point }

abbrev pub crossed_table : DeviceTable → DeviceTable
crossed_table (Adapter t) = Adapter (record t { rows = map crossed_row t.rows; values = map crossed_value t.values })
crossed_table (Scanner t) = Scanner t

-- the outputs of the two connections are exchanged, and what they hold
abbrev pub crossed : Chronicle → Chronicle
crossed c = record c { story = record { world = record c.story.world { tables = map crossed_table c.story.world.tables }; reported = c.story.reported } }
