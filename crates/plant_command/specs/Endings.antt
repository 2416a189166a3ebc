-- When a plant and the lives of its devices are over, and which devices a phase of its end ends. Times are in milliseconds since the plant began.
use Rattle.std.specs.Prelude.{ℕ, nat_le, min, ◌==◌, ◌&&◌, ◌||◌, if◌then◌else◌, is_some, Bool, true, false, Option, Some, None, Result, Ok, Err}
use Rattle.cip_types.specs.declared.ids.IdBlock.{IdBlock}
use Rattle.cip_types.specs.Ids.{ids_behind, is_block}
use Rattle.plant_command.specs.declared.endings.LifeNames.{LifeNames}
use Rattle.plant_rim.specs.Incarnations.{next_of}
use Rattle.plant_rim.specs.declared.failure.DeviceFailure.{DeviceFailure}
use Rattle.plant_rim.specs.declared.failure.DeviceFailure.TheVariants.{RecordEnd}
use Rattle.plant_rim.specs.declared.incarnations.IncarnationSpan.{IncarnationSpan}
use Rattle.station.specs.declared.step.LifeEnd.{LifeEnd}
use Rattle.station.specs.declared.step.LifeEnd.TheVariants.{Restart}
use Rattle.station_record.specs.declared.fault.RecordFault.{RecordFault}
use Rattle.plant_rim.specs.declared.phases.PlantPhase.{PlantPhase}
use Rattle.plant_rim.specs.declared.phases.PlantPhase.TheVariants.{EndingScanners, EndingAll}

-- the time of a plant is over
abbrev pub is_late : Option ℕ → ℕ → Bool
is_late (Some end) passed = nat_le end passed
is_late None passed = false

-- a phase ends its scanners, and the next one all devices
abbrev pub ends : PlantPhase → Bool → Bool
ends EndingScanners scanner = scanner
ends EndingAll scanner = true
ends other scanner = false

-- the seconds of the options, or else those of the file
abbrev pub seconds_of : (option file : Option ℕ) → Option ℕ
seconds_of (Some seconds) file = Some seconds
seconds_of None file = file

-- a plant is to end: its time is over, its input has ended, or a device could not begin
abbrev pub is_over : (late ended stillborn : Bool) → Bool
is_over late ended stillborn = late || (ended || stillborn)

-- a device has failed before one of its lives began
abbrev pub is_stillborn : Option DeviceFailure → (lives : ℕ) → Bool
is_stillborn failure lives = is_some failure && lives == 0

-- a life whose record has ended has failed
abbrev pub life_end : LifeEnd → Option RecordFault → Result LifeEnd DeviceFailure
life_end end None = Ok end
life_end end (Some fault) = Err RecordEnd

-- a life whose ids no earlier life had
abbrev pub new_names : ℕ → IdBlock → LifeNames
new_names incarnation ids = record { incarnation = incarnation; ids = ids; left = ids.count }

-- the ids behind those of which so many were not given; numbers that are no block stay
abbrev pub unused_of : IdBlock → ℕ → IdBlock
unused_of ids left = if is_block ids then ids_behind ids left else ids

-- A life follows a restart, and nothing else. It has the ids that no life before it has given, unless it is to have the same ones.
abbrev pub next_names : IncarnationSpan → LifeNames → LifeEnd → ℕ → Option LifeNames
next_names span names (Restart true) left = Some (record names { left = min left names.left })
next_names span names (Restart false) left = Some (new_names (next_of span names.incarnation) (unused_of names.ids (min left names.left)))
next_names span names other left = None
