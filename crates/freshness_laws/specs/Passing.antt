-- The time that passes at a device, in milliseconds, read off the events of a run: the ticks that are not refused.
use Rattle.std.specs.Prelude.{ℕ, ◌+◌, List, [], ◌∷◌, Result, Ok, Err}
use Rattle.cip_events.specs.declared.event.Event.{Event}
use Rattle.cip_events.specs.declared.event.Event.TheVariants.{Tick}
use Rattle.cip_events.specs.declared.event.StepFault.{StepFault}
use Rattle.cip_tables.specs.declared.table.DeviceTable.{DeviceTable}
use Rattle.cip_tables.specs.Run.{table_of}
use Rattle.cip_tables.specs.Step.{DeviceNext, step}

-- the milliseconds of a tick
abbrev pub milliseconds : Event → ℕ
milliseconds (Tick ms) = ms
milliseconds other = 0

-- those of a tick that is not refused
abbrev pub ticked : Result DeviceNext StepFault → Event → ℕ
ticked (Ok next) event = milliseconds event
ticked (Err fault) event = 0

-- the time that passes over the events
abbrev pub passed : DeviceTable → List Event → ℕ
passed t [] = 0
passed t (event ∷ events) = ticked (step t event) event + passed (table_of t (step t event)) events
