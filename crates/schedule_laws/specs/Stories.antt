-- One device in the story of a schedule, event after event.
use Rattle.std.specs.Prelude.{ℕ, Bool, true, false, List, [], ◌∷◌}
use Rattle.cip_tables.specs.declared.table.DeviceTable.{DeviceTable}
use Rattle.cip_tables.specs.Step.{step}
use Rattle.cip_tables.specs.Run.{table_of}
use Rattle.segment_world.specs.World.{ReportedEvent}
use Rattle.segment_world.specs.Story.{is_of}

-- the table of the device after an event, which is its own or another device's
abbrev pub led_by : Bool → DeviceTable → ReportedEvent → DeviceTable
led_by true t reported = table_of t (step t reported.event)
led_by false t reported = t

-- the table of the device after all reported events, from its table at the beginning
abbrev pub led_to : DeviceTable → ℕ → List ReportedEvent → DeviceTable
led_to t device [] = t
led_to t device (reported ∷ rest) = led_to (led_by (is_of device reported) t reported) device rest
