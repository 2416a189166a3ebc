-- Schedules of acts, and the events that each device performs in them.
use Rattle.std.specs.Prelude.{◌≡◌, ℕ, ◌==◌, Bool, List, [], ◌∷◌, ◌++◌, map, filter, slice_get, Option, Some, None, Result, Ok, Err}
use Rattle.cip_events.specs.declared.event.Event.{Event}
use Rattle.cip_tables.specs.declared.table.DeviceTable.{DeviceTable}
use Rattle.cip_tables.specs.Run.{table_after}
use Rattle.segment_world.specs.declared.act.Act.{Act}
use Rattle.segment_world.specs.declared.act.ActFault.{ActFault}
use Rattle.segment_world.specs.World.{World, ReportedEvent, Happened, happens}

-- a world, and the events that led to it, in order and with their answers
pub record Story : Type 0 where
  pub world : World
  pub reported : List ReportedEvent

abbrev pub reported_more : List ReportedEvent → Option ReportedEvent → List ReportedEvent
reported_more reported None = reported
reported_more reported (Some event) = reported ++ event ∷ []

-- the story after one more act
abbrev pub goes_on : List ReportedEvent → Happened → Result Story ActFault
goes_on reported (Err fault) = Err fault
goes_on reported (Ok done) = Ok (record { world = done.1; reported = reported_more reported done.0 })

abbrev pub reports : Result Story ActFault → Act → Result Story ActFault
reports (Err fault) act = Err fault
reports (Ok story) act = goes_on story.reported (happens story.world act)

-- the story of a schedule, or the fault of its first act that has one
unfoldable pub runs : Result Story ActFault → List Act → Result Story ActFault
runs story [] = story
runs story (act ∷ acts) = runs (reports story act) acts

abbrev pub begins : World → Result Story ActFault
begins w = Ok (record { world = w; reported = [] })

-- THE EVENTS OF ONE DEVICE

abbrev pub is_of : ℕ → ReportedEvent → Bool
is_of device reported = reported.device == device

abbrev pub event_reported : ReportedEvent → Event
event_reported reported = reported.event

abbrev pub events_of : ℕ → List ReportedEvent → List Event
events_of device reported = map event_reported (filter (is_of device) reported)

-- each device's table is the one to which its own events lead
abbrev pub ProjectionsAreRuns : Type 0
ProjectionsAreRuns =
    (start : World) (acts : List Act) (story : Story) (device : ℕ) (t : DeviceTable) →
    runs (begins start) acts ≡ Ok story → slice_get start.tables device ≡ Some t →
    slice_get story.world.tables device ≡ Some (table_after t (events_of device story.reported))
