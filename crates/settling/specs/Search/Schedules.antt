-- Schedules for the events of several devices, and when an orderly one cannot continue.
use Rattle.std.specs.Prelude.{◌≡◌, ℕ, ◌<◌, ◌==◌, ◌&&◌, not, Bool, true, false, List, [], ◌∷◌, ◌++◌, drop, length, map, filter, slice_get, slice_index, slice_index_or, Option, Some, None, Result, Ok, IfOk}
use Rattle.std.specs.List.{list_any}
use Rattle.cip_events.specs.declared.event.Event.{Event}
use Rattle.cip_events.specs.declared.event.Event.TheVariants.{StreamOpened, Frame, StreamCut}
use Rattle.cip_events.specs.Outcomes.{Outcome}
use Rattle.cip_tables.specs.declared.table.DeviceTable.{DeviceTable}
use Rattle.segment_world.specs.declared.transit.direction.Direction.{Direction}
use Rattle.segment_world.specs.Transit.Streams.{Stream}
use Rattle.segment_world.specs.declared.act.Act.{Act}
use Rattle.segment_world.specs.declared.act.Act.TheVariants.{Local, Deliver, NextFrame, OpenStream, CutStream}
use Rattle.segment_world.specs.declared.act.ActFault.{ActFault}
use Rattle.segment_world.specs.World.{World, ReportedEvent, happens}
use Rattle.segment_world.specs.Story.{Story, reports, runs, begins, is_of, events_of}
use Rattle.settling.specs.Search.Replays.{replay}
use Rattle.settling.specs.Search.Causes.{CanCome, CutReaches}

-- EVENTS OF EACH DEVICE

-- the events of a device, of which these are the lists of all devices
abbrev pub history : List (List Event) → ℕ → List Event
history hs i = slice_index_or hs i []

-- the events of a device that did not happen yet
abbrev pub remaining : List (List Event) → List ReportedEvent → ℕ → List Event
remaining hs reported i = drop (length (events_of i reported)) (history hs i)

-- each device's events so far are the first ones of its history
abbrev pub Begins : List (List Event) → Story → Type 0
Begins hs s = (i : ℕ) → events_of i s.reported ++ remaining hs s.reported i ≡ history hs i

-- each device's events are its history
abbrev pub Projects : List (List Event) → Story → Type 0
Projects hs s = (i : ℕ) → events_of i s.reported ≡ history hs i

-- the events of one device with its answers
abbrev pub outcome_in : ReportedEvent → Event × Outcome
outcome_in t = (t.event, Ok t.answer)

abbrev pub outcomes_of : ℕ → List ReportedEvent → List (Event × Outcome)
outcomes_of i reported = map outcome_in (filter (is_of i) reported)

-- ORDERLY SCHEDULES

-- the event is the mark that the stream opens, or a frame over it
abbrev pub uses : ℕ → Event → Bool
uses n (StreamOpened stream peer) = stream == n
uses n (Frame stream bytes) = stream == n
uses n other = false

-- neither end of the stream has such an event to come
abbrev pub is_unused : ℕ → (ℕ → List Event) → Option Stream → Bool
is_unused n rest None = false
is_unused n rest (Some s) = not (list_any (uses n) (rest s.from)) && not (list_any (uses n) (rest s.to))

-- An orderly schedule, once its streams are open, opens no more, and cuts a stream only where neither end has an event
-- to come that uses it.
abbrev pub IsPermitted : (ℕ → List Event) → World → Act → Type 0
IsPermitted rest w (Local device call) = Unit {0}
IsPermitted rest w (Deliver index device) = Unit {0}
IsPermitted rest w (NextFrame stream direction) = Unit {0}
IsPermitted rest w (OpenStream from to) = ⊥
IsPermitted rest w (CutStream stream) = is_unused stream rest (slice_get w.streams stream) ≡ true

abbrev pub IsPermittedNext : List (List Event) → Act → Story → Type 0
IsPermittedNext hs a s = IsPermitted (remaining hs s.reported) s.world a

abbrev pub Orderly : List (List Event) → Result Story ActFault → List Act → Type 0
Orderly hs r [] = Unit {0}
Orderly hs r (a ∷ acts) = IfOk r (IsPermittedNext hs a) × Orderly hs (reports r a) acts

-- WHERE NO ACT HELPS

-- the act is this event of this device
pub record GivesEvent (w : World) (a : Act) (i : ℕ) (e : Event) : Type 0 where
  pub report : ReportedEvent
  pub after : World
  pub is : happens w a ≡ Ok (Some report, after)
  pub device : report.device ≡ i
  pub event : report.event ≡ e

-- no act gives the device the event, alone or after one cut that an orderly schedule may make
pub record NoWay (rest : ℕ → List Event) (w : World) (i : ℕ) (e : Event) : Type 0 where
  pub alone : (a : Act) → GivesEvent w a i e → ⊥
  pub cut : (n : ℕ) (v : World) → IsPermitted rest w (CutStream n) → happens w (CutStream n) ≡ Ok (None, v) → (a : Act) → GivesEvent v a i e → ⊥

-- the event is no cut that a permitted act would bring to the device
abbrev pub NoCutReaches : (ℕ → List Event) → World → ℕ → Event → Type 0
NoCutReaches rest w i e = (n : ℕ) → e ≡ StreamCut n → IsPermitted rest w (CutStream n) → (d : Direction) → CutReaches w n i d → ⊥

abbrev pub WaysAreAll : Type 0
WaysAreAll = (rest : ℕ → List Event) (w : World) (i : ℕ) (e : Event) → (CanCome w i e → ⊥) → NoCutReaches rest w i e → NoWay rest w i e

-- the next event of the device, if it has one, cannot happen
abbrev pub StuckAt : (ℕ → List Event) → World → ℕ → Type 0
StuckAt rest w i = (e : Event) (es : List Event) → rest i ≡ e ∷ es → NoWay rest w i e

abbrev pub Stuck : List (List Event) → Story → Type 0
Stuck hs s = (i : ℕ) → StuckAt (remaining hs s.reported) s.world i

-- HOW A SCHEDULE ENDS

-- no act of the schedule faults, and its events are the histories
pub record Settles (start : World) (hs : List (List Event)) (acts : List Act) : Type 0 where
  pub story : Story
  pub runs_so : runs (begins start) acts ≡ Ok story
  pub projects : Projects hs story
  pub answers : (i : ℕ) (t : DeviceTable) → slice_get start.tables i ≡ Some t → outcomes_of i story.reported ≡ replay t (history hs i)

-- An orderly schedule after which no device's next event can happen. The k-th event of this device is still to come, and
-- each device with a lower byte has none to come.
pub record IsStuck (start : World) (hs : List (List Event)) (bytes : List ℕ) (device k : ℕ) : Type 0 where
  pub acts : List Act
  pub story : Story
  pub runs_so : runs (begins start) acts ≡ Ok story
  pub starts : Begins hs story
  pub orderly : Orderly hs (begins start) acts
  pub stuck : Stuck hs story
  pub place : length (events_of device story.reported) ≡ k
  pub over : (e : Event) × (es : List Event) × (remaining hs story.reported device ≡ e ∷ es)
  pub lowest : (i : ℕ) → i < length hs → slice_index bytes i < slice_index bytes device → remaining hs story.reported i ≡ []
