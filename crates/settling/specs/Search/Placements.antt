-- How far the placing of events has come.
use Rattle.std.specs.Prelude.{◌≡◌, ℕ, ◌<◌, ◌+◌, ◌-◌, Bool, List, [], ◌∷◌, ◌++◌, drop, length, slice_get, slice_index, replicate, Some, Ok, MatchBool}
use Rattle.cip_events.specs.declared.event.Event.{Event}
use Rattle.cip_tables.specs.declared.table.DeviceTable.{DeviceTable}
use Rattle.segment_world.specs.declared.act.Act.{Act}
use Rattle.segment_world.specs.World.{World, ReportedEvent}
use Rattle.segment_world.specs.Story.{runs, begins, events_of}
use Rattle.settling.specs.Search.Replays.{AreAnswered, replay}
use Rattle.settling.specs.Search.Causes.{Causes}
use Rattle.settling.specs.Search.Schedules.{history, Orderly, StuckAt, outcomes_of}

-- a world, the acts that led to it, and how many events of each device are placed
pub record Placement : Type 0 where
  pub world : World
  pub acts : List Act
  pub placed : List ℕ

-- the events of a device that are still to be placed
abbrev pub rest : List (List Event) → List ℕ → ℕ → List Event
rest hs placed i = drop (slice_index placed i) (history hs i)

-- from this world on, the acts are an orderly schedule for the events that are placed, and each device answers its rest
pub record IsPlacement (start : World) (hs : List (List Event)) (b : Placement) : Type 0 where
  pub reports : List ReportedEvent
  pub runs_so : runs (begins start) b.acts ≡ Ok (record { world = b.world; reported = reports })
  pub places : (i : ℕ) → slice_index b.placed i ≡ length (events_of i reports)
  pub begun : (i : ℕ) → events_of i reports ++ rest hs b.placed i ≡ history hs i
  pub orderly : Orderly hs (begins start) b.acts
  pub steps : (i : ℕ) (t : DeviceTable) → slice_get b.world.tables i ≡ Some t → AreAnswered t (rest hs b.placed i)
  pub replays : (i : ℕ) (t u : DeviceTable) → slice_get start.tables i ≡ Some t → slice_get b.world.tables i ≡ Some u → replay t (history hs i) ≡ outcomes_of i reports ++ replay u (rest hs b.placed i)
  pub tables : length b.world.tables ≡ length hs
  pub count : length b.placed ≡ length hs

-- how many events are still to be placed
abbrev pub left_count : List (List Event) → List ℕ → ℕ
left_count [] ps = 0
left_count (h ∷ hs) [] = 0
left_count (h ∷ hs) (p ∷ ps) = (length h - p) + left_count hs ps

-- fewer events are still to be placed than before
abbrev pub FewerLeft : List (List Event) → Placement → Placement → Type 0
FewerLeft hs old new = left_count hs new.placed < left_count hs old.placed

-- fewer are if one was placed, and else nothing has changed
abbrev pub Moved : List (List Event) → Placement → Placement → Bool → Type 0
Moved hs old new moved = MatchBool moved (FewerLeft hs old new) (new ≡ old)

abbrev pub StuckHere : List (List Event) → Placement → ℕ → Type 0
StuckHere hs b i = StuckAt (rest hs b.placed) b.world i

-- some world was the beginning
abbrev pub IsReachable : List (List Event) → Placement → Type 0
IsReachable hs b = (start : World) × IsPlacement start hs b

-- whatever world was the beginning of the old placement is that of the new one
abbrev pub Preserves : List (List Event) → Placement → Placement → Type 0
Preserves hs old new = (start : World) → IsPlacement start hs old → IsPlacement start hs new

-- the act brings the device its next event
abbrev pub CausesNext : List (List Event) → Placement → ℕ → Act → Type 0
CausesNext hs b i a = (e : Event) × (es : List Event) × (rest hs b.placed i ≡ e ∷ es) × Causes b.world i e a

-- THE BEGINNING

-- there is a table for each history, and its events are answered from it on
pub record Ready (start : World) (hs : List (List Event)) : Type 0 where
  pub tables : length start.tables ≡ length hs
  pub steps : (i : ℕ) (t : DeviceTable) → slice_get start.tables i ≡ Some t → AreAnswered t (history hs i)

abbrev pub first_placement : World → List (List Event) → Placement
first_placement w hs = record { world = w; acts = []; placed = replicate (length hs) 0 }

-- WHAT IS LEFT IN THE END

abbrev pub IsPlaced : List (List Event) → Placement → ℕ → Type 0
IsPlaced hs b i = rest hs b.placed i ≡ []

-- this device has events to come, and so many are placed
abbrev pub IsOver : List (List Event) → Placement → ℕ → ℕ → Type 0
IsOver hs b i k = ((e : Event) × (es : List Event) × (rest hs b.placed i ≡ e ∷ es)) × (slice_index b.placed i ≡ k)
