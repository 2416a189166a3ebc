-- Histories: segments that follow on one another, their events in one list, and the places of these.
use Rattle.std.specs.Prelude.{ℕ, ◌≡◌, ◌<◌, ◌+◌, List, [], ◌∷◌, ◌++◌, length, map, sum, take, nat_lt, Option, Some, None, if◌then◌else◌, slice_get, slice_index_or}
use Rattle.cip_events.specs.declared.event.Event.{Event}
use Rattle.cip_tables.specs.declared.table.Config.{Config}
use Rattle.cip_tables.specs.declared.table.DeviceTable.{DeviceTable}
use Rattle.cip_tables.specs.Run.{table_after}
use Rattle.device_lock.specs.declared.segment.Segment.{Segment}

-- the configuration, the events of all segments, and how many events each segment has
pub record HistoryValue : Type 0 where
  pub config : Config
  pub events : List Event
  pub counts : List ℕ

-- the first segment opens with this table, and each further one with the table that the one before leads to
abbrev pub Follow : DeviceTable → List Segment → Type 0
Follow t [] = Unit {0}
Follow t (segment ∷ segments) = (segment.opening ≡ t) × Follow (table_after t segment.events) segments

-- the events of all segments, in order
abbrev pub events_of : List Segment → List Event
events_of [] = []
events_of (segment ∷ segments) = segment.events ++ events_of segments

-- how many events a segment has
abbrev pub count_of : Segment → ℕ
count_of segment = length segment.events

abbrev pub history_of : Config → List Segment → HistoryValue
history_of config segments = record { config = config; events = events_of segments; counts = map count_of segments }

-- Where the event stands in the list of all that has this index in this segment: behind the events of the
-- segments before. There is none where the segment has no such event, or there is no such segment.
abbrev pub place_in : List ℕ → ℕ → ℕ → Option ℕ
place_in counts segment index = if nat_lt index (slice_index_or counts segment 0) then Some (sum (take segment counts) + index) else None

-- each event of each segment stands at its place
abbrev pub EventsStandAtTheirPlaces : Type 0
EventsStandAtTheirPlaces =
    (segments : List Segment) (segment : Segment) (k i : ℕ) → slice_get segments k ≡ Some segment → i < length segment.events → (place : ℕ) × (place_in (map count_of segments) k i ≡ Some place) × (slice_get (events_of segments) place ≡ slice_get segment.events i)
