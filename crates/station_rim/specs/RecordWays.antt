-- The entries of a record between a station and the thread that writes its files: which are taken, and in which order.
use Rattle.std.specs.Prelude.{ℕ, ◌≡◌, ◌&&◌, ◌||◌, not, Bool, true, false, List, [], ◌∷◌, Option, Some, None, Result, Ok, Err}
use Rattle.station_rim.specs.Queue.Queues.{Queue, empty_queue, has_room, is_empty, with_pushed, without}
use Rattle.station_rim.specs.declared.queue.lines_in_turn.PushFault.{PushFault}
use Rattle.station_rim.specs.declared.queue.lines_in_turn.PushFault.TheVariants as push
use Rattle.station_rim.specs.declared.record_way.PutFault.{PutFault}
use Rattle.station_rim.specs.declared.record_way.PutFault.TheVariants as put

-- the entries on their way; whether the writer has some in its hands, one could not be written, and none is put in any more
pub record RecordWay : Type 0 where
  pub queue : Queue
  pub busy : Bool
  pub failed : Bool
  pub ended : Bool

abbrev pub new_way : ℕ → ℕ → RecordWay
new_way most_bytes most_entries = record { queue = empty_queue most_bytes most_entries; busy = false; failed = false; ended = false }

abbrev pub put_fault : PushFault → PutFault
put_fault push.Full = put.Full
put_fault push.OutOfMemory = put.OutOfMemory

-- an entry is behind the others
abbrev pub with_entry : RecordWay → List ℕ → RecordWay
with_entry way entry = record way { queue = with_pushed way.queue entry }

-- What became of an entry that was put in: it is taken whole, behind the others, or nothing changes. It is refused because an
-- earlier one could not be written, or else because it does not fit.
abbrev pub WasPut : RecordWay → List ℕ → Result Unit PutFault → RecordWay → Type 0
WasPut old entry (Ok done) new = (old.failed ≡ false) × ((has_room old.queue entry ≡ true) × (new ≡ with_entry old entry))
WasPut old entry (Err put.Failed) new = (old.failed ≡ true) × (new ≡ old)
WasPut old entry (Err put.Full) new = (old.failed ≡ false) × ((has_room old.queue entry ≡ false) × (new ≡ old))
WasPut old entry (Err put.OutOfMemory) new = (old.failed ≡ false) × (new ≡ old)

-- the writer waits: nothing is on its way, and more may come
abbrev pub is_waiting : RecordWay → Bool
is_waiting way = is_empty way.queue && not way.ended

-- the oldest entry, and whether it is the last one for now
abbrev pub taken_of : Queue → List (List ℕ) → Option (List ℕ × Bool)
taken_of queue [] = None
taken_of queue (entry ∷ entries) = Some (entry, is_empty (without queue (entry ∷ entries)))

abbrev pub taken_entry : RecordWay → Option (List ℕ × Bool)
taken_entry way = taken_of way.queue way.queue.pieces

abbrev pub after_of : RecordWay → List (List ℕ) → RecordWay
after_of way [] = way
after_of way (entry ∷ entries) = record way { queue = without way.queue (entry ∷ entries); busy = true }

abbrev pub way_after_take : RecordWay → RecordWay
way_after_take way = after_of way way.queue.pieces

-- what the writer took is written or discarded, and whether that failed
abbrev pub with_note : RecordWay → Bool → RecordWay
with_note way failed = record way { busy = false; failed = way.failed || failed }

abbrev pub with_end : RecordWay → RecordWay
with_end way = record way { ended = true }

-- each entry was written or discarded
abbrev pub is_drained : RecordWay → Bool
is_drained way = is_empty way.queue && not way.busy
