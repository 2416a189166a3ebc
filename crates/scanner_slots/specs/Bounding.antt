-- Bounds on the times of a scanner's slots: no deadline, no retry that can open, and no due time comes before its bound.
use Rattle.std.specs.Prelude.{◌≡◌, ◌≤◌, ◌&&◌, ℕ, Bool, true, min, List, [], ◌∷◌, Some}
use Rattle.cip_types.specs.declared.names.Ms.{Ms}
use Rattle.scanner_table.specs.declared.slot.SlotState.{SlotState}
use Rattle.scanner_table.specs.declared.slot.SlotState.TheVariants.{Idle, Opening, Established, TimedOut, Closing}
use Rattle.scanner_table.specs.declared.table.ScannerTable.{ScannerTable}
use Rattle.scanner_table.specs.declared.table.TargetStream.{TargetStream}
use Rattle.scanner_table.specs.Slots.{IndexedSlot, indexed_slots, is_closed, needs_request, slot_at}
use Rattle.cip_tables.specs.Wakes.{has_session, can_ask}
use Rattle.scanner_slots.specs.declared.bounds.Bounds.{Bounds}

-- ONE SLOT

-- the connection does not time out, and the request is not given up, before this time
abbrev pub EndsFrom : ℕ → SlotState → Type 0
EndsFrom bound Idle = Unit {0}
EndsFrom bound (Opening o) = bound ≤ o.deadline.0
EndsFrom bound (Established c) = bound ≤ c.deadline.0
EndsFrom bound (TimedOut link) = Unit {0}
EndsFrom bound (Closing c) = bound ≤ c.deadline.0

-- the producer is not due before this time
abbrev pub IsDueFrom : ℕ → SlotState → Type 0
IsDueFrom bound Idle = Unit {0}
IsDueFrom bound (Opening o) = Unit {0}
IsDueFrom bound (Established c) = bound ≤ c.production.due.0
IsDueFrom bound (TimedOut link) = Unit {0}
IsDueFrom bound (Closing c) = Unit {0}

-- the connection is wanted and not open, and its target can be asked: the slot opens or closes it at its retry time
abbrev pub can_retry : Bool → IndexedSlot → Bool
can_retry asks indexed = needs_request indexed.slot && (is_closed indexed.slot.state && asks)

-- a session with the slot's target is registered
abbrev pub has_target : List TargetStream → IndexedSlot → Bool
has_target streams indexed = has_session streams indexed.config.target

-- no time of the slot, which can ask its target or not, comes before its bound
pub record IsBounded (bounds : Bounds) (asks : Bool) (indexed : IndexedSlot) : Type 0 where
  pub deadlines : EndsFrom bounds.deadlines.0 indexed.slot.state
  pub retries : can_retry asks indexed ≡ true → bounds.retries.0 ≤ indexed.slot.retry_at.0
  pub dues : IsDueFrom bounds.dues.0 indexed.slot.state

-- ALL SLOTS

abbrev pub AreBounded : Bounds → (IndexedSlot → Bool) → List IndexedSlot → Type 0
AreBounded bounds asks [] = Unit {0}
AreBounded bounds asks (indexed ∷ rest) = IsBounded bounds (asks indexed) indexed × AreBounded bounds asks rest

-- one time for each bound
abbrev pub all_bounds : Ms → Bounds
all_bounds time = record { deadlines = time; retries = time; dues = time }

-- no time of the slot of a number, if there is one, comes before its bound
abbrev pub IsBoundedAt : Bounds → ScannerTable → ℕ → Type 0
IsBoundedAt bounds t number = (indexed : IndexedSlot) → slot_at t number ≡ Some indexed → IsBounded bounds (has_target t.streams indexed) indexed

-- No time of a slot of the table comes before its bound. A slot that waits for its turn counts as one that can open, so that
-- a change of another slot makes no bound too late.
pub record IsHinted (bounds : Bounds) (t : ScannerTable) : Type 0 where
  pub slots : AreBounded bounds (has_target t.streams) (indexed_slots t)

-- no time of a slot that can ask its target comes before its bound
pub record IsTimed (bounds : Bounds) (t : ScannerTable) : Type 0 where
  pub slots : AreBounded bounds (can_ask t) (indexed_slots t)

-- CHANGES

-- each bound is at most the other one
pub record IsNoLater (bounds other : Bounds) : Type 0 where
  pub deadlines : bounds.deadlines.0 ≤ other.deadlines.0
  pub retries : bounds.retries.0 ≤ other.retries.0
  pub dues : bounds.dues.0 ≤ other.dues.0

-- the bounds after a connection has got this deadline
abbrev pub with_deadline : Bounds → Ms → Bounds
with_deadline bounds deadline = record bounds { deadlines = record { 0 = min bounds.deadlines.0 deadline.0 } }

-- the table with its clock at a time
abbrev pub at_time : ScannerTable → Ms → ScannerTable
at_time t clock = record t { clock = clock }
