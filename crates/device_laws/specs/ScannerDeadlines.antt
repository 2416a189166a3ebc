-- Deadlines of slots: a tick leaves no deadline behind the clock.
use Rattle.std.specs.Prelude.{ℕ, ◌≡◌, ◌<◌, None, Ok}
use Rattle.cip_events.specs.declared.event.Event.TheVariants.{Tick}
use Rattle.scanner_table.specs.declared.slot.SlotState.{SlotState}
use Rattle.scanner_table.specs.declared.slot.SlotState.TheVariants.{Idle, Opening, Established, TimedOut, Closing}
use Rattle.scanner_table.specs.declared.table.ScannerTable.{ScannerTable}
use Rattle.scanner_table.specs.Profiles.{profile_fault}
use Rattle.scanner_table.specs.Slots.{IndexedSlot}
use Rattle.scanner_table.specs.Effects.{Next}
use Rattle.scanner_table.specs.Step.{scanner_step}
use Rattle.scanner_table.specs.Runs.{OfEachSlot}

-- the deadline is still to come, if the state has one
abbrev pub StateIsAhead : ℕ → SlotState → Type 0
StateIsAhead time Idle = Unit {0}
StateIsAhead time (Opening o) = time < o.deadline.0
StateIsAhead time (Established c) = time < c.deadline.0
StateIsAhead time (TimedOut link) = Unit {0}
StateIsAhead time (Closing c) = time < c.deadline.0

abbrev pub SlotIsAhead : ScannerTable → IndexedSlot → Type 0
SlotIsAhead t indexed = StateIsAhead t.clock.0 indexed.slot.state

-- no slot has a deadline that has come
abbrev pub DeadlinesAreAhead : ScannerTable → Type 0
DeadlinesAreAhead t = OfEachSlot (SlotIsAhead t) t

-- no slot has one after a tick of a scanner whose profile has no fault
abbrev pub TicksLeaveNoneLate : Type 0
TicksLeaveNoneLate =
    (t : ScannerTable) (ms : ℕ) (next : Next) → profile_fault t.profile ≡ None → scanner_step t (Tick ms) ≡ Ok next → DeadlinesAreAhead next.1
