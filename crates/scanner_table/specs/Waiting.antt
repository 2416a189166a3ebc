-- How long a slot waits for a reply.
use Rattle.std.specs.Prelude.{ℕ, ◌+◌, ◌≤◌}
use Rattle.scanner_table.specs.declared.slot.SlotState.{SlotState}
use Rattle.scanner_table.specs.declared.slot.SlotState.TheVariants.{Idle, Opening, Established, TimedOut, Closing}
use Rattle.scanner_table.specs.declared.table.ScannerTable.{ScannerTable}
use Rattle.scanner_table.specs.Slots.{IndexedSlot}
use Rattle.scanner_table.specs.Runs.{OfEachSlot}

-- the slot waits for a reply until this time at most
abbrev pub StateWaitsTo : ℕ → SlotState → Type 0
StateWaitsTo time Idle = Unit {0}
StateWaitsTo time (Opening o) = o.deadline.0 ≤ time
StateWaitsTo time (Established c) = Unit {0}
StateWaitsTo time (TimedOut link) = Unit {0}
StateWaitsTo time (Closing c) = c.deadline.0 ≤ time

abbrev pub SlotWaits : ScannerTable → IndexedSlot → Type 0
SlotWaits t indexed = StateWaitsTo (t.clock.0 + t.profile.open_timeout) indexed.slot.state

-- a slot that is opening or closing waits at most the open timeout from now on
abbrev pub SlotsWaitInTime : ScannerTable → Type 0
SlotsWaitInTime t = OfEachSlot (SlotWaits t) t
