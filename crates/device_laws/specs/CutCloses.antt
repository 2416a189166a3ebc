-- A tidy scanner does not forget a Forward_Close whose stream is cut before its reply: whether the target has read it is not known
-- (Volume 1, chapter 3, Forward_Close service).
use Rattle.std.specs.Prelude.{ℕ, ◌≡◌, ◌<◌, true, find, Some, Ok}
use Rattle.cip_events.specs.declared.event.Event.TheVariants.{StreamCut}
use Rattle.scanner_table.specs.declared.slot.PendingClose.{PendingClose}
use Rattle.scanner_table.specs.declared.slot.SlotState.TheVariants.{TimedOut, Closing}
use Rattle.scanner_table.specs.declared.table.ScannerTable.{ScannerTable}
use Rattle.scanner_table.specs.declared.table.TargetStream.{TargetStream}
use Rattle.scanner_table.specs.Effects.{Next}
use Rattle.scanner_table.specs.Sessions.{is_stream}
use Rattle.scanner_table.specs.Slots.{IndexedSlot, slot_at, is_with}
use Rattle.scanner_table.specs.Step.{scanner_step}

-- the slot closes its connection over the stream of this number, and the time for the reply is not over
pub record ClosesOver (t : ScannerTable) (number : ℕ) (place : IndexedSlot) (close : PendingClose) : Type 0 where
  pub at : slot_at t place.number ≡ Some place
  pub closes : place.slot.state ≡ Closing close
  pub early : t.clock.0 < close.deadline.0
  pub stream : TargetStream
  pub found : find (is_stream number) t.streams ≡ Some stream
  pub goes : is_with stream.peer place ≡ true

-- after a cut of the stream such a slot of a tidy scanner has timed out with the connection
abbrev pub CutClosesAreKept : Type 0
CutClosesAreKept =
    (t : ScannerTable) (number : ℕ) (next : Next) → t.profile.tidy ≡ true → scanner_step t (StreamCut number) ≡ Ok next →
    (place : IndexedSlot) (close : PendingClose) → ClosesOver t number place close →
    (now : IndexedSlot) → slot_at next.1 place.number ≡ Some now → now.slot.state ≡ TimedOut close.link
