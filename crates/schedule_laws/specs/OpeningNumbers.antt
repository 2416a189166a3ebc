-- Which slot of a scanner has an opening number, at two moments of one run (Volume 2, chapter 2, sender context).
use Rattle.std.specs.Prelude.{ℕ, ◌≡◌, List, ◌++◌, Some}
use Rattle.cip_events.specs.declared.event.Event.{Event}
use Rattle.scanner_table.specs.declared.profile.ScannerProfile.{ScannerProfile}
use Rattle.scanner_table.specs.declared.table.ScannerTable.{ScannerTable}
use Rattle.scanner_table.specs.Slots.{IndexedSlot, slot_at}
use Rattle.scanner_table.specs.Step.{scanner_table}
use Rattle.scanner_table.specs.Runs.{table_after}
use Rattle.device_laws.specs.ProductionRuns.{opening_number}

-- The slot is the table's, and waits for the reply to the opening of this request number, or has the connection that came
-- from it.
pub record HasOpening (t : ScannerTable) (place : IndexedSlot) (number : ℕ) : Type 0 where
  pub there : slot_at t place.number ≡ Some place
  pub has : opening_number place.slot.state ≡ Some number

-- A slot that has an opening number after some events of a fresh scanner, and a slot that has it after any more events, are
-- one slot.
abbrev pub OpeningNumbersNameOneSlot : Type 0
OpeningNumbersNameOneSlot =
    (profile : ScannerProfile) (events more : List Event) (first later : IndexedSlot) (number : ℕ) →
    HasOpening (table_after (scanner_table profile) events) first number →
    HasOpening (table_after (scanner_table profile) (events ++ more)) later number →
    first.number ≡ later.number
