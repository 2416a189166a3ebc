-- The next numbers of a scanner, which never fall, and its blocks of ids.
use Rattle.std.specs.Prelude.{◌≡◌, ◌≤◌, length, false, Ok}
use Rattle.cip_types.specs.Ids.{Extends}
use Rattle.cip_events.specs.declared.event.Event.{Event}
use Rattle.cip_events.specs.Arrivals.{gives_ids}
use Rattle.scanner_table.specs.declared.table.ScannerTable.{ScannerTable}
use Rattle.scanner_table.specs.Effects.{Next}
use Rattle.scanner_table.specs.Step.{scanner_step}
use Rattle.scanner_table.specs.WellFormed.{IsWellFormed}

-- the table has a slot for each of the profile's
abbrev pub IsFull : ScannerTable → Type 0
IsFull t = length t.slots ≡ length t.profile.slots

-- the profile stays, and so does the number of slots, if there is one for each of the profile's; the ids of the blocks stay, and
-- neither number falls
pub record CountsOn (old new : ScannerTable) : Type 0 where
  pub profile : new.profile ≡ old.profile
  pub slots : IsFull old → length new.slots ≡ length old.slots
  pub blocks : Extends old.ids new.ids
  pub ids : old.next_id ≤ new.next_id
  pub requests : old.next_request ≤ new.next_request

-- a step by an event that gives no block of ids leaves the blocks as they are
abbrev pub StepsLeaveIds : Type 0
StepsLeaveIds = (t : ScannerTable) (event : Event) (next : Next) → scanner_step t event ≡ Ok next → gives_ids event ≡ false → next.1.ids ≡ t.ids

-- a whole table has all its slots
abbrev pub WholeTablesAreFull : Type 0
WholeTablesAreFull = (t : ScannerTable) → IsWellFormed t → IsFull t
