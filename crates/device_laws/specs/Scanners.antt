-- Properties of every scanner's table that a run reaches, and of its slots.
use Rattle.std.specs.Prelude.{ℕ, ◌≡◌, ◌<◌, not, Bool, true, false, List, [], ◌∷◌, length, None}
use Rattle.cip_events.specs.declared.event.Event.{Event}
use Rattle.cip_events.specs.Outcomes.{Outcome}
use Rattle.scanner_table.specs.declared.slot.SlotState.{SlotState}
use Rattle.scanner_table.specs.declared.slot.SlotState.TheVariants.{Idle, Opening, Established, TimedOut, Closing}
use Rattle.scanner_table.specs.declared.table.ScannerTable.{ScannerTable}
use Rattle.scanner_table.specs.Slots.{IndexedSlot}
use Rattle.cip_tables.specs.declared.table.Config.{Config}
use Rattle.cip_tables.specs.declared.table.DeviceTable.{DeviceTable}
use Rattle.cip_tables.specs.declared.table.DeviceTable.TheVariants.{Scanner}
use Rattle.cip_tables.specs.Step.{opening_table, config_fault}
use Rattle.cip_tables.specs.Run.{Runs}
use Rattle.cip_tables.specs.Whole.{IsWholeDevice}

-- The property holds of every scanner's table that a run from a whole table reaches, and of every one that a run from a fresh
-- device reaches whose profile has no fault.
pub record OverEveryScanner (Holds : ScannerTable → Type 0) : Type 0 where
  pub whole :
      (old : DeviceTable) (events : List Event) (outcomes : List Outcome) (t : ScannerTable) →
      IsWholeDevice old → Runs old events outcomes (Scanner t) → Holds t
  pub fresh :
      (made : Config) (events : List Event) (outcomes : List Outcome) (t : ScannerTable) →
      config_fault made ≡ None → Runs (opening_table made) events outcomes (Scanner t) → Holds t

-- the property holds of each slot
abbrev pub EachSlot : (IndexedSlot → Type 0) → List IndexedSlot → Type 0
EachSlot P [] = Unit {0}
EachSlot P (indexed ∷ indexed_slots) = P indexed × EachSlot P indexed_slots

-- output and image have the lengths that the configuration says
abbrev pub HasLengths : IndexedSlot → Type 0
HasLengths indexed = (length indexed.slot.output ≡ indexed.config.out_len) × (length indexed.slot.image ≡ indexed.config.in_len)

-- the slot is opening or established, or, at a scanner that is not tidy, timed out
abbrev pub is_kept_up : Bool → SlotState → Bool
is_kept_up tidy Idle = false
is_kept_up tidy (Opening o) = true
is_kept_up tidy (Established c) = true
is_kept_up tidy (TimedOut link) = not tidy
is_kept_up tidy (Closing c) = false

-- only a slot whose connection is desired is so
abbrev pub IsOpenAsDesired : Bool → IndexedSlot → Type 0
IsOpenAsDesired tidy indexed = is_kept_up tidy indexed.slot.state ≡ true → indexed.slot.desired_up ≡ true

abbrev pub is_closing : SlotState → Bool
is_closing Idle = false
is_closing (Opening o) = false
is_closing (Established c) = false
is_closing (TimedOut link) = false
is_closing (Closing c) = true

-- only a slot whose connection is not desired is closing, at a scanner that is not tidy
abbrev pub ClosesAsDesired : Bool → IndexedSlot → Type 0
ClosesAsDesired tidy indexed = tidy ≡ false → is_closing indexed.slot.state ≡ true → indexed.slot.desired_up ≡ false

-- the number of a pending request, and that of the request that opened an established connection, are below this number
abbrev pub IsNumberedBelow : ℕ → SlotState → Type 0
IsNumberedBelow next Idle = Unit {0}
IsNumberedBelow next (Opening o) = o.request < next
IsNumberedBelow next (Established c) = c.opening < next
IsNumberedBelow next (TimedOut link) = Unit {0}
IsNumberedBelow next (Closing c) = c.request < next
