-- Actions on slots.
use Rattle.std.specs.Prelude.{Bool, false, Option, Some, None, filter}
use Rattle.scanner_table.specs.declared.table.ScannerTable.{ScannerTable}
use Rattle.scanner_table.specs.Slots.{IndexedSlot, indexed_slots}
use Rattle.scanner_table.specs.Effects.{Effect, on_each}
use Rattle.scanner_table.specs.Opening.{opened}
use Rattle.scanner_table.specs.Closing.{given_up}
use Rattle.scanner_slots.specs.declared.search.SlotTest.{SlotTest}
use Rattle.scanner_slots.specs.Views.{passes}
use Rattle.scanner_transactions.specs.declared.running.SlotAction.{SlotAction}
use Rattle.scanner_transactions.specs.declared.running.SlotAction.TheVariants as slot_action

-- the effect of an action on a slot
abbrev pub effect_of : SlotAction → ScannerTable → IndexedSlot → Effect
effect_of slot_action.Open = opened
effect_of slot_action.GiveUp = given_up

-- there is a slot, and it passes
abbrev pub at_passes : (IndexedSlot → Bool) → Option IndexedSlot → Bool
at_passes test None = false
at_passes test (Some indexed) = test indexed

-- the action on each slot that passes the test, one after another
abbrev pub run : SlotAction → SlotTest → ScannerTable → Effect
run action test t = on_each (effect_of action) (filter (passes test) (indexed_slots t)) t
