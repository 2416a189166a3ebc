-- The types of this crate as values of the definitions.
use Rattle.std.specs.Prelude.{ℕ, ◌&&◌, Bool}
use Rattle.scanner_table.specs.declared.profile.ScannerProfile.{ScannerProfile}
use Rattle.scanner_table.specs.declared.table.ScannerTable.{ScannerTable}
use Rattle.scanner_table.specs.Slots.{IndexedSlot, is_with}
use Rattle.scanner_table.specs.Opening.{is_ready_slot}
use Rattle.scanner_table.specs.Datagrams.{is_for}
use Rattle.scanner_table.specs.Ticks.{has_expired, is_overdue}
use Rattle.scanner_table.specs.Productions.{is_due}
use Rattle.scanner_slots.specs.declared.indexed_slots.SlotView.{SlotView}
use Rattle.scanner_slots.specs.declared.search.SlotTest.{SlotTest}
use Rattle.scanner_slots.specs.declared.search.SlotTest.TheVariants.{For, Ready, ReadyWith, With, Expired, Overdue, Due}
use Rattle.scanner_slots.specs.declared.scanner.ScannerState.{ScannerState}

-- an indexed slot, wherever its parts are in memory
abbrev pub view_slot : SlotView → IndexedSlot
view_slot view = record { number = view.number; config = view.config.now; slot = view.slot.now }

abbrev pub slot_number : IndexedSlot → ℕ
slot_number indexed = indexed.number

-- the table of a scanner with this profile
abbrev pub table_of : ScannerProfile → ScannerState → ScannerTable
table_of profile scanner = record {
  profile = profile;
  slots = scanner.slots.items;
  run = scanner.run;
  clock = scanner.clock;
  ids = scanner.ids.items;
  next_id = scanner.next_id;
  next_serial = scanner.next_serial;
  next_request = scanner.next_request;
  streams = scanner.streams.items;
  explicit = scanner.explicit.items;
}

-- the slot passes the test
abbrev pub passes : SlotTest → IndexedSlot → Bool
passes (For peer id) = is_for peer id.0
passes (Ready clock) = is_ready_slot clock
passes (ReadyWith target clock) = λ indexed. is_ready_slot clock indexed && is_with target indexed
passes (With target) = is_with target
passes (Expired clock) = has_expired clock
passes (Overdue clock) = is_overdue clock
passes (Due clock) = is_due clock
