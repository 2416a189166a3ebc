-- The table of the slots of a scanner.
use Rattle.scanner_table.specs.declared.table.ScannerTable.{ScannerTable}
use Rattle.scanner_slots.specs.Views.{table_of}
use Rattle.scanner.specs.declared.slots.ScannerSlots.{ScannerSlots}

-- the slots and their profile, as a table
abbrev pub table_in : ScannerSlots → ScannerTable
table_in slots = table_of slots.profile slots.state
