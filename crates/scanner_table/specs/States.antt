-- What a scanner says of its slots: the state of each connection, and of an open one its packet intervals and the age
-- of its data (Volume 1, chapter 3, connection object instance attributes).
use Rattle.std.specs.Prelude.{ℕ, Bool, true, false, Option}
use Rattle.std.specs.Option.{option_map}
use Rattle.cip_types.specs.declared.names.Ms.{Ms}
use Rattle.cip_productions.specs.Ages.{age_of}
use Rattle.scanner_table.specs.declared.report.SlotReport.{SlotReport}
use Rattle.scanner_table.specs.declared.report.SlotReport.TheVariants as report
use Rattle.scanner_table.specs.declared.report.TargetReport.{TargetReport}
use Rattle.scanner_table.specs.declared.slot.Slot.{Slot}
use Rattle.scanner_table.specs.declared.slot.SlotConnection.{SlotConnection}
use Rattle.scanner_table.specs.declared.slot.SlotState.{SlotState}
use Rattle.scanner_table.specs.declared.slot.SlotState.TheVariants.{Idle, Opening, Established, TimedOut, Closing}
use Rattle.scanner_table.specs.declared.table.ScannerTable.{ScannerTable}
use Rattle.scanner_table.specs.declared.table.Stage.{Stage}
use Rattle.scanner_table.specs.declared.table.Stage.TheVariants.{Waiting, Up, Unused}
use Rattle.scanner_table.specs.declared.table.TargetStream.{TargetStream}
use Rattle.scanner_table.specs.Slots.{IndexedSlot, slot_at}

-- SLOTS

-- what is known of an open connection at a time
abbrev pub target_report : Ms → SlotConnection → TargetReport
target_report clock c = record {
  triad = c.link.triad;
  o_t_id = c.link.o_t_id;
  t_o_id = c.link.t_o_id;
  o_t_api_ms = c.o_t_api_ms;
  t_o_api_ms = c.t_o_api_ms;
  age = age_of clock c.last c.watchdog c.deadline;
}

abbrev pub state_report : Ms → SlotState → SlotReport
state_report clock Idle = report.Idle
state_report clock (Opening o) = report.Opening
state_report clock (Established c) = report.Established (target_report clock c)
state_report clock (TimedOut link) = report.TimedOut
state_report clock (Closing c) = report.Closing

abbrev pub indexed_report : Ms → IndexedSlot → SlotReport
indexed_report clock indexed = state_report clock indexed.slot.state

-- the state of the slot of this number, if the scanner has one
abbrev pub report_at : ScannerTable → ℕ → Option SlotReport
report_at t number = option_map (indexed_report t.clock) (slot_at t number)

-- TOTALS

-- the slot's connection is open
abbrev pub state_is_open : SlotState → Bool
state_is_open Idle = false
state_is_open (Opening o) = false
state_is_open (Established c) = true
state_is_open (TimedOut link) = false
state_is_open (Closing c) = false

abbrev pub is_open : Slot → Bool
is_open slot = state_is_open slot.state

-- a session is registered on the stream
abbrev pub stage_is_up : Stage → Bool
stage_is_up Waiting = false
stage_is_up (Up handle) = true
stage_is_up Unused = false

abbrev pub is_up : TargetStream → Bool
is_up stream = stage_is_up stream.stage
