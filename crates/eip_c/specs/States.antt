-- What C reads of a device's connections and slots, as numbers.
use Rattle.std.specs.Prelude.{◌≡◌, ℕ, Bool, if◌then◌else◌, Option, Some, None}
use Rattle.cip_productions.specs.declared.age.Age.{Age}
use Rattle.cip_productions.specs.declared.age.Age.TheVariants.{SinceOpening, SinceAccepted}
use Rattle.cip_productions.specs.declared.kind.Kind.{Kind}
use Rattle.cip_productions.specs.declared.kind.Kind.TheVariants.{ExclusiveOwner, InputOnly, ListenOnly}
use Rattle.adapter_table.specs.declared.report.ConnectionReport.{ConnectionReport}
use Rattle.adapter_table.specs.declared.row.Mode.{Mode}
use Rattle.adapter_table.specs.declared.row.Mode.TheVariants as mode
use Rattle.scanner_table.specs.declared.report.SlotReport.{SlotReport}
use Rattle.scanner_table.specs.declared.report.SlotReport.TheVariants.{Idle, Opening, Established, TimedOut, Closing}
use Rattle.eip_c.specs.declared.states.ConnectionNumbers.{ConnectionNumbers}
use Rattle.eip_c.specs.declared.states.SlotNumbers.{SlotNumbers}

-- NUMBERS

abbrev pub kind_number : Kind → ℕ
kind_number ExclusiveOwner = 1
kind_number InputOnly = 2
kind_number ListenOnly = 3

abbrev pub mode_number : Option Mode → ℕ
mode_number None = 0
mode_number (Some mode.Idle) = 1
mode_number (Some mode.Run) = 2

abbrev pub bit : Bool → ℕ
bit holds = if holds then 1 else 0

-- 1 if a datagram was accepted
abbrev pub accepted_number : Age → ℕ
accepted_number (SinceOpening ms) = 0
accepted_number (SinceAccepted ms) = 1

abbrev pub age_number : Age → ℕ
age_number (SinceOpening ms) = ms.0
age_number (SinceAccepted ms) = ms.0

-- CONNECTIONS

abbrev pub connection_numbers : ConnectionReport → ConnectionNumbers
connection_numbers report = record {
  age_ms = age_number report.age;
  peer = report.peer.0;
  kind = kind_number report.kind;
  consumed = report.consumed;
  produced = report.produced;
  o_t_api_ms = report.o_t_api_ms;
  t_o_api_ms = report.t_o_api_ms;
  mode = mode_number report.mode;
  established = bit report.established;
  accepted = accepted_number report.age;
}

-- The numbers of a connection are written. Where there is none, the status is 15, and nothing is written.
abbrev pub WritesConnection : Option ConnectionReport → ℕ → ConnectionNumbers → ConnectionNumbers → Type 0
WritesConnection None status old new = (status ≡ 15) × (new ≡ old)
WritesConnection (Some report) status old new = (status ≡ 0) × (new ≡ connection_numbers report)

-- SLOTS

-- a slot without an open connection, in the state of this number
abbrev pub unconnected : ℕ → SlotNumbers
unconnected state = record { age_ms = 0; state = state; o_t_api_ms = 0; t_o_api_ms = 0; accepted = 0 }

-- the numbers of the states are the standard's
abbrev pub slot_numbers : SlotReport → SlotNumbers
slot_numbers Idle = unconnected 0
slot_numbers Opening = unconnected 2
slot_numbers (Established report) = record {
  age_ms = age_number report.age;
  state = 3;
  o_t_api_ms = report.o_t_api_ms;
  t_o_api_ms = report.t_o_api_ms;
  accepted = accepted_number report.age;
}
slot_numbers TimedOut = unconnected 4
slot_numbers Closing = unconnected 6

-- The numbers of a slot are written. Where there is none, the status is that of NoSuchSlot, and nothing is written.
abbrev pub WritesSlot : Option SlotReport → ℕ → SlotNumbers → SlotNumbers → Type 0
WritesSlot None status old new = (status ≡ 6) × (new ≡ old)
WritesSlot (Some report) status old new = (status ≡ 0) × (new ≡ slot_numbers report)
