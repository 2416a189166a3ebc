-- What a call leaves at the device behind a handle, and in the memory of its caller.
use Rattle.std.specs.Prelude.{◌≡◌, ℕ, List, length, Option, Some, None, option_map, Result, Ok, Err}
use Rattle.cip_events.specs.declared.event.Answer.{Answer}
use Rattle.cip_events.specs.declared.event.Event.{Event}
use Rattle.cip_events.specs.declared.event.StepFault.{StepFault}
use Rattle.cip_events.specs.declared.event.StepFault.TheVariants.{OutOfMemory}
use Rattle.cip_events.specs.Answers.{value_answer}
use Rattle.cip_events.specs.Faults.{fault_number}
use Rattle.cip_events.specs.Outcomes.{Outcome}
use Rattle.cip_events.specs.declared.profile_fault.ProfileFault.{ProfileFault}
use Rattle.cip_types.specs.declared.names.Node.{Node}
use Rattle.adapter_table.specs.declared.table.AdapterTable.{AdapterTable}
use Rattle.scanner_table.specs.declared.table.ScannerTable.{ScannerTable}
use Rattle.cip_tables.specs.declared.table.DeviceTable.{DeviceTable}
use Rattle.cip_tables.specs.declared.table.DeviceTable.TheVariants as kind
use Rattle.cip_tables.specs.declared.any_device.AnyDevice.{AnyDevice}
use Rattle.cip_tables.specs.AnyDevices.{table_by}
use Rattle.cip_tables.specs.Step.{step, opening_table, config_fault}
use Rattle.trace_text.specs.declared.trace.Trace.{Trace}
use Rattle.trace_text.specs.declared.trace.TraceFault.{TraceFault}
use Rattle.trace_text.specs.declared.trace.TraceFault.TheVariants as trace
use Rattle.flat_answers.specs.Flat.{answer_bytes}
use Rattle.eip_c.specs.declared.answered_device.AnsweredDevice.{AnsweredDevice}
use Rattle.eip_c.specs.declared.status.CallStatus.{CallStatus}
use Rattle.eip_c.specs.declared.status.CallStatus.TheVariants.{Done, Fault, NoRoom, NoAnswer, BadLine, BadProfile}
use Rattle.eip_c.specs.Memory.{Memory, Writes, LacksRoom}
use Rattle.eip_c.specs.Statuses.{status_of}

-- DEVICES

-- the table of the device behind a handle
abbrev pub table_of : AnyDevice AdapterTable ScannerTable → DeviceTable
table_of device = table_by kind.Adapter kind.Scanner device

-- the table, and the answer that is kept
abbrev pub State : Type 0
State = DeviceTable × Option Answer

abbrev pub state : AnsweredDevice → State
state answered = (table_of answered.device, answered.answer)

-- The answer that is kept is written, or counted alone where the room is too small for it. Nothing is written where no
-- answer is kept.
abbrev pub Reports : Option Answer → CallStatus → Memory → Memory → Type 0
Reports None NoAnswer old new = new ≡ old
Reports None status old new = ⊥
Reports (Some answer) NoRoom old new = LacksRoom (length (answer_bytes answer)) old new
Reports (Some answer) status old new = Writes (answer_bytes answer) status old new

-- EVENTS

-- The answer of a step is kept with the next table. After a fault the device is unchanged, and so is the answer that is
-- kept.
abbrev pub Keeps : Result (Answer × DeviceTable) StepFault → State → Result (Unit {0}) StepFault → State → Type 0
Keeps said old (Ok done) new = Some said ≡ option_map (λ answer. Ok (answer, new.0)) new.1
Keeps said old (Err OutOfMemory) new = new ≡ old
Keeps said old (Err fault) new = (said ≡ Err fault) × (new ≡ old)

-- An answer is kept in the place of another; a fault leaves that as it is.
abbrev pub Kept : Outcome → Option Answer → Result (Unit {0}) StepFault → Option Answer → Type 0
Kept (Ok answer) old (Ok done) new = new ≡ Some answer
Kept (Ok answer) old (Err fault) new = ⊥
Kept (Err fault) old (Ok done) new = ⊥
Kept (Err fault) old (Err other) new = (other ≡ fault) × (new ≡ old)

-- An event happens, and its answer is kept and written; or it is refused, and nothing changes. Out of memory can come
-- at every event.
abbrev pub Performs : Result (Answer × DeviceTable) StepFault → State → CallStatus → State → Memory → Memory → Type 0
Performs said old (Fault fault) new memory after = Keeps said old (Err fault) new × (after ≡ memory)
Performs said old status new memory after = Keeps said old (Ok tt) new × Reports new.1 status memory after

-- an event at the device behind a handle, by the number that is answered
abbrev pub Answers : Event → AnsweredDevice → ℕ → AnsweredDevice → Memory → Memory → Type 0
Answers event old number new memory after = Performs (step (table_of old.device) event) (state old) (status_of number) (state new) memory after

abbrev pub node : ℕ → Node
node address = record { 0 = address }

-- The value of a point is written as it is, without items.
abbrev pub Reads : DeviceTable → ℕ → CallStatus → Memory → Memory → Type 0
Reads table point (Fault fault) old new = (step table (Event.Read point) ≡ Err fault) × (new ≡ old)
Reads table point status old new = (bytes : List ℕ) × (step table (Event.Read point) ≡ Ok (value_answer bytes, table)) × Writes bytes status old new

-- PROFILES

-- Why no device opens from a profile: the number is that of its first fault.
abbrev pub Refuses : Option ProfileFault → CallStatus → ℕ → Type 0
Refuses wrong (Fault OutOfMemory) number = Unit {0}
Refuses (Some first) BadProfile number = number ≡ fault_number first
Refuses wrong status number = ⊥

-- Whether a device opens from a text, and why not. The number is that of the bad line, or of the fault of the profile.
abbrev pub Opens : Result Trace TraceFault → CallStatus → ℕ → Type 0
Opens (Ok trace) Done number = Unit {0}
Opens (Ok trace) (Fault OutOfMemory) number = Unit {0}
Opens (Ok trace) status number = Refuses (config_fault trace.config) status number
Opens (Err (trace.BadLine line)) BadLine number = number ≡ line
Opens (Err (trace.BadProfile fault)) BadProfile number = number ≡ fault
Opens said (Fault OutOfMemory) number = Unit {0}
Opens said status number = ⊥

-- the state of a device that opens from a text
abbrev pub IsOpened : Result Trace TraceFault → State → Type 0
IsOpened (Ok trace) opened = opened ≡ (opening_table trace.config, None)
IsOpened (Err fault) opened = ⊥

-- A device is there, in the state of one that opens from a text.
abbrev pub HasOpened : Result Trace TraceFault → Option AnsweredDevice → Type 0
HasOpened said device = (opened : AnsweredDevice) × (device ≡ Some opened) × IsOpened said (state opened)
