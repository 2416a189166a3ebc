-- The application at a scanner: it writes outputs, reads images, changes between run and idle, and starts and stops slots
-- (Volume 1, chapter 3, real time formats and run/idle).
use Rattle.std.specs.Prelude.{ℕ, ◌==◌, not, Bool, true, false, if◌then◌else◌, List, length, map, Option, Some, None, Result, Ok, Err}
use Rattle.cip_events.specs.declared.event.StepFault.{StepFault}
use Rattle.cip_events.specs.declared.event.StepFault.TheVariants as fault
use Rattle.cip_events.specs.declared.event.Verdict.TheVariants.{Done}
use Rattle.cip_events.specs.Answers.{plain_answer, value_answer}
use Rattle.cip_productions.specs.Kinds.{is_owner}
use Rattle.scanner_table.specs.declared.slot.Slot.{Slot}
use Rattle.scanner_table.specs.declared.slot.SlotState.{SlotState}
use Rattle.scanner_table.specs.declared.slot.SlotState.TheVariants.{Idle, Opening, Established, TimedOut, Closing}
use Rattle.scanner_table.specs.declared.table.ScannerTable.{ScannerTable}
use Rattle.scanner_table.specs.Slots.{IndexedSlot, indexed_slots, slot_at, with_slot}
use Rattle.scanner_table.specs.Effects.{Next, Effect, done}
use Rattle.scanner_table.specs.Opening.{opened}
use Rattle.scanner_table.specs.Closing.{stopped_at}
use Rattle.scanner_table.specs.Productions.{written_state}

-- OUTPUTS AND IMAGES

-- the slot with another output, which its producer sends as new data: when it is due, or with a trigger of change of state as soon as its
-- production inhibit time is over
abbrev pub output_slot : List ℕ → Slot → Slot
output_slot bytes slot = record slot { output = bytes; state = written_state slot.state }

abbrev pub output_written : ScannerTable → IndexedSlot → List ℕ → Next
output_written t indexed bytes = (plain_answer Done, with_slot t indexed.number (output_slot bytes indexed.slot))

abbrev pub write_length : ScannerTable → IndexedSlot → List ℕ → Result Next StepFault
write_length t indexed bytes = if length bytes == indexed.config.out_len then Ok (output_written t indexed bytes) else Err fault.WrongLength

-- only an exclusive owner has an output
abbrev pub write_at : ScannerTable → List ℕ → Option IndexedSlot → Result Next StepFault
write_at t bytes None = Err fault.NoSuchSlot
write_at t bytes (Some indexed) = if is_owner indexed.config.kind then write_length t indexed bytes else Err fault.NotAllowedNow

-- the application writes the output of a slot
unfoldable pub write : ScannerTable → ℕ → List ℕ → Result Next StepFault
write t number bytes = write_at t bytes (slot_at t number)

abbrev pub read_at : ScannerTable → Option IndexedSlot → Result Next StepFault
read_at t None = Err fault.NoSuchSlot
read_at t (Some indexed) = Ok (value_answer indexed.slot.image, t)

-- the application reads the image of a slot
unfoldable pub read : ScannerTable → ℕ → Result Next StepFault
read t number = read_at t (slot_at t number)

-- RUN AND IDLE

-- the two modes are equal
abbrev pub same_mode : Bool → Bool → Bool
same_mode true other = other
same_mode false other = not other

-- an exclusive owner has new data at a change of mode, since its data carry the mode
abbrev pub moded_slot : IndexedSlot → Slot
moded_slot indexed = if is_owner indexed.config.kind then record indexed.slot { state = written_state indexed.slot.state } else indexed.slot

-- the table after a change of mode
abbrev pub moded_table : ScannerTable → Bool → ScannerTable
moded_table t run = record t { run = run; slots = map moded_slot (indexed_slots t) }

-- the application sets the mode; the present mode again changes nothing
unfoldable pub mode : ScannerTable → Bool → Next
mode t run = (plain_answer Done, if same_mode run t.run then t else moded_table t run)

-- STARTS AND STOPS

-- the connection is desired from now on
abbrev pub desired_slot : ScannerTable → Slot → Slot
desired_slot t slot = record slot { desired_up = true; retry_at = t.clock }

-- the connection is desired, and the slot opens at once if it can
abbrev pub started : ScannerTable → IndexedSlot → Slot → Effect
started t indexed slot = opened (with_slot t indexed.number slot) (record indexed { slot = slot })

-- only an idle slot whose connection is not desired yet accepts a start
abbrev pub start_state : ScannerTable → IndexedSlot → SlotState → Result Next StepFault
start_state t indexed Idle = if indexed.slot.desired_up then Err fault.NotAllowedNow else Ok (done (started t indexed (desired_slot t indexed.slot)))
start_state t indexed (Opening o) = Err fault.NotAllowedNow
start_state t indexed (Established c) = Err fault.NotAllowedNow
start_state t indexed (TimedOut link) = Err fault.NotAllowedNow
start_state t indexed (Closing c) = Err fault.NotAllowedNow

abbrev pub start_at : ScannerTable → Option IndexedSlot → Result Next StepFault
start_at t None = Err fault.NoSuchSlot
start_at t (Some indexed) = start_state t indexed indexed.slot.state

-- the application starts a slot
unfoldable pub start : ScannerTable → ℕ → Result Next StepFault
start t number = start_at t (slot_at t number)

abbrev pub stop_of : Result Effect StepFault → Result Next StepFault
stop_of (Err why) = Err why
stop_of (Ok effect) = Ok (done effect)

-- the application stops a slot
unfoldable pub stop : ScannerTable → ℕ → Result Next StepFault
stop t number = stop_of (stopped_at t (slot_at t number))
