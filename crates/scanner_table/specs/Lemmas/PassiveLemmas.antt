-- Events that leave a table as it is: such an event is refused, or its answer is a verdict alone. A law has clauses for the
-- other events, and cites this for all that are passive.
use Rattle.std.proofs.Common.{◌≡◌, Bool, true, false, Option, Some, None, Result, Ok, Err}
use Rattle.cip_events.specs.declared.event.Event.{Event}
use Rattle.cip_events.specs.declared.event.Event.TheVariants.{StreamOpened, Frame, StreamCut, Datagram, Write, Read, Tick, Mode, Start, Stop, Explicit, Ids}
use Rattle.cip_events.specs.declared.event.StepFault.{StepFault}
use Rattle.cip_events.specs.declared.event.StepFault.TheVariants.{NoSuchSlot}
use Rattle.cip_events.specs.declared.event.Verdict.{Verdict}
use Rattle.cip_events.specs.declared.event.Verdict.TheVariants.{Value}
use Rattle.cip_events.specs.Answers.{plain_answer}
use Rattle.scanner_table.specs.declared.table.ScannerTable.{ScannerTable}
use Rattle.scanner_table.specs.Effects.{Next}
use Rattle.scanner_table.specs.Points.{read, read_at}
use Rattle.scanner_table.specs.Slots.{IndexedSlot, slot_at}
use Rattle.scanner_table.specs.Step.{scanner_step}

-- the event changes no table and sends nothing
abbrev pub is_passive : Event → Bool
is_passive (StreamOpened stream peer) = false
is_passive (Frame stream bytes) = false
is_passive (StreamCut stream) = false
is_passive (Datagram peer bytes) = false
is_passive (Write point bytes) = false
is_passive (Tick ms) = false
is_passive (Mode run) = false
is_passive (Start slot) = false
is_passive (Stop slot) = false
is_passive (Explicit target number bytes) = false
is_passive (Ids block) = false
is_passive other = true

read_passive : (Q : Result Next StepFault → Type 0) (t : ScannerTable) → ((why : StepFault) → Q (Err why)) → ((verdict : Verdict) → Q (Ok (plain_answer verdict, t))) → (found : Option IndexedSlot) → Q (read_at t found)
read_passive Q t refused answered None = refused NoSuchSlot
read_passive Q t refused answered (Some indexed) = answered (Value indexed.slot.image)

-- what holds of each fault, and of the same table with each verdict, holds after a passive event
pub passive_holds : (Q : Result Next StepFault → Type 0) (t : ScannerTable) → ((why : StepFault) → Q (Err why)) → ((verdict : Verdict) → Q (Ok (plain_answer verdict, t))) → (event : Event) → is_passive event ≡ true → Q (scanner_step t event)
unfolding read
passive_holds Q t refused answered (StreamOpened stream peer) passive = absurd (let e = passive in cc)
passive_holds Q t refused answered (Frame stream bytes) passive = absurd (let e = passive in cc)
passive_holds Q t refused answered (StreamCut stream) passive = absurd (let e = passive in cc)
passive_holds Q t refused answered (Datagram peer bytes) passive = absurd (let e = passive in cc)
passive_holds Q t refused answered (Write point bytes) passive = absurd (let e = passive in cc)
passive_holds Q t refused answered (Read point) passive = read_passive Q t refused answered (slot_at t point)
passive_holds Q t refused answered (Tick ms) passive = absurd (let e = passive in cc)
passive_holds Q t refused answered (Mode run) passive = absurd (let e = passive in cc)
passive_holds Q t refused answered (Start slot) passive = absurd (let e = passive in cc)
passive_holds Q t refused answered (Stop slot) passive = absurd (let e = passive in cc)
passive_holds Q t refused answered (Explicit target number bytes) passive = absurd (let e = passive in cc)
passive_holds Q t refused answered (Ids block) passive = absurd (let e = passive in cc)
passive_holds Q t refused answered other passive = search refused
