-- The step of a scanner keeps it whole, and is its device's.
use Rattle.std.proofs.Common.{◌≡◌, ℕ, List, ap, Result, Ok, Err, IfOk, sym, subst}
use Rattle.cip_events.specs.declared.event.Event.{Event}
use Rattle.cip_events.specs.declared.event.Event.TheVariants.{Datagram, Write}
use Rattle.cip_events.specs.declared.event.Answer.{Answer}
use Rattle.cip_events.specs.declared.event.Delivery.{Delivery}
use Rattle.cip_events.specs.declared.event.Verdict.TheVariants.{Delivered}
use Rattle.cip_events.specs.Answers.{plain_answer}
use Rattle.cip_types.specs.declared.names.Node.{Node}
use Rattle.cip_events.specs.declared.event.StepFault.{StepFault}
use Rattle.cip_events.specs.declared.event.StepFault.TheVariants.{OutOfMemory, TickTooLong, ClockEnd, NoSuchPoint, WrongLength, NoSuchSlot, NotAllowedNow}
use Rattle.cip_events.specs.Outcomes.{Outcome, Follows}
use Rattle.scanner_table.specs.declared.table.ScannerTable.{ScannerTable}
use Rattle.scanner_table.specs.Datagrams.{received}
use Rattle.scanner_table.specs.Effects.{Next}
use Rattle.scanner_table.specs.Points.{write}
use Rattle.scanner_table.specs.Step.{scanner_step}
use Rattle.scanner_table.specs.Whole.{IsWholeScanner}

-- each step keeps a table whole
abbrev pub StepsKeep : Type 0
StepsKeep = (t : ScannerTable) (event : Event) → IsWholeScanner t → IfOk (scanner_step t event) (λ next. IsWholeScanner next.1)

kept_ok : (said : Result Next StepFault) (answer : Answer) (new : ScannerTable) → said ≡ Ok (answer, new) → IfOk said (λ next. IsWholeScanner next.1) → IsWholeScanner new
kept_ok said answer new is keeps = subst (λ (r : Result Next StepFault). IfOk r (λ next. IsWholeScanner next.1)) is keeps

pub step_kept : StepsKeep → (old : ScannerTable) (event : Event) (answer : Answer) (new : ScannerTable) → scanner_step old event ≡ Ok (answer, new) → IsWholeScanner old → IsWholeScanner new
step_kept keep old event answer new is whole = kept_ok (scanner_step old event) answer new is (keep old event whole)

stays : (old new : ScannerTable) → new ≡ old → IsWholeScanner old → IsWholeScanner new
stays old new same whole = subst IsWholeScanner (sym same) whole

pub follows_kept : StepsKeep → (old : ScannerTable) (event : Event) (outcome : Outcome) (new : ScannerTable) → Follows (scanner_step old event) old outcome new → IsWholeScanner old → IsWholeScanner new
follows_kept keep old event (Ok answer) new follows whole = step_kept keep old event answer new follows whole
follows_kept keep old event (Err OutOfMemory) new follows whole = stays old new follows.1 whole
follows_kept keep old event (Err TickTooLong) new follows whole = stays old new follows.1 whole
follows_kept keep old event (Err ClockEnd) new follows whole = stays old new follows.1 whole
follows_kept keep old event (Err NoSuchPoint) new follows whole = stays old new follows.1 whole
follows_kept keep old event (Err WrongLength) new follows whole = stays old new follows.1 whole
follows_kept keep old event (Err NoSuchSlot) new follows whole = stays old new follows.1 whole
follows_kept keep old event (Err NotAllowedNow) new follows whole = stays old new follows.1 whole

pub written_kept : StepsKeep → (old : ScannerTable) (number : ℕ) (bytes : List ℕ) (outcome : Outcome) (new : ScannerTable) → Follows (write old number bytes) old outcome new → IsWholeScanner old → IsWholeScanner new
written_kept keep old number bytes outcome new follows whole = follows_kept keep old (Write number bytes) outcome new follows whole

pub received_kept : StepsKeep → (old : ScannerTable) (peer : Node) (bytes : List ℕ) (delivery : Delivery) (new : ScannerTable) → (plain_answer (Delivered delivery), new) ≡ received old peer bytes → IsWholeScanner old → IsWholeScanner new
received_kept keep old peer bytes delivery new is whole = step_kept keep old (Datagram peer bytes) (plain_answer (Delivered delivery)) new (ap Ok (sym is)) whole
