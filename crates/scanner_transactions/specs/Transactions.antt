-- Transactions: the effects of one event so far, and the changes of one slot that they are made of.
use Rattle.std.specs.Prelude.{◌≡◌, ℕ, Bool, false, List, [], ◌∷◌, ◌++◌, map, Option, Some, None, Result, Ok, Err}
use Rattle.std.specs.Result.{MatchResult}
use Rattle.cip_types.specs.declared.memory.OutOfMemory as memory
use Rattle.cip_fwdopen.specs.declared.reply.Opened as made
use Rattle.cip_fwdopen.specs.declared.reply.OpenAnswer.{OpenAnswer}
use Rattle.cip_events.specs.declared.event.Reason.{Reason}
use Rattle.cip_events.specs.declared.event.StepFault.{StepFault}
use Rattle.cip_events.specs.declared.event.StepFault.TheVariants.{OutOfMemory}
use Rattle.cip_events.specs.declared.event.Frame.{Frame}
use Rattle.cip_events.specs.declared.event.Answer.{Answer}
use Rattle.cip_events.specs.declared.event.Notice.{Notice}
use Rattle.cip_events.specs.declared.event.OutgoingDatagram.{OutgoingDatagram}
use Rattle.cip_events.specs.declared.event.Verdict.TheVariants.{Done}
use Rattle.scanner_table.specs.declared.profile.SlotConfig.{SlotConfig}
use Rattle.cip_types.specs.declared.names.Triad.{Triad}
use Rattle.conn_state.specs.declared.names.Link.{Link}
use Rattle.scanner_table.specs.declared.slot.PendingOpen as pending
use Rattle.scanner_table.specs.declared.slot.Slot.{Slot}
use Rattle.scanner_table.specs.declared.slot.SlotState.{SlotState}
use Rattle.scanner_table.specs.declared.slot.SlotState.TheVariants.{Idle, Opening, Closing}
use Rattle.scanner_table.specs.declared.table.Session.{Session}
use Rattle.scanner_table.specs.declared.table.ScannerTable.{ScannerTable}
use Rattle.scanner_table.specs.Requests.{sent_frame, next_requested}
use Rattle.scanner_table.specs.Effects.{Effect, nothing, changed, counted}
use Rattle.scanner_table.specs.Points.{started, desired_slot}
use Rattle.scanner_table.specs.Closing.{left_slot, closed_within, dropped}
use Rattle.scanner_table.specs.Replies.{answered, refused, rejected, established_slot, new_connection, judged_success, is_id_free}
use Rattle.conn_state.specs.Answers.{answer_tests}
use Rattle.cip_types.specs.Cases.{first_case}
use Rattle.scanner_table.specs.Opening.{later, open_session, open_requested, opened_within, close_requested, cleared_within}
use Rattle.scanner_table.specs.declared.table.Stage.{Stage}
use Rattle.scanner_table.specs.Sessions.{session_with, with_stage, without_stream}
use Rattle.scanner_table.specs.Slots.{IndexedSlot, slot_at}
use Rattle.scanner_transactions.specs.declared.transaction.Transaction.{Transaction}
use Rattle.scanner_transactions.specs.declared.changes.SlotChange.{SlotChange}
use Rattle.scanner_slots.specs.Views.{table_of}

-- the frames, the notices and the table so far
pub record Progress : Type 0 where
  pub frames : List Frame
  pub notices : List Notice
  pub table : ScannerTable

-- the beginning: the table, without frames and notices
abbrev pub begun : ScannerTable → Progress
begun t = record { frames = []; notices = []; table = t }

-- the transaction after an effect on its table
abbrev pub followed : Progress → Effect → Progress
followed so_far effect = record { frames = so_far.frames ++ map sent_frame effect.sent; notices = so_far.notices ++ effect.notices; table = effect.table }

-- the same for an effect on the table so far
abbrev pub followed_by : (ScannerTable → Effect) → Progress → Progress
followed_by effect so_far = followed so_far (effect so_far.table)

abbrev pub view_transaction : Transaction → Progress
view_transaction transaction = record { frames = transaction.frames.items; notices = transaction.notices.items; table = table_of transaction.profile.now transaction.scanner }

-- the transaction has just begun
abbrev pub IsFresh : Transaction → Type 0
IsFresh transaction = view_transaction transaction ≡ begun (view_transaction transaction).table

-- the effect on the slot that the lookup found, if any
abbrev pub at_found : (ScannerTable → IndexedSlot → Effect) → ScannerTable → Option IndexedSlot → Effect
at_found effect t None = nothing t
at_found effect t (Some indexed) = effect t indexed

-- the effect on the slot of a number; none if no slot has the number
abbrev pub at_number : (ScannerTable → IndexedSlot → Effect) → ScannerTable → ℕ → Effect
at_number effect t number = at_found effect t (slot_at t number)

-- the transaction after an effect on the slot of a number
abbrev pub after_at : (ScannerTable → IndexedSlot → Effect) → ℕ → Progress → Progress
after_at effect number so_far = followed so_far (at_number effect so_far.table number)

-- a slot after a change, which leaves its bytes
abbrev pub with_change : SlotChange → Slot → Slot
with_change slot_change slot = record slot { state = slot_change.state; desired_up = slot_change.desired_up; retry_at = slot_change.retry_at }

-- the value, if there is one, as a list
abbrev pub listed : {A : Type 0} → Option A → List A
listed None = []
listed (Some a) = a ∷ []

-- a slot changes, with its notices
abbrev pub slot_changed : SlotChange → Option Notice → ScannerTable → IndexedSlot → Effect
slot_changed slot_change reported t indexed = changed t indexed (with_change slot_change indexed.slot) (listed reported)

-- the change of a slot whose connection is no longer desired
abbrev pub resigned_change : Slot → SlotChange
resigned_change slot = record { state = Idle; desired_up = false; retry_at = slot.retry_at }

-- the change of a slot that waits for the reply to its next opening
abbrev pub opening_change : ScannerTable → SlotConfig → Slot → SlotChange
opening_change t config slot = record {
  state = Opening (record { request = t.next_request; requested = next_requested t config; deadline = later t.clock t.profile.open_timeout });
  desired_up = slot.desired_up;
  retry_at = slot.retry_at;
}

-- this frame is sent too
abbrev pub with_frame : Frame → Progress → Progress
with_frame frame so_far = record so_far { frames = so_far.frames ++ frame ∷ [] }

-- the next request, sent in this frame
abbrev pub with_request : Frame → Progress → Progress
with_request frame so_far = record so_far { frames = so_far.frames ++ frame ∷ []; table = counted so_far.table }

-- the connection of a slot is desired from now on, and the slot opens at once if it can
abbrev pub freshly_started : ScannerTable → IndexedSlot → Effect
freshly_started t indexed = started t indexed (desired_slot t indexed.slot)

-- the slot opens, if a session with its target is registered, and it is its turn
abbrev pub opened_there : ScannerTable → IndexedSlot → Effect
opened_there t indexed = opened_within t indexed (open_session t indexed.config.target)

-- the slot closes a connection that timed out
abbrev pub cleared_by : Link → ScannerTable → IndexedSlot → Effect
cleared_by link t indexed = cleared_within t indexed link (session_with t indexed.config.target)

-- the slot sends a Forward_Open within this session
abbrev pub open_requested_within : Session → ScannerTable → IndexedSlot → Effect
open_requested_within session t indexed = open_requested t indexed session

-- the session of a stream is in a new stage
abbrev pub with_staged : ℕ → Stage → Progress → Progress
with_staged number stage so_far = record so_far { table = with_stage so_far.table number stage }

-- a stream is removed
abbrev pub without_cut : ℕ → Progress → Progress
without_cut number so_far = record so_far { table = without_stream so_far.table number }

-- the answer, with these datagrams
abbrev pub progress_answer : Progress → List OutgoingDatagram → Answer
progress_answer so_far datagrams = record { frames = so_far.frames; datagrams = datagrams; verdict = Done; notices = so_far.notices }

-- the change of a slot that waits for the reply to its Forward_Close
abbrev pub closing_change : ScannerTable → Link → Bool → Slot → SlotChange
closing_change t link desired_up slot = record {
  state = Closing (record { request = t.next_request; link = link; deadline = later t.clock t.profile.open_timeout });
  desired_up = desired_up;
  retry_at = slot.retry_at;
}

-- the slot sends a Forward_Close within this session
abbrev pub close_requested_within : Link → Bool → Session → ScannerTable → IndexedSlot → Effect
close_requested_within link desired_up session t indexed = close_requested t indexed link desired_up session

-- the slot ends a connection which its target may still have
abbrev pub left_by : Link → ScannerTable → IndexedSlot → Effect
left_by link t indexed = changed t indexed (left_slot t link indexed.slot) []

-- the slot closes its connection
abbrev pub closed_by : Link → ScannerTable → IndexedSlot → Effect
closed_by link t indexed = closed_within t indexed link (session_with t indexed.config.target)

-- the slot gives up a connection that its target may have
abbrev pub dropped_by : Link → ScannerTable → IndexedSlot → Effect
dropped_by link t indexed = dropped t indexed link

-- a connection that no slot has is closed, at the target of the slot
abbrev pub rejected_by : Triad → ScannerTable → IndexedSlot → Effect
rejected_by triad t indexed = rejected indexed.config triad t

-- the effect of the answer on the slot that waits for it
abbrev pub answered_by : pending.PendingOpen → Result OpenAnswer Reason → ScannerTable → IndexedSlot → Effect
answered_by opening reported t indexed = answered t indexed opening reported

-- the reply opens no connection
abbrev pub refused_by : Reason → ScannerTable → IndexedSlot → Effect
refused_by why t indexed = refused t indexed why

-- the slot is established with a new connection
abbrev pub established_by : pending.PendingOpen → made.Opened → ScannerTable → IndexedSlot → Effect
established_by opening opened t indexed = changed t indexed (established_slot indexed (new_connection t indexed opening opened)) []

-- `OutOfMemory` as a fault of a step
abbrev pub faulted : Result (Unit {0}) memory.OutOfMemory → Result (Unit {0}) StepFault
faulted (Ok done) = Ok done
faulted (Err why) = Err OutOfMemory

-- a call that may be refused: it is refused with the same fault, or adds its effect, or finds no memory
abbrev pub Adds : Result Effect StepFault → Progress → Result (Unit {0}) StepFault → Progress → Type 0
Adds (Err why) so_far result new = result ≡ Err why
Adds (Ok effect) so_far result new = MatchResult result (λ _. new ≡ followed so_far effect) (λ why. why ≡ OutOfMemory)

-- a slot with a new connection and a new image
abbrev pub occupied : SlotState → List ℕ → Slot → Slot
occupied state image slot = record slot { state = state; image = image }

-- the effect of a successful reply on the slot that waits for it
abbrev pub judged_by : pending.PendingOpen → made.Opened → ScannerTable → IndexedSlot → Effect
judged_by opening opened t indexed = judged_success t indexed opening opened (first_case (answer_tests opening.requested opened (is_id_free t indexed opened.t_o_id)))
