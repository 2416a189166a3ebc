-- Each reply that a scanner tells its application is to a pending request.
use Rattle.std.proofs.Common.{◌≡◌, ℕ, ◌+◌, ◌==◌, nat_lt, Bool, true, false, cond, List, length, find, Option, Some, None, Result, Ok, Err, IfOk, refl, subst, eqb-true}
use Rattle.std.specs.List.{list_any}
use Rattle.base_lemmas.specs.Booleans.{either}
use Rattle.base_lemmas.specs.Lists.{found_passes}
use Rattle.cip_types.specs.declared.ids.IdBlock.{IdBlock}
use Rattle.cip_types.specs.declared.names.Node.{Node}
use Rattle.cip_types.specs.Ids.{may_take}
use Rattle.cip_datagram.specs.declared.datagram.DatagramFault.{DatagramFault}
use Rattle.cip_datagram.specs.Datagram.{DatagramFields}
use Rattle.cip_datagram.specs.Reading.{datagram_reading}
use Rattle.cip_encap.specs.declared.message.EncapFault.{EncapFault}
use Rattle.cip_encap.specs.Message.{MessageFields}
use Rattle.cip_encap.specs.Reading.{message_reading}
use Rattle.cip_events.specs.declared.event.Delivery.TheVariants.{Applied, Duplicate, Old, WrongSize}
use Rattle.cip_events.specs.declared.event.Event.{Event}
use Rattle.cip_events.specs.declared.event.Event.TheVariants.{StreamOpened, Frame, StreamCut, Datagram, Write, Read, Tick, Mode, Start, Stop, Explicit, Ids}
use Rattle.cip_events.specs.declared.event.StepFault.{StepFault}
use Rattle.cip_events.specs.declared.event.StepFault.TheVariants as fault
use Rattle.cip_events.specs.declared.event.Unanswered.{Unanswered}
use Rattle.cip_events.specs.declared.event.Verdict.TheVariants.{Done}
use Rattle.cip_events.specs.Answers.{plain_answer}
use Rattle.cip_events.specs.Clock.{longest_tick, clock_end}
use Rattle.cip_productions.specs.Acceptance.{is_duplicate}
use Rattle.cip_productions.specs.Kinds.{is_owner}
use Rattle.cip_router.specs.RouterReplies.{RouterReplyFields}
use Rattle.scanner_table.specs.declared.explicit.PendingExplicit.{PendingExplicit}
use Rattle.scanner_table.specs.declared.slot.SlotConnection.{SlotConnection}
use Rattle.scanner_table.specs.declared.slot.SlotState.{SlotState}
use Rattle.scanner_table.specs.declared.slot.SlotState.TheVariants.{Idle, Opening, Established, TimedOut, Closing}
use Rattle.scanner_table.specs.declared.table.ScannerTable.{ScannerTable}
use Rattle.scanner_table.specs.declared.table.Session.{Session}
use Rattle.scanner_table.specs.declared.table.Stage.{Stage}
use Rattle.scanner_table.specs.declared.table.Stage.TheVariants.{Waiting, Up, Unused}
use Rattle.scanner_table.specs.declared.table.TargetStream.{TargetStream}
use Rattle.scanner_table.specs.Slots.{IndexedSlot, indexed_slots, slot_at}
use Rattle.scanner_table.specs.Sessions.{is_stream, is_taken, session_with}
use Rattle.scanner_table.specs.Effects.{Next, Effect, done}
use Rattle.scanner_table.specs.Closing.{stopped_at}
use Rattle.scanner_table.specs.Datagrams.{accepts_at, is_for, delivered, accepted_table, accepted, sized, connected, state_received, received_at, received_as, received}
use Rattle.scanner_table.specs.Points.{output_written, write_length, write_at, write, read_at, read, mode, desired_slot, started, start_state, start_at, start, stop_of, stop}
use Rattle.scanner_table.specs.Ticks.{clocked_table, moved_on, ticked, tick}
use Rattle.scanner_table.specs.Explicit.{awaits, connects_to, has_explicit_length, is_barred, explicit_sent, explicit_within, explicit_sized, explicit_request, explicit_reply, explicit_answered}
use Rattle.scanner_table.specs.Encapsulation.{registering_on, registered, ignored, ends_session, session_renewed, is_awaiting, replied, replied_to, unserved_at, reported, message_answer, frame_answer, frame_of, frame, stream_opened, cut_of, stream_cut}
use Rattle.scanner_table.specs.Step.{scanner_step, taken_table, take_ids}
use Rattle.scanner_table.specs.ExplicitReplies.{is_reply, RepliesToPending, RepliesAreToPending}

-- ---- events that bring no reply

abbrev NoReply : Next → Type 0
NoReply next = is_reply next.0.verdict ≡ false

abbrev SaysNoReply : Result Next StepFault → Type 0
SaysNoReply said = IfOk said NoReply

opened_none : (t : ScannerTable) (number : ℕ) (target : Node) → SaysNoReply (stream_opened t number target)
unfolding stream_opened
opened_none t number target = either SaysNoReply (is_taken t.streams number target) (Err fault.NotAllowedNow) (Ok (done (registering_on t number target))) tt refl

cut_of_none : (t : ScannerTable) (found : Option TargetStream) → SaysNoReply (cut_of t found)
cut_of_none t None = tt
cut_of_none t (Some stream) = refl

cut_none : (t : ScannerTable) (number : ℕ) → SaysNoReply (stream_cut t number)
unfolding stream_cut
cut_none t number = cut_of_none t (find (is_stream number) t.streams)

connected_none : (t : ScannerTable) (indexed : IndexedSlot) (d : DatagramFields) (c : SlotConnection) → NoReply (connected t indexed d c)
connected_none t indexed d c =
    either NoReply (length d.payload == indexed.config.in_len) (sized t indexed d c) (delivered WrongSize t)
    (either NoReply (accepts_at t indexed c d.sequence) (accepted t indexed d c) (delivered Old t)
    (either NoReply (is_duplicate c.last d.count) (delivered Duplicate (accepted_table t indexed d c indexed.slot.image)) (delivered Applied (accepted_table t indexed d c d.payload)) refl refl)
    refl)
    refl

state_none : (t : ScannerTable) (indexed : IndexedSlot) (d : DatagramFields) (state : SlotState) → NoReply (state_received t indexed d state)
state_none t indexed d (Established c) = connected_none t indexed d c
state_none t indexed d other = refl

received_at_none : (t : ScannerTable) (d : DatagramFields) (found : Option IndexedSlot) → NoReply (received_at t d found)
received_at_none t d None = refl
received_at_none t d (Some indexed) = state_none t indexed d indexed.slot.state

received_as_none : (t : ScannerTable) (peer : Node) (reading : Result DatagramFields DatagramFault) → NoReply (received_as t peer reading)
received_as_none t peer (Err why) = refl
received_as_none t peer (Ok d) = received_at_none t d (find (is_for peer d.connection) (indexed_slots t))

received_none : (t : ScannerTable) (peer : Node) (bytes : List ℕ) → NoReply (received t peer bytes)
unfolding received
received_none t peer bytes = received_as_none t peer (datagram_reading bytes)

write_at_none : (t : ScannerTable) (bytes : List ℕ) (found : Option IndexedSlot) → SaysNoReply (write_at t bytes found)
write_at_none t bytes None = tt
write_at_none t bytes (Some indexed) =
    either SaysNoReply (is_owner indexed.config.kind) (write_length t indexed bytes) (Err fault.NotAllowedNow)
    (either SaysNoReply (length bytes == indexed.config.out_len) (Ok (output_written t indexed bytes)) (Err fault.WrongLength) refl tt) tt

write_none : (t : ScannerTable) (number : ℕ) (bytes : List ℕ) → SaysNoReply (write t number bytes)
unfolding write
write_none t number bytes = write_at_none t bytes (slot_at t number)

read_at_none : (t : ScannerTable) (found : Option IndexedSlot) → SaysNoReply (read_at t found)
read_at_none t None = tt
read_at_none t (Some indexed) = refl

read_none : (t : ScannerTable) (number : ℕ) → SaysNoReply (read t number)
unfolding read
read_none t number = read_at_none t (slot_at t number)

tick_none : (t : ScannerTable) (ms : ℕ) → SaysNoReply (tick t ms)
unfolding tick
tick_none t ms =
    either SaysNoReply (nat_lt longest_tick ms) (Err fault.TickTooLong) (cond (nat_lt clock_end (t.clock.0 + ms)) (Err fault.ClockEnd) (Ok (ticked (moved_on (clocked_table t ms))))) tt
    (either SaysNoReply (nat_lt clock_end (t.clock.0 + ms)) (Err fault.ClockEnd) (Ok (ticked (moved_on (clocked_table t ms)))) tt refl)

mode_none : (t : ScannerTable) (run : Bool) → NoReply (mode t run)
unfolding mode
mode_none t run = refl

start_state_none : (t : ScannerTable) (indexed : IndexedSlot) (state : SlotState) → SaysNoReply (start_state t indexed state)
start_state_none t indexed Idle = either SaysNoReply indexed.slot.desired_up (Err fault.NotAllowedNow) (Ok (done (started t indexed (desired_slot t indexed.slot)))) tt refl
start_state_none t indexed other = tt

start_at_none : (t : ScannerTable) (found : Option IndexedSlot) → SaysNoReply (start_at t found)
start_at_none t None = tt
start_at_none t (Some indexed) = start_state_none t indexed indexed.slot.state

start_none : (t : ScannerTable) (number : ℕ) → SaysNoReply (start t number)
unfolding start
start_none t number = start_at_none t (slot_at t number)

stop_of_none : (said : Result Effect StepFault) → SaysNoReply (stop_of said)
stop_of_none (Err why) = tt
stop_of_none (Ok effect) = refl

stop_none : (t : ScannerTable) (number : ℕ) → SaysNoReply (stop t number)
unfolding stop
stop_none t number = stop_of_none (stopped_at t (slot_at t number))

ids_none : (t : ScannerTable) (block : IdBlock) → SaysNoReply (take_ids t block)
unfolding take_ids
ids_none t block = either SaysNoReply (may_take t.ids block) (Ok (plain_answer Done, taken_table t block)) (Err fault.NotAllowedNow) refl tt

within_none : (t : ScannerTable) (number : ℕ) (bytes : List ℕ) (session : Option Session) → SaysNoReply (explicit_within t number bytes session)
within_none t number bytes None = tt
within_none t number bytes (Some session) = either SaysNoReply (is_barred t number bytes) (Err fault.NotAllowedNow) (Ok (done (explicit_sent t session number bytes))) tt refl

explicit_none : (t : ScannerTable) (target : Node) (number : ℕ) (bytes : List ℕ) → SaysNoReply (explicit_request t target number bytes)
unfolding explicit_request
explicit_none t target number bytes =
    either SaysNoReply (list_any (connects_to target) t.profile.slots) (explicit_sized t target number bytes) (Err fault.NoSuchSlot)
    (either SaysNoReply (has_explicit_length bytes) (explicit_within t number bytes (session_with t target)) (Err fault.WrongLength) (within_none t number bytes (session_with t target)) tt)
    tt

-- ---- frames

replied_none : (t : ScannerTable) (indexed : IndexedSlot) (m : MessageFields) (state : SlotState) → NoReply (replied t indexed m state)
replied_none t indexed m Idle = refl
replied_none t indexed m (Opening o) = refl
replied_none t indexed m (Established c) = refl
replied_none t indexed m (TimedOut link) = refl
replied_none t indexed m (Closing c) = refl

replied_to_none : (t : ScannerTable) (m : MessageFields) (found : Option IndexedSlot) → NoReply (replied_to t m found)
replied_to_none t m None = refl
replied_to_none t m (Some indexed) = replied_none t indexed m indexed.slot.state

answered_at_none : (b : Bool) (t : ScannerTable) (stream : TargetStream) (m : MessageFields) (found : Option IndexedSlot) → NoReply (cond b (unserved_at t stream m found) (replied_to t m found))
answered_at_none true t stream m None = refl
answered_at_none true t stream m (Some indexed) = refl
answered_at_none false t stream m found = replied_to_none t m found

reported_none : (t : ScannerTable) (stream : TargetStream) (m : MessageFields) (stage : Stage) → NoReply (reported t stream m stage)
reported_none t stream m Waiting = either NoReply (m.context == 0) (done (registered t stream m)) (ignored t) refl refl
reported_none t stream m (Up handle) = answered_at_none (ends_session t m) t stream m (find (is_awaiting stream.peer m.context) (indexed_slots t))
reported_none t stream m Unused = refl

-- a verdict that is a reply, and is none
both : {A : Type 0} (verdict : Bool) → verdict ≡ false → verdict ≡ true → A
both true none is = absurd (let e = none in cc)
both false none is = absurd (let e = is in cc)

-- what a step of a frame gives where it is a reply
abbrev Replies : ScannerTable → ℕ → List ℕ → Next → Type 0
Replies t number bytes next = is_reply next.0.verdict ≡ true → RepliesToPending t (Frame number bytes) next

explicit_answered_replies : (t : ScannerTable) (number : ℕ) (bytes : List ℕ) (m : MessageFields) (pending : PendingExplicit) (reply : Result RouterReplyFields Unanswered) → message_reading bytes ≡ Ok m → find (awaits number m.context) t.explicit ≡ Some pending → explicit_reply pending.service m ≡ reply → Replies t number bytes (explicit_answered t pending reply)
explicit_answered_replies t number bytes m pending (Err why) read found is = λ reply. both false refl reply
explicit_answered_replies t number bytes m pending (Ok reply) read found is = λ yes. record {
  stream = number;
  bytes = bytes;
  event_is = refl;
  message = m;
  read = read;
  pending = pending;
  found = found;
  reply = reply;
  replied = is;
  verdict = refl;
  removed = refl;
}

explicit_ends_replies : (b : Bool) (t : ScannerTable) (stream : TargetStream) (bytes : List ℕ) (m : MessageFields) (pending : PendingExplicit) → message_reading bytes ≡ Ok m → find (awaits stream.number m.context) t.explicit ≡ Some pending → Replies t stream.number bytes (cond b (done (session_renewed stream t)) (explicit_answered t pending (explicit_reply pending.service m)))
explicit_ends_replies true t stream bytes m pending read is = λ reply. both false refl reply
explicit_ends_replies false t stream bytes m pending read is = explicit_answered_replies t stream.number bytes m pending (explicit_reply pending.service m) read is refl

message_replies : (t : ScannerTable) (stream : TargetStream) (bytes : List ℕ) (m : MessageFields) (found : Option PendingExplicit) → message_reading bytes ≡ Ok m → find (awaits stream.number m.context) t.explicit ≡ found → Replies t stream.number bytes (message_answer t stream m found)
message_replies t stream bytes m None read is = λ reply. both _ (reported_none t stream m stream.stage) reply
message_replies t stream bytes m (Some pending) read is = explicit_ends_replies (ends_session t m) t stream bytes m pending read is

frame_answer_replies : (t : ScannerTable) (stream : TargetStream) (bytes : List ℕ) (reading : Result MessageFields EncapFault) → message_reading bytes ≡ reading → Replies t stream.number bytes (frame_answer t stream reading)
frame_answer_replies t stream bytes (Err why) read = λ reply. both false refl reply
frame_answer_replies t stream bytes (Ok m) read = message_replies t stream bytes m (find (awaits stream.number m.context) t.explicit) read refl

frame_of_replies : (t : ScannerTable) (number : ℕ) (bytes : List ℕ) (found : Option TargetStream) → find (is_stream number) t.streams ≡ found → IfOk (frame_of t bytes found) (Replies t number bytes)
frame_of_replies t number bytes None is = tt
frame_of_replies t number bytes (Some stream) is =
    let same : stream.number ≡ number = eqb-true stream.number number (found_passes (is_stream number) t.streams stream is) in
    subst (λ (n : ℕ). Replies t n bytes (frame_answer t stream (message_reading bytes))) same (frame_answer_replies t stream bytes (message_reading bytes) refl)

frame_replies : (t : ScannerTable) (number : ℕ) (bytes : List ℕ) → IfOk (frame t number bytes) (Replies t number bytes)
unfolding frame
frame_replies t number bytes = frame_of_replies t number bytes (find (is_stream number) t.streams) refl

-- ---- each step

abbrev StepReplies : ScannerTable → Event → Next → Type 0
StepReplies t event next = is_reply next.0.verdict ≡ true → RepliesToPending t event next

none_replies : (t : ScannerTable) (event : Event) (said : Result Next StepFault) → SaysNoReply said → IfOk said (StepReplies t event)
none_replies t event (Ok next) none = λ reply. both (is_reply next.0.verdict) none reply
none_replies t event (Err why) none = tt

step_replies : (t : ScannerTable) (event : Event) → IfOk (scanner_step t event) (StepReplies t event)
step_replies t (StreamOpened stream peer) = none_replies t (StreamOpened stream peer) (scanner_step t (StreamOpened stream peer)) (opened_none t stream peer)
step_replies t (Frame stream bytes) = frame_replies t stream bytes
step_replies t (StreamCut stream) = none_replies t (StreamCut stream) (scanner_step t (StreamCut stream)) (cut_none t stream)
step_replies t (Datagram peer bytes) = none_replies t (Datagram peer bytes) (scanner_step t (Datagram peer bytes)) (received_none t peer bytes)
step_replies t (Write point bytes) = none_replies t (Write point bytes) (scanner_step t (Write point bytes)) (write_none t point bytes)
step_replies t (Read point) = none_replies t (Read point) (scanner_step t (Read point)) (read_none t point)
step_replies t (Tick ms) = none_replies t (Tick ms) (scanner_step t (Tick ms)) (tick_none t ms)
step_replies t (Mode run) = none_replies t (Mode run) (scanner_step t (Mode run)) (mode_none t run)
step_replies t (Start slot) = none_replies t (Start slot) (scanner_step t (Start slot)) (start_none t slot)
step_replies t (Stop slot) = none_replies t (Stop slot) (scanner_step t (Stop slot)) (stop_none t slot)
step_replies t (Explicit target number bytes) = none_replies t (Explicit target number bytes) (scanner_step t (Explicit target number bytes)) (explicit_none t target number bytes)
step_replies t (Ids block) = none_replies t (Ids block) (scanner_step t (Ids block)) (ids_none t block)
step_replies t other = tt

pub replies_pending : RepliesAreToPending
replies_pending t event next is = subst (λ (said : Result Next StepFault). IfOk said (StepReplies t event)) is (step_replies t event)
