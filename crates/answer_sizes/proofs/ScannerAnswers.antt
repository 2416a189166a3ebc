-- A scanner's answers are small.
use Rattle.std.proofs.Common.{◌≡◌, ◌≤◌, ℕ, ◌+◌, ◌^◌, ◌==◌, nat_lt, nat_le, Bool, true, false, cond, List, [], ◌∷◌, length, map, find, Option, Some, None, Result, Ok, Err, refl, sym, subst, arith, append-nil, leb-true}
use Rattle.std.proofs.lemmas.Bool.Decides.{nat_tests}
use Rattle.std.proofs.lemmas.Bool.{and_parts}
use Rattle.std.specs.List.{list_any}
use Rattle.std.specs.Option.{IfSome}
use Rattle.cip_types.specs.declared.names.Node.{Node}
use Rattle.cip_encap.specs.declared.message.EncapFault.{EncapFault}
use Rattle.cip_encap.specs.Message.{MessageFields}
use Rattle.cip_encap.specs.Reading.{message_reading}
use Rattle.cip_events.specs.declared.event.Event.{Event}
use Rattle.cip_events.specs.declared.event.Event.TheVariants as event
use Rattle.cip_events.specs.declared.event.OutgoingDatagram.{OutgoingDatagram}
use Rattle.cip_events.specs.declared.event.StepFault.TheVariants as fault
use Rattle.cip_events.specs.declared.event.Unanswered.{Unanswered}
use Rattle.cip_router.specs.RouterReplies.{RouterReplyFields}
use Rattle.cip_events.specs.declared.event.Verdict.TheVariants.{Done, BadFrame, Ignored}
use Rattle.cip_events.specs.Clock.{longest_tick, clock_end}
use Rattle.cip_productions.specs.Productions.{sent}
use Rattle.cip_events.specs.declared.event.Reason.TheVariants as reason
use Rattle.scanner_table.specs.declared.explicit.PendingExplicit.{PendingExplicit}
use Rattle.scanner_table.specs.declared.slot.SlotState.{SlotState}
use Rattle.scanner_table.specs.declared.slot.SlotState.TheVariants.{Idle, Opening, Established, TimedOut, Closing}
use Rattle.scanner_table.specs.declared.table.ScannerTable.{ScannerTable}
use Rattle.scanner_table.specs.declared.table.Session.{Session}
use Rattle.scanner_table.specs.declared.table.Stage.{Stage}
use Rattle.scanner_table.specs.declared.table.Stage.TheVariants.{Waiting, Up, Unused}
use Rattle.scanner_table.specs.declared.table.TargetStream.{TargetStream}
use Rattle.scanner_table.specs.Requests.{Sent, is_large, registration, sent_frame}
use Rattle.scanner_table.specs.Closing.{requested_link, target_lost, closed, slot_resigned, closed_within, dropped, stopped_desire, stopped, stopped_at}
use Rattle.scanner_table.specs.Effects.{Next, Effect, and_then, sent_answer, done}
use Rattle.scanner_table.specs.Explicit.{awaits, connects_to, has_explicit_length, is_barred, explicit_sent, explicit_within, explicit_sized, explicit_request, explicit_reply, unanswered_notice, replied_verdict, without_explicit, explicit_answered, explicit_timed_out, explicit_lost}
use Rattle.scanner_table.specs.Encapsulation.{registering_on, stream_opened, stream_lost, message_answer, cut_of, stream_cut, is_registered, session_begun, session_failed, registered, ends_session, registering_again, session_renewed, unserved_state, unserved, unserved_at, ignored, is_awaiting, replied, replied_to, reported, frame_answer, frame_of, frame}
use Rattle.scanner_table.specs.Points.{desired_slot, started, start_state, start_at, start, stop_of, stop}
use Rattle.scanner_table.specs.Productions.{due_productions}
use Rattle.scanner_table.specs.Profiles.{profile_fault}
use Rattle.scanner_table.specs.Replies.{open_answer, refused, answered}
use Rattle.scanner_table.specs.Sessions.{is_stream, is_taken, without_stream, with_stage, session_with}
use Rattle.scanner_table.specs.Slots.{IndexedSlot, indexed_slots, slot_at, is_numbered, with_slot}
use Rattle.scanner_table.specs.Step.{scanner_step}
use Rattle.scanner_table.specs.Ticks.{clocked_table, advanced, moved_on, ticked, tick}
use Rattle.scanner_table.specs.WellFormed.{IsWellFormed}
use Rattle.answer_sizes.specs.Sizes.{IsShortFrame, IsShortDatagram, IsSmall}
use Rattle.answer_sizes.proofs.Answers.{both_small, plain_small, AnswersSmall}
use Rattle.answer_sizes.proofs.Few.{Few, few_none, few_one, few_most, few_mapped, each_found, either}
use Rattle.answer_sizes.proofs.ScannerDatagrams.{due_few}
use Rattle.answer_sizes.proofs.ScannerFrames.{HasShortRequests, SendsRequests, few_slots, opened_sends, target_sends, closed_sends, dropped_sends, ended_sends, answered_sends, lost_quiet, advanced_sends}
use Rattle.answer_sizes.proofs.ScannerRequests.{IsShortRequest, registration_short, requesting_short}
use Rattle.scanner_table.specs.Lemmas.SlotEventLemmas.{slots_hold}

-- ---- answers of effects

abbrev NextSmall : Next → Type 0
NextSmall next = IsSmall next.0

effect_small : (effect : Effect) (datagrams : List OutgoingDatagram) → SendsRequests 64 effect → Few 64 IsShortDatagram datagrams → IsSmall (sent_answer effect datagrams)
effect_small effect datagrams few_requests few =
    both_small (map sent_frame effect.sent) datagrams Done effect.notices (few_mapped 64 IsShortRequest IsShortFrame sent_frame (λ request short. short) effect.sent few_requests) few

done_small : (effect : Effect) → SendsRequests 64 effect → IsSmall (done effect).0
done_small effect few_requests = effect_small effect [] few_requests (few_none 64 IsShortDatagram)

once_small : (effect : Effect) → SendsRequests 1 effect → IsSmall (done effect).0
once_small effect few_requests = done_small effect (few_most 64 1 IsShortRequest effect.sent (omega arith) few_requests)

-- ---- streams and messages

opened_small : (t : ScannerTable) (number : ℕ) (target : Node) → AnswersSmall (stream_opened t number target)
unfolding stream_opened
opened_small t number target =
    either (AnswersSmall {T = ScannerTable}) (is_taken t.streams number target) (Err fault.NotAllowedNow) (Ok (done (registering_on t number target))) tt (once_small (registering_on t number target) (few_one 1 IsShortRequest _ (omega arith) (registration_short number)))

-- explicit requests that end send nothing
lost_sends : (stream : ℕ) (effect : Effect) → SendsRequests 64 effect → SendsRequests 64 (and_then effect (explicit_lost stream))
unfolding explicit_lost
lost_sends stream effect few = subst (Few 64 IsShortRequest) (sym (append-nil effect.sent)) few

timed_out_sends : (effect : Effect) → SendsRequests 64 effect → SendsRequests 64 (and_then effect explicit_timed_out)
unfolding explicit_timed_out
timed_out_sends effect few = subst (Few 64 IsShortRequest) (sym (append-nil effect.sent)) few

cuts_small : (t : ScannerTable) (found : Option TargetStream) → AnswersSmall (cut_of t found)
cuts_small t None = tt
cuts_small t (Some stream) =
    let now = without_stream t stream.number in
    let quiet = lost_quiet stream.peer now in
    done_small (stream_lost t stream) (lost_sends stream.number (target_lost stream.peer now) (subst (Few 64 IsShortRequest) (sym quiet.silent) (few_none 64 IsShortRequest)))

cut_small : (t : ScannerTable) (number : ℕ) → AnswersSmall (stream_cut t number)
unfolding stream_cut
cut_small t number = cuts_small t (find (is_stream number) t.streams)

registered_sends : (t : ScannerTable) (stream : TargetStream) (m : MessageFields) → profile_fault t.profile ≡ None → SendsRequests 64 (registered t stream m)
registered_sends t stream m none =
    either (SendsRequests 64) (is_registered m) (session_begun t stream m.session) (session_failed t stream) (target_sends stream.peer (with_stage t stream.number (Up m.session)) none) (few_none 64 IsShortRequest)

replied_small : (t : ScannerTable) (indexed : IndexedSlot) (m : MessageFields) (state : SlotState) → HasShortRequests indexed → IsSmall (replied t indexed m state).0
replied_small t indexed m (Opening o) few = once_small (answered t indexed o (open_answer (is_large indexed.config) m)) (answered_sends t indexed o (open_answer (is_large indexed.config) m) few)
replied_small t indexed m (Closing c) few = once_small (closed t indexed) (ended_sends t indexed few)
replied_small t indexed m other few = plain_small Ignored

awaited_small : (t : ScannerTable) (m : MessageFields) (found : Option IndexedSlot) → IfSome found HasShortRequests → IsSmall (replied_to t m found).0
awaited_small t m None few = plain_small Ignored
awaited_small t m (Some indexed) few = replied_small t indexed m indexed.slot.state few

-- the session on a stream ends, and a new one is registered
renewed_sends : (t : ScannerTable) (stream : TargetStream) → SendsRequests 64 (session_renewed stream t)
renewed_sends t stream =
    let quiet = lost_quiet stream.peer (with_stage t stream.number Waiting) in
    lost_sends stream.number (and_then (registering_again t stream) (target_lost stream.peer)) (subst (λ (l : List Sent). Few 64 IsShortRequest (registration stream.number ∷ l)) (sym quiet.silent) (few_one 64 IsShortRequest _ (omega arith) (registration_short stream.number)))

unserved_sends : (t : ScannerTable) (stream : TargetStream) (indexed : IndexedSlot) (status : ℕ) (state : SlotState) → SendsRequests 64 (and_then (unserved_state status t indexed state) (session_renewed stream))
unserved_sends t stream indexed status (Opening o) = renewed_sends (refused t indexed (reason.Encap status)).table stream
unserved_sends t stream indexed status other = renewed_sends t stream

unserved_small : (t : ScannerTable) (stream : TargetStream) (m : MessageFields) (found : Option IndexedSlot) → IsSmall (unserved_at t stream m found).0
unserved_small t stream m None = plain_small Ignored
unserved_small t stream m (Some indexed) = done_small (and_then (unserved m.status t indexed) (session_renewed stream)) (unserved_sends t stream indexed m.status indexed.slot.state)

reported_small : (t : ScannerTable) (stream : TargetStream) (m : MessageFields) (stage : Stage) → profile_fault t.profile ≡ None → IsSmall (reported t stream m stage).0
reported_small t stream m Waiting none = either NextSmall (m.context == 0) (done (registered t stream m)) (ignored t) (done_small (registered t stream m) (registered_sends t stream m none)) (plain_small Ignored)
reported_small t stream m (Up handle) none =
    let found = find (is_awaiting stream.peer m.context) (indexed_slots t) in
    either NextSmall (ends_session t m) (unserved_at t stream m found) (replied_to t m found) (unserved_small t stream m found)
    (awaited_small t m found (each_found HasShortRequests (is_awaiting stream.peer m.context) (indexed_slots t) (few_slots t none).each))
reported_small t stream m Unused none = plain_small Ignored

explicit_answered_small : (t : ScannerTable) (pending : PendingExplicit) (reply : Result RouterReplyFields Unanswered) → IsSmall (explicit_answered t pending reply).0
explicit_answered_small t pending (Ok reply) = plain_small (replied_verdict pending reply)
explicit_answered_small t pending (Err why) =
    done_small (record { sent = []; notices = unanswered_notice why pending ∷ []; table = without_explicit t pending }) (few_none 64 IsShortRequest)

judged_small : (t : ScannerTable) (stream : TargetStream) (m : MessageFields) (found : Option PendingExplicit) → profile_fault t.profile ≡ None → IsSmall (message_answer t stream m found).0
judged_small t stream m None none = reported_small t stream m stream.stage none
judged_small t stream m (Some pending) none =
    either NextSmall (ends_session t m) (done (session_renewed stream t)) (explicit_answered t pending (explicit_reply pending.service m)) (done_small (session_renewed stream t) (renewed_sends t stream))
    (explicit_answered_small t pending (explicit_reply pending.service m))

message_small : (t : ScannerTable) (stream : TargetStream) (reading : Result MessageFields EncapFault) → profile_fault t.profile ≡ None → IsSmall (frame_answer t stream reading).0
message_small t stream (Err why) none = plain_small BadFrame
message_small t stream (Ok m) none = judged_small t stream m (find (awaits stream.number m.context) t.explicit) none

found_small : (t : ScannerTable) (bytes : List ℕ) (found : Option TargetStream) → profile_fault t.profile ≡ None → AnswersSmall (frame_of t bytes found)
found_small t bytes None none = tt
found_small t bytes (Some stream) none = message_small t stream (message_reading bytes) none

frame_small : (t : ScannerTable) (number : ℕ) (bytes : List ℕ) → profile_fault t.profile ≡ None → AnswersSmall (frame t number bytes)
unfolding frame
frame_small t number bytes none = found_small t bytes (find (is_stream number) t.streams) none

-- ---- explicit requests

sized_short : (bytes : List ℕ) → has_explicit_length bytes ≡ true → length bytes ≤ 504
sized_short bytes is = leb-true (length bytes) 504 (and_parts (nat_le 2 (length bytes)) (nat_le (length bytes) 504) is).1

within_small : (t : ScannerTable) (number : ℕ) (bytes : List ℕ) (session : Option Session) → length bytes ≤ 504 → AnswersSmall (explicit_within t number bytes session)
within_small t number bytes None few = tt
within_small t number bytes (Some session) few =
    either (AnswersSmall {T = ScannerTable}) (is_barred t number bytes) (Err fault.NotAllowedNow) (Ok (done (explicit_sent t session number bytes))) tt
    (once_small (explicit_sent t session number bytes) (few_one 1 IsShortRequest _ (omega arith) (requesting_short session t.next_request bytes few)))

sized_step : (b : Bool) (t : ScannerTable) (target : Node) (number : ℕ) (bytes : List ℕ) → has_explicit_length bytes ≡ b → AnswersSmall (cond b (explicit_within t number bytes (session_with t target)) (Err fault.WrongLength))
sized_step true t target number bytes is = within_small t number bytes (session_with t target) (sized_short bytes is)
sized_step false t target number bytes is = tt

explicit_small : (t : ScannerTable) (target : Node) (number : ℕ) (bytes : List ℕ) → AnswersSmall (explicit_request t target number bytes)
unfolding explicit_request
explicit_small t target number bytes =
    either (AnswersSmall {T = ScannerTable}) (list_any (connects_to target) t.profile.slots) (explicit_sized t target number bytes) (Err fault.NoSuchSlot)
    (sized_step (has_explicit_length bytes) t target number bytes refl) tt

-- ---- starts and stops

state_started : (t : ScannerTable) (indexed : IndexedSlot) (state : SlotState) → HasShortRequests indexed → AnswersSmall (start_state t indexed state)
state_started t indexed Idle few =
    let slot = desired_slot t indexed.slot in
    either (AnswersSmall {T = ScannerTable}) indexed.slot.desired_up (Err fault.NotAllowedNow) (Ok (done (started t indexed slot))) tt (once_small (started t indexed slot) (opened_sends (with_slot t indexed.number slot) (record indexed { slot = slot }) few))
state_started t indexed other few = tt

resigned_small : (t : ScannerTable) (indexed : IndexedSlot) → AnswersSmall (stop_of (stopped_desire t indexed))
resigned_small t indexed = either (λ said. AnswersSmall (stop_of said)) indexed.slot.desired_up (Ok (slot_resigned t indexed)) (Err fault.NotAllowedNow) (done_small (slot_resigned t indexed) (few_none 64 IsShortRequest)) tt

state_stopped : (t : ScannerTable) (indexed : IndexedSlot) (state : SlotState) → HasShortRequests indexed → AnswersSmall (stop_of (stopped t indexed state))
state_stopped t indexed Idle few = resigned_small t indexed
state_stopped t indexed (Opening o) few = once_small (dropped t indexed (requested_link o.requested)) (dropped_sends t indexed (requested_link o.requested) few)
state_stopped t indexed (Established c) few = once_small (closed_within t indexed c.link (session_with t indexed.config.target)) (closed_sends t indexed c.link (session_with t indexed.config.target) few)
state_stopped t indexed (TimedOut link) few = once_small (dropped t indexed link) (dropped_sends t indexed link few)
state_stopped t indexed (Closing c) few = resigned_small t indexed

-- the slot that the lookup found has short requests
found_sends : (t : ScannerTable) (number : ℕ) → profile_fault t.profile ≡ None → IfSome (slot_at t number) HasShortRequests
found_sends t number none = each_found HasShortRequests (is_numbered number) (indexed_slots t) (few_slots t none).each

starts_small : (t : ScannerTable) (found : Option IndexedSlot) → IfSome found HasShortRequests → AnswersSmall (start_at t found)
starts_small t None few = tt
starts_small t (Some indexed) few = state_started t indexed indexed.slot.state few

start_small : (t : ScannerTable) (number : ℕ) → profile_fault t.profile ≡ None → AnswersSmall (start t number)
unfolding start
start_small t number none = starts_small t (slot_at t number) (found_sends t number none)

stops_small : (t : ScannerTable) (found : Option IndexedSlot) → IfSome found HasShortRequests → AnswersSmall (stop_of (stopped_at t found))
stops_small t None few = tt
stops_small t (Some indexed) few = state_stopped t indexed indexed.slot.state few

stop_small : (t : ScannerTable) (number : ℕ) → profile_fault t.profile ≡ None → AnswersSmall (stop t number)
unfolding stop
stop_small t number none = stops_small t (slot_at t number) (found_sends t number none)

-- ---- a tick

-- the part of a tick before its productions keeps a table whole
abbrev pub AdvancesWhole : Type 0
AdvancesWhole = (t : ScannerTable) (ms : ℕ) → t.clock.0 + ms ≤ 2 ^ 48 → IsWellFormed t → IsWellFormed (advanced (clocked_table t ms)).table

within : (n : ℕ) → nat_lt clock_end n ≡ false → n ≤ 2 ^ 48
within n is = grind (arith, nat_tests)

-- the same productions are due
timed_out_due : (t : ScannerTable) → Few 64 IsShortDatagram (map sent (due_productions t)) → Few 64 IsShortDatagram (map sent (due_productions (explicit_timed_out t).table))
unfolding explicit_timed_out
timed_out_due t few = few

tick_step : (a b : Bool) → AdvancesWhole → (t : ScannerTable) (ms : ℕ) → nat_lt clock_end (t.clock.0 + ms) ≡ b → IsWellFormed t → AnswersSmall (cond a (Err fault.TickTooLong) (cond b (Err fault.ClockEnd) (Ok (ticked (moved_on (clocked_table t ms))))))
tick_step true b advance t ms is whole = tt
tick_step false true advance t ms is whole = tt
tick_step false false advance t ms is whole =
    let effect = advanced (clocked_table t ms) in
    let moved = moved_on (clocked_table t ms) in
    effect_small moved (map sent (due_productions moved.table)) (timed_out_sends effect (advanced_sends (clocked_table t ms) whole.faultless))
    (timed_out_due effect.table (due_few effect.table (advance t ms (within (t.clock.0 + ms) is) whole)))

tick_small : AdvancesWhole → (t : ScannerTable) (ms : ℕ) → IsWellFormed t → AnswersSmall (tick t ms)
unfolding tick
tick_small advance t ms whole = tick_step (nat_lt longest_tick ms) (nat_lt clock_end (t.clock.0 + ms)) advance t ms refl whole

-- ---- the step

pub scanner_small : AdvancesWhole → (t : ScannerTable) (happens : Event) → IsWellFormed t → AnswersSmall (scanner_step t happens)
scanner_small advance t (event.StreamOpened stream peer) whole = opened_small t stream peer
scanner_small advance t (event.Frame stream bytes) whole = frame_small t stream bytes whole.faultless
scanner_small advance t (event.StreamCut stream) whole = cut_small t stream
scanner_small advance t (event.Tick ms) whole = tick_small advance t ms whole
scanner_small advance t (event.Start slot) whole = start_small t slot whole.faultless
scanner_small advance t (event.Stop slot) whole = stop_small t slot whole.faultless
scanner_small advance t (event.Explicit target number bytes) whole = explicit_small t target number bytes
scanner_small advance t other whole = slots_hold (λ said. AnswersSmall said) t (λ why. tt) (λ verdict u of. plain_small verdict) other refl
