-- A step of a scanner keeps what holds of its slots, and it sends only ids of its connections and ids that it requests.
use Rattle.std.proofs.Common.{◌≡◌, ◌≤◌, ℕ, ◌+◌, ◌==◌, ◌&&◌, nat_lt, Bool, true, false, cond, List, [], ◌∷◌, length, map, filter, find, slice_get, Option, Some, None, Result, Ok, Err, refl, sym, subst, arith, eqb-true}
use Rattle.std.specs.List.{AllByRecursion, Contains}
use Rattle.std.proofs.lemmas.List.Elements.{Contains-append_left, Contains-append_right, Contains-push}
use Rattle.std.specs.Option.{IfSome}
use Rattle.std.proofs.lemmas.Bool.{and_parts}
use Rattle.base_lemmas.specs.Lists.{found_passes}
use Rattle.cip_types.specs.declared.names.Ms.{Ms}
use Rattle.cip_types.specs.declared.names.Node.{Node}
use Rattle.cip_datagram.specs.declared.datagram.DatagramFault.{DatagramFault}
use Rattle.cip_datagram.specs.Datagram.{DatagramFields}
use Rattle.cip_datagram.specs.Reading.{datagram_reading}
use Rattle.cip_encap.specs.declared.message.EncapFault.{EncapFault}
use Rattle.cip_encap.specs.Message.{MessageFields, message_text}
use Rattle.cip_encap.specs.AnyItems.{any_packet_reading}
use Rattle.cip_encap.specs.Reading.{message_reading}
use Rattle.cip_encap.specs.ReadsBack.{ItemsReadBack}
use Rattle.cip_events.specs.declared.event.Event.{Event}
use Rattle.cip_events.specs.declared.event.Event.TheVariants as event
use Rattle.cip_events.specs.declared.event.Reason.{Reason}
use Rattle.cip_events.specs.declared.event.StepFault.{StepFault}
use Rattle.cip_events.specs.declared.event.StepFault.TheVariants as fault
use Rattle.cip_events.specs.Clock.{longest_tick, clock_end}
use Rattle.cip_fwdopen.specs.Open.{open_text}
use Rattle.cip_fwdopen.specs.Close.{close_text}
use Rattle.cip_fwdopen.specs.declared.reply.OpenAnswer.{OpenAnswer}
use Rattle.cip_fwdopen.specs.declared.reply.OpenAnswer.TheVariants as answer
use Rattle.cip_productions.specs.Acceptance.{is_duplicate}
use Rattle.cip_productions.specs.Kinds.{is_owner}
use Rattle.cip_productions.specs.Productions.{Produced, sent}
use Rattle.scanner_table.specs.declared.profile.SlotConfig.{SlotConfig}
use Rattle.conn_state.specs.declared.names.Link.{Link}
use Rattle.scanner_table.specs.declared.slot.SlotConnection.{SlotConnection}
use Rattle.scanner_table.specs.declared.slot.Slot.{Slot}
use Rattle.scanner_table.specs.declared.slot.SlotState.{SlotState}
use Rattle.scanner_table.specs.declared.slot.SlotState.TheVariants.{Idle, Opening, Established, TimedOut, Closing}
use Rattle.scanner_table.specs.declared.table.ScannerTable.{ScannerTable}
use Rattle.scanner_table.specs.declared.table.Session.{Session}
use Rattle.cip_events.specs.declared.event.Reason.TheVariants as reason
use Rattle.cip_events.specs.declared.event.Notice.TheVariants as notice
use Rattle.scanner_table.specs.declared.table.Stage.{Stage}
use Rattle.scanner_table.specs.declared.table.Stage.TheVariants.{Waiting, Up, Unused}
use Rattle.scanner_table.specs.declared.table.TargetStream.{TargetStream}
use Rattle.cip_fwdopen.specs.Services.{open_service}
use Rattle.scanner_table.specs.Requests.{Request, registering, opening, closing, requesting, Sent, is_large, manager_text, sent_message, sent_frame}
use Rattle.scanner_table.specs.Closing.{requested_link, idle_slot, target_lost, reopened, closed, left_slot, slot_resigned, closed_within, dropped, stopped, stopped_at}
use Rattle.scanner_table.specs.Datagrams.{accepts_at, is_for, accepted_connection, accepted_table, delivered, accepted, sized, connected, state_received, received_at, received_as, received}
use Rattle.scanner_table.specs.Effects.{Next, Effect, nothing, and_then, changed, done}
use Rattle.scanner_table.specs.Explicit.{awaits, explicit_sent, explicit_request, explicit_timed_out, explicit_lost}
use Rattle.scanner_table.specs.Encapsulation.{registering_on, stream_opened, stream_lost, cut_of, stream_cut, is_registered, session_begun, session_failed, registered, ends_session, registering_again, session_renewed, unserved_state, unserved, unserved_at, ignored, waits_for, is_awaiting, replied, replied_to, reported, frame_answer, frame_of, frame}
use Rattle.scanner_table.specs.Opening.{opened, resigned}
use Rattle.scanner_table.specs.Points.{write_length, write_at, write, output_written, output_slot, same_mode, moded_slot, moded_table, mode, desired_slot, started, start_state, start_at, start, stop_of, stop}
use Rattle.scanner_table.specs.Productions.{written_state, state_production, slot_production, state_is_due, is_due, by_due, due_slots, due_productions, produced_state, produced_slot, produced_table}
use Rattle.scanner_table.specs.Replies.{failed_slot, refused, open_answer, answered}
use Rattle.scanner_table.specs.Sessions.{is_stream, is_taken, without_stream, with_stage, session_with}
use Rattle.scanner_table.specs.Slots.{IndexedSlot, indexed_slots, is_numbered, slot_at, is_with, with_slot}
use Rattle.scanner_table.specs.Step.{scanner_step}
use Rattle.scanner_table.specs.Ticks.{clocked_table, advanced, moved_on, ticked, tick}
use Rattle.answer_sizes.specs.Sizes.{IsShortFrame, IsSmall}
use Rattle.device_laws.specs.Ids.{PacketIds, HasFrameIds, HasDatagramId, AnswerIds}
use Rattle.device_laws.specs.Lemmas.ExplicitRequests.{explicit_ids, explicit_some, explicit_holds, message_ends}
use Rattle.device_laws.specs.Lemmas.Lists.{all_both, all_filtered, all_found, all_made, all_mapped, all_ordered}
use Rattle.device_laws.specs.Lemmas.Texts.{either, Cuts, message_ids, packet_ids, datagram_id}
use Rattle.device_laws.specs.Lemmas.Payloads.{request_ids, close_request_ids}
use Rattle.device_laws.specs.Lemmas.AdapterIds.{plain_protocol, few_bytes}
use Rattle.device_laws.specs.Lemmas.Slots.{Counts, OfSlots, SlotHolds, SlotsHold, IsSlotOf, all_slots, with_slot_holds, mapped_indexed, mapped_slots, Kept, RequestId, SentId, RequestIdsHold, EffectHolds, same_counts, changed_counts, changed_holds, both_hold, closing_holds, left_holds, opened_holds, target_holds, lost_holds, advanced_holds, SaysSo, answered_holds}
use Rattle.scanner_table.specs.Lemmas.Moves.{link_in}
use Rattle.scanner_table.specs.Lemmas.PassiveLemmas.{passive_holds}
use Rattle.scanner_table.specs.Lemmas.SlotEventLemmas.{ids_hold}

-- ---- requests that are sent

request_packet : ItemsReadBack → (P : ℕ → Type 0) → Cuts P → (request : Sent) (requested_ids : Request) → request.request ≡ requested_ids → RequestId P requested_ids → length (message_text (sent_message request)) ≤ 2048 → PacketIds P (any_packet_reading (sent_message request).payload)
request_packet back P cuts request registering is holds short = rw is (subst (PacketIds P) (sym plain_protocol) tt)
request_packet back P cuts request (opening large fields) is holds short =
    let body = manager_text (open_service large) (open_text large fields) in
    rw is (packet_ids back P body None (omega arith) (few_bytes (sent_message request) body None (rw is refl) short) (request_ids P large fields (cuts _ holds)))
request_packet back P cuts request (closing fields) is holds short =
    let body = manager_text 0x4E (close_text fields) in
    rw is (packet_ids back P body None (omega arith) (few_bytes (sent_message request) body None (rw is refl) short) (close_request_ids P (close_text fields)))
request_packet back P cuts request (requesting bytes) is explicit short =
    rw is (packet_ids back P bytes None (explicit_some bytes explicit) (few_bytes (sent_message request) bytes None (rw is refl) short) (explicit_ids P bytes explicit))

requests_hold : ItemsReadBack → (P : ℕ → Type 0) → Cuts P → (requests : List Sent) → AllByRecursion (SentId P) requests → AllByRecursion IsShortFrame (map sent_frame requests) → AllByRecursion (HasFrameIds P) (map sent_frame requests)
requests_hold back P cuts [] holds short = tt
requests_hold back P cuts (request ∷ requests) holds short =
    (message_ids P (sent_message request) (request_packet back P cuts request request.request refl holds.0 short.0), requests_hold back P cuts requests holds.1 short.1)

-- ---- answers

-- an answer and the next table, if the counter stays within the limit and the answer is small
abbrev pub NextHolds : OfSlots → (ℕ → Type 0) → ℕ → Next → Type 0
NextHolds G P to next = next.1.next_id ≤ to → IsSmall next.0 → AnswerIds P next.0 × SlotsHold G next.1

abbrev pub OkHolds : OfSlots → (ℕ → Type 0) → ℕ → Result Next StepFault → Type 0
OkHolds G P to (Ok next) = NextHolds G P to next
OkHolds G P to (Err why) = Unit {0}

done_holds : ItemsReadBack → (G : OfSlots) (P : ℕ → Type 0) → Cuts P → (to : ℕ) (effect : Effect) → (effect.table.next_id ≤ to → EffectHolds G P effect) → NextHolds G P to (done effect)
done_holds back G P cuts to effect holds = λ below small.
    let h = holds below in
    (record { frames = requests_hold back P cuts effect.sent h.sent small.short_frames; datagrams = tt }, h.slots)

-- ---- replies

-- where a message comes from
record ComesBy (t : ScannerTable) (happens : Event) (stream : TargetStream) (m : MessageFields) : Type 0 where
  number : ℕ
  bytes : List ℕ
  is : happens ≡ event.Frame number bytes
  found : find (is_stream number) t.streams ≡ Some stream
  reads : message_reading bytes ≡ Ok m

says_so : (t : ScannerTable) (happens : Event) (stream : TargetStream) (m : MessageFields) (large : Bool) (target : Node) (request : ℕ) (says : Result OpenAnswer Reason) → open_answer large m ≡ says → ComesBy t happens stream m → stream.peer.0 ≡ target.0 → m.context ≡ request → SaysSo t happens target request says
says_so t happens stream m large target request (Err why) is by peer context = tt
says_so t happens stream m large target request (Ok (answer.Refused r)) is by peer context = tt
says_so t happens stream m large target request (Ok (answer.Opened success)) is by peer context =
    record { stream = by.number; bytes = by.bytes; is = by.is; over = stream; found = by.found; peer = peer; message = m; reads = by.reads; context = context; large = large; success_is = is }

reply_holds : ItemsReadBack → (G : OfSlots) (P : ℕ → Type 0) → Cuts P → (to : ℕ) (t : ScannerTable) (happens : Event) → Kept G t to happens → RequestIdsHold P t to → (stream : TargetStream) (m : MessageFields) (indexed : IndexedSlot) (state : SlotState) → indexed.slot.state ≡ state → Contains (indexed_slots t) indexed → ComesBy t happens stream m → SlotsHold G t → slice_get t.profile.slots indexed.number ≡ Some indexed.config → G indexed.number indexed.config state → (is_with stream.peer indexed && waits_for m.context state) ≡ true → NextHolds G P to (replied t indexed m state)
reply_holds back G P cuts to t happens kept requested_ids stream m indexed (Opening o) is among by slots there waits awaits =
    let parts = and_parts (is_with stream.peer indexed) (o.request == m.context) awaits in
    let peer : stream.peer.0 ≡ indexed.config.target.0 = sym (eqb-true indexed.config.target.0 stream.peer.0 parts.0) in
    let context : m.context ≡ o.request = sym (eqb-true o.request m.context parts.1) in
    let says = open_answer (is_large indexed.config) m in
    done_holds back G P cuts to (answered t indexed o (open_answer (is_large indexed.config) m))
    (λ below. answered_holds G P t to happens kept indexed o says (record { indexed = indexed; there = among; number_is = refl; config_is = refl; state = is }) (says_so t happens stream m (is_large indexed.config) indexed.config.target o.request says refl by peer context) slots there waits)
reply_holds back G P cuts to t happens kept requested_ids stream m indexed (Closing c) is among by slots there waits awaits =
    done_holds back G P cuts to (closed t indexed)
    (λ below.
    let slot = idle_slot indexed.slot in
    let u = with_slot t indexed.number slot in
    let now : IndexedSlot = record indexed { slot = slot } in
    let one = changed_holds G P t t indexed slot [] (same_counts t) there (kept.rests indexed.number indexed.config) slots in
    both_hold G P (changed t indexed slot []) (reopened now u) one
    (either (λ (e : Effect). e.table.next_id ≤ to → EffectHolds G P e) indexed.slot.desired_up (opened u now) (nothing u)
    (λ under. opened_holds G P t to happens kept requested_ids u now (changed_counts t indexed slot) under one.slots (record { there = there; holds = kept.rests indexed.number indexed.config }))
    (λ under. record { slots = one.slots; sent = tt }) below))
reply_holds back G P cuts to t happens kept requested_ids stream m indexed Idle is among by slots there waits awaits = λ below small. (record { frames = tt; datagrams = tt }, slots)
reply_holds back G P cuts to t happens kept requested_ids stream m indexed (Established c) is among by slots there waits awaits = λ below small. (record { frames = tt; datagrams = tt }, slots)
reply_holds back G P cuts to t happens kept requested_ids stream m indexed (TimedOut link) is among by slots there waits awaits = λ below small. (record { frames = tt; datagrams = tt }, slots)

here : {X : Type 0} (x : X) (xs : List X) → Contains (x ∷ xs) x
here x xs = Contains-append_left (x ∷ []) xs x (Contains-push [] x)

later : {X : Type 0} (first x : X) (xs : List X) → Contains xs x → Contains (first ∷ xs) x
later first x xs there = Contains-append_right (first ∷ []) xs x there

among_step : (b : Bool) (first found : IndexedSlot) (rest : Option IndexedSlot) (xs : List IndexedSlot) → cond b (Some first) rest ≡ Some found → (rest ≡ Some found → Contains xs found) → Contains (first ∷ xs) found
among_step true first found rest xs is more = let same : first ≡ found = cc in subst (λ (x : IndexedSlot). Contains (x ∷ xs) found) (sym same) (here found xs)
among_step false first found rest xs is more = later first found xs (more is)

found_among : (p : IndexedSlot → Bool) (xs : List IndexedSlot) (found : IndexedSlot) → find p xs ≡ Some found → Contains xs found
found_among p [] found is = absurd cc
found_among p (x ∷ xs) found is = among_step (p x) x found (find p xs) xs is (λ after. found_among p xs found after)

-- a slot that a lookup found is one of the scanner's
found_slot : (G : OfSlots) (t : ScannerTable) (p : IndexedSlot → Bool) → SlotsHold G t → IfSome (find p (indexed_slots t)) (IsSlotOf G t.profile.slots)
found_slot G t p slots = all_found (IsSlotOf G t.profile.slots) p (indexed_slots t) (all_slots G t slots)

awaited_holds : ItemsReadBack → (G : OfSlots) (P : ℕ → Type 0) → Cuts P → (to : ℕ) (t : ScannerTable) (happens : Event) → Kept G t to happens → RequestIdsHold P t to → (stream : TargetStream) (m : MessageFields) (found : Option IndexedSlot) → find (is_awaiting stream.peer m.context) (indexed_slots t) ≡ found → IfSome found (IsSlotOf G t.profile.slots) → ComesBy t happens stream m → SlotsHold G t → NextHolds G P to (replied_to t m found)
awaited_holds back G P cuts to t happens kept requested_ids stream m None is is_slot by slots = λ below small. (record { frames = tt; datagrams = tt }, slots)
awaited_holds back G P cuts to t happens kept requested_ids stream m (Some indexed) is is_slot by slots =
    reply_holds back G P cuts to t happens kept requested_ids stream m indexed indexed.slot.state refl (found_among (is_awaiting stream.peer m.context) (indexed_slots t) indexed is) by slots is_slot.there is_slot.holds (found_passes (is_awaiting stream.peer m.context) (indexed_slots t) indexed is)

registered_holds : ItemsReadBack → (G : OfSlots) (P : ℕ → Type 0) → Cuts P → (to : ℕ) (t : ScannerTable) (happens : Event) → Kept G t to happens → RequestIdsHold P t to → (stream : TargetStream) (m : MessageFields) → SlotsHold G t → NextHolds G P to (done (registered t stream m))
registered_holds back G P cuts to t happens kept requested_ids stream m slots =
    done_holds back G P cuts to (registered t stream m)
    (either (λ (e : Effect). e.table.next_id ≤ to → EffectHolds G P e) (is_registered m) (session_begun t stream m.session) (session_failed t stream)
    (λ below. target_holds G P t to happens kept requested_ids stream.peer (with_stage t stream.number (Up m.session)) (record { profile = refl; blocks = refl; ids = omega arith; requests = omega arith }) below slots)
    (λ below. record { slots = slots; sent = tt }))

-- an effect behind another one, which keeps slots and sends nothing
silent_after : (G : OfSlots) (P : ℕ → Type 0) (first : Effect) (next : ScannerTable → Effect) → ((now : ScannerTable) → SlotsHold G now → EffectHolds G P (next now)) → EffectHolds G P first → EffectHolds G P (and_then first next)
silent_after G P first next keeps holds =
    let more = keeps first.table holds.slots in
    record { slots = more.slots; sent = all_both (SentId P) first.sent (next first.table).sent holds.sent more.sent }

ended_holds : (G : OfSlots) (P : ℕ → Type 0) (stream : ℕ) (now : ScannerTable) → SlotsHold G now → EffectHolds G P (explicit_lost stream now)
unfolding explicit_lost
ended_holds G P stream now slots = record { slots = slots; sent = tt }

ended_below : (stream to : ℕ) (now : ScannerTable) → (explicit_lost stream now).table.next_id ≤ to → now.next_id ≤ to
unfolding explicit_lost
ended_below stream to now below = below

-- the session on a stream ends, and a new one is registered
renewed_holds : (G : OfSlots) (P : ℕ → Type 0) (to : ℕ) (t : ScannerTable) (happens : Event) → Kept G t to happens → (stream : TargetStream) (now : ScannerTable) → Counts t now → (session_renewed stream now).table.next_id ≤ to → SlotsHold G now → EffectHolds G P (session_renewed stream now)
renewed_holds G P to t happens kept stream now counts below slots =
    let staged = with_stage now stream.number Waiting in
    let lost = target_lost stream.peer staged in
    silent_after G P (and_then (registering_again now stream) (target_lost stream.peer)) (explicit_lost stream.number)
    (λ u whole. ended_holds G P stream.number u whole)
    (both_hold G P (registering_again now stream) lost (record { slots = slots; sent = (tt, tt) })
    (lost_holds G P t to happens kept stream.peer staged (record { profile = counts.profile; blocks = counts.blocks; ids = counts.ids; requests = counts.requests }) (ended_below stream.number to lost.table below) slots))

-- behind a slot that is not served
unserved_holds : (G : OfSlots) (P : ℕ → Type 0) (to : ℕ) (t : ScannerTable) (happens : Event) → Kept G t to happens → (stream : TargetStream) (indexed : IndexedSlot) (status : ℕ) (state : SlotState) → slice_get t.profile.slots indexed.number ≡ Some indexed.config → SlotsHold G t → (and_then (unserved_state status t indexed state) (session_renewed stream)).table.next_id ≤ to → EffectHolds G P (and_then (unserved_state status t indexed state) (session_renewed stream))
unserved_holds G P to t happens kept stream indexed status (Opening o) there slots below =
    let slot = failed_slot t Idle indexed.slot in
    let first = refused t indexed (reason.Encap status) in
    let one = changed_holds G P t t indexed slot (notice.Refused indexed.number (reason.Encap status) ∷ []) (same_counts t) there (kept.rests indexed.number indexed.config) slots in
    both_hold G P first (session_renewed stream first.table) one (renewed_holds G P to t happens kept stream first.table (changed_counts t indexed slot) below one.slots)
unserved_holds G P to t happens kept stream indexed status Idle there slots below = both_hold G P (nothing t) (session_renewed stream t) (record { slots = slots; sent = tt }) (renewed_holds G P to t happens kept stream t (same_counts t) below slots)
unserved_holds G P to t happens kept stream indexed status (Established c) there slots below = both_hold G P (nothing t) (session_renewed stream t) (record { slots = slots; sent = tt }) (renewed_holds G P to t happens kept stream t (same_counts t) below slots)
unserved_holds G P to t happens kept stream indexed status (TimedOut link) there slots below = both_hold G P (nothing t) (session_renewed stream t) (record { slots = slots; sent = tt }) (renewed_holds G P to t happens kept stream t (same_counts t) below slots)
unserved_holds G P to t happens kept stream indexed status (Closing c) there slots below = both_hold G P (nothing t) (session_renewed stream t) (record { slots = slots; sent = tt }) (renewed_holds G P to t happens kept stream t (same_counts t) below slots)

unserved_at_holds : ItemsReadBack → (G : OfSlots) (P : ℕ → Type 0) → Cuts P → (to : ℕ) (t : ScannerTable) (happens : Event) → Kept G t to happens → (stream : TargetStream) (m : MessageFields) (found : Option IndexedSlot) → IfSome found (IsSlotOf G t.profile.slots) → SlotsHold G t → NextHolds G P to (unserved_at t stream m found)
unserved_at_holds back G P cuts to t happens kept stream m None is_slot slots = λ below small. (record { frames = tt; datagrams = tt }, slots)
unserved_at_holds back G P cuts to t happens kept stream m (Some indexed) is_slot slots =
    done_holds back G P cuts to (and_then (unserved m.status t indexed) (session_renewed stream)) (λ below. unserved_holds G P to t happens kept stream indexed m.status indexed.slot.state is_slot.there slots below)

reported_holds : ItemsReadBack → (G : OfSlots) (P : ℕ → Type 0) → Cuts P → (to : ℕ) (t : ScannerTable) (happens : Event) → Kept G t to happens → RequestIdsHold P t to → (stream : TargetStream) (m : MessageFields) (stage : Stage) → ComesBy t happens stream m → SlotsHold G t → NextHolds G P to (reported t stream m stage)
reported_holds back G P cuts to t happens kept requested_ids stream m Waiting by slots =
    either (NextHolds G P to) (m.context == 0) (done (registered t stream m)) (ignored t) (registered_holds back G P cuts to t happens kept requested_ids stream m slots) (λ below small. (record { frames = tt; datagrams = tt }, slots))
reported_holds back G P cuts to t happens kept requested_ids stream m (Up handle) by slots =
    let found = find (is_awaiting stream.peer m.context) (indexed_slots t) in
    either (NextHolds G P to) (ends_session t m) (unserved_at t stream m found) (replied_to t m found) (unserved_at_holds back G P cuts to t happens kept stream m found (found_slot G t (is_awaiting stream.peer m.context) slots) slots)
    (awaited_holds back G P cuts to t happens kept requested_ids stream m found refl (found_slot G t (is_awaiting stream.peer m.context) slots) by slots)
reported_holds back G P cuts to t happens kept requested_ids stream m Unused by slots = λ below small. (record { frames = tt; datagrams = tt }, slots)

message_holds : ItemsReadBack → (G : OfSlots) (P : ℕ → Type 0) → Cuts P → (to : ℕ) (t : ScannerTable) (number : ℕ) (bytes : List ℕ) → Kept G t to (event.Frame number bytes) → RequestIdsHold P t to → (stream : TargetStream) (reading : Result MessageFields EncapFault) → message_reading bytes ≡ reading → find (is_stream number) t.streams ≡ Some stream → SlotsHold G t → NextHolds G P to (frame_answer t stream reading)
message_holds back G P cuts to t number bytes kept requested_ids stream (Err why) reads found slots = λ below small. (record { frames = tt; datagrams = tt }, slots)
message_holds back G P cuts to t number bytes kept requested_ids stream (Ok m) reads found slots =
    message_ends (NextHolds G P to) t stream m
    (reported_holds back G P cuts to t (event.Frame number bytes) kept requested_ids stream m stream.stage (record { number = number; bytes = bytes; is = refl; found = found; reads = reads }) slots)
    (done_holds back G P cuts to (session_renewed stream t) (λ below. renewed_holds G P to t (event.Frame number bytes) kept stream t (same_counts t) below slots))
    (λ pending answer silent quiet below small. (record { frames = subst (AllByRecursion (HasFrameIds P)) (sym silent) tt; datagrams = subst (AllByRecursion (HasDatagramId P)) (sym quiet) tt }, slots))
    (find (awaits stream.number m.context) t.explicit)

frame_holds : ItemsReadBack → (G : OfSlots) (P : ℕ → Type 0) → Cuts P → (to : ℕ) (t : ScannerTable) (number : ℕ) (bytes : List ℕ) → Kept G t to (event.Frame number bytes) → RequestIdsHold P t to → (found : Option TargetStream) → find (is_stream number) t.streams ≡ found → SlotsHold G t → OkHolds G P to (frame_of t bytes found)
frame_holds back G P cuts to t number bytes kept requested_ids None is slots = tt
frame_holds back G P cuts to t number bytes kept requested_ids (Some stream) is slots = message_holds back G P cuts to t number bytes kept requested_ids stream (message_reading bytes) refl is slots

timed_out_holds : (G : OfSlots) (P : ℕ → Type 0) (now : ScannerTable) → SlotsHold G now → EffectHolds G P (explicit_timed_out now)
unfolding explicit_timed_out
timed_out_holds G P now slots = record { slots = slots; sent = tt }

timed_out_below : (to : ℕ) (now : ScannerTable) → (explicit_timed_out now).table.next_id ≤ to → now.next_id ≤ to
unfolding explicit_timed_out
timed_out_below to now below = below

cut_holds : ItemsReadBack → (G : OfSlots) (P : ℕ → Type 0) → Cuts P → (to : ℕ) (t : ScannerTable) (happens : Event) → Kept G t to happens → (found : Option TargetStream) → SlotsHold G t → OkHolds G P to (cut_of t found)
cut_holds back G P cuts to t happens kept None slots = tt
cut_holds back G P cuts to t happens kept (Some stream) slots =
    done_holds back G P cuts to (stream_lost t stream)
    (λ below. silent_after G P (target_lost stream.peer (without_stream t stream.number)) (explicit_lost stream.number)
    (λ now whole. ended_holds G P stream.number now whole)
    (lost_holds G P t to happens kept stream.peer (without_stream t stream.number) (record { profile = refl; blocks = refl; ids = omega arith; requests = omega arith }) (ended_below stream.number to (target_lost stream.peer (without_stream t stream.number)).table below) slots))

-- ---- datagrams received

accepted_holds : (G : OfSlots) (to : ℕ) (t : ScannerTable) (happens : Event) → Kept G t to happens → (indexed : IndexedSlot) (d : DatagramFields) (c : SlotConnection) (bytes : List ℕ) → SlotsHold G t → slice_get t.profile.slots indexed.number ≡ Some indexed.config → G indexed.number indexed.config (Established c) → SlotsHold G (accepted_table t indexed d c bytes)
accepted_holds G to t happens kept indexed d c bytes slots there is =
    with_slot_holds G t.profile.slots t indexed (record indexed.slot { state = Established (accepted_connection t.clock d c); image = bytes }) refl there
    (kept.goes_on indexed.number indexed.config c (accepted_connection t.clock d c) refl refl is) slots

connected_holds : (G : OfSlots) (P : ℕ → Type 0) (to : ℕ) (t : ScannerTable) (happens : Event) → Kept G t to happens → (indexed : IndexedSlot) (d : DatagramFields) (c : SlotConnection) → SlotsHold G t → slice_get t.profile.slots indexed.number ≡ Some indexed.config → G indexed.number indexed.config (Established c) → NextHolds G P to (connected t indexed d c)
connected_holds G P to t happens kept indexed d c slots there is =
    either (NextHolds G P to) (length d.payload == indexed.config.in_len) (sized t indexed d c) _
    (either (NextHolds G P to) (accepts_at t indexed c d.sequence) (accepted t indexed d c) _
    (either (NextHolds G P to) (is_duplicate c.last d.count) (delivered _ (accepted_table t indexed d c indexed.slot.image)) (delivered _ (accepted_table t indexed d c d.payload))
    (λ below small. (record { frames = tt; datagrams = tt }, accepted_holds G to t happens kept indexed d c indexed.slot.image slots there is))
    (λ below small. (record { frames = tt; datagrams = tt }, accepted_holds G to t happens kept indexed d c d.payload slots there is)))
    (λ below small. (record { frames = tt; datagrams = tt }, slots)))
    (λ below small. (record { frames = tt; datagrams = tt }, slots))

state_holds : (G : OfSlots) (P : ℕ → Type 0) (to : ℕ) (t : ScannerTable) (happens : Event) → Kept G t to happens → (indexed : IndexedSlot) (d : DatagramFields) (state : SlotState) → SlotsHold G t → slice_get t.profile.slots indexed.number ≡ Some indexed.config → G indexed.number indexed.config state → NextHolds G P to (state_received t indexed d state)
state_holds G P to t happens kept indexed d (Established c) slots there is = connected_holds G P to t happens kept indexed d c slots there is
state_holds G P to t happens kept indexed d Idle slots there is = λ below small. (record { frames = tt; datagrams = tt }, slots)
state_holds G P to t happens kept indexed d (Opening o) slots there is = λ below small. (record { frames = tt; datagrams = tt }, slots)
state_holds G P to t happens kept indexed d (TimedOut link) slots there is = λ below small. (record { frames = tt; datagrams = tt }, slots)
state_holds G P to t happens kept indexed d (Closing c) slots there is = λ below small. (record { frames = tt; datagrams = tt }, slots)

slot_holds : (G : OfSlots) (P : ℕ → Type 0) (to : ℕ) (t : ScannerTable) (happens : Event) → Kept G t to happens → (d : DatagramFields) (found : Option IndexedSlot) → IfSome found (IsSlotOf G t.profile.slots) → SlotsHold G t → NextHolds G P to (received_at t d found)
slot_holds G P to t happens kept d None is_slot slots = λ below small. (record { frames = tt; datagrams = tt }, slots)
slot_holds G P to t happens kept d (Some indexed) is_slot slots = state_holds G P to t happens kept indexed d indexed.slot.state slots is_slot.there is_slot.holds

received_holds : (G : OfSlots) (P : ℕ → Type 0) (to : ℕ) (t : ScannerTable) (happens : Event) → Kept G t to happens → (peer : Node) (reading : Result DatagramFields DatagramFault) → SlotsHold G t → NextHolds G P to (received_as t peer reading)
received_holds G P to t happens kept peer (Err why) slots = λ below small. (record { frames = tt; datagrams = tt }, slots)
received_holds G P to t happens kept peer (Ok d) slots = slot_holds G P to t happens kept d (find (is_for peer d.connection) (indexed_slots t)) (found_slot G t (is_for peer d.connection) slots) slots

-- ---- the application

written_holds : (G : OfSlots) (to : ℕ) (t : ScannerTable) (happens : Event) → Kept G t to happens → (number : ℕ) (config : SlotConfig) (state : SlotState) → G number config state → G number config (written_state state)
written_holds G to t happens kept number config Idle is = is
written_holds G to t happens kept number config (Opening o) is = is
written_holds G to t happens kept number config (Established c) is = kept.goes_on number config c _ refl refl is
written_holds G to t happens kept number config (TimedOut link) is = is
written_holds G to t happens kept number config (Closing c) is = is

write_holds : (G : OfSlots) (P : ℕ → Type 0) (to : ℕ) (t : ScannerTable) (happens : Event) → Kept G t to happens → (bytes : List ℕ) (found : Option IndexedSlot) → IfSome found (IsSlotOf G t.profile.slots) → SlotsHold G t → OkHolds G P to (write_at t bytes found)
write_holds G P to t happens kept bytes None is_slot slots = tt
write_holds G P to t happens kept bytes (Some indexed) is_slot slots =
    either (OkHolds G P to) (is_owner indexed.config.kind) (write_length t indexed bytes) (Err fault.NotAllowedNow)
    (either (OkHolds G P to) (length bytes == indexed.config.out_len) (Ok (output_written t indexed bytes)) (Err fault.WrongLength)
    (λ below small.
    (record { frames = tt; datagrams = tt }, with_slot_holds G t.profile.slots t indexed (output_slot bytes indexed.slot) refl is_slot.there (written_holds G to t happens kept indexed.number indexed.config indexed.slot.state is_slot.holds) slots))
    tt) tt

mode_holds : (G : OfSlots) (P : ℕ → Type 0) (to : ℕ) (t : ScannerTable) (happens : Event) → Kept G t to happens → (run : Bool) → SlotsHold G t → NextHolds G P to (mode t run)
unfolding mode
mode_holds G P to t happens kept run slots = λ below small. (
  record { frames = tt; datagrams = tt },
  either (SlotsHold G) (same_mode run t.run) t (moded_table t run) slots
      (mapped_indexed G moded_slot (λ indexed holds. either (λ (s : Slot). G indexed.number indexed.config s.state) (is_owner indexed.config.kind) _ _ (written_holds G to t happens kept indexed.number indexed.config indexed.slot.state holds) holds) 0 t.profile.slots t.slots slots),
)

state_started : ItemsReadBack → (G : OfSlots) (P : ℕ → Type 0) → Cuts P → (to : ℕ) (t : ScannerTable) (happens : Event) → Kept G t to happens → RequestIdsHold P t to → (indexed : IndexedSlot) (state : SlotState) → IsSlotOf G t.profile.slots indexed → SlotsHold G t → OkHolds G P to (start_state t indexed state)
state_started back G P cuts to t happens kept requested_ids indexed Idle is_slot slots =
    let slot = desired_slot t indexed.slot in
    either (OkHolds G P to) indexed.slot.desired_up (Err fault.NotAllowedNow) (Ok (done (started t indexed (desired_slot t indexed.slot)))) tt
    (done_holds back G P cuts to (started t indexed (desired_slot t indexed.slot))
    (λ below. opened_holds G P t to happens kept requested_ids (with_slot t indexed.number slot) (record indexed { slot = slot }) (changed_counts t indexed slot) below
    (with_slot_holds G t.profile.slots t indexed slot refl is_slot.there is_slot.holds slots) (record { there = is_slot.there; holds = is_slot.holds })))
state_started back G P cuts to t happens kept requested_ids indexed (Opening o) is_slot slots = tt
state_started back G P cuts to t happens kept requested_ids indexed (Established c) is_slot slots = tt
state_started back G P cuts to t happens kept requested_ids indexed (TimedOut link) is_slot slots = tt
state_started back G P cuts to t happens kept requested_ids indexed (Closing c) is_slot slots = tt

start_holds : ItemsReadBack → (G : OfSlots) (P : ℕ → Type 0) → Cuts P → (to : ℕ) (t : ScannerTable) (happens : Event) → Kept G t to happens → RequestIdsHold P t to → (found : Option IndexedSlot) → IfSome found (IsSlotOf G t.profile.slots) → SlotsHold G t → OkHolds G P to (start_at t found)
start_holds back G P cuts to t happens kept requested_ids None is_slot slots = tt
start_holds back G P cuts to t happens kept requested_ids (Some indexed) is_slot slots = state_started back G P cuts to t happens kept requested_ids indexed indexed.slot.state is_slot slots

resigned_holds : ItemsReadBack → (G : OfSlots) (P : ℕ → Type 0) → Cuts P → (to : ℕ) (t : ScannerTable) (happens : Event) → Kept G t to happens → (indexed : IndexedSlot) → IsSlotOf G t.profile.slots indexed → SlotsHold G t → NextHolds G P to (done (slot_resigned t indexed))
resigned_holds back G P cuts to t happens kept indexed is_slot slots =
    done_holds back G P cuts to (slot_resigned t indexed) (λ below. changed_holds G P t t indexed (resigned indexed.slot) [] (same_counts t) is_slot.there (kept.rests indexed.number indexed.config) slots)

closed_holds : ItemsReadBack → (G : OfSlots) (P : ℕ → Type 0) → Cuts P → (to : ℕ) (t : ScannerTable) (happens : Event) → Kept G t to happens → (indexed : IndexedSlot) (link : Link) (session : Option Session) (state : SlotState) → link_in state ≡ Some link → IsSlotOf G t.profile.slots indexed → G indexed.number indexed.config state → SlotsHold G t → NextHolds G P to (done (closed_within t indexed link session))
closed_holds back G P cuts to t happens kept indexed link None state from is_slot is slots =
    done_holds back G P cuts to (closed_within t indexed link None)
    (λ below. changed_holds G P t t indexed (left_slot t link indexed.slot) [] (same_counts t) is_slot.there (left_holds G t to happens kept t indexed link state from is) slots)
closed_holds back G P cuts to t happens kept indexed link (Some session) state from is_slot is slots =
    done_holds back G P cuts to (closed_within t indexed link (Some session))
    (λ below. closing_holds G P t to happens kept t indexed link false session state from is (same_counts t) is_slot.there slots)

dropped_holds : ItemsReadBack → (G : OfSlots) (P : ℕ → Type 0) → Cuts P → (to : ℕ) (t : ScannerTable) (happens : Event) → Kept G t to happens → (indexed : IndexedSlot) (link : Link) (state : SlotState) → link_in state ≡ Some link → IsSlotOf G t.profile.slots indexed → G indexed.number indexed.config state → SlotsHold G t → NextHolds G P to (done (dropped t indexed link))
dropped_holds back G P cuts to t happens kept indexed link state from is_slot is slots =
    either (λ (e : Effect). NextHolds G P to (done e)) t.profile.tidy (closed_within t indexed link (session_with t indexed.config.target)) (slot_resigned t indexed)
    (closed_holds back G P cuts to t happens kept indexed link (session_with t indexed.config.target) state from is_slot is slots) (resigned_holds back G P cuts to t happens kept indexed is_slot slots)

state_stopped : ItemsReadBack → (G : OfSlots) (P : ℕ → Type 0) → Cuts P → (to : ℕ) (t : ScannerTable) (happens : Event) → Kept G t to happens → (indexed : IndexedSlot) (state : SlotState) → IsSlotOf G t.profile.slots indexed → G indexed.number indexed.config state → SlotsHold G t → OkHolds G P to (stop_of (stopped t indexed state))
state_stopped back G P cuts to t happens kept indexed Idle is_slot is slots =
    either (λ said. OkHolds G P to (stop_of said)) indexed.slot.desired_up (Ok (slot_resigned t indexed)) (Err fault.NotAllowedNow) (resigned_holds back G P cuts to t happens kept indexed is_slot slots) tt
state_stopped back G P cuts to t happens kept indexed (Opening o) is_slot is slots = dropped_holds back G P cuts to t happens kept indexed (requested_link o.requested) (Opening o) refl is_slot is slots
state_stopped back G P cuts to t happens kept indexed (Established c) is_slot is slots = closed_holds back G P cuts to t happens kept indexed c.link (session_with t indexed.config.target) (Established c) refl is_slot is slots
state_stopped back G P cuts to t happens kept indexed (TimedOut link) is_slot is slots = dropped_holds back G P cuts to t happens kept indexed link (TimedOut link) refl is_slot is slots
state_stopped back G P cuts to t happens kept indexed (Closing c) is_slot is slots =
    either (λ said. OkHolds G P to (stop_of said)) indexed.slot.desired_up (Ok (slot_resigned t indexed)) (Err fault.NotAllowedNow) (resigned_holds back G P cuts to t happens kept indexed is_slot slots) tt

stop_holds : ItemsReadBack → (G : OfSlots) (P : ℕ → Type 0) → Cuts P → (to : ℕ) (t : ScannerTable) (happens : Event) → Kept G t to happens → (found : Option IndexedSlot) → IfSome found (IsSlotOf G t.profile.slots) → SlotsHold G t → OkHolds G P to (stop_of (stopped_at t found))
stop_holds back G P cuts to t happens kept None is_slot slots = tt
stop_holds back G P cuts to t happens kept (Some indexed) is_slot slots = state_stopped back G P cuts to t happens kept indexed indexed.slot.state is_slot is_slot.holds slots

-- ---- a tick

-- an established connection sends with an id that the step carries
abbrev pub Sends : OfSlots → (ℕ → Type 0) → Type 0
Sends G P = (number : ℕ) (config : SlotConfig) (c : SlotConnection) → G number config (Established c) → P c.link.o_t_id.0

abbrev ProducedHolds : (ℕ → Type 0) → Produced → Type 0
ProducedHolds P production = P production.datagram.connection

produces_hold : (G : OfSlots) (P : ℕ → Type 0) → Sends G P → (run : Bool) (indexed : IndexedSlot) (state : SlotState) → G indexed.number indexed.config state → IfSome (state_production run indexed state) (ProducedHolds P)
produces_hold G P sends run indexed (Established c) is = sends indexed.number indexed.config c is
produces_hold G P sends run indexed Idle is = tt
produces_hold G P sends run indexed (Opening o) is = tt
produces_hold G P sends run indexed (TimedOut link) is = tt
produces_hold G P sends run indexed (Closing c) is = tt

due_hold : (G : OfSlots) (P : ℕ → Type 0) → Cuts P → Sends G P → (t : ScannerTable) → SlotsHold G t → AllByRecursion (HasDatagramId P) (map sent (due_productions t))
due_hold G P cuts sends t slots =
    all_mapped (ProducedHolds P) (HasDatagramId P) sent (λ p id. datagram_id P p.datagram (cuts _ id)) (due_productions t)
    (all_made (SlotHolds G) (ProducedHolds P) (slot_production t.run) (λ indexed holds. produces_hold G P sends t.run indexed indexed.slot.state holds) (due_slots t)
    (all_ordered (SlotHolds G) by_due (filter (is_due t.clock) (indexed_slots t)) (all_filtered (SlotHolds G) (is_due t.clock) (indexed_slots t) slots)))

produced_holds : (G : OfSlots) (to : ℕ) (t : ScannerTable) (happens : Event) → Kept G t to happens → (clock : Ms) (number : ℕ) (config : SlotConfig) (state : SlotState) → G number config state → G number config (produced_state clock state)
produced_holds G to t happens kept clock number config Idle is = is
produced_holds G to t happens kept clock number config (Opening o) is = is
produced_holds G to t happens kept clock number config (Established c) is = kept.goes_on number config c _ refl refl is
produced_holds G to t happens kept clock number config (TimedOut link) is = is
produced_holds G to t happens kept clock number config (Closing c) is = is

table_produced : (G : OfSlots) (to : ℕ) (t : ScannerTable) (happens : Event) → Kept G t to happens → (now : ScannerTable) → SlotsHold G now → SlotsHold G (produced_table now)
unfolding produced_table
table_produced G to t happens kept now slots =
    mapped_slots G (produced_slot now.clock)
    (λ number config slot holds. either (λ (s : Slot). G number config s.state) (state_is_due now.clock slot.state) (record slot { state = produced_state now.clock slot.state }) slot (produced_holds G to t happens kept now.clock number config slot.state holds) holds)
    0 now.profile.slots now.slots slots

ticked_holds : ItemsReadBack → (G : OfSlots) (P : ℕ → Type 0) → Cuts P → Sends G P → (to : ℕ) (t : ScannerTable) (happens : Event) → Kept G t to happens → (effect : Effect) → (effect.table.next_id ≤ to → EffectHolds G P effect) → NextHolds G P to (ticked effect)
unfolding produced_table
ticked_holds back G P cuts sends to t happens kept effect holds = λ below small.
    let h = holds below in
    (record { frames = requests_hold back P cuts effect.sent h.sent small.short_frames; datagrams = due_hold G P cuts sends effect.table h.slots }, table_produced G to t happens kept effect.table h.slots)

tick_holds : ItemsReadBack → (G : OfSlots) (P : ℕ → Type 0) → Cuts P → Sends G P → (to : ℕ) (t : ScannerTable) (happens : Event) → Kept G t to happens → RequestIdsHold P t to → (ms : ℕ) → SlotsHold G t → OkHolds G P to (tick t ms)
unfolding tick
tick_holds back G P cuts sends to t happens kept requested_ids ms slots =
    either (OkHolds G P to) (nat_lt longest_tick ms) (Err fault.TickTooLong) _ tt
    (either (OkHolds G P to) (nat_lt clock_end (t.clock.0 + ms)) (Err fault.ClockEnd) (Ok (ticked (moved_on (clocked_table t ms)))) tt
    (ticked_holds back G P cuts sends to t happens kept (moved_on (clocked_table t ms))
    (λ below. silent_after G P (advanced (clocked_table t ms)) explicit_timed_out (λ now whole. timed_out_holds G P now whole)
    (advanced_holds G P t to happens kept requested_ids (clocked_table t ms) (record { profile = refl; blocks = refl; ids = omega arith; requests = omega arith }) (timed_out_below to (advanced (clocked_table t ms)).table below) slots))))

-- ---- explicit requests

explicit_request_holds : ItemsReadBack → (G : OfSlots) (P : ℕ → Type 0) → Cuts P → (to : ℕ) (t : ScannerTable) (target : Node) (number : ℕ) (bytes : List ℕ) → SlotsHold G t → OkHolds G P to (explicit_request t target number bytes)
explicit_request_holds back G P cuts to t target number bytes slots =
    explicit_holds (OkHolds G P to) t target number bytes (λ why. tt)
    (λ session goes. done_holds back G P cuts to (explicit_sent t session number bytes) (λ below. record { slots = slots; sent = (goes.explicit, tt) }))

-- ---- the step

opens_hold : ItemsReadBack → (G : OfSlots) (P : ℕ → Type 0) → Cuts P → (to : ℕ) (t : ScannerTable) (number : ℕ) (target : Node) → SlotsHold G t → OkHolds G P to (stream_opened t number target)
unfolding stream_opened
opens_hold back G P cuts to t number target slots =
    either (OkHolds G P to) (is_taken t.streams number target) (Err fault.NotAllowedNow) (Ok (done (registering_on t number target))) tt
    (done_holds back G P cuts to (registering_on t number target) (λ below. record { slots = slots; sent = (tt, tt) }))

pub scanner_holds : ItemsReadBack → (G : OfSlots) (P : ℕ → Type 0) → Cuts P → Sends G P → (to : ℕ) (t : ScannerTable) (happens : Event) → Kept G t to happens → RequestIdsHold P t to → SlotsHold G t → OkHolds G P to (scanner_step t happens)
unfolding received frame stream_cut write start stop
scanner_holds back G P cuts sends to t (event.StreamOpened number peer) kept requested_ids slots = opens_hold back G P cuts to t number peer slots
scanner_holds back G P cuts sends to t (event.Frame number bytes) kept requested_ids slots = frame_holds back G P cuts to t number bytes kept requested_ids (find (is_stream number) t.streams) refl slots
scanner_holds back G P cuts sends to t (event.StreamCut number) kept requested_ids slots = cut_holds back G P cuts to t (event.StreamCut number) kept (find (is_stream number) t.streams) slots
scanner_holds back G P cuts sends to t (event.Datagram peer bytes) kept requested_ids slots = received_holds G P to t (event.Datagram peer bytes) kept peer (datagram_reading bytes) slots
scanner_holds back G P cuts sends to t (event.Write point bytes) kept requested_ids slots = write_holds G P to t (event.Write point bytes) kept bytes (slot_at t point) (found_slot G t (is_numbered point) slots) slots
scanner_holds back G P cuts sends to t (event.Tick ms) kept requested_ids slots = tick_holds back G P cuts sends to t (event.Tick ms) kept requested_ids ms slots
scanner_holds back G P cuts sends to t (event.Mode run) kept requested_ids slots = mode_holds G P to t (event.Mode run) kept run slots
scanner_holds back G P cuts sends to t (event.Start number) kept requested_ids slots = start_holds back G P cuts to t (event.Start number) kept requested_ids (slot_at t number) (found_slot G t (is_numbered number) slots) slots
scanner_holds back G P cuts sends to t (event.Stop number) kept requested_ids slots = stop_holds back G P cuts to t (event.Stop number) kept (slot_at t number) (found_slot G t (is_numbered number) slots) slots
scanner_holds back G P cuts sends to t (event.Explicit target number bytes) kept requested_ids slots = explicit_request_holds back G P cuts to t target number bytes slots
scanner_holds back G P cuts sends to t (event.Ids block) kept requested_ids slots = ids_hold (OkHolds G P to) t block (λ why. tt) (λ may below small. (record { frames = tt; datagrams = tt }, slots))
scanner_holds back G P cuts sends to t other kept requested_ids slots = passive_holds (OkHolds G P to) t (λ why. tt) (λ verdict below small. (record { frames = tt; datagrams = tt }, slots)) other refl
