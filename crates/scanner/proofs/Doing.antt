-- The effect of a start or a stop, and the faults of a write.
use Rattle.std.proofs.Common.{◌≡◌, ◌≢◌, ℕ, Bool, true, false, List, [], find, Option, Some, None, Result, Ok, Err, IsOk, refl, sym, ap, subst, ◌∙◌}
use Rattle.std.specs.Prelude.{if◌then◌else◌, not, length, ◌==◌}
use Rattle.cip_events.specs.declared.event.Answer.{Answer}
use Rattle.cip_events.specs.declared.event.StepFault.{StepFault}
use Rattle.cip_events.specs.declared.event.StepFault.TheVariants.{OutOfMemory, TickTooLong, ClockEnd, NoSuchPoint, WrongLength, NoSuchSlot, NotAllowedNow}
use Rattle.cip_events.specs.declared.event.Verdict.TheVariants.{BadFrame}
use Rattle.cip_events.specs.Answers.{plain_answer}
use Rattle.cip_events.specs.Outcomes.{Follows}
use Rattle.cip_productions.specs.Kinds.{is_owner}
use Rattle.scanner_table.specs.declared.slot.SlotState.{SlotState}
use Rattle.scanner_table.specs.declared.slot.SlotState.TheVariants.{Idle, Opening, Established, TimedOut, Closing}
use Rattle.scanner_table.specs.declared.table.ScannerTable.{ScannerTable}
use Rattle.std.specs.List.{list_any}
use Rattle.cip_types.specs.declared.names.Node.{Node}
use Rattle.cip_encap.specs.declared.message.EncapFault.{EncapFault}
use Rattle.cip_encap.specs.Message.{MessageFields}
use Rattle.cip_encap.specs.Reading.{message_reading}
use Rattle.scanner_table.specs.declared.explicit.PendingExplicit.{PendingExplicit}
use Rattle.scanner_table.specs.declared.table.Session.{Session}
use Rattle.scanner_table.specs.Explicit.{awaits, connects_to, explicit_request, explicit_sent, explicit_sized, explicit_within, has_explicit_length, is_barred}
use Rattle.scanner_table.specs.declared.table.TargetStream.{TargetStream}
use Rattle.scanner_table.specs.Closing.{requested_link, stopped, stopped_at, slot_resigned, closed_within, dropped}
use Rattle.scanner_table.specs.Encapsulation.{stream_cut, stream_lost, cut_of, frame, frame_of, frame_answer, message_answer}
use Rattle.scanner_table.specs.Effects.{Next, Effect, done}
use Rattle.scanner_table.specs.Points.{start, start_at, start_state, stop, stop_of, write, write_at, write_length, output_written}
use Rattle.scanner_table.specs.Sessions.{session_with, is_stream}
use Rattle.scanner_table.specs.Slots.{IndexedSlot, slot_at}
use Rattle.scanner_transactions.specs.Transactions.{Progress, begun, followed, at_number, at_found, after_at, freshly_started, progress_answer, Adds}
use Rattle.scanner.specs.Allowed.{can_start}

abbrev pub Said : Type 0
Said = Result Next StepFault

abbrev pub as_ok : Next → Said
as_ok next = Ok next

-- ---- transactions

-- a transaction with one effect is that effect
pub transaction_done : (t : ScannerTable) (effect : Effect) (d : Progress) (answer : Answer) (new : ScannerTable) → d ≡ followed (begun t) effect → answer ≡ progress_answer d [] → new ≡ d.table → done effect ≡ (answer, new)
transaction_done t effect d answer new is reported left = rw (reported, left, is) refl

-- the effect on a slot that the lookup found
followed_slot : (t : ScannerTable) (indexed : IndexedSlot) (number : ℕ) (effect : ScannerTable → IndexedSlot → Effect) → slot_at t number ≡ Some indexed → at_number effect t number ≡ effect t indexed
followed_slot t indexed number effect found = ap (at_found effect t) found

begun_at : (t : ScannerTable) (number : ℕ) (effect : ScannerTable → IndexedSlot → Effect) (first last : Progress) → first ≡ begun t → last ≡ after_at effect number first → last ≡ followed (begun t) (at_number effect t number)
begun_at t number effect first last begins ends = ends ∙ ap (after_at effect number) begins

-- ---- starts

idle_starts : (next : Next) (desired_up : Bool) → not desired_up ≡ true → ◌≡◌ {A = Said} (if desired_up then Err NotAllowedNow else Ok next) (Ok next)
idle_starts next true can = absurd cc
idle_starts next false can = refl

state_starts : (t : ScannerTable) (indexed : IndexedSlot) (state : SlotState) → can_start indexed.slot.desired_up state ≡ true → start_state t indexed state ≡ Ok (done (freshly_started t indexed))
state_starts t indexed Idle can = idle_starts (done (freshly_started t indexed)) indexed.slot.desired_up can
state_starts t indexed (Opening o) can = absurd cc
state_starts t indexed (Established c) can = absurd cc
state_starts t indexed (TimedOut link) can = absurd cc
state_starts t indexed (Closing c) can = absurd cc

starts : (t : ScannerTable) (number : ℕ) (indexed : IndexedSlot) → slot_at t number ≡ Some indexed → can_start indexed.slot.desired_up indexed.slot.state ≡ true → start t number ≡ Ok (done (freshly_started t indexed))
unfolding start
starts t number indexed found can = ap (start_at t) found ∙ state_starts t indexed indexed.slot.state can

pub start_ok : (t : ScannerTable) (number : ℕ) (indexed : IndexedSlot) → slot_at t number ≡ Some indexed → can_start indexed.slot.desired_up indexed.slot.state ≡ true → IsOk (start t number)
start_ok t number indexed found can = rw (starts t number indexed found can) refl

pub start_taken : (t : ScannerTable) (number : ℕ) (indexed : IndexedSlot) (first last : Progress) (answer : Answer) (new : ScannerTable) → slot_at t number ≡ Some indexed → can_start indexed.slot.desired_up indexed.slot.state ≡ true → first ≡ begun t → last ≡ after_at freshly_started number first → answer ≡ progress_answer last [] → new ≡ last.table → start t number ≡ Ok (answer, new)
start_taken t number indexed first last answer new found can begins ends reported left =
    let is : last ≡ followed (begun t) (freshly_started t indexed) = begun_at t number freshly_started first last begins ends ∙ ap (followed (begun t)) (followed_slot t indexed number freshly_started found) in
    starts t number indexed found can ∙ ap as_ok (transaction_done t (freshly_started t indexed) last answer new is reported left)

-- ---- stops

effect_refused : (t : ScannerTable) (effect : Effect) (last : Progress) (why : StepFault) (new : ScannerTable) → Adds (Ok effect) (begun t) (Err why) last → new ≡ t → Follows (stop_of (Ok effect)) t (Err why) new
effect_refused t effect last why new none same = subst (λ (w : StepFault). Follows (stop_of (Ok effect)) t (Err w) new) (sym none) (refl, same)

same_fault : (why other : StepFault) → ◌≡◌ {A = Result (Unit {0}) StepFault} (Err why) (Err other) → why ≡ other
same_fault why other is = cc

fault_refused : (t : ScannerTable) (why other : StepFault) (new : ScannerTable) → ◌≡◌ {A = Result (Unit {0}) StepFault} (Err why) (Err other) → Follows (stop_of (Err other)) t (Err other) new → Follows (stop_of (Err other)) t (Err why) new
fault_refused t why other new is follows = subst (λ (w : StepFault). Follows (stop_of (Err other)) t (Err w) new) (sym (same_fault why other is)) follows

takes : (t : ScannerTable) (said : Result Effect StepFault) (last : Progress) (unit : Unit {0}) (answer : Answer) (new : ScannerTable) → Adds said (begun t) (Ok unit) last → answer ≡ progress_answer last [] → new ≡ last.table → stop_of said ≡ Ok (answer, new)
takes t (Err why) last unit answer new adds reported left = absurd (cc)
takes t (Ok effect) last unit answer new adds reported left = ap as_ok (transaction_done t effect last answer new adds reported left)

-- a stop in a transaction that has just begun
pub stop_taken : (t : ScannerTable) (number : ℕ) (first last : Progress) (unit : Unit {0}) (answer : Answer) (new : ScannerTable) → first ≡ begun t → Adds (stopped_at first.table (slot_at first.table number)) first (Ok unit) last → answer ≡ progress_answer last [] → new ≡ last.table → stop t number ≡ Ok (answer, new)
unfolding stop
stop_taken t number first last unit answer new begins adds reported left =
    takes t (stopped_at t (slot_at t number)) last unit answer new (subst (λ (d : Progress). Adds (stopped_at d.table (slot_at d.table number)) d (Ok unit) last) begins adds) reported left

idle_refused : (desired_up : Bool) (t : ScannerTable) (effect : Effect) (last : Progress) (why : StepFault) (new : ScannerTable) → Adds (if desired_up then Ok effect else Err NotAllowedNow) (begun t) (Err why) last → new ≡ t → Follows (stop_of (if desired_up then Ok effect else Err NotAllowedNow)) t (Err why) new
idle_refused true t effect last why new adds same = effect_refused t effect last why new adds same
idle_refused false t effect last why new adds same = fault_refused t why NotAllowedNow new adds (refl, same)

state_refused : (t : ScannerTable) (indexed : IndexedSlot) (state : SlotState) (last : Progress) (why : StepFault) (new : ScannerTable) → Adds (stopped t indexed state) (begun t) (Err why) last → new ≡ t → Follows (stop_of (stopped t indexed state)) t (Err why) new
state_refused t indexed Idle last why new adds same = idle_refused indexed.slot.desired_up t (slot_resigned t indexed) last why new adds same
state_refused t indexed (Opening o) last why new adds same = effect_refused t (dropped t indexed (requested_link o.requested)) last why new adds same
state_refused t indexed (Established c) last why new adds same = effect_refused t (closed_within t indexed c.link (session_with t indexed.config.target)) last why new adds same
state_refused t indexed (TimedOut link) last why new adds same = effect_refused t (dropped t indexed link) last why new adds same
state_refused t indexed (Closing c) last why new adds same = idle_refused indexed.slot.desired_up t (slot_resigned t indexed) last why new adds same

found_refused : (t : ScannerTable) (found : Option IndexedSlot) (last : Progress) (why : StepFault) (new : ScannerTable) → Adds (stopped_at t found) (begun t) (Err why) last → new ≡ t → Follows (stop_of (stopped_at t found)) t (Err why) new
found_refused t None last why new adds same = fault_refused t why NoSuchSlot new adds (refl, same)
found_refused t (Some indexed) last why new adds same = state_refused t indexed indexed.slot.state last why new adds same

-- and a stop that is refused in one, or finds no memory
pub stop_refused : (t : ScannerTable) (number : ℕ) (first last : Progress) (why result : StepFault) (new : ScannerTable) → first ≡ begun t → Adds (stopped_at first.table (slot_at first.table number)) first (Err why) last → result ≡ why → new ≡ t → Follows (stop t number) t (Err result) new
unfolding stop
stop_refused t number first last why result new begins adds is same =
    subst (λ (w : StepFault). Follows (stop_of (stopped_at t (slot_at t number))) t (Err w) new) (sym is)
    (found_refused t (slot_at t number) last why new (subst (λ (d : Progress). Adds (stopped_at d.table (slot_at d.table number)) d (Err why) last) begins adds) same)

-- ---- streams

pub cut_taken : (t : ScannerTable) (number : ℕ) (stream : TargetStream) (first last : Progress) (answer : Answer) (new : ScannerTable) → find (is_stream number) t.streams ≡ Some stream → first ≡ begun t → last ≡ followed first (stream_lost first.table stream) → answer ≡ progress_answer last [] → new ≡ last.table → stream_cut t number ≡ Ok (answer, new)
unfolding stream_cut
cut_taken t number stream first last answer new found begins ends reported left =
    let is : last ≡ followed (begun t) (stream_lost t stream) = ends ∙ ap (λ (d : Progress). followed d (stream_lost d.table stream)) begins in
    ap (cut_of t) found ∙ ap as_ok (transaction_done t (stream_lost t stream) last answer new is reported left)

-- a frame that is no whole message
pub frame_bad : (t : ScannerTable) (number : ℕ) (bytes : List ℕ) (stream : TargetStream) (fault : EncapFault) → find (is_stream number) t.streams ≡ Some stream → message_reading bytes ≡ Err fault → frame t number bytes ≡ Ok (plain_answer BadFrame, t)
unfolding frame
frame_bad t number bytes stream fault found read = ap (frame_of t bytes) found ∙ ap (λ (r : Result MessageFields EncapFault). as_ok (frame_answer t stream r)) read

-- a message, by the explicit request that waits for it
pub frame_read : (t : ScannerTable) (number : ℕ) (bytes : List ℕ) (stream : TargetStream) (m : MessageFields) (pending : Option PendingExplicit) → find (is_stream number) t.streams ≡ Some stream → message_reading bytes ≡ Ok m → find (awaits stream.number m.context) t.explicit ≡ pending → frame t number bytes ≡ Ok (message_answer t stream m pending)
unfolding frame
frame_read t number bytes stream m pending found read waits =
    ap (frame_of t bytes) found ∙ ap (λ (r : Result MessageFields EncapFault). as_ok (frame_answer t stream r)) read ∙ ap (λ (o : Option PendingExplicit). as_ok (message_answer t stream m o)) waits

pub cut_ok : (t : ScannerTable) (number : ℕ) (stream : TargetStream) → find (is_stream number) t.streams ≡ Some stream → IsOk (stream_cut t number)
unfolding stream_cut
cut_ok t number stream found = rw found refl

-- ---- writes

either : (b : Bool) (x y : Said) (why : StepFault) → (x ≡ Err why → ⊥) → (y ≡ Err why → ⊥) → ◌≡◌ {A = Said} (if b then x else y) (Err why) → ⊥
either true x y why first second is = first is
either false x y why first second is = second is

length_wants_none : (t : ScannerTable) (indexed : IndexedSlot) (bytes : List ℕ) → write_length t indexed bytes ≡ Err OutOfMemory → ⊥
length_wants_none t indexed bytes is = either (length bytes == indexed.config.out_len) (Ok (output_written t indexed bytes)) (Err WrongLength) OutOfMemory (λ no. absurd cc) (λ no. absurd cc) is

found_wants_none : (t : ScannerTable) (bytes : List ℕ) (found : Option IndexedSlot) → write_at t bytes found ≡ Err OutOfMemory → ⊥
found_wants_none t bytes None is = absurd cc
found_wants_none t bytes (Some indexed) is = either (is_owner indexed.config.kind) (write_length t indexed bytes) (Err NotAllowedNow) OutOfMemory (length_wants_none t indexed bytes) (λ no. absurd cc) is

pub write_wants_none : (t : ScannerTable) (number : ℕ) (bytes : List ℕ) → write t number bytes ≡ Err OutOfMemory → ⊥
unfolding write
write_wants_none t number bytes is = found_wants_none t bytes (slot_at t number) is

pub write_refused : (t : ScannerTable) (number : ℕ) (bytes : List ℕ) (why : StepFault) (new : ScannerTable) → ◌≡◌ {A = Said} (Err why) (write t number bytes) → new ≡ t → Follows (write t number bytes) t (Err why) new
write_refused t number bytes OutOfMemory new is same = absurd (write_wants_none t number bytes (sym is))
write_refused t number bytes TickTooLong new is same = (sym is, same)
write_refused t number bytes ClockEnd new is same = (sym is, same)
write_refused t number bytes NoSuchPoint new is same = (sym is, same)
write_refused t number bytes WrongLength new is same = (sym is, same)
write_refused t number bytes NoSuchSlot new is same = (sym is, same)
write_refused t number bytes NotAllowedNow new is same = (sym is, same)

pub write_refused_so : (t : ScannerTable) (number : ℕ) (bytes : List ℕ) (why : StepFault) → ◌≡◌ {A = Said} (Err why) (write t number bytes) → ◌≢◌ {A = Result Answer StepFault} (Err why) (Err OutOfMemory)
write_refused_so t number bytes why is wants =
    let same : why ≡ OutOfMemory = cc in
    write_wants_none t number bytes (sym is ∙ ap (λ (w : StepFault). let said : Said = Err w in said) same)

-- ---- explicit requests

within_wants_none : (t : ScannerTable) (number : ℕ) (bytes : List ℕ) (session : Option Session) → explicit_within t number bytes session ≡ Err OutOfMemory → ⊥
within_wants_none t number bytes None is = absurd cc
within_wants_none t number bytes (Some session) is = either (is_barred t number bytes) (Err NotAllowedNow) (Ok (done (explicit_sent t session number bytes))) OutOfMemory (λ no. absurd cc) (λ no. absurd cc) is

sized_wants_none : (t : ScannerTable) (target : Node) (number : ℕ) (bytes : List ℕ) → explicit_sized t target number bytes ≡ Err OutOfMemory → ⊥
sized_wants_none t target number bytes is = either (has_explicit_length bytes) (explicit_within t number bytes (session_with t target)) (Err WrongLength) OutOfMemory (within_wants_none t number bytes (session_with t target)) (λ no. absurd cc) is

explicit_wants_none : (t : ScannerTable) (target : Node) (number : ℕ) (bytes : List ℕ) → explicit_request t target number bytes ≡ Err OutOfMemory → ⊥
unfolding explicit_request
explicit_wants_none t target number bytes is = either (list_any (connects_to target) t.profile.slots) (explicit_sized t target number bytes) (Err NoSuchSlot) OutOfMemory (sized_wants_none t target number bytes) (λ no. absurd cc) is

pub explicit_refused : (t : ScannerTable) (target : Node) (number : ℕ) (bytes : List ℕ) (why : StepFault) → explicit_request t target number bytes ≡ Err why → Follows (explicit_request t target number bytes) t (Err why) t
explicit_refused t target number bytes OutOfMemory is = absurd (explicit_wants_none t target number bytes is)
explicit_refused t target number bytes TickTooLong is = (is, refl)
explicit_refused t target number bytes ClockEnd is = (is, refl)
explicit_refused t target number bytes NoSuchPoint is = (is, refl)
explicit_refused t target number bytes WrongLength is = (is, refl)
explicit_refused t target number bytes NoSuchSlot is = (is, refl)
explicit_refused t target number bytes NotAllowedNow is = (is, refl)
