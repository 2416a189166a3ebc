-- What leads from a table to another at every event but one: slots that open, end, and are established, streams, and explicit
-- requests; a tick up to its productions.
use Rattle.std.proofs.Common.{◌≡◌, ◌≤◌, ℕ, ◌+◌, Bool, true, false, cond, not, ◌&&◌, ◌==◌, List, [], filter, find, Option, Some, None, Result, Ok, Err, refl, arith}
use Rattle.cip_types.specs.Cases.{first_case}
use Rattle.cip_types.specs.declared.names.Mismatch.{Mismatch}
use Rattle.cip_types.specs.declared.names.Mismatch.TheVariants as mismatch
use Rattle.cip_types.specs.declared.names.Node.{Node}
use Rattle.cip_types.specs.declared.names.Triad.{Triad}
use Rattle.cip_encap.specs.declared.message.EncapFault.{EncapFault}
use Rattle.cip_encap.specs.Message.{MessageFields}
use Rattle.cip_encap.specs.Reading.{message_reading}
use Rattle.cip_events.specs.declared.event.Reason.{Reason}
use Rattle.cip_events.specs.declared.event.Reason.TheVariants as reason
use Rattle.cip_events.specs.declared.event.StepFault.TheVariants as fault
use Rattle.cip_fwdopen.specs.declared.reply.Opened as made
use Rattle.cip_fwdopen.specs.declared.reply.OpenAnswer.{OpenAnswer}
use Rattle.cip_fwdopen.specs.declared.reply.OpenAnswer.TheVariants as answer
use Rattle.conn_state.specs.Answers.{is_requested_id, answer_tests, has_intervals}
use Rattle.scanner_table.specs.declared.profile.SlotConfig.{SlotConfig}
use Rattle.scanner_table.specs.declared.slot.PendingOpen as opening
use Rattle.scanner_table.specs.declared.slot.SlotState.{SlotState}
use Rattle.scanner_table.specs.declared.slot.SlotState.TheVariants.{Idle, Opening, Established, TimedOut, Closing}
use Rattle.scanner_table.specs.declared.table.ScannerTable.{ScannerTable}
use Rattle.scanner_table.specs.declared.table.Session.{Session}
use Rattle.scanner_table.specs.declared.table.Stage.{Stage}
use Rattle.scanner_table.specs.declared.table.Stage.TheVariants.{Waiting, Up, Unused}
use Rattle.scanner_table.specs.declared.table.TargetStream.{TargetStream}
use Rattle.scanner_table.specs.Slots.{IndexedSlot, indexed_slots, is_with}
use Rattle.scanner_table.specs.Sessions.{session_with, is_stream, is_taken, with_stream, without_stream, with_stage}
use Rattle.scanner_table.specs.Requests.{is_large}
use Rattle.scanner_table.specs.Effects.{nothing, and_then, changed, done}
use Rattle.scanner_table.specs.Opening.{has_request, ready_opened, target_opened}
use Rattle.scanner_table.specs.Replies.{open_answer, is_id_free, failed_slot, refused, disowned, disowned_within, rejected, judged_success, answered}
use Rattle.scanner_table.specs.Closing.{given_up, target_lost}
use Rattle.scanner_table.specs.Encapsulation.{registering_on, ignored, stream_opened, cut_of, stream_cut, is_registered, session_begun, session_failed, registered, ends_session, session_renewed, unserved_state, unserved, unserved_at, is_awaiting, replied, replied_to, reported, frame_answer, frame_of, frame}
use Rattle.scanner_table.specs.declared.explicit.PendingExplicit.{PendingExplicit}
use Rattle.scanner_table.specs.Explicit.{awaits, without_explicit, explicit_sent, explicit_request, explicit_timed_out, explicit_lost}
use Rattle.scanner_table.specs.Ticks.{clocked_table, all_expired, all_given_up, advanced}
use Rattle.device_laws.specs.Lemmas.ExplicitRequests.{explicit_holds, message_ends}
use Rattle.scanner_table.specs.Lemmas.SlotLookups.{Stands, Any, Apart, each_any, each_filter, two_filter, each_found, each_stands, slots_apart}
use Rattle.scanner_table.specs.Lemmas.Moves.{Kept, Leads, Establishes, each_does, given_does, ready_leads, target_leads, expired_leads, overdue_leads, closed_does}

-- it holds too where streams change, time passes, and explicit requests are sent and end
pub record KeptQuietly (R : ScannerTable → ScannerTable → Type 0) : Type 0 where
  pub slots : Kept R
  pub streams : (t : ScannerTable) (streams : List TargetStream) → R t (record t { streams = streams })
  pub clocked : (t : ScannerTable) (ms : ℕ) → R t (clocked_table t ms)
  pub establishing : (t : ScannerTable) → Establishes R t
  pub explicit : (t : ScannerTable) (pending : List PendingExplicit) (request : ℕ) → t.next_request ≤ request → R t (record t { next_request = request; explicit = pending })

pub advanced_leads : (R : ScannerTable → ScannerTable → Type 0) → Kept R → (t : ScannerTable) → R t (advanced t).table
advanced_leads R kept t =
    let first = (all_expired t).table in
    let second = (all_given_up first).table in
    kept.after t second (ready_opened second).table (kept.after t first second (expired_leads R kept t) (overdue_leads R kept first)) (ready_leads R kept second)

lost_leads : (R : ScannerTable → ScannerTable → Type 0) → Kept R → (target : Node) (t : ScannerTable) → R t (target_lost target t).table
unfolding target_lost
lost_leads R kept target t =
    each_does R kept Any given_up (given_does R kept) (filter (is_with target) (indexed_slots t)) t (each_filter (Stands t) (is_with target) (indexed_slots t) (each_stands t))
    (two_filter Apart (is_with target) (indexed_slots t) (slots_apart t)) (each_any (filter (is_with target) (indexed_slots t)))

taken_step : (b : Bool) (R : ScannerTable → ScannerTable → Type 0) → KeptQuietly R → (t : ScannerTable) (number : ℕ) (target : Node) → Leads R t (cond b (Err fault.NotAllowedNow) (Ok (done (registering_on t number target))))
taken_step true R kept t number target = tt
taken_step false R kept t number target = kept.streams t (with_stream t number target).streams

pub streamed_leads : (R : ScannerTable → ScannerTable → Type 0) → KeptQuietly R → (t : ScannerTable) (number : ℕ) (target : Node) → Leads R t (stream_opened t number target)
unfolding stream_opened
streamed_leads R kept t number target = taken_step (is_taken t.streams number target) R kept t number target

-- ---- explicit requests

pub timed_out_leads : (R : ScannerTable → ScannerTable → Type 0) → KeptQuietly R → (t : ScannerTable) → R t (explicit_timed_out t).table
unfolding explicit_timed_out
timed_out_leads R kept t = kept.explicit t (explicit_timed_out t).table.explicit t.next_request (omega arith)

ended_leads : (R : ScannerTable → ScannerTable → Type 0) → KeptQuietly R → (stream : ℕ) (t : ScannerTable) → R t (explicit_lost stream t).table
unfolding explicit_lost
ended_leads R kept stream t = kept.explicit t (explicit_lost stream t).table.explicit t.next_request (omega arith)

pub explicit_leads : (R : ScannerTable → ScannerTable → Type 0) → KeptQuietly R → (t : ScannerTable) (target : Node) (number : ℕ) (bytes : List ℕ) → Leads R t (explicit_request t target number bytes)
explicit_leads R kept t target number bytes =
    explicit_holds (Leads R t) t target number bytes (λ why. tt)
    (λ session goes. kept.explicit t (explicit_sent t session number bytes).table.explicit (t.next_request + 1) (omega arith))

-- ---- streams and messages

cut_of_leads : (R : ScannerTable → ScannerTable → Type 0) → KeptQuietly R → (t : ScannerTable) (found : Option TargetStream) → Leads R t (cut_of t found)
cut_of_leads R kept t None = tt
cut_of_leads R kept t (Some stream) =
    let now = without_stream t stream.number in
    let lost = (target_lost stream.peer now).table in
    kept.slots.after t lost (explicit_lost stream.number lost).table (kept.slots.after t now lost (kept.streams t now.streams) (lost_leads R kept.slots stream.peer now)) (ended_leads R kept stream.number lost)

pub cut_leads : (R : ScannerTable → ScannerTable → Type 0) → KeptQuietly R → (t : ScannerTable) (number : ℕ) → Leads R t (stream_cut t number)
unfolding stream_cut
cut_leads R kept t number = cut_of_leads R kept t (find (is_stream number) t.streams)

session_step : (b : Bool) (R : ScannerTable → ScannerTable → Type 0) → KeptQuietly R → (t : ScannerTable) (stream : TargetStream) (handle : ℕ) → R t (cond b (session_begun t stream handle) (session_failed t stream)).table
session_step true R kept t stream handle =
    let now = with_stage t stream.number (Up handle) in
    kept.slots.after t now (target_opened stream.peer now).table (kept.streams t now.streams) (target_leads R kept.slots stream.peer now)
session_step false R kept t stream handle = kept.streams t (with_stage t stream.number Unused).streams

is_requested_one : (a x y c : Bool) → cond a (Some mismatch.Triad) (cond (not (x && y)) (Some mismatch.Id) (cond (not c) (Some mismatch.Api) None)) ≡ None → x ≡ true
is_requested_one true x y c none = absurd cc
is_requested_one false true y c none = refl
is_requested_one false false y c none = absurd cc

failed_leads : (R : ScannerTable → ScannerTable → Type 0) → Kept R → (t : ScannerTable) (place : IndexedSlot) → Stands t place → R t (changed t place (failed_slot t Idle place.slot) []).table
failed_leads R kept t place stands = kept.idling t place (failed_slot t Idle place.slot) stands (record { state = refl; output = refl; image = refl })

-- a connection that no slot has is closed
disown_step : (b : Bool) (R : ScannerTable → ScannerTable → Type 0) → KeptQuietly R → (t : ScannerTable) (config : SlotConfig) (triad : Triad) (session : Session) → R t (cond b (disowned t config triad session) (nothing t)).table
disown_step true R kept t config triad session = kept.explicit t t.explicit (t.next_request + 1) (omega arith)
disown_step false R kept t config triad session = kept.slots.same t

disowned_leads : (R : ScannerTable → ScannerTable → Type 0) → KeptQuietly R → (t : ScannerTable) (config : SlotConfig) (triad : Triad) (session : Option Session) → R t (disowned_within t config triad session).table
disowned_leads R kept t config triad None = kept.slots.same t
disowned_leads R kept t config triad (Some session) = disown_step (has_request t) R kept t config triad session

reject_step : (b : Bool) (R : ScannerTable → ScannerTable → Type 0) → KeptQuietly R → (t : ScannerTable) (config : SlotConfig) (triad : Triad) → R t (cond b (disowned_within t config triad (session_with t config.target)) (nothing t)).table
reject_step true R kept t config triad = disowned_leads R kept t config triad (session_with t config.target)
reject_step false R kept t config triad = kept.slots.same t

mismatch_leads : (R : ScannerTable → ScannerTable → Type 0) → KeptQuietly R → (t : ScannerTable) (place : IndexedSlot) (why : Reason) (triad : Triad) → Stands t place → R t (and_then (refused t place why) (rejected place.config triad)).table
mismatch_leads R kept t place why triad stands =
    let u = (refused t place why).table in
    kept.slots.after t u (rejected place.config triad u).table (failed_leads R kept.slots t place stands) (reject_step u.profile.tidy R kept u place.config triad)

success_leads : (R : ScannerTable → ScannerTable → Type 0) (t : ScannerTable) → KeptQuietly R → (place : IndexedSlot) (o : opening.PendingOpen) (success : made.Opened) (why : Option Mismatch) → first_case (answer_tests o.requested success (is_id_free t place success.t_o_id)) ≡ why → Stands t place → place.slot.state ≡ Opening o → R t (judged_success t place o success why).table
success_leads R t kept place o success (Some why) is stands opens = mismatch_leads R kept t place (reason.Mismatch why) o.requested.triad stands
success_leads R t kept place o success None is stands opens = kept.establishing t place o success stands opens (is_requested_one _ (is_requested_id o.requested.t_o_id success.t_o_id) (is_id_free t place success.t_o_id) (has_intervals success) is)

answered_leads : (R : ScannerTable → ScannerTable → Type 0) (t : ScannerTable) → KeptQuietly R → (place : IndexedSlot) (o : opening.PendingOpen) (said : Result OpenAnswer Reason) → Stands t place → place.slot.state ≡ Opening o → R t (answered t place o said).table
unfolding answered
answered_leads R t kept place o (Err why) stands opens = failed_leads R kept.slots t place stands
answered_leads R t kept place o (Ok (answer.Refused r)) stands opens = failed_leads R kept.slots t place stands
answered_leads R t kept place o (Ok (answer.Opened success)) stands opens =
    success_leads R t kept place o success (first_case (answer_tests o.requested success (is_id_free t place success.t_o_id))) refl stands opens

replied_leads : (R : ScannerTable → ScannerTable → Type 0) (t : ScannerTable) → KeptQuietly R → (place : IndexedSlot) (m : MessageFields) (state : SlotState) → place.slot.state ≡ state → Stands t place → R t (replied t place m state).1
replied_leads R t kept place m Idle is stands = kept.slots.same t
replied_leads R t kept place m (Opening o) is stands = answered_leads R t kept place o (open_answer (is_large place.config) m) stands is
replied_leads R t kept place m (Established c) is stands = kept.slots.same t
replied_leads R t kept place m (TimedOut link) is stands = kept.slots.same t
replied_leads R t kept place m (Closing c) is stands = closed_does R kept.slots t place stands

replied_to_leads : (R : ScannerTable → ScannerTable → Type 0) (t : ScannerTable) → KeptQuietly R → (m : MessageFields) (p : IndexedSlot → Bool) (found : Option IndexedSlot) → find p (indexed_slots t) ≡ found → R t (replied_to t m found).1
replied_to_leads R t kept m p None is = kept.slots.same t
replied_to_leads R t kept m p (Some place) is = replied_leads R t kept place m place.slot.state refl (each_found (Stands t) p (indexed_slots t) place is (each_stands t))

-- the session on a stream ends, and a new one is registered
renewed_leads : (R : ScannerTable → ScannerTable → Type 0) → KeptQuietly R → (t : ScannerTable) (stream : TargetStream) → R t (session_renewed stream t).table
renewed_leads R kept t stream =
    let now = with_stage t stream.number Waiting in
    let lost = (target_lost stream.peer now).table in
    kept.slots.after t lost (explicit_lost stream.number lost).table (kept.slots.after t now lost (kept.streams t now.streams) (lost_leads R kept.slots stream.peer now)) (ended_leads R kept stream.number lost)

unserved_leads : (R : ScannerTable → ScannerTable → Type 0) → Kept R → (t : ScannerTable) (place : IndexedSlot) (status : ℕ) (state : SlotState) → Stands t place → R t (unserved_state status t place state).table
unserved_leads R kept t place status (Opening o) stands = failed_leads R kept t place stands
unserved_leads R kept t place status other stands = kept.same t

answered_at_leads : (b : Bool) (R : ScannerTable → ScannerTable → Type 0) (t : ScannerTable) → KeptQuietly R → (stream : TargetStream) (m : MessageFields) (p : IndexedSlot → Bool) (found : Option IndexedSlot) → find p (indexed_slots t) ≡ found → R t (cond b (unserved_at t stream m found) (replied_to t m found)).1
answered_at_leads true R t kept stream m p None is = kept.slots.same t
answered_at_leads true R t kept stream m p (Some place) is =
    let u = (unserved m.status t place).table in
    kept.slots.after t u (session_renewed stream u).table (unserved_leads R kept.slots t place m.status place.slot.state (each_found (Stands t) p (indexed_slots t) place is (each_stands t))) (renewed_leads R kept u stream)
answered_at_leads false R t kept stream m p found is = replied_to_leads R t kept m p found is

first_step : (b : Bool) (R : ScannerTable → ScannerTable → Type 0) (t : ScannerTable) → KeptQuietly R → (stream : TargetStream) (m : MessageFields) → R t (cond b (done (registered t stream m)) (ignored t)).1
first_step true R t kept stream m = session_step (is_registered m) R kept t stream m.session
first_step false R t kept stream m = kept.slots.same t

reported_leads : (R : ScannerTable → ScannerTable → Type 0) (t : ScannerTable) → KeptQuietly R → (stream : TargetStream) (m : MessageFields) (stage : Stage) → R t (reported t stream m stage).1
reported_leads R t kept stream m Waiting = first_step (m.context == 0) R t kept stream m
reported_leads R t kept stream m (Up handle) = answered_at_leads (ends_session t m) R t kept stream m (is_awaiting stream.peer m.context) (find (is_awaiting stream.peer m.context) (indexed_slots t)) refl
reported_leads R t kept stream m Unused = kept.slots.same t

frame_answer_leads : (R : ScannerTable → ScannerTable → Type 0) (t : ScannerTable) → KeptQuietly R → (stream : TargetStream) (reading : Result MessageFields EncapFault) → R t (frame_answer t stream reading).1
frame_answer_leads R t kept stream (Err why) = kept.slots.same t
frame_answer_leads R t kept stream (Ok m) =
    message_ends (λ next. R t next.1) t stream m (reported_leads R t kept stream m stream.stage) (renewed_leads R kept t stream)
    (λ pending answer silent quiet. kept.explicit t (without_explicit t pending).explicit t.next_request (omega arith)) (find (awaits stream.number m.context) t.explicit)

frame_of_leads : (R : ScannerTable → ScannerTable → Type 0) (t : ScannerTable) → KeptQuietly R → (bytes : List ℕ) (found : Option TargetStream) → Leads R t (frame_of t bytes found)
frame_of_leads R t kept bytes None = tt
frame_of_leads R t kept bytes (Some stream) = frame_answer_leads R t kept stream (message_reading bytes)

pub frame_leads : (R : ScannerTable → ScannerTable → Type 0) (t : ScannerTable) → KeptQuietly R → (number : ℕ) (bytes : List ℕ) → Leads R t (frame t number bytes)
unfolding frame
frame_leads R t kept number bytes = frame_of_leads R t kept bytes (find (is_stream number) t.streams)
