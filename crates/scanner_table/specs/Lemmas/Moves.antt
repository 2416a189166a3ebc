-- The changes of one slot that the effects of an event make, and the events that make them.
use Rattle.std.proofs.Common.{◌≡◌, ◌≢◌, ◌≤◌, ℕ, ◌+◌, Bool, true, false, cond, not, ◌&&◌, ◌==◌, nat_lt, List, [], ◌∷◌, filter, find, slice_get, Option, Some, None, Result, Ok, Err, IfOk, refl, sym, ◌∙◌, ap, arith}
use Rattle.std.specs.List.{list_any}
use Rattle.std.proofs.lemmas.Bool.{and_parts}
use Rattle.cip_types.specs.Cases.{first_case}
use Rattle.cip_types.specs.declared.names.Mismatch.{Mismatch}
use Rattle.cip_types.specs.declared.names.Mismatch.TheVariants as mismatch
use Rattle.cip_types.specs.declared.ids.IdBlock.{IdBlock}
use Rattle.cip_types.specs.Ids.{may_take}
use Rattle.cip_types.specs.declared.names.Ms.{Ms}
use Rattle.cip_types.specs.declared.names.Node.{Node}
use Rattle.cip_datagram.specs.declared.datagram.DatagramFault.{DatagramFault}
use Rattle.cip_datagram.specs.Datagram.{DatagramFields}
use Rattle.cip_datagram.specs.Reading.{datagram_reading}
use Rattle.cip_encap.specs.declared.message.EncapFault.{EncapFault}
use Rattle.cip_encap.specs.Message.{MessageFields}
use Rattle.cip_encap.specs.Reading.{message_reading}
use Rattle.cip_events.specs.declared.event.Event.{Event}
use Rattle.cip_events.specs.declared.event.Event.TheVariants.{StreamOpened, Frame, StreamCut, Datagram, Write, Tick, Mode, Start, Stop, Explicit, Ids}
use Rattle.cip_events.specs.declared.event.Delivery.TheVariants.{Applied, Duplicate, Old, WrongSize}
use Rattle.cip_events.specs.declared.event.Notice.{Notice}
use Rattle.cip_events.specs.declared.event.Notice.TheVariants as notice
use Rattle.cip_events.specs.declared.event.Reason.{Reason}
use Rattle.cip_events.specs.declared.event.Reason.TheVariants as reason
use Rattle.cip_events.specs.declared.event.StepFault.{StepFault}
use Rattle.cip_events.specs.declared.event.StepFault.TheVariants as fault
use Rattle.cip_events.specs.declared.event.Verdict.TheVariants.{Done}
use Rattle.cip_events.specs.Answers.{plain_answer}
use Rattle.cip_events.specs.Arrivals.{gives_ids}
use Rattle.cip_events.specs.Clock.{longest_tick, clock_end}
use Rattle.cip_fwdopen.specs.declared.reply.Opened as made
use Rattle.cip_fwdopen.specs.declared.reply.OpenAnswer.{OpenAnswer}
use Rattle.cip_fwdopen.specs.declared.reply.OpenAnswer.TheVariants as answer
use Rattle.cip_productions.specs.Acceptance.{accepts_sequence, is_duplicate}
use Rattle.cip_productions.specs.Kinds.{is_owner}
use Rattle.conn_state.specs.Answers.{is_requested_id, answer_tests, has_intervals}
use Rattle.cip_events.specs.declared.event.Unanswered.{Unanswered}
use Rattle.cip_events.specs.declared.event.Unanswered.TheVariants as unanswered
use Rattle.cip_router.specs.RouterReplies.{RouterReplyFields}
use Rattle.scanner_table.specs.declared.explicit.PendingExplicit.{PendingExplicit}
use Rattle.conn_state.specs.declared.names.Link.{Link}
use Rattle.cip_types.specs.declared.names.Triad.{Triad}
use Rattle.scanner_table.specs.declared.slot.SlotConnection.{SlotConnection}
use Rattle.scanner_table.specs.declared.slot.PendingClose as closing_slots
use Rattle.scanner_table.specs.declared.slot.PendingOpen as opening
use Rattle.scanner_table.specs.declared.slot.Slot.{Slot}
use Rattle.scanner_table.specs.declared.slot.SlotState.{SlotState}
use Rattle.scanner_table.specs.declared.slot.SlotState.TheVariants.{Idle, Opening, Established, TimedOut, Closing}
use Rattle.scanner_table.specs.declared.table.ScannerTable.{ScannerTable}
use Rattle.scanner_table.specs.declared.table.Session.{Session}
use Rattle.scanner_table.specs.declared.table.Stage.{Stage}
use Rattle.scanner_table.specs.declared.table.Stage.TheVariants.{Waiting, Up, Unused}
use Rattle.scanner_table.specs.declared.table.TargetStream.{TargetStream}
use Rattle.scanner_table.specs.declared.profile.SlotConfig.{SlotConfig}
use Rattle.scanner_table.specs.Slots.{IndexedSlot, indexed_slots, slot_at, is_numbered, is_with, with_slot, is_closed, needs_request}
use Rattle.scanner_table.specs.Sessions.{session_with, is_stream, is_taken, with_stream, without_stream, with_stage}
use Rattle.scanner_table.specs.Requests.{is_large}
use Rattle.scanner_table.specs.Effects.{Next, Effect, nothing, and_then, on_each, counted, changed, done}
use Rattle.scanner_table.specs.Opening.{has_request, has_id, can_open, drawn, opening_slot, resigned, exhausted, open_requested, opened_within, closing_slot, close_requested, cleared_within, opened_from, has_place, open_session, asking_in, asking_session, opened, is_ready_slot, ready_slots, ready_opened, target_opened}
use Rattle.scanner_table.specs.Replies.{open_answer, is_id_free, new_connection, established_slot, failed_slot, refused, disowned, disowned_within, rejected, judged_success, answered}
use Rattle.scanner_table.specs.Closing.{requested_link, idle_slot, is_close_in_time, given_up_state, given_up, target_lost, closed, slot_resigned, closed_within, stopped, stopped_at}
use Rattle.scanner_table.specs.Explicit.{is_request, is_over, is_late, others, awaits, has_explicit_length, is_barred, connects_to, explicit_sent, explicit_within, explicit_request, explicit_reply, explicit_ended, explicit_answered, without_explicit, explicit_timed_out, explicit_lost}
use Rattle.scanner_table.specs.Encapsulation.{registering_on, ignored, stream_opened, message_answer, cut_of, stream_cut, is_registered, session_begun, session_failed, registered, ends_session, session_renewed, is_awaiting, replied, replied_to, unserved_state, unserved, unserved_at, reported, frame_answer, frame_of, frame}
use Rattle.cip_productions.specs.Window.{since_accepted, is_within}
use Rattle.scanner_table.specs.Datagrams.{is_for, slot_pace, accepts_at, accepted_table, accepted, sized, delivered, state_received, received_at, received_as, received}
use Rattle.scanner_table.specs.Points.{output_slot, output_written, write_at, write, same_mode, moded_table, mode, desired_slot, started, start_state, start_at, start, stop_of, stop}
use Rattle.scanner_table.specs.Productions.{produced_table}
use Rattle.scanner_table.specs.Ticks.{by_deadline, has_expired, expired_slots, expired_state, expired, all_expired, is_overdue, all_given_up, clocked_table, advanced, moved_on, ticked, tick}
use Rattle.scanner_table.specs.Step.{scanner_step, taken_table, take_ids}
use Rattle.scanner_table.specs.Lemmas.SlotLookups.{Stands, Each, EachTwo, Any, Apart, each_any, each_more, each_filter, two_filter, each_passes, each_in_order, two_in_order, each_found, each_stands, slots_apart, get_same, get_other}
use Rattle.scanner_table.specs.Lemmas.PassiveLemmas.{is_passive, passive_holds}

-- ---- changes of one slot

-- the slot has no connection any more, or still none; its bytes stay
pub record BecomesIdle (old new : Slot) : Type 0 where
  pub state : new.state ≡ Idle
  pub output : new.output ≡ old.output
  pub image : new.image ≡ old.image

-- the connection that the slot has, asked for or closes
abbrev pub link_in : SlotState → Option Link
link_in Idle = None
link_in (Opening o) = Some (requested_link o.requested)
link_in (Established c) = Some c.link
link_in (TimedOut link) = Some link
link_in (Closing c) = Some c.link

-- the slot keeps its connection as timed out; its bytes stay
pub record BecomesTimedOut (link : Link) (old new : Slot) : Type 0 where
  pub state : new.state ≡ TimedOut link
  pub output : new.output ≡ old.output
  pub image : new.image ≡ old.image

-- a relation from tables to later ones, which holds where one slot opens in its turn, becomes idle, times out or closes
pub record Kept (R : ScannerTable → ScannerTable → Type 0) : Type 0 where
  pub same : (t : ScannerTable) → R t t
  pub after : (t u v : ScannerTable) → R t u → R u v → R t v
  pub opening : (t : ScannerTable) (indexed : IndexedSlot) → Stands t indexed → is_closed indexed.slot.state ≡ true → has_place t indexed.config.target ≡ true → has_id t indexed.config ≡ true → R t (with_slot (counted (drawn t indexed.config)) indexed.number (opening_slot t indexed))
  pub idling : (t : ScannerTable) (indexed : IndexedSlot) (slot : Slot) → Stands t indexed → BecomesIdle indexed.slot slot → R t (with_slot t indexed.number slot)
  pub timing_out : (t : ScannerTable) (indexed : IndexedSlot) (link : Link) (slot : Slot) → Stands t indexed → link_in indexed.slot.state ≡ Some link → BecomesTimedOut link indexed.slot slot → R t (with_slot t indexed.number slot)
  pub closing : (t : ScannerTable) (indexed : IndexedSlot) (link : Link) (desired_up : Bool) → Stands t indexed → link_in indexed.slot.state ≡ Some link → R t (with_slot (counted t) indexed.number (closing_slot t link desired_up indexed.slot))

-- it holds too where streams change, time passes, slots produce, the mode changes, explicit requests are sent and end, and
-- further ids come
pub record KeptWidely (R : ScannerTable → ScannerTable → Type 0) : Type 0 where
  pub slots : Kept R
  pub streams : (t : ScannerTable) (streams : List TargetStream) → R t (record t { streams = streams })
  pub clocked : (t : ScannerTable) (ms : ℕ) → R t (clocked_table t ms)
  pub producing : (t : ScannerTable) → R t (produced_table t)
  pub moding : (t : ScannerTable) (run : Bool) → R t (moded_table t run)
  pub explicit : (t : ScannerTable) (pending : List PendingExplicit) (request : ℕ) → t.next_request ≤ request → R t (record t { next_request = request; explicit = pending })

-- a further block of ids makes it too
abbrev pub Takes : (ScannerTable → ScannerTable → Type 0) → Type 0
Takes R = (t : ScannerTable) (block : IdBlock) → may_take t.ids block ≡ true → R t (taken_table t block)

-- a slot is established by the reply to its opening
abbrev pub Establishes : (ScannerTable → ScannerTable → Type 0) → ScannerTable → Type 0
Establishes R t =
    (indexed : IndexedSlot) (o : opening.PendingOpen) (success : made.Opened) → Stands t indexed → indexed.slot.state ≡ Opening o → is_requested_id o.requested.t_o_id success.t_o_id ≡ true →
    R t (with_slot t indexed.number (established_slot indexed (new_connection t indexed o success)))

-- an output is written
abbrev pub Writes : (ScannerTable → ScannerTable → Type 0) → ScannerTable → Type 0
Writes R t = (indexed : IndexedSlot) (bytes : List ℕ) → Stands t indexed → R t (with_slot t indexed.number (output_slot bytes indexed.slot))

-- a datagram is accepted: its number is newer, and the image is its data, or its count is that of the last one
pub record IsAccepted (indexed : IndexedSlot) (d : DatagramFields) (c : SlotConnection) (bytes : List ℕ) : Type 0 where
  pub established : indexed.slot.state ≡ Established c
  pub newer : accepts_sequence c.last d.sequence ≡ true
  pub image : bytes ≡ cond (is_duplicate c.last d.count) indexed.slot.image d.payload

abbrev pub Accepts : (ScannerTable → ScannerTable → Type 0) → ScannerTable → Type 0
Accepts R t = (indexed : IndexedSlot) (d : DatagramFields) (c : SlotConnection) (bytes : List ℕ) → Stands t indexed → IsAccepted indexed d c bytes → R t (accepted_table t indexed d c bytes)

-- it holds in all cases
pub record KeptAlways (R : ScannerTable → ScannerTable → Type 0) : Type 0 where
  pub widely : KeptWidely R
  pub taken : Takes R
  pub establishing : (t : ScannerTable) → Establishes R t
  pub writing : (t : ScannerTable) → Writes R t
  pub accepting : (t : ScannerTable) → Accepts R t

-- ---- effects on one slot

-- only the slot of this number is another
pub record Local (number : ℕ) (t u : ScannerTable) : Type 0 where
  pub profile : u.profile ≡ t.profile
  pub elsewhere : (k : ℕ) → k ≢ number → slice_get u.slots k ≡ slice_get t.slots k

-- an effect leads to a table that is so related, and changes one slot alone
pub record Does (R : ScannerTable → ScannerTable → Type 0) (t : ScannerTable) (indexed : IndexedSlot) (effect : Effect) : Type 0 where
  pub leads : R t effect.table
  pub local : Local indexed.number t effect.table

stands_on : (t u : ScannerTable) (number : ℕ) (indexed : IndexedSlot) → Local number t u → indexed.number ≢ number → Stands t indexed → Stands u indexed
stands_on t u number indexed local apart stands = record {
  config = rw local.profile stands.config;
  slot = local.elsewhere indexed.number apart ∙ stands.slot;
}

pub stand_on : (t u : ScannerTable) (number : ℕ) (rest : List IndexedSlot) → Local number t u → Each (λ other. number ≢ other.number) rest → Each (Stands t) rest → Each (Stands u) rest
stand_on t u number [] local apart stand = tt
stand_on t u number (indexed ∷ rest) local apart stand =
    (stands_on t u number indexed local (λ same. apart.0 (sym same)) stand.0, stand_on t u number rest local apart.1 stand.1)

pub stands_with : (t : ScannerTable) (indexed : IndexedSlot) (slot : Slot) → Stands t indexed → Stands (with_slot t indexed.number slot) (record indexed { slot = slot })
stands_with t indexed slot stands = record { config = stands.config; slot = get_same indexed.number t.slots slot indexed.slot stands.slot }

set_local : (t u : ScannerTable) (number : ℕ) (slot : Slot) → u.profile ≡ t.profile → u.slots ≡ t.slots → Local number t (with_slot u number slot)
set_local t u number slot profile slots = record {
  profile = profile;
  elsewhere = λ k other. get_other number k u.slots slot other ∙ rw slots refl;
}

does_nothing : (R : ScannerTable → ScannerTable → Type 0) → Kept R → (t : ScannerTable) (indexed : IndexedSlot) → Does R t indexed (nothing t)
does_nothing R kept t indexed = record { leads = kept.same t; local = record { profile = refl; elsewhere = λ k other. refl } }

does_idle : (R : ScannerTable → ScannerTable → Type 0) → Kept R → (t : ScannerTable) (indexed : IndexedSlot) (slot : Slot) (reported : List Notice) → Stands t indexed → BecomesIdle indexed.slot slot → Does R t indexed (changed t indexed slot reported)
does_idle R kept t indexed slot reported stands idle = record { leads = kept.idling t indexed slot stands idle; local = set_local t t indexed.number slot refl refl }

does_resigned : (R : ScannerTable → ScannerTable → Type 0) → Kept R → (t : ScannerTable) (indexed : IndexedSlot) (reported : List Notice) → Stands t indexed → Does R t indexed (changed t indexed (resigned indexed.slot) reported)
does_resigned R kept t indexed reported stands = does_idle R kept t indexed (resigned indexed.slot) reported stands (record { state = refl; output = refl; image = refl })

does_failed : (R : ScannerTable → ScannerTable → Type 0) → Kept R → (t : ScannerTable) (indexed : IndexedSlot) (reported : List Notice) → Stands t indexed → Does R t indexed (changed t indexed (failed_slot t Idle indexed.slot) reported)
does_failed R kept t indexed reported stands = does_idle R kept t indexed (failed_slot t Idle indexed.slot) reported stands (record { state = refl; output = refl; image = refl })

does_clear : (R : ScannerTable → ScannerTable → Type 0) → Kept R → (t : ScannerTable) (indexed : IndexedSlot) → Stands t indexed → Does R t indexed (changed t indexed (idle_slot indexed.slot) [])
does_clear R kept t indexed stands = does_idle R kept t indexed (idle_slot indexed.slot) [] stands (record { state = refl; output = refl; image = refl })

-- ---- openings

-- a slot of the target asks in this session in its turn alone
abbrev IsInTurn : ScannerTable → Node → Option Session → Type 0
IsInTurn t target asking = (session : Session) → asking ≡ Some session → has_place t target ≡ true

turn_step : (b : Bool) (t : ScannerTable) (target : Node) (session : Session) → cond b (session_with t target) None ≡ Some session → b ≡ true
turn_step true t target session is = refl
turn_step false t target session is = absurd cc

open_in_turn : (t : ScannerTable) (target : Node) (asking : Option Session) → asking ≡ open_session t target → IsInTurn t target asking
open_in_turn t target asking same = λ session is. turn_step (has_place t target) t target session (sym same ∙ is)

open_step : (b : Bool) (R : ScannerTable → ScannerTable → Type 0) → Kept R → (t : ScannerTable) (indexed : IndexedSlot) (session : Session) → can_open t indexed.config ≡ b → Stands t indexed → is_closed indexed.slot.state ≡ true → has_place t indexed.config.target ≡ true → Does R t indexed (cond b (open_requested t indexed session) (exhausted t indexed))
open_step true R kept t indexed session can stands closed_before place = record { leads = kept.opening t indexed stands closed_before place (and_parts (has_request t) (has_id t indexed.config) can).1; local = set_local t (counted (drawn t indexed.config)) indexed.number (opening_slot t indexed) refl refl }
open_step false R kept t indexed session can stands closed_before place = does_resigned R kept t indexed (notice.NoIds indexed.number ∷ []) stands

within_does : (R : ScannerTable → ScannerTable → Type 0) → Kept R → (t : ScannerTable) (indexed : IndexedSlot) (session : Option Session) → Stands t indexed → is_closed indexed.slot.state ≡ true → IsInTurn t indexed.config.target session → Does R t indexed (opened_within t indexed session)
within_does R kept t indexed None stands closed_before turn = does_nothing R kept t indexed
within_does R kept t indexed (Some session) stands closed_before turn = open_step (can_open t indexed.config) R kept t indexed session refl stands closed_before (turn session refl)

-- the slot has no connection and waits for no reply
abbrev pub IsClosedSlot : IndexedSlot → Type 0
IsClosedSlot indexed = is_closed indexed.slot.state ≡ true

-- the slot closes its connection
closing_does : (R : ScannerTable → ScannerTable → Type 0) → Kept R → (t : ScannerTable) (indexed : IndexedSlot) (link : Link) (desired_up : Bool) (session : Session) → Stands t indexed → link_in indexed.slot.state ≡ Some link → Does R t indexed (close_requested t indexed link desired_up session)
closing_does R kept t indexed link desired_up session stands is = record {
  leads = kept.closing t indexed link desired_up stands is;
  local = set_local t (counted t) indexed.number (closing_slot t link desired_up indexed.slot) refl refl;
}

close_step : (b : Bool) (R : ScannerTable → ScannerTable → Type 0) → Kept R → (t : ScannerTable) (indexed : IndexedSlot) (link : Link) (desired_up : Bool) (session : Session) → Stands t indexed → link_in indexed.slot.state ≡ Some link → Does R t indexed (cond b (close_requested t indexed link desired_up session) (exhausted t indexed))
close_step true R kept t indexed link desired_up session stands is = closing_does R kept t indexed link desired_up session stands is
close_step false R kept t indexed link desired_up session stands is = does_resigned R kept t indexed (notice.NoIds indexed.number ∷ []) stands

cleared_does : (R : ScannerTable → ScannerTable → Type 0) → Kept R → (t : ScannerTable) (indexed : IndexedSlot) (link : Link) (session : Option Session) → Stands t indexed → link_in indexed.slot.state ≡ Some link → Does R t indexed (cleared_within t indexed link session)
cleared_does R kept t indexed link None stands is = does_nothing R kept t indexed
cleared_does R kept t indexed link (Some session) stands is = close_step (has_request t) R kept t indexed link indexed.slot.desired_up session stands is

-- a connection that timed out: at a tidy scanner it is closed in any session, and otherwise the slot opens in its turn
tidy_step : (b : Bool) (R : ScannerTable → ScannerTable → Type 0) → Kept R → (t : ScannerTable) (indexed : IndexedSlot) (link : Link) (session : Option Session) → session ≡ cond b (session_with t indexed.config.target) (open_session t indexed.config.target) → Stands t indexed → IsClosedSlot indexed → link_in indexed.slot.state ≡ Some link → Does R t indexed (cond b (cleared_within t indexed link session) (opened_within t indexed session))
tidy_step true R kept t indexed link session asks stands closed_before is = cleared_does R kept t indexed link session stands is
tidy_step false R kept t indexed link session asks stands closed_before is = within_does R kept t indexed session stands closed_before (open_in_turn t indexed.config.target session asks)

from_does : (R : ScannerTable → ScannerTable → Type 0) → Kept R → (t : ScannerTable) (indexed : IndexedSlot) (session : Option Session) (state : SlotState) → session ≡ asking_in t indexed.config.target state → indexed.slot.state ≡ state → Stands t indexed → IsClosedSlot indexed → Does R t indexed (opened_from t indexed session state)
from_does R kept t indexed session (TimedOut link) asks is stands closed_before = tidy_step t.profile.tidy R kept t indexed link session asks stands closed_before (ap link_in is)
from_does R kept t indexed session other asks is stands closed_before = within_does R kept t indexed session stands closed_before (open_in_turn t indexed.config.target session asks)

pub opened_does : (R : ScannerTable → ScannerTable → Type 0) → Kept R → (t : ScannerTable) (indexed : IndexedSlot) → Stands t indexed → IsClosedSlot indexed → Does R t indexed (opened t indexed)
unfolding opened
opened_does R kept t indexed stands closed_before = from_does R kept t indexed (asking_session t indexed) indexed.slot.state refl refl stands closed_before

-- ---- effects on slots, one after another

abbrev pub DoesAt : (ScannerTable → ScannerTable → Type 0) → (IndexedSlot → Type 0) → (ScannerTable → IndexedSlot → Effect) → Type 0
DoesAt R Q effect = (t : ScannerTable) (indexed : IndexedSlot) → Stands t indexed → Q indexed → Does R t indexed (effect t indexed)

pub each_does : (R : ScannerTable → ScannerTable → Type 0) → Kept R → (Q : IndexedSlot → Type 0) (effect : ScannerTable → IndexedSlot → Effect) → DoesAt R Q effect → (rest : List IndexedSlot) (t : ScannerTable) → Each (Stands t) rest → EachTwo Apart rest → Each Q rest → R t (on_each effect rest t).table
each_does R kept Q effect does [] t stand apart holds = kept.same t
each_does R kept Q effect does (indexed ∷ rest) t stand apart holds =
    let first = does t indexed stand.0 holds.0 in
    let next = (effect t indexed).table in
    kept.after t next (on_each effect rest next).table first.leads
    (each_does R kept Q effect does rest next (stand_on t next indexed.number rest first.local apart.0 stand.1) apart.1 holds.1)

either_none : (b : Bool) (t : ScannerTable) → cond b (nothing t) (nothing t) ≡ nothing t
either_none true t = refl
either_none false t = refl

-- without a session nothing happens to a slot
pub from_none : (t : ScannerTable) (indexed : IndexedSlot) (state : SlotState) → opened_from t indexed None state ≡ nothing t
from_none t indexed (TimedOut link) = either_none t.profile.tidy t
from_none t indexed other = refl

ready_rests : (clock : Ms) (indexed : IndexedSlot) → is_ready_slot clock indexed ≡ true → IsClosedSlot indexed
ready_rests clock indexed ready = (and_parts (is_closed indexed.slot.state) _ (and_parts (needs_request indexed.slot) _ ready).1).0

ready_stand : (t : ScannerTable) → Each (Stands t) (ready_slots t)
ready_stand t = each_filter (Stands t) (is_ready_slot t.clock) (indexed_slots t) (each_stands t)

ready_apart : (t : ScannerTable) → EachTwo Apart (ready_slots t)
ready_apart t = two_filter Apart (is_ready_slot t.clock) (indexed_slots t) (slots_apart t)

ready_rest : (t : ScannerTable) → Each IsClosedSlot (ready_slots t)
ready_rest t = each_more (λ indexed. is_ready_slot t.clock indexed ≡ true) IsClosedSlot (ready_rests t.clock) (ready_slots t) (each_passes (is_ready_slot t.clock) (indexed_slots t))

pub ready_leads : (R : ScannerTable → ScannerTable → Type 0) → Kept R → (t : ScannerTable) → R t (ready_opened t).table
unfolding ready_opened
ready_leads R kept t = each_does R kept IsClosedSlot opened (opened_does R kept) (ready_slots t) t (ready_stand t) (ready_apart t) (ready_rest t)

pub target_leads : (R : ScannerTable → ScannerTable → Type 0) → Kept R → (target : Node) (t : ScannerTable) → R t (target_opened target t).table
unfolding target_opened
target_leads R kept target t =
    each_does R kept IsClosedSlot opened (opened_does R kept) (filter (is_with target) (ready_slots t)) t
    (each_filter (Stands t) (is_with target) (ready_slots t) (ready_stand t)) (two_filter Apart (is_with target) (ready_slots t) (ready_apart t)) (each_filter IsClosedSlot (is_with target) (ready_slots t) (ready_rest t))

-- ---- endings

-- the slot keeps its connection as timed out
does_time_out : (R : ScannerTable → ScannerTable → Type 0) → Kept R → (t : ScannerTable) (indexed : IndexedSlot) (link : Link) (slot : Slot) → Stands t indexed → link_in indexed.slot.state ≡ Some link → BecomesTimedOut link indexed.slot slot → Does R t indexed (changed t indexed slot [])
does_time_out R kept t indexed link slot stands is becomes = record { leads = kept.timing_out t indexed link slot stands is becomes; local = set_local t t indexed.number slot refl refl }

-- an opening is not answered
unanswered_step : (b : Bool) (R : ScannerTable → ScannerTable → Type 0) → Kept R → (t : ScannerTable) (indexed : IndexedSlot) (o : opening.PendingOpen) → indexed.slot.state ≡ Opening o → Stands t indexed → Does R t indexed (changed t indexed (failed_slot t (cond b (TimedOut (requested_link o.requested)) Idle) indexed.slot) [])
unanswered_step true R kept t indexed o is stands =
    does_time_out R kept t indexed (requested_link o.requested) (failed_slot t (TimedOut (requested_link o.requested)) indexed.slot) stands (ap link_in is) (record { state = refl; output = refl; image = refl })
unanswered_step false R kept t indexed o is stands = does_failed R kept t indexed [] stands

-- a Forward_Close is not answered
unclosed_step : (b : Bool) (R : ScannerTable → ScannerTable → Type 0) → Kept R → (t : ScannerTable) (indexed : IndexedSlot) (c : closing_slots.PendingClose) → indexed.slot.state ≡ Closing c → Stands t indexed → Does R t indexed (changed t indexed (cond b (failed_slot t (TimedOut c.link) indexed.slot) (idle_slot indexed.slot)) [])
unclosed_step true R kept t indexed c is stands = does_time_out R kept t indexed c.link (failed_slot t (TimedOut c.link) indexed.slot) stands (ap link_in is) (record { state = refl; output = refl; image = refl })
unclosed_step false R kept t indexed c is stands = does_clear R kept t indexed stands

given_state_does : (R : ScannerTable → ScannerTable → Type 0) → Kept R → (t : ScannerTable) (indexed : IndexedSlot) (state : SlotState) → indexed.slot.state ≡ state → Stands t indexed → Does R t indexed (given_up_state t indexed state)
given_state_does R kept t indexed Idle is stands = does_nothing R kept t indexed
given_state_does R kept t indexed (Opening o) is stands = unanswered_step t.profile.tidy R kept t indexed o is stands
given_state_does R kept t indexed (Established c) is stands = does_nothing R kept t indexed
given_state_does R kept t indexed (TimedOut link) is stands = does_nothing R kept t indexed
given_state_does R kept t indexed (Closing c) is stands = unclosed_step (t.profile.tidy && is_close_in_time t c) R kept t indexed c is stands

pub given_does : (R : ScannerTable → ScannerTable → Type 0) → Kept R → DoesAt R Any given_up
given_does R kept t indexed stands any = given_state_does R kept t indexed indexed.slot.state refl stands

pub lost_leads : (R : ScannerTable → ScannerTable → Type 0) → Kept R → (target : Node) (t : ScannerTable) → R t (target_lost target t).table
unfolding target_lost
lost_leads R kept target t =
    each_does R kept Any given_up (given_does R kept) (filter (is_with target) (indexed_slots t)) t (each_filter (Stands t) (is_with target) (indexed_slots t) (each_stands t))
    (two_filter Apart (is_with target) (indexed_slots t) (slots_apart t)) (each_any (filter (is_with target) (indexed_slots t)))

pub overdue_leads : (R : ScannerTable → ScannerTable → Type 0) → Kept R → (t : ScannerTable) → R t (all_given_up t).table
unfolding all_given_up
overdue_leads R kept t =
    each_does R kept Any given_up (given_does R kept) (filter (is_overdue t.clock) (indexed_slots t)) t (each_filter (Stands t) (is_overdue t.clock) (indexed_slots t) (each_stands t))
    (two_filter Apart (is_overdue t.clock) (indexed_slots t) (slots_apart t)) (each_any (filter (is_overdue t.clock) (indexed_slots t)))

expired_state_does : (R : ScannerTable → ScannerTable → Type 0) → Kept R → (t : ScannerTable) (indexed : IndexedSlot) (state : SlotState) → indexed.slot.state ≡ state → Stands t indexed → Does R t indexed (expired_state t indexed state)
expired_state_does R kept t indexed Idle is stands = does_nothing R kept t indexed
expired_state_does R kept t indexed (Opening o) is stands = does_nothing R kept t indexed
expired_state_does R kept t indexed (Established c) is stands = does_time_out R kept t indexed c.link (failed_slot t (TimedOut c.link) indexed.slot) stands (ap link_in is) (record { state = refl; output = refl; image = refl })
expired_state_does R kept t indexed (TimedOut link) is stands = does_nothing R kept t indexed
expired_state_does R kept t indexed (Closing c) is stands = does_nothing R kept t indexed

pub expired_does : (R : ScannerTable → ScannerTable → Type 0) → Kept R → DoesAt R Any expired
expired_does R kept t indexed stands any = expired_state_does R kept t indexed indexed.slot.state refl stands

pub expired_leads : (R : ScannerTable → ScannerTable → Type 0) → Kept R → (t : ScannerTable) → R t (all_expired t).table
unfolding all_expired
expired_leads R kept t =
    each_does R kept Any expired (expired_does R kept) (expired_slots t) t
    (each_in_order (Stands t) by_deadline (filter (has_expired t.clock) (indexed_slots t)) (each_filter (Stands t) (has_expired t.clock) (indexed_slots t) (each_stands t)))
    (two_in_order by_deadline (filter (has_expired t.clock) (indexed_slots t)) (two_filter Apart (has_expired t.clock) (indexed_slots t) (slots_apart t))) (each_any (expired_slots t))

pub advanced_leads : (R : ScannerTable → ScannerTable → Type 0) → Kept R → (t : ScannerTable) → R t (advanced t).table
advanced_leads R kept t =
    let first = (all_expired t).table in
    let second = (all_given_up first).table in
    kept.after t second (ready_opened second).table (kept.after t first second (expired_leads R kept t) (overdue_leads R kept first)) (ready_leads R kept second)

-- ---- answers

-- an answer leads to a table that is so related
abbrev pub Leads : (ScannerTable → ScannerTable → Type 0) → ScannerTable → Result Next StepFault → Type 0
Leads R t said = IfOk said (λ next. R t next.1)

left_step : (b : Bool) (R : ScannerTable → ScannerTable → Type 0) → Kept R → (t : ScannerTable) (indexed : IndexedSlot) (link : Link) → Stands t indexed → link_in indexed.slot.state ≡ Some link → R t (with_slot t indexed.number (record indexed.slot { state = cond b (TimedOut link) Idle; desired_up = false }))
left_step true R kept t indexed link stands is = kept.timing_out t indexed link (record indexed.slot { state = TimedOut link; desired_up = false }) stands is (record { state = refl; output = refl; image = refl })
left_step false R kept t indexed link stands is = (does_resigned R kept t indexed [] stands).leads

closed_leads : (R : ScannerTable → ScannerTable → Type 0) → Kept R → (t : ScannerTable) (indexed : IndexedSlot) (link : Link) (session : Option Session) → Stands t indexed → link_in indexed.slot.state ≡ Some link → R t (closed_within t indexed link session).table
closed_leads R kept t indexed link None stands is = left_step t.profile.tidy R kept t indexed link stands is
closed_leads R kept t indexed link (Some session) stands is = (close_step (has_request t) R kept t indexed link false session stands is).leads

dropped_step : (b : Bool) (R : ScannerTable → ScannerTable → Type 0) → Kept R → (t : ScannerTable) (indexed : IndexedSlot) (link : Link) → Stands t indexed → link_in indexed.slot.state ≡ Some link → R t (cond b (closed_within t indexed link (session_with t indexed.config.target)) (slot_resigned t indexed)).table
dropped_step true R kept t indexed link stands is = closed_leads R kept t indexed link (session_with t indexed.config.target) stands is
dropped_step false R kept t indexed link stands is = (does_resigned R kept t indexed [] stands).leads

stop_step : (b : Bool) (R : ScannerTable → ScannerTable → Type 0) → Kept R → (t : ScannerTable) (indexed : IndexedSlot) → Stands t indexed → Leads R t (stop_of (cond b (Ok (slot_resigned t indexed)) (Err fault.NotAllowedNow)))
stop_step true R kept t indexed stands = (does_resigned R kept t indexed [] stands).leads
stop_step false R kept t indexed stands = tt

stopped_leads : (R : ScannerTable → ScannerTable → Type 0) → Kept R → (t : ScannerTable) (indexed : IndexedSlot) (state : SlotState) → indexed.slot.state ≡ state → Stands t indexed → Leads R t (stop_of (stopped t indexed state))
stopped_leads R kept t indexed Idle is stands = stop_step indexed.slot.desired_up R kept t indexed stands
stopped_leads R kept t indexed (Opening o) is stands = dropped_step t.profile.tidy R kept t indexed (requested_link o.requested) stands (ap link_in is)
stopped_leads R kept t indexed (Established c) is stands = closed_leads R kept t indexed c.link (session_with t indexed.config.target) stands (ap link_in is)
stopped_leads R kept t indexed (TimedOut link) is stands = dropped_step t.profile.tidy R kept t indexed link stands (ap link_in is)
stopped_leads R kept t indexed (Closing c) is stands = stop_step indexed.slot.desired_up R kept t indexed stands

stop_at_leads : (R : ScannerTable → ScannerTable → Type 0) → Kept R → (t : ScannerTable) (number : ℕ) (found : Option IndexedSlot) → slot_at t number ≡ found → Leads R t (stop_of (stopped_at t found))
stop_at_leads R kept t number None is = tt
stop_at_leads R kept t number (Some indexed) is = stopped_leads R kept t indexed indexed.slot.state refl (each_found (Stands t) (is_numbered number) (indexed_slots t) indexed is (each_stands t))

pub stop_leads : (R : ScannerTable → ScannerTable → Type 0) → Kept R → (t : ScannerTable) (number : ℕ) → Leads R t (stop t number)
unfolding stop
stop_leads R kept t number = stop_at_leads R kept t number (slot_at t number) refl

started_leads : (R : ScannerTable → ScannerTable → Type 0) → Kept R → (t : ScannerTable) (indexed : IndexedSlot) → indexed.slot.state ≡ Idle → Stands t indexed → R t (started t indexed (desired_slot t indexed.slot)).table
started_leads R kept t indexed is stands =
    let slot = desired_slot t indexed.slot in
    let now = with_slot t indexed.number slot in
    kept.after t now (started t indexed slot).table (kept.idling t indexed slot stands (record { state = is; output = refl; image = refl }))
    (opened_does R kept now (record indexed { slot = slot }) (stands_with t indexed slot stands) (rw is refl)).leads

start_step : (b : Bool) (R : ScannerTable → ScannerTable → Type 0) → Kept R → (t : ScannerTable) (indexed : IndexedSlot) → indexed.slot.state ≡ Idle → Stands t indexed → Leads R t (cond b (Err fault.NotAllowedNow) (Ok (done (started t indexed (desired_slot t indexed.slot)))))
start_step true R kept t indexed is stands = tt
start_step false R kept t indexed is stands = started_leads R kept t indexed is stands

start_state_leads : (R : ScannerTable → ScannerTable → Type 0) → Kept R → (t : ScannerTable) (indexed : IndexedSlot) (state : SlotState) → indexed.slot.state ≡ state → Stands t indexed → Leads R t (start_state t indexed state)
start_state_leads R kept t indexed Idle is stands = start_step indexed.slot.desired_up R kept t indexed is stands
start_state_leads R kept t indexed (Opening o) is stands = tt
start_state_leads R kept t indexed (Established c) is stands = tt
start_state_leads R kept t indexed (TimedOut link) is stands = tt
start_state_leads R kept t indexed (Closing c) is stands = tt

start_at_leads : (R : ScannerTable → ScannerTable → Type 0) → Kept R → (t : ScannerTable) (number : ℕ) (found : Option IndexedSlot) → slot_at t number ≡ found → Leads R t (start_at t found)
start_at_leads R kept t number None is = tt
start_at_leads R kept t number (Some indexed) is = start_state_leads R kept t indexed indexed.slot.state refl (each_found (Stands t) (is_numbered number) (indexed_slots t) indexed is (each_stands t))

pub start_leads : (R : ScannerTable → ScannerTable → Type 0) → Kept R → (t : ScannerTable) (number : ℕ) → Leads R t (start t number)
unfolding start
start_leads R kept t number = start_at_leads R kept t number (slot_at t number) refl

-- ---- explicit requests

-- requests that wait for their replies end
pub ended_leads : (R : ScannerTable → ScannerTable → Type 0) → KeptWidely R → (test : PendingExplicit → Bool) (why : Unanswered) (t : ScannerTable) → R t (explicit_ended test why t).table
ended_leads R kept test why t = kept.explicit t (others test t.explicit) t.next_request (omega arith)

pub timed_out_leads : (R : ScannerTable → ScannerTable → Type 0) → KeptWidely R → (t : ScannerTable) → R t (explicit_timed_out t).table
unfolding explicit_timed_out
timed_out_leads R kept t = ended_leads R kept (is_late t.clock) unanswered.TimedOut t

pub explicit_lost_leads : (R : ScannerTable → ScannerTable → Type 0) → KeptWidely R → (stream : ℕ) (t : ScannerTable) → R t (explicit_lost stream t).table
unfolding explicit_lost
explicit_lost_leads R kept stream t = ended_leads R kept (is_over stream) unanswered.Lost t

barred_step : (b : Bool) (R : ScannerTable → ScannerTable → Type 0) → KeptWidely R → (t : ScannerTable) (session : Session) (number : ℕ) (bytes : List ℕ) → Leads R t (cond b (Err fault.NotAllowedNow) (Ok (done (explicit_sent t session number bytes))))
barred_step true R kept t session number bytes = tt
barred_step false R kept t session number bytes = kept.explicit t (explicit_sent t session number bytes).table.explicit (t.next_request + 1) (omega arith)

explicit_within_leads : (R : ScannerTable → ScannerTable → Type 0) → KeptWidely R → (t : ScannerTable) (number : ℕ) (bytes : List ℕ) (session : Option Session) → Leads R t (explicit_within t number bytes session)
explicit_within_leads R kept t number bytes None = tt
explicit_within_leads R kept t number bytes (Some session) = barred_step (is_barred t number bytes) R kept t session number bytes

explicit_step : (a b : Bool) (R : ScannerTable → ScannerTable → Type 0) → KeptWidely R → (t : ScannerTable) (target : Node) (number : ℕ) (bytes : List ℕ) → Leads R t (cond a (cond b (explicit_within t number bytes (session_with t target)) (Err fault.WrongLength)) (Err fault.NoSuchSlot))
explicit_step true true R kept t target number bytes = explicit_within_leads R kept t number bytes (session_with t target)
explicit_step true false R kept t target number bytes = tt
explicit_step false b R kept t target number bytes = tt

pub explicit_leads : (R : ScannerTable → ScannerTable → Type 0) → KeptWidely R → (t : ScannerTable) (target : Node) (number : ℕ) (bytes : List ℕ) → Leads R t (explicit_request t target number bytes)
unfolding explicit_request
explicit_leads R kept t target number bytes = explicit_step (list_any (connects_to target) t.profile.slots) (has_explicit_length bytes) R kept t target number bytes

-- ---- ticks and streams

tick_step : (a b : Bool) (R : ScannerTable → ScannerTable → Type 0) → KeptWidely R → (t : ScannerTable) (ms : ℕ) → Leads R t (cond a (Err fault.TickTooLong) (cond b (Err fault.ClockEnd) (Ok (ticked (moved_on (clocked_table t ms))))))
tick_step true b R kept t ms = tt
tick_step false true R kept t ms = tt
tick_step false false R kept t ms =
    let now = clocked_table t ms in
    let moved = (advanced now).table in
    let left = (explicit_timed_out moved).table in
    kept.slots.after t left (produced_table left)
    (kept.slots.after t moved left (kept.slots.after t now moved (kept.clocked t ms) (advanced_leads R kept.slots now)) (timed_out_leads R kept moved))
    (kept.producing left)

pub tick_leads : (R : ScannerTable → ScannerTable → Type 0) → KeptWidely R → (t : ScannerTable) (ms : ℕ) → Leads R t (tick t ms)
unfolding tick
tick_leads R kept t ms = tick_step (nat_lt longest_tick ms) (nat_lt clock_end (t.clock.0 + ms)) R kept t ms

mode_step : (b : Bool) (R : ScannerTable → ScannerTable → Type 0) → KeptWidely R → (t : ScannerTable) (run : Bool) → R t (cond b t (moded_table t run))
mode_step true R kept t run = kept.slots.same t
mode_step false R kept t run = kept.moding t run

pub mode_leads : (R : ScannerTable → ScannerTable → Type 0) → KeptWidely R → (t : ScannerTable) (run : Bool) → R t (mode t run).1
unfolding mode
mode_leads R kept t run = mode_step (same_mode run t.run) R kept t run

taken_step : (b : Bool) (R : ScannerTable → ScannerTable → Type 0) → KeptWidely R → (t : ScannerTable) (number : ℕ) (target : Node) → Leads R t (cond b (Err fault.NotAllowedNow) (Ok (done (registering_on t number target))))
taken_step true R kept t number target = tt
taken_step false R kept t number target = kept.streams t (with_stream t number target).streams

pub streamed_leads : (R : ScannerTable → ScannerTable → Type 0) → KeptWidely R → (t : ScannerTable) (number : ℕ) (target : Node) → Leads R t (stream_opened t number target)
unfolding stream_opened
streamed_leads R kept t number target = taken_step (is_taken t.streams number target) R kept t number target

cut_of_leads : (R : ScannerTable → ScannerTable → Type 0) → KeptWidely R → (t : ScannerTable) (found : Option TargetStream) → Leads R t (cut_of t found)
cut_of_leads R kept t None = tt
cut_of_leads R kept t (Some stream) =
    let now = without_stream t stream.number in
    let lost = (target_lost stream.peer now).table in
    kept.slots.after t lost (explicit_lost stream.number lost).table (kept.slots.after t now lost (kept.streams t now.streams) (lost_leads R kept.slots stream.peer now)) (explicit_lost_leads R kept stream.number lost)

pub cut_leads : (R : ScannerTable → ScannerTable → Type 0) → KeptWidely R → (t : ScannerTable) (number : ℕ) → Leads R t (stream_cut t number)
unfolding stream_cut
cut_leads R kept t number = cut_of_leads R kept t (find (is_stream number) t.streams)

-- further ids come
ids_step : (b : Bool) (R : ScannerTable → ScannerTable → Type 0) → Takes R → (t : ScannerTable) (block : IdBlock) → may_take t.ids block ≡ b → Leads R t (cond b (Ok (plain_answer Done, taken_table t block)) (Err fault.NotAllowedNow))
ids_step true R takes t block may = takes t block may
ids_step false R takes t block may = tt

ids_leads : (R : ScannerTable → ScannerTable → Type 0) → Takes R → (t : ScannerTable) (block : IdBlock) → Leads R t (take_ids t block)
unfolding take_ids
ids_leads R takes t block = ids_step (may_take t.ids block) R takes t block refl

-- an event that leaves the table as it is
pub passive_leads : (R : ScannerTable → ScannerTable → Type 0) → Kept R → (t : ScannerTable) (event : Event) → is_passive event ≡ true → Leads R t (scanner_step t event)
passive_leads R kept t event passive = passive_holds (Leads R t) t (λ why. tt) (λ verdict. kept.same t) event passive

-- ---- frames: what leads on, or one slot that is established

-- the relation R, or what one established slot makes
pub record OrEstablished (R C : ScannerTable → ScannerTable → Type 0) (t : ScannerTable) : Type 0 where
  pub kept : KeptWidely R
  pub weaker : (u : ScannerTable) → R t u → C t u
  pub establishing : Establishes C t

session_step : (b : Bool) (R : ScannerTable → ScannerTable → Type 0) → KeptWidely R → (t : ScannerTable) (stream : TargetStream) (handle : ℕ) → R t (cond b (session_begun t stream handle) (session_failed t stream)).table
session_step true R kept t stream handle =
    let now = with_stage t stream.number (Up handle) in
    kept.slots.after t now (target_opened stream.peer now).table (kept.streams t now.streams) (target_leads R kept.slots stream.peer now)
session_step false R kept t stream handle = kept.streams t (with_stage t stream.number Unused).streams

is_requested : (a x y c : Bool) → cond a (Some mismatch.Triad) (cond (not (x && y)) (Some mismatch.Id) (cond (not c) (Some mismatch.Api) None)) ≡ None → x ≡ true
is_requested true x y c none = absurd cc
is_requested false true y c none = refl
is_requested false false y c none = absurd cc

-- a request that no slot waits for
disown_step : (b : Bool) (R : ScannerTable → ScannerTable → Type 0) → KeptWidely R → (t : ScannerTable) (config : SlotConfig) (triad : Triad) (session : Session) → R t (cond b (disowned t config triad session) (nothing t)).table
disown_step true R kept t config triad session = kept.explicit t t.explicit (t.next_request + 1) (omega arith)
disown_step false R kept t config triad session = kept.slots.same t

disowned_leads : (R : ScannerTable → ScannerTable → Type 0) → KeptWidely R → (t : ScannerTable) (config : SlotConfig) (triad : Triad) (session : Option Session) → R t (disowned_within t config triad session).table
disowned_leads R kept t config triad None = kept.slots.same t
disowned_leads R kept t config triad (Some session) = disown_step (has_request t) R kept t config triad session

reject_step : (b : Bool) (R : ScannerTable → ScannerTable → Type 0) → KeptWidely R → (t : ScannerTable) (config : SlotConfig) (triad : Triad) → R t (cond b (disowned_within t config triad (session_with t config.target)) (nothing t)).table
reject_step true R kept t config triad = disowned_leads R kept t config triad (session_with t config.target)
reject_step false R kept t config triad = kept.slots.same t

rejected_leads : (R : ScannerTable → ScannerTable → Type 0) → KeptWidely R → (t : ScannerTable) (indexed : IndexedSlot) (why : Reason) (triad : Triad) → Stands t indexed → R t (and_then (refused t indexed why) (rejected indexed.config triad)).table
rejected_leads R kept t indexed why triad stands =
    let u = (refused t indexed why).table in
    kept.slots.after t u (rejected indexed.config triad u).table (does_failed R kept.slots t indexed (notice.Refused indexed.number why ∷ []) stands).leads (reject_step u.profile.tidy R kept u indexed.config triad)

success_leads : (R C : ScannerTable → ScannerTable → Type 0) (t : ScannerTable) → OrEstablished R C t → (indexed : IndexedSlot) (o : opening.PendingOpen) (success : made.Opened) (why : Option Mismatch) → first_case (answer_tests o.requested success (is_id_free t indexed success.t_o_id)) ≡ why → Stands t indexed → indexed.slot.state ≡ Opening o → C t (judged_success t indexed o success why).table
success_leads R C t either indexed o success (Some why) is stands opens = either.weaker _ (rejected_leads R either.kept t indexed (reason.Mismatch why) o.requested.triad stands)
success_leads R C t either indexed o success None is stands opens = either.establishing indexed o success stands opens (is_requested _ (is_requested_id o.requested.t_o_id success.t_o_id) (is_id_free t indexed success.t_o_id) (has_intervals success) is)

answered_leads : (R C : ScannerTable → ScannerTable → Type 0) (t : ScannerTable) → OrEstablished R C t → (indexed : IndexedSlot) (o : opening.PendingOpen) (said : Result OpenAnswer Reason) → Stands t indexed → indexed.slot.state ≡ Opening o → C t (answered t indexed o said).table
unfolding answered
answered_leads R C t either indexed o (Err why) stands opens = either.weaker _ (does_failed R either.kept.slots t indexed (notice.Refused indexed.number why ∷ []) stands).leads
answered_leads R C t either indexed o (Ok (answer.Refused r)) stands opens = either.weaker _ (does_failed R either.kept.slots t indexed (notice.Refused indexed.number (reason.Cip r.fault) ∷ []) stands).leads
answered_leads R C t either indexed o (Ok (answer.Opened success)) stands opens =
    success_leads R C t either indexed o success (first_case (answer_tests o.requested success (is_id_free t indexed success.t_o_id))) refl stands opens

stays_leads : (R C : ScannerTable → ScannerTable → Type 0) (t : ScannerTable) → OrEstablished R C t → C t t
stays_leads R C t either = either.weaker t (either.kept.slots.same t)

-- the slot opens, if its connection is desired
reopen_step : (b : Bool) (R : ScannerTable → ScannerTable → Type 0) → Kept R → (t : ScannerTable) (indexed : IndexedSlot) → Stands t indexed → IsClosedSlot indexed → R t (cond b (opened t indexed) (nothing t)).table
reopen_step true R kept t indexed stands closed_before = (opened_does R kept t indexed stands closed_before).leads
reopen_step false R kept t indexed stands closed_before = kept.same t

pub closed_does : (R : ScannerTable → ScannerTable → Type 0) → Kept R → (t : ScannerTable) (indexed : IndexedSlot) → Stands t indexed → R t (closed t indexed).table
closed_does R kept t indexed stands =
    let slot = idle_slot indexed.slot in
    let now = with_slot t indexed.number slot in
    kept.after t now (closed t indexed).table (does_clear R kept t indexed stands).leads
    (reopen_step indexed.slot.desired_up R kept now (record indexed { slot = slot }) (stands_with t indexed slot stands) refl)

replied_leads : (R C : ScannerTable → ScannerTable → Type 0) (t : ScannerTable) → OrEstablished R C t → (indexed : IndexedSlot) (m : MessageFields) (state : SlotState) → indexed.slot.state ≡ state → Stands t indexed → C t (replied t indexed m state).1
replied_leads R C t either indexed m Idle is stands = stays_leads R C t either
replied_leads R C t either indexed m (Opening o) is stands = answered_leads R C t either indexed o (open_answer (is_large indexed.config) m) stands is
replied_leads R C t either indexed m (Established c) is stands = stays_leads R C t either
replied_leads R C t either indexed m (TimedOut link) is stands = stays_leads R C t either
replied_leads R C t either indexed m (Closing c) is stands = either.weaker _ (closed_does R either.kept.slots t indexed stands)

replied_to_leads : (R C : ScannerTable → ScannerTable → Type 0) (t : ScannerTable) → OrEstablished R C t → (m : MessageFields) (p : IndexedSlot → Bool) (found : Option IndexedSlot) → find p (indexed_slots t) ≡ found → C t (replied_to t m found).1
replied_to_leads R C t either m p None is = stays_leads R C t either
replied_to_leads R C t either m p (Some indexed) is = replied_leads R C t either indexed m indexed.slot.state refl (each_found (Stands t) p (indexed_slots t) indexed is (each_stands t))

-- the session on a stream ends, and a new one is registered
renewed_leads : (R : ScannerTable → ScannerTable → Type 0) → KeptWidely R → (t : ScannerTable) (stream : TargetStream) → R t (session_renewed stream t).table
renewed_leads R kept t stream =
    let now = with_stage t stream.number Waiting in
    let lost = (target_lost stream.peer now).table in
    kept.slots.after t lost (explicit_lost stream.number lost).table (kept.slots.after t now lost (kept.streams t now.streams) (lost_leads R kept.slots stream.peer now)) (explicit_lost_leads R kept stream.number lost)

unserved_leads : (R : ScannerTable → ScannerTable → Type 0) → Kept R → (t : ScannerTable) (indexed : IndexedSlot) (status : ℕ) (state : SlotState) → Stands t indexed → R t (unserved_state status t indexed state).table
unserved_leads R kept t indexed status (Opening o) stands = (does_failed R kept t indexed (notice.Refused indexed.number (reason.Encap status) ∷ []) stands).leads
unserved_leads R kept t indexed status other stands = kept.same t

answered_at_leads : (b : Bool) (R C : ScannerTable → ScannerTable → Type 0) (t : ScannerTable) → OrEstablished R C t → (stream : TargetStream) (m : MessageFields) (p : IndexedSlot → Bool) (found : Option IndexedSlot) → find p (indexed_slots t) ≡ found → C t (cond b (unserved_at t stream m found) (replied_to t m found)).1
answered_at_leads true R C t either stream m p None is = stays_leads R C t either
answered_at_leads true R C t either stream m p (Some indexed) is =
    let u = (unserved m.status t indexed).table in
    either.weaker (session_renewed stream u).table
    (either.kept.slots.after t u (session_renewed stream u).table (unserved_leads R either.kept.slots t indexed m.status indexed.slot.state (each_found (Stands t) p (indexed_slots t) indexed is (each_stands t))) (renewed_leads R either.kept u stream))
answered_at_leads false R C t either stream m p found is = replied_to_leads R C t either m p found is

first_step : (b : Bool) (R C : ScannerTable → ScannerTable → Type 0) (t : ScannerTable) → OrEstablished R C t → (stream : TargetStream) (m : MessageFields) → C t (cond b (done (registered t stream m)) (ignored t)).1
first_step true R C t either stream m = either.weaker _ (session_step (is_registered m) R either.kept t stream m.session)
first_step false R C t either stream m = stays_leads R C t either

reported_leads : (R C : ScannerTable → ScannerTable → Type 0) (t : ScannerTable) → OrEstablished R C t → (stream : TargetStream) (m : MessageFields) (stage : Stage) → C t (reported t stream m stage).1
reported_leads R C t either stream m Waiting = first_step (m.context == 0) R C t either stream m
reported_leads R C t either stream m (Up handle) = answered_at_leads (ends_session t m) R C t either stream m (is_awaiting stream.peer m.context) (find (is_awaiting stream.peer m.context) (indexed_slots t)) refl
reported_leads R C t either stream m Unused = stays_leads R C t either

-- a pending request is pending no more
removed_leads : (R C : ScannerTable → ScannerTable → Type 0) (t : ScannerTable) → OrEstablished R C t → (pending : PendingExplicit) → C t (without_explicit t pending)
removed_leads R C t either pending = either.weaker (without_explicit t pending) (either.kept.explicit t (others (is_request pending.request) t.explicit) t.next_request (omega arith))

explicit_answered_leads : (R C : ScannerTable → ScannerTable → Type 0) (t : ScannerTable) → OrEstablished R C t → (pending : PendingExplicit) (reply : Result RouterReplyFields Unanswered) → C t (explicit_answered t pending reply).1
explicit_answered_leads R C t either pending (Ok reply) = removed_leads R C t either pending
explicit_answered_leads R C t either pending (Err why) = removed_leads R C t either pending

explicit_ends_leads : (b : Bool) (R C : ScannerTable → ScannerTable → Type 0) (t : ScannerTable) → OrEstablished R C t → (stream : TargetStream) (m : MessageFields) (pending : PendingExplicit) (reply : Result RouterReplyFields Unanswered) → C t (cond b (done (session_renewed stream t)) (explicit_answered t pending reply)).1
explicit_ends_leads true R C t either stream m pending reply = either.weaker (session_renewed stream t).table (renewed_leads R either.kept t stream)
explicit_ends_leads false R C t either stream m pending reply = explicit_answered_leads R C t either pending reply

message_leads : (R C : ScannerTable → ScannerTable → Type 0) (t : ScannerTable) → OrEstablished R C t → (stream : TargetStream) (m : MessageFields) (found : Option PendingExplicit) → C t (message_answer t stream m found).1
message_leads R C t either stream m None = reported_leads R C t either stream m stream.stage
message_leads R C t either stream m (Some pending) = explicit_ends_leads (ends_session t m) R C t either stream m pending (explicit_reply pending.service m)

frame_answer_leads : (R C : ScannerTable → ScannerTable → Type 0) (t : ScannerTable) → OrEstablished R C t → (stream : TargetStream) (reading : Result MessageFields EncapFault) → C t (frame_answer t stream reading).1
frame_answer_leads R C t either stream (Err why) = stays_leads R C t either
frame_answer_leads R C t either stream (Ok m) = message_leads R C t either stream m (find (awaits stream.number m.context) t.explicit)

frame_of_leads : (R C : ScannerTable → ScannerTable → Type 0) (t : ScannerTable) → OrEstablished R C t → (bytes : List ℕ) (found : Option TargetStream) → Leads C t (frame_of t bytes found)
frame_of_leads R C t either bytes None = tt
frame_of_leads R C t either bytes (Some stream) = frame_answer_leads R C t either stream (message_reading bytes)

pub frame_leads : (R C : ScannerTable → ScannerTable → Type 0) (t : ScannerTable) → OrEstablished R C t → (number : ℕ) (bytes : List ℕ) → Leads C t (frame t number bytes)
unfolding frame
frame_leads R C t either number bytes = frame_of_leads R C t either bytes (find (is_stream number) t.streams)

-- ---- writes and datagrams

length_step : (b : Bool) (C : ScannerTable → ScannerTable → Type 0) (t : ScannerTable) → Writes C t → (indexed : IndexedSlot) (bytes : List ℕ) → Stands t indexed → Leads C t (cond b (Ok (output_written t indexed bytes)) (Err fault.WrongLength))
length_step true C t writing indexed bytes stands = writing indexed bytes stands
length_step false C t writing indexed bytes stands = tt

owner_step : (b c : Bool) (C : ScannerTable → ScannerTable → Type 0) (t : ScannerTable) → Writes C t → (indexed : IndexedSlot) (bytes : List ℕ) → Stands t indexed → Leads C t (cond b (cond c (Ok (output_written t indexed bytes)) (Err fault.WrongLength)) (Err fault.NotAllowedNow))
owner_step true c C t writing indexed bytes stands = length_step c C t writing indexed bytes stands
owner_step false c C t writing indexed bytes stands = tt

write_at_leads : (C : ScannerTable → ScannerTable → Type 0) (t : ScannerTable) → Writes C t → (number : ℕ) (bytes : List ℕ) (found : Option IndexedSlot) → slot_at t number ≡ found → Leads C t (write_at t bytes found)
write_at_leads C t writing number bytes None is = tt
write_at_leads C t writing number bytes (Some indexed) is = owner_step (is_owner indexed.config.kind) _ C t writing indexed bytes (each_found (Stands t) (is_numbered number) (indexed_slots t) indexed is (each_stands t))

pub write_leads : (C : ScannerTable → ScannerTable → Type 0) (t : ScannerTable) → Writes C t → (number : ℕ) (bytes : List ℕ) → Leads C t (write t number bytes)
unfolding write
write_leads C t writing number bytes = write_at_leads C t writing number bytes (slot_at t number) refl

accepted_step : (b : Bool) (C : ScannerTable → ScannerTable → Type 0) (t : ScannerTable) → Accepts C t → (indexed : IndexedSlot) (d : DatagramFields) (c : SlotConnection) → is_duplicate c.last d.count ≡ b → Stands t indexed → indexed.slot.state ≡ Established c → accepts_sequence c.last d.sequence ≡ true → C t (cond b (delivered Duplicate (accepted_table t indexed d c indexed.slot.image)) (delivered Applied (accepted_table t indexed d c d.payload))).1
accepted_step true C t accepting indexed d c is stands opens newer = accepting indexed d c indexed.slot.image stands (record { established = opens; newer = newer; image = rw is refl })
accepted_step false C t accepting indexed d c is stands opens newer = accepting indexed d c d.payload stands (record { established = opens; newer = newer; image = rw is refl })

sequence_step : (b : Bool) (C : ScannerTable → ScannerTable → Type 0) (t : ScannerTable) → C t t → Accepts C t → (indexed : IndexedSlot) (d : DatagramFields) (c : SlotConnection) → accepts_at t indexed c d.sequence ≡ b → Stands t indexed → indexed.slot.state ≡ Established c → C t (cond b (accepted t indexed d c) (delivered Old t)).1
sequence_step true C t same accepting indexed d c is stands opens = accepted_step (is_duplicate c.last d.count) C t accepting indexed d c refl stands opens (and_parts (accepts_sequence c.last d.sequence) (is_within t.profile.newer (since_accepted t.clock c.watchdog c.deadline) (slot_pace indexed c) c.last d.sequence) is).0
sequence_step false C t same accepting indexed d c is stands opens = same

sized_step : (b : Bool) (C : ScannerTable → ScannerTable → Type 0) (t : ScannerTable) → C t t → Accepts C t → (indexed : IndexedSlot) (d : DatagramFields) (c : SlotConnection) → Stands t indexed → indexed.slot.state ≡ Established c → C t (cond b (sized t indexed d c) (delivered WrongSize t)).1
sized_step true C t same accepting indexed d c stands opens = sequence_step (accepts_at t indexed c d.sequence) C t same accepting indexed d c refl stands opens
sized_step false C t same accepting indexed d c stands opens = same

state_received_leads : (C : ScannerTable → ScannerTable → Type 0) (t : ScannerTable) → C t t → Accepts C t → (indexed : IndexedSlot) (d : DatagramFields) (state : SlotState) → indexed.slot.state ≡ state → Stands t indexed → C t (state_received t indexed d state).1
state_received_leads C t same accepting indexed d Idle is stands = same
state_received_leads C t same accepting indexed d (Opening o) is stands = same
state_received_leads C t same accepting indexed d (Established c) is stands = sized_step _ C t same accepting indexed d c stands is
state_received_leads C t same accepting indexed d (TimedOut link) is stands = same
state_received_leads C t same accepting indexed d (Closing c) is stands = same

received_at_leads : (C : ScannerTable → ScannerTable → Type 0) (t : ScannerTable) → C t t → Accepts C t → (d : DatagramFields) (p : IndexedSlot → Bool) (found : Option IndexedSlot) → find p (indexed_slots t) ≡ found → C t (received_at t d found).1
received_at_leads C t same accepting d p None is = same
received_at_leads C t same accepting d p (Some indexed) is = state_received_leads C t same accepting indexed d indexed.slot.state refl (each_found (Stands t) p (indexed_slots t) indexed is (each_stands t))

received_as_leads : (C : ScannerTable → ScannerTable → Type 0) (t : ScannerTable) → C t t → Accepts C t → (peer : Node) (reading : Result DatagramFields DatagramFault) → C t (received_as t peer reading).1
received_as_leads C t same accepting peer (Err why) = same
received_as_leads C t same accepting peer (Ok d) = received_at_leads C t same accepting d (is_for peer d.connection) (find (is_for peer d.connection) (indexed_slots t)) refl

pub received_leads : (C : ScannerTable → ScannerTable → Type 0) (t : ScannerTable) → C t t → Accepts C t → (peer : Node) (bytes : List ℕ) → C t (received t peer bytes).1
unfolding received
received_leads C t same accepting peer bytes = received_as_leads C t same accepting peer (datagram_reading bytes)

-- ---- a step

-- the event has bytes: a frame, a datagram or a write
abbrev pub brings_bytes : Event → Bool
brings_bytes (Frame stream bytes) = true
brings_bytes (Datagram peer bytes) = true
brings_bytes (Write point bytes) = true
brings_bytes other = false

-- each other event that gives no block of ids makes no more than streams, time, productions, modes, explicit requests and changes of
-- single slots
quiet_leads : (R : ScannerTable → ScannerTable → Type 0) → KeptWidely R → (t : ScannerTable) (event : Event) → brings_bytes event ≡ false → gives_ids event ≡ false → Leads R t (scanner_step t event)
quiet_leads R kept t (StreamOpened stream peer) bare none = streamed_leads R kept t stream peer
quiet_leads R kept t (Frame stream bytes) bare none = absurd (let e = bare in cc)
quiet_leads R kept t (StreamCut stream) bare none = cut_leads R kept t stream
quiet_leads R kept t (Datagram peer bytes) bare none = absurd (let e = bare in cc)
quiet_leads R kept t (Write point bytes) bare none = absurd (let e = bare in cc)
quiet_leads R kept t (Tick ms) bare none = tick_leads R kept t ms
quiet_leads R kept t (Mode run) bare none = mode_leads R kept t run
quiet_leads R kept t (Start slot) bare none = start_leads R kept.slots t slot
quiet_leads R kept t (Stop slot) bare none = stop_leads R kept.slots t slot
quiet_leads R kept t (Explicit target number bytes) bare none = explicit_leads R kept t target number bytes
quiet_leads R kept t (Ids block) bare none = absurd (let e = none in cc)
quiet_leads R kept t other bare none = passive_leads R kept.slots t other refl

pub bare_leads : (R : ScannerTable → ScannerTable → Type 0) → KeptWidely R → Takes R → (t : ScannerTable) (event : Event) → brings_bytes event ≡ false → Leads R t (scanner_step t event)
bare_leads R kept takes t (Ids block) bare = ids_leads R takes t block
bare_leads R kept takes t other bare = quiet_leads R kept t other bare refl

-- what makes it without further ids
pub record KeptElse (R : ScannerTable → ScannerTable → Type 0) : Type 0 where
  pub widely : KeptWidely R
  pub establishing : (t : ScannerTable) → Establishes R t
  pub writing : (t : ScannerTable) → Writes R t
  pub accepting : (t : ScannerTable) → Accepts R t

in_all_cases : (R : ScannerTable → ScannerTable → Type 0) → KeptElse R → (t : ScannerTable) → OrEstablished R R t
in_all_cases R kept t = record { kept = kept.widely; weaker = λ u is. is; establishing = kept.establishing t }

pub else_leads : (R : ScannerTable → ScannerTable → Type 0) → KeptElse R → (t : ScannerTable) (event : Event) → gives_ids event ≡ false → Leads R t (scanner_step t event)
else_leads R kept t (Frame stream bytes) none = frame_leads R R t (in_all_cases R kept t) stream bytes
else_leads R kept t (Datagram peer bytes) none = received_leads R t (kept.widely.slots.same t) (kept.accepting t) peer bytes
else_leads R kept t (Write point bytes) none = write_leads R t (kept.writing t) point bytes
else_leads R kept t other none = quiet_leads R kept.widely t other refl none

pub step_leads : (R : ScannerTable → ScannerTable → Type 0) → KeptAlways R → (t : ScannerTable) (event : Event) → Leads R t (scanner_step t event)
step_leads R kept t (Ids block) = ids_leads R kept.taken t block
step_leads R kept t other =
    else_leads R (record { widely = kept.widely; establishing = kept.establishing; writing = kept.writing; accepting = kept.accepting }) t other refl
