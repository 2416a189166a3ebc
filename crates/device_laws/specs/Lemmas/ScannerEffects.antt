-- What an event of a scanner does: its answer has the frames of one effect, which opens slots, closes one, sends an explicit request
-- or sends nothing. So a
-- relation between a table and an effect holds of each step, if it holds of these and of one effect after another.
use Rattle.std.proofs.Common.{◌≡◌, ◌⊎◌, inl, inr, ℕ, ◌+◌, ◌==◌, nat_lt, Bool, true, false, cond, List, [], ◌∷◌, map, filter, find, Option, Some, None, Result, Ok, Err, IfOk, refl, sym, ◌∙◌, ap}
use Rattle.std.specs.List.{list_any, AllByRecursion}
use Rattle.cip_types.specs.Cases.{first_case}
use Rattle.cip_types.specs.declared.names.Mismatch.{Mismatch}
use Rattle.cip_types.specs.declared.names.Node.{Node}
use Rattle.cip_encap.specs.declared.message.EncapFault.{EncapFault}
use Rattle.cip_encap.specs.Message.{MessageFields}
use Rattle.cip_encap.specs.Reading.{message_reading}
use Rattle.cip_events.specs.declared.event.Event.{Event}
use Rattle.cip_events.specs.declared.event.Event.TheVariants as event
use Rattle.cip_events.specs.declared.event.Notice.{Notice}
use Rattle.cip_events.specs.declared.event.Notice.TheVariants as notice
use Rattle.cip_events.specs.declared.event.Reason.{Reason}
use Rattle.cip_events.specs.declared.event.Reason.TheVariants as reason
use Rattle.cip_events.specs.declared.event.StepFault.{StepFault}
use Rattle.cip_events.specs.declared.event.StepFault.TheVariants as fault
use Rattle.cip_events.specs.Clock.{longest_tick, clock_end}
use Rattle.cip_fwdopen.specs.declared.reply.Opened as made
use Rattle.cip_fwdopen.specs.declared.reply.OpenAnswer.{OpenAnswer}
use Rattle.cip_fwdopen.specs.declared.reply.OpenAnswer.TheVariants as answer
use Rattle.conn_state.specs.Answers.{answer_tests}
use Rattle.cip_types.specs.declared.names.Triad.{Triad}
use Rattle.conn_state.specs.declared.names.Link.{Link}
use Rattle.scanner_table.specs.declared.profile.SlotConfig.{SlotConfig}
use Rattle.scanner_table.specs.declared.slot.PendingOpen as pending
use Rattle.scanner_table.specs.declared.slot.Slot.{Slot}
use Rattle.scanner_table.specs.declared.slot.SlotState.{SlotState}
use Rattle.scanner_table.specs.declared.slot.SlotState.TheVariants.{Idle, Opening, Established, TimedOut, Closing}
use Rattle.scanner_table.specs.declared.table.ScannerTable.{ScannerTable}
use Rattle.scanner_table.specs.declared.table.Session.{Session}
use Rattle.scanner_table.specs.declared.table.Stage.{Stage}
use Rattle.scanner_table.specs.declared.table.Stage.TheVariants.{Waiting, Up, Unused}
use Rattle.scanner_table.specs.declared.table.TargetStream.{TargetStream}
use Rattle.scanner_table.specs.Requests.{Sent, is_large, sent_frame}
use Rattle.scanner_table.specs.Closing.{requested_link, left_state, idle_slot, unclosed_slot, given_up_state, given_up, target_lost, reopened, closed, left_slot, closed_within, dropped, slot_resigned, stopped, stopped_at}
use Rattle.scanner_table.specs.Effects.{Next, Effect, after, and_then, on_each, changed, done}
use Rattle.scanner_table.specs.Encapsulation.{registering_on, stream_opened, cut_of, stream_cut, is_registered, session_begun, session_failed, registered, ends_session, registering_again, session_renewed, unserved_state, unserved, unserved_at, ignored, is_awaiting, replied, replied_to, reported, frame_answer, frame_of, frame}
use Rattle.scanner_table.specs.Explicit.{awaits, explicit_sent, explicit_request, explicit_timed_out, explicit_lost}
use Rattle.scanner_table.specs.Opening.{has_request, can_open, open_requested, exhausted, opened_within, close_requested, cleared_within, opened_from, has_place, open_session, asking_in, asking_session, opened, resigned, ready_slots, ready_opened, target_opened}
use Rattle.scanner_table.specs.Points.{desired_slot, started, start_state, start_at, start, stop_of, stop}
use Rattle.scanner_table.specs.Productions.{produced_table}
use Rattle.scanner_table.specs.Replies.{is_id_free, new_connection, established_slot, failed_slot, refused, disowned, disowned_within, rejected, judged_success, open_answer, answered}
use Rattle.scanner_table.specs.Sessions.{is_stream, is_taken, without_stream, staged_stream, with_stage, session_with}
use Rattle.scanner_table.specs.Slots.{IndexedSlot, indexed_slots, is_with, slot_at, with_slot}
use Rattle.scanner_table.specs.Step.{scanner_step}
use Rattle.scanner_table.specs.Ticks.{expired_slots, expired_state, expired, all_expired, is_overdue, all_given_up, clocked_table, advanced, moved_on, ticked, tick}
use Rattle.base_lemmas.specs.Booleans.{or_true}
use Rattle.base_lemmas.specs.Numbers.{number_same}
use Rattle.std.proofs.lemmas.Bool.{cond_both}
use Rattle.std.proofs.lemmas.Option.{same_Some}
use Rattle.device_laws.specs.Lemmas.ExplicitRequests.{GoesOut, explicit_holds, message_ends, SendsIfExplicit}
use Rattle.device_laws.specs.Lemmas.Lists.{all_both}
use Rattle.device_laws.specs.Lemmas.Texts.{either}
use Rattle.scanner_table.specs.Lemmas.SlotEventLemmas.{slots_hold}

-- the same streams, in whatever stages
abbrev pub SameStreams : ScannerTable → ScannerTable → Type 0
SameStreams t u = (n : ℕ) → list_any (is_stream n) u.streams ≡ list_any (is_stream n) t.streams

-- a table of the same profile, blocks and number of ids, and streams
pub record IsLike (t u : ScannerTable) : Type 0 where
  pub profile : u.profile ≡ t.profile
  pub ids : u.ids ≡ t.ids
  pub next_id : u.next_id ≡ t.next_id
  pub streams : SameStreams t u

-- the table has the stream, in whatever stage
abbrev pub IsOpen : TargetStream → ScannerTable → Type 0
IsOpen stream t = list_any (is_stream stream.number) t.streams ≡ true

-- an effect without a request
abbrev pub silent : List Notice → ScannerTable → Effect
silent notices table = record { sent = []; notices = notices; table = table }

pub record EffectsDo (R : ScannerTable → Effect → Type 0) : Type 0 where
  pub stays : (t u : ScannerTable) (notices : List Notice) → IsLike t u → R t (silent notices u)
  pub next : (t : ScannerTable) (first second : Effect) → R t first → R first.table second → R t (after first second)
  pub opens : (t : ScannerTable) (place : IndexedSlot) (session : Session) → can_open t place.config ≡ true → session_with t place.config.target ≡ Some session → R t (open_requested t place session)
  pub closes : (t : ScannerTable) (place : IndexedSlot) (link : Link) (desired_up : Bool) (session : Session) → session_with t place.config.target ≡ Some session → R t (close_requested t place link desired_up session)
  pub disowns : (t : ScannerTable) (config : SlotConfig) (triad : Triad) (session : Session) → session_with t config.target ≡ Some session → R t (disowned t config triad session)
  pub registers : (t : ScannerTable) (stream : TargetStream) → IsOpen stream t → R t (registering_again t stream)
  pub requests : (t : ScannerTable) (target : Node) (session : Session) (number : ℕ) (bytes : List ℕ) → GoesOut t target bytes session → R t (explicit_sent t session number bytes)

abbrev Relation : Type 1
Relation = ScannerTable → Effect → Type 0

-- ---- effects

like_itself : (t : ScannerTable) → IsLike t t
like_itself t = record { profile = refl; ids = refl; next_id = refl; streams = λ n. refl }

changed_does : (R : Relation) → EffectsDo R → (t : ScannerTable) (place : IndexedSlot) (slot : Slot) (reported : List Notice) → R t (changed t place slot reported)
changed_does R does t place slot reported = does.stays t (with_slot t place.number slot) (changed t place slot reported).notices (record { profile = refl; ids = refl; next_id = refl; streams = λ n. refl })

nothing_does : (R : Relation) → EffectsDo R → (t : ScannerTable) → R t (silent [] t)
nothing_does R does t = does.stays t t [] (like_itself t)

-- an effect of a table that is like this one
from_like : (R : Relation) → EffectsDo R → (t u : ScannerTable) (effect : Effect) → IsLike t u → R u effect → R t effect
from_like R does t u effect like goes = does.next t (silent [] u) effect (does.stays t u [] like) goes

each_does : (R : Relation) → EffectsDo R → (effect : ScannerTable → IndexedSlot → Effect) → ((t : ScannerTable) (place : IndexedSlot) → R t (effect t place)) → (places : List IndexedSlot) (t : ScannerTable) → R t (on_each effect places t)
each_does R does effect all [] t = nothing_does R does t
each_does R does effect all (place ∷ places) t =
    does.next t (effect t place) (on_each effect places (effect t place).table) (all t place) (each_does R does effect all places (effect t place).table)

-- the session in which a slot asks its target, if it may ask, is the one that is registered
abbrev pub IsOfTarget : ScannerTable → Node → Option Session → Type 0
IsOfTarget t target asking = (session : Session) → asking ≡ Some session → session_with t target ≡ Some session

turn_asks : (b : Bool) (t : ScannerTable) (target : Node) → IsOfTarget t target (cond b (session_with t target) None)
turn_asks true t target session is = is
turn_asks false t target session is = absurd cc

either_asks : (b : Bool) (t : ScannerTable) (target : Node) → IsOfTarget t target (cond b (session_with t target) (open_session t target))
either_asks true t target session is = is
either_asks false t target session is = turn_asks (has_place t target) t target session is

pub asks_in : (t : ScannerTable) (target : Node) (state : SlotState) → IsOfTarget t target (asking_in t target state)
asks_in t target (TimedOut link) = either_asks t.profile.tidy t target
asks_in t target Idle = turn_asks (has_place t target) t target
asks_in t target (Opening o) = turn_asks (has_place t target) t target
asks_in t target (Established c) = turn_asks (has_place t target) t target
asks_in t target (Closing c) = turn_asks (has_place t target) t target

within_does : (R : Relation) → EffectsDo R → (t : ScannerTable) (place : IndexedSlot) (session : Option Session) → IsOfTarget t place.config.target session → R t (opened_within t place session)
within_does R does t place None is = nothing_does R does t
within_does R does t place (Some session) is =
    cond_both (can_open t place.config) (open_requested t place session) (exhausted t place) (R t) (λ can. does.opens t place session can (is session refl)) (λ full. changed_does R does t place (resigned place.slot) (notice.NoIds place.number ∷ []))

close_does : (R : Relation) → EffectsDo R → (t : ScannerTable) (place : IndexedSlot) (link : Link) (desired_up : Bool) (session : Session) → session_with t place.config.target ≡ Some session → R t (cond (has_request t) (close_requested t place link desired_up session) (exhausted t place))
close_does R does t place link desired_up session is =
    either (R t) (has_request t) (close_requested t place link desired_up session) (exhausted t place) (does.closes t place link desired_up session is) (changed_does R does t place (resigned place.slot) (notice.NoIds place.number ∷ []))

cleared_does : (R : Relation) → EffectsDo R → (t : ScannerTable) (place : IndexedSlot) (link : Link) (session : Option Session) → IsOfTarget t place.config.target session → R t (cleared_within t place link session)
cleared_does R does t place link None is = nothing_does R does t
cleared_does R does t place link (Some session) is = close_does R does t place link place.slot.desired_up session (is session refl)

from_does : (R : Relation) → EffectsDo R → (t : ScannerTable) (place : IndexedSlot) (session : Option Session) (state : SlotState) → IsOfTarget t place.config.target session → R t (opened_from t place session state)
from_does R does t place session (TimedOut link) is =
    either (R t) t.profile.tidy (cleared_within t place link session) (opened_within t place session) (cleared_does R does t place link session is) (within_does R does t place session is)
from_does R does t place session other is = within_does R does t place session is

opened_does : (R : Relation) → EffectsDo R → (t : ScannerTable) (place : IndexedSlot) → R t (opened t place)
unfolding opened
opened_does R does t place = from_does R does t place (asking_session t place) place.slot.state (asks_in t place.config.target place.slot.state)

given_does : (R : Relation) → EffectsDo R → (t : ScannerTable) (place : IndexedSlot) (state : SlotState) → R t (given_up_state t place state)
given_does R does t place Idle = nothing_does R does t
given_does R does t place (Opening o) = changed_does R does t place (failed_slot t (left_state t (requested_link o.requested)) place.slot) []
given_does R does t place (Established c) = nothing_does R does t
given_does R does t place (TimedOut link) = nothing_does R does t
given_does R does t place (Closing c) = changed_does R does t place (unclosed_slot t c place.slot) []

expired_does : (R : Relation) → EffectsDo R → (t : ScannerTable) (place : IndexedSlot) (state : SlotState) → R t (expired_state t place state)
expired_does R does t place Idle = nothing_does R does t
expired_does R does t place (Opening o) = nothing_does R does t
expired_does R does t place (Established c) = changed_does R does t place (failed_slot t (TimedOut c.link) place.slot) []
expired_does R does t place (TimedOut link) = nothing_does R does t
expired_does R does t place (Closing c) = nothing_does R does t

all_expired_does : (R : Relation) → EffectsDo R → (t : ScannerTable) → R t (all_expired t)
unfolding all_expired
all_expired_does R does t = each_does R does expired (λ u place. expired_does R does u place place.slot.state) (expired_slots t) t

all_given_does : (R : Relation) → EffectsDo R → (t : ScannerTable) → R t (all_given_up t)
unfolding all_given_up
all_given_does R does t = each_does R does given_up (λ u place. given_does R does u place place.slot.state) (filter (is_overdue t.clock) (indexed_slots t)) t

ready_does : (R : Relation) → EffectsDo R → (t : ScannerTable) → R t (ready_opened t)
unfolding ready_opened
ready_does R does t = each_does R does opened (opened_does R does) (ready_slots t) t

advanced_does : (R : Relation) → EffectsDo R → (t : ScannerTable) → R t (advanced t)
advanced_does R does t =
    let first = all_expired t in
    let second = all_given_up first.table in
    let third = ready_opened second.table in
    does.next t (after first second) third (does.next t first second (all_expired_does R does t) (all_given_does R does first.table)) (ready_does R does second.table)

target_does : (R : Relation) → EffectsDo R → (target : Node) (t : ScannerTable) → R t (target_opened target t)
unfolding target_opened
target_does R does target t = each_does R does opened (opened_does R does) (filter (is_with target) (ready_slots t)) t

disowned_does : (R : Relation) → EffectsDo R → (t : ScannerTable) (config : SlotConfig) (triad : Triad) (session : Option Session) → session_with t config.target ≡ session → R t (disowned_within t config triad session)
disowned_does R does t config triad None is = nothing_does R does t
disowned_does R does t config triad (Some session) is =
    either (R t) (has_request t) (disowned t config triad session) (silent [] t) (does.disowns t config triad session is) (nothing_does R does t)

rejected_does : (R : Relation) → EffectsDo R → (config : SlotConfig) (triad : Triad) (t : ScannerTable) → R t (rejected config triad t)
rejected_does R does config triad t =
    either (R t) t.profile.tidy (disowned_within t config triad (session_with t config.target)) (silent [] t) (disowned_does R does t config triad (session_with t config.target) refl) (nothing_does R does t)

success_does : (R : Relation) → EffectsDo R → (t : ScannerTable) (place : IndexedSlot) (o : pending.PendingOpen) (success : made.Opened) (why : Option Mismatch) → R t (judged_success t place o success why)
success_does R does t place o success (Some why) =
    let first = refused t place (reason.Mismatch why) in
    does.next t first (rejected place.config o.requested.triad first.table) (changed_does R does t place (failed_slot t Idle place.slot) (notice.Refused place.number (reason.Mismatch why) ∷ [])) (rejected_does R does place.config o.requested.triad first.table)
success_does R does t place o success None = changed_does R does t place (established_slot place (new_connection t place o success)) []

answered_does : (R : Relation) → EffectsDo R → (t : ScannerTable) (place : IndexedSlot) (o : pending.PendingOpen) (says : Result OpenAnswer Reason) → R t (answered t place o says)
unfolding answered
answered_does R does t place o (Err why) = changed_does R does t place (failed_slot t Idle place.slot) (notice.Refused place.number why ∷ [])
answered_does R does t place o (Ok (answer.Refused r)) = changed_does R does t place (failed_slot t Idle place.slot) (notice.Refused place.number (reason.Cip r.fault) ∷ [])
answered_does R does t place o (Ok (answer.Opened success)) = success_does R does t place o success (first_case (answer_tests o.requested success (is_id_free t place success.t_o_id)))

closed_does : (R : Relation) → EffectsDo R → (t : ScannerTable) (place : IndexedSlot) (link : Link) (session : Option Session) → session_with t place.config.target ≡ session → R t (closed_within t place link session)
closed_does R does t place link None is = changed_does R does t place (left_slot t link place.slot) []
closed_does R does t place link (Some session) is = close_does R does t place link false session is

dropped_does : (R : Relation) → EffectsDo R → (t : ScannerTable) (place : IndexedSlot) (link : Link) → R t (dropped t place link)
dropped_does R does t place link =
    either (R t) t.profile.tidy (closed_within t place link (session_with t place.config.target)) (slot_resigned t place) (closed_does R does t place link (session_with t place.config.target) refl) (changed_does R does t place (resigned place.slot) [])

-- any reply to a Forward_Close
reopened_does : (R : Relation) → EffectsDo R → (t : ScannerTable) (place : IndexedSlot) → R t (closed t place)
reopened_does R does t place =
    let now : IndexedSlot = record place { slot = idle_slot place.slot } in
    let u = with_slot t place.number (idle_slot place.slot) in
    does.next t (changed t place (idle_slot place.slot) []) (reopened now u) (changed_does R does t place (idle_slot place.slot) [])
    (either (R u) place.slot.desired_up (opened u now) (silent [] u) (opened_does R does u now) (nothing_does R does u))

pub staged_same : (number : ℕ) (stage : Stage) (n : ℕ) (streams : List TargetStream) → list_any (is_stream n) (map (staged_stream number stage) streams) ≡ list_any (is_stream n) streams
staged_same number stage n [] = refl
staged_same number stage n (s ∷ streams) =
    let one : is_stream n (staged_stream number stage s) ≡ is_stream n s = either (λ (x : TargetStream). is_stream n x ≡ is_stream n s) (is_stream number s) (record s { stage = stage }) s refl refl in
    let rest = staged_same number stage n streams in
    rw (one, rest) refl

staged_like : (t : ScannerTable) (number : ℕ) (stage : Stage) → IsLike t (with_stage t number stage)
staged_like t number stage = record { profile = refl; ids = refl; next_id = refl; streams = λ n. staged_same number stage n t.streams }

registered_does : (R : Relation) → EffectsDo R → (t : ScannerTable) (stream : TargetStream) (m : MessageFields) → R t (registered t stream m)
registered_does R does t stream m =
    either (R t) (is_registered m) (session_begun t stream m.session) (session_failed t stream)
    (from_like R does t (with_stage t stream.number (Up m.session)) (session_begun t stream m.session) (staged_like t stream.number (Up m.session)) (target_does R does stream.peer (with_stage t stream.number (Up m.session))))
    (does.stays t (with_stage t stream.number Unused) [] (staged_like t stream.number Unused))

started_does : (R : Relation) → EffectsDo R → (t : ScannerTable) (place : IndexedSlot) (slot : Slot) → R t (started t place slot)
started_does R does t place slot =
    from_like R does t (with_slot t place.number slot) (started t place slot) (record { profile = refl; ids = refl; next_id = refl; streams = λ n. refl })
    (opened_does R does (with_slot t place.number slot) (record place { slot = slot }))

-- ---- a step

-- the answer has the frames of such an effect, and the counter is as the effect leaves it
pub record IsOfEffect (R : Relation) (t : ScannerTable) (next : Next) : Type 0 where
  pub effect : Effect
  pub frames : next.0.frames ≡ map sent_frame effect.sent
  pub next_id : next.1.next_id ≡ effect.table.next_id
  pub does : R t effect

-- or it has none
abbrev pub NextDoes : Relation → ScannerTable → Next → Type 0
NextDoes R t next = (next.0.frames ≡ []) ⊎ IsOfEffect R t next

abbrev pub OkDoes : Relation → ScannerTable → Result Next StepFault → Type 0
OkDoes R t said = IfOk said (NextDoes R t)

done_does : (R : Relation) (t : ScannerTable) (effect : Effect) → R t effect → NextDoes R t (done effect)
done_does R t effect goes = inr (record { effect = effect; frames = refl; next_id = refl; does = goes })

replied_does : (R : Relation) → EffectsDo R → (t : ScannerTable) (place : IndexedSlot) (m : MessageFields) (state : SlotState) → NextDoes R t (replied t place m state)
replied_does R does t place m Idle = inl refl
replied_does R does t place m (Opening o) = done_does R t (answered t place o (open_answer (is_large place.config) m)) (answered_does R does t place o (open_answer (is_large place.config) m))
replied_does R does t place m (Established c) = inl refl
replied_does R does t place m (TimedOut link) = inl refl
replied_does R does t place m (Closing c) = done_does R t (closed t place) (reopened_does R does t place)

awaited_does : (R : Relation) → EffectsDo R → (t : ScannerTable) (m : MessageFields) (found : Option IndexedSlot) → NextDoes R t (replied_to t m found)
awaited_does R does t m None = inl refl
awaited_does R does t m (Some place) = replied_does R does t place m place.slot.state

lost_does : (R : Relation) → EffectsDo R → (target : Node) (t : ScannerTable) → R t (target_lost target t)
unfolding target_lost
lost_does R does target t = each_does R does given_up (λ u place. given_does R does u place place.slot.state) (filter (is_with target) (indexed_slots t)) t

explicit_lost_does : (R : Relation) → EffectsDo R → (stream : ℕ) (t : ScannerTable) → R t (explicit_lost stream t)
unfolding explicit_lost
explicit_lost_does R does stream t = does.stays t (explicit_lost stream t).table (explicit_lost stream t).notices (record { profile = refl; ids = refl; next_id = refl; streams = λ n. refl })

-- the session on an open stream ends, and a new one is registered
renewed_does : (R : Relation) → EffectsDo R → (t : ScannerTable) (stream : TargetStream) → IsOpen stream t → R t (session_renewed stream t)
renewed_does R does t stream is_open =
    let first = registering_again t stream in
    let second = target_lost stream.peer first.table in
    does.next t (after first second) (explicit_lost stream.number second.table) (does.next t first second (does.registers t stream is_open) (lost_does R does stream.peer first.table)) (explicit_lost_does R does stream.number second.table)

-- behind a slot that is not served
unserved_does : (R : Relation) → EffectsDo R → (t : ScannerTable) (stream : TargetStream) (place : IndexedSlot) (status : ℕ) (state : SlotState) → IsOpen stream t → R t (and_then (unserved_state status t place state) (session_renewed stream))
unserved_does R does t stream place status (Opening o) is_open =
    let first = refused t place (reason.Encap status) in
    does.next t first (session_renewed stream first.table) (changed_does R does t place (failed_slot t Idle place.slot) (notice.Refused place.number (reason.Encap status) ∷ [])) (renewed_does R does first.table stream is_open)
unserved_does R does t stream place status Idle is_open = does.next t (silent [] t) (session_renewed stream t) (nothing_does R does t) (renewed_does R does t stream is_open)
unserved_does R does t stream place status (Established c) is_open = does.next t (silent [] t) (session_renewed stream t) (nothing_does R does t) (renewed_does R does t stream is_open)
unserved_does R does t stream place status (TimedOut link) is_open = does.next t (silent [] t) (session_renewed stream t) (nothing_does R does t) (renewed_does R does t stream is_open)
unserved_does R does t stream place status (Closing c) is_open = does.next t (silent [] t) (session_renewed stream t) (nothing_does R does t) (renewed_does R does t stream is_open)

unserved_at_does : (R : Relation) → EffectsDo R → (t : ScannerTable) (stream : TargetStream) (m : MessageFields) (found : Option IndexedSlot) → IsOpen stream t → NextDoes R t (unserved_at t stream m found)
unserved_at_does R does t stream m None is_open = inl refl
unserved_at_does R does t stream m (Some place) is_open = done_does R t (and_then (unserved m.status t place) (session_renewed stream)) (unserved_does R does t stream place m.status place.slot.state is_open)

reported_does : (R : Relation) → EffectsDo R → (t : ScannerTable) (stream : TargetStream) (m : MessageFields) (stage : Stage) → IsOpen stream t → NextDoes R t (reported t stream m stage)
reported_does R does t stream m Waiting is_open =
    either (NextDoes R t) (m.context == 0) (done (registered t stream m)) (ignored t) (done_does R t (registered t stream m) (registered_does R does t stream m)) (inl refl)
reported_does R does t stream m (Up handle) is_open =
    let found = find (is_awaiting stream.peer m.context) (indexed_slots t) in
    either (NextDoes R t) (ends_session t m) (unserved_at t stream m found) (replied_to t m found) (unserved_at_does R does t stream m found is_open) (awaited_does R does t m found)
reported_does R does t stream m Unused is_open = inl refl

answer_does : (R : Relation) → EffectsDo R → (t : ScannerTable) (stream : TargetStream) (reading : Result MessageFields EncapFault) → IsOpen stream t → NextDoes R t (frame_answer t stream reading)
answer_does R does t stream (Err why) is_open = inl refl
answer_does R does t stream (Ok m) is_open =
    message_ends (NextDoes R t) t stream m (reported_does R does t stream m stream.stage is_open) (done_does R t (session_renewed stream t) (renewed_does R does t stream is_open)) (λ pending answer none quiet. inl none) (find (awaits stream.number m.context) t.explicit)

found_step : (b : Bool) (first stream : TargetStream) (streams : List TargetStream) (rest : Option TargetStream) → cond b (Some first) rest ≡ Some stream → (rest ≡ Some stream → list_any (is_stream stream.number) streams ≡ true) → list_any (is_stream stream.number) (first ∷ streams) ≡ true
found_step true first stream streams rest is more =
    let same = same_Some first stream is in
    let here : is_stream stream.number first ≡ true = ap (λ (s : TargetStream). is_stream s.number first) (sym same) ∙ number_same first.number in
    rw here refl
found_step false first stream streams rest is more = let there = more is in rw there (or_true (is_stream stream.number first))

-- a stream that a lookup found is open
found_open : (test : TargetStream → Bool) (streams : List TargetStream) (stream : TargetStream) → find test streams ≡ Some stream → list_any (is_stream stream.number) streams ≡ true
found_open test [] stream is = absurd (let e = is in cc)
found_open test (first ∷ streams) stream is = found_step (test first) first stream streams (find test streams) is (λ rest. found_open test streams stream rest)

frame_of_does : (R : Relation) → EffectsDo R → (t : ScannerTable) (bytes : List ℕ) (test : TargetStream → Bool) (found : Option TargetStream) → find test t.streams ≡ found → OkDoes R t (frame_of t bytes found)
frame_of_does R does t bytes test None is = tt
frame_of_does R does t bytes test (Some stream) is = answer_does R does t stream (message_reading bytes) (found_open test t.streams stream is)

-- slots that give up replies send nothing
abbrev SendsNone : Effect → Type 0
SendsNone effect = effect.sent ≡ []

each_none : (places : List IndexedSlot) (t : ScannerTable) → SendsNone (on_each given_up places t)
each_none [] t = refl
each_none (place ∷ places) t =
    let one = given_none t place place.slot.state in
    let rest = each_none places (given_up t place).table in
    rw (one, rest) refl
  where
    given_none : (t : ScannerTable) (place : IndexedSlot) (state : SlotState) → SendsNone (given_up_state t place state)
    given_none t place Idle = refl
    given_none t place (Opening o) = refl
    given_none t place (Established c) = refl
    given_none t place (TimedOut link) = refl
    given_none t place (Closing c) = refl

lost_none : (target : Node) (t : ScannerTable) → SendsNone (target_lost target t)
unfolding target_lost
lost_none target t = each_none (filter (is_with target) (indexed_slots t)) t

ended_none : (stream : ℕ) (t : ScannerTable) → SendsNone (explicit_lost stream t)
unfolding explicit_lost
ended_none stream t = refl

cut_does : (R : Relation) (t : ScannerTable) (found : Option TargetStream) → OkDoes R t (cut_of t found)
cut_does R t None = tt
cut_does R t (Some stream) =
    let none = lost_none stream.peer (without_stream t stream.number) in
    let rest = ended_none stream.number (target_lost stream.peer (without_stream t stream.number)).table in
    inl (rw (none, rest) refl)

start_does : (R : Relation) → EffectsDo R → (t : ScannerTable) (place : IndexedSlot) (state : SlotState) → OkDoes R t (start_state t place state)
start_does R does t place Idle =
    either (OkDoes R t) place.slot.desired_up (Err fault.NotAllowedNow) (Ok (done (started t place (desired_slot t place.slot)))) tt
    (done_does R t (started t place (desired_slot t place.slot)) (started_does R does t place (desired_slot t place.slot)))
start_does R does t place (Opening o) = tt
start_does R does t place (Established c) = tt
start_does R does t place (TimedOut link) = tt
start_does R does t place (Closing c) = tt

start_at_does : (R : Relation) → EffectsDo R → (t : ScannerTable) (found : Option IndexedSlot) → OkDoes R t (start_at t found)
start_at_does R does t None = tt
start_at_does R does t (Some place) = start_does R does t place place.slot.state

stopped_does : (R : Relation) → EffectsDo R → (t : ScannerTable) (place : IndexedSlot) (state : SlotState) → IfOk (stopped t place state) (R t)
stopped_does R does t place Idle =
    either (λ (said : Result Effect StepFault). IfOk said (R t)) place.slot.desired_up (Ok (slot_resigned t place)) (Err fault.NotAllowedNow) (changed_does R does t place (resigned place.slot) []) tt
stopped_does R does t place (Opening o) = dropped_does R does t place (requested_link o.requested)
stopped_does R does t place (Established c) = closed_does R does t place c.link (session_with t place.config.target) refl
stopped_does R does t place (TimedOut link) = dropped_does R does t place link
stopped_does R does t place (Closing c) =
    either (λ (said : Result Effect StepFault). IfOk said (R t)) place.slot.desired_up (Ok (slot_resigned t place)) (Err fault.NotAllowedNow) (changed_does R does t place (resigned place.slot) []) tt

stopped_at_does : (R : Relation) → EffectsDo R → (t : ScannerTable) (found : Option IndexedSlot) → IfOk (stopped_at t found) (R t)
stopped_at_does R does t None = tt
stopped_at_does R does t (Some place) = stopped_does R does t place place.slot.state

stop_does : (R : Relation) (t : ScannerTable) (said : Result Effect StepFault) → IfOk said (R t) → OkDoes R t (stop_of said)
stop_does R t (Err why) goes = tt
stop_does R t (Ok effect) goes = done_does R t effect goes

timed_out_does : (R : Relation) → EffectsDo R → (t : ScannerTable) → R t (explicit_timed_out t)
unfolding explicit_timed_out
timed_out_does R does t = does.stays t (explicit_timed_out t).table (explicit_timed_out t).notices (record { profile = refl; ids = refl; next_id = refl; streams = λ n. refl })

moved_does : (R : Relation) → EffectsDo R → (t : ScannerTable) → R t (moved_on t)
moved_does R does t =
    let first = advanced t in
    does.next t first (explicit_timed_out first.table) (advanced_does R does t) (timed_out_does R does first.table)

ticked_does : (R : Relation) → EffectsDo R → (t : ScannerTable) (ms : ℕ) → NextDoes R t (ticked (moved_on (clocked_table t ms)))
unfolding produced_table
ticked_does R does t ms =
    let effect = moved_on (clocked_table t ms) in
    inr (record {
      effect = effect;
      frames = refl;
      next_id = refl;
      does = from_like R does t (clocked_table t ms) (moved_on (clocked_table t ms)) (record { profile = refl; ids = refl; next_id = refl; streams = λ n. refl }) (moved_does R does (clocked_table t ms));
    })

tick_does : (R : Relation) → EffectsDo R → (t : ScannerTable) (ms : ℕ) → OkDoes R t (tick t ms)
unfolding tick
tick_does R does t ms =
    either (OkDoes R t) (nat_lt longest_tick ms) (Err fault.TickTooLong) _ tt
    (either (OkDoes R t) (nat_lt clock_end (t.clock.0 + ms)) (Err fault.ClockEnd) (Ok (ticked (moved_on (clocked_table t ms)))) tt (ticked_does R does t ms))

explicit_does : (R : Relation) → EffectsDo R → (t : ScannerTable) (target : Node) (number : ℕ) (bytes : List ℕ) → OkDoes R t (explicit_request t target number bytes)
explicit_does R does t target number bytes =
    explicit_holds (OkDoes R t) t target number bytes (λ why. tt) (λ session goes. done_does R t (explicit_sent t session number bytes) (does.requests t target session number bytes goes))

-- a stream that opens is not told here
abbrev pub EventDoes : Relation → ScannerTable → Event → Type 0
EventDoes R t (event.StreamOpened number peer) = Unit {0}
EventDoes R t other = OkDoes R t (scanner_step t other)

pub event_does : (R : Relation) → EffectsDo R → (t : ScannerTable) (happens : Event) → EventDoes R t happens
unfolding frame stream_cut start stop
event_does R does t (event.StreamOpened number peer) = tt
event_does R does t (event.Frame number bytes) = frame_of_does R does t bytes (is_stream number) (find (is_stream number) t.streams) refl
event_does R does t (event.StreamCut number) = cut_does R t (find (is_stream number) t.streams)
event_does R does t (event.Tick ms) = tick_does R does t ms
event_does R does t (event.Start number) = start_at_does R does t (slot_at t number)
event_does R does t (event.Stop number) = stop_does R t (stopped_at t (slot_at t number)) (stopped_at_does R does t (slot_at t number))
event_does R does t (event.Explicit target number bytes) = explicit_does R does t target number bytes
event_does R does t other = slots_hold (OkDoes R t) t (λ why. tt) (λ verdict u of. inl refl) other refl

-- ---- frames of an answer

-- each frame is a request, and an explicit one has no ids
pub record SendsRequests (next : Next) : Type 0 where
  pub requests : List Sent
  pub frames : next.0.frames ≡ map sent_frame requests
  pub explicit : AllByRecursion SendsIfExplicit requests

abbrev AnyEffect : Relation
AnyEffect t effect = AllByRecursion SendsIfExplicit effect.sent

any_effects : EffectsDo AnyEffect
any_effects = record {
  stays = λ t u notices like. tt;
  next = λ t first second one other. all_both SendsIfExplicit first.sent second.sent one other;
  opens = λ t place session can is. (tt, tt);
  closes = λ t place link desired_up session is. (tt, tt);
  disowns = λ t config triad session is. (tt, tt);
  registers = λ t stream is_open. (tt, tt);
  requests = λ t target session number bytes goes. (goes.explicit, tt);
}

sends_of : (t : ScannerTable) (next : Next) → NextDoes AnyEffect t next → SendsRequests next
sends_of t next (inl none) = record { requests = []; frames = none; explicit = tt }
sends_of t next (inr of) = record { requests = of.effect.sent; frames = of.frames; explicit = of.does }

ok_sends : (t : ScannerTable) (said : Result Next StepFault) → OkDoes AnyEffect t said → IfOk said SendsRequests
ok_sends t (Err why) does = tt
ok_sends t (Ok next) does = sends_of t next does

opens_sends : (t : ScannerTable) (number : ℕ) (target : Node) → IfOk (stream_opened t number target) SendsRequests
unfolding stream_opened
opens_sends t number target =
    either (λ (said : Result Next StepFault). IfOk said SendsRequests) (is_taken t.streams number target) (Err fault.NotAllowedNow) (Ok (done (registering_on t number target))) tt
    (record { requests = (registering_on t number target).sent; frames = refl; explicit = (tt, tt) })

-- each frame that an event of a scanner sends is a request
pub event_sends : (t : ScannerTable) (happens : Event) → IfOk (scanner_step t happens) SendsRequests
event_sends t (event.Request peer bytes) = tt
event_sends t (event.StreamOpened number peer) = opens_sends t number peer
event_sends t other = ok_sends t (scanner_step t other) (event_does AnyEffect any_effects t other)
