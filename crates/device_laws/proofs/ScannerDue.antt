-- A tick of a scanner that does nothing ends before any slot is due, and before any explicit request is given up.
use Rattle.std.proofs.Common.{◌≡◌, ◌≤◌, ◌<◌, ◌+◌, ℕ, Bool, true, false, cond, ◌&&◌, List, [], ◌∷◌, ◌++◌, filter, Option, Some, None, Result, Ok, Err, refl, sym, ap, subst, ◌∙◌, arith}
use Rattle.std.specs.Prelude.{nat_lt, nat_le, min}
use Rattle.std.specs.List.{AllByRecursion}
use Rattle.std.specs.Option.{is_some}
use Rattle.std.proofs.lemmas.Bool.Decides.{nat_tests}
use Rattle.cip_types.specs.declared.names.Ms.{Ms}
use Rattle.cip_types.specs.Order.{in_order}
use Rattle.cip_events.specs.declared.event.Answer.{Answer}
use Rattle.cip_events.specs.declared.event.Event.TheVariants.{Tick}
use Rattle.cip_events.specs.declared.event.Verdict.TheVariants.{Done}
use Rattle.cip_events.specs.Answers.{plain_answer}
use Rattle.cip_events.specs.Clock.{longest_tick, clock_end}
use Rattle.cip_productions.specs.Productions.{sent}
use Rattle.conn_state.specs.declared.names.Link.{Link}
use Rattle.scanner_table.specs.declared.slot.PendingClose.{PendingClose}
use Rattle.scanner_table.specs.declared.slot.Slot.{Slot}
use Rattle.scanner_table.specs.declared.slot.PendingOpen.{PendingOpen}
use Rattle.scanner_table.specs.declared.slot.SlotState.{SlotState}
use Rattle.scanner_table.specs.declared.slot.SlotState.TheVariants.{Idle, Opening, Established, TimedOut, Closing}
use Rattle.scanner_table.specs.declared.table.ScannerTable.{ScannerTable}
use Rattle.scanner_table.specs.declared.table.Session.{Session}
use Rattle.scanner_table.specs.Requests.{sent_frame}
use Rattle.scanner_table.specs.Slots.{IndexedSlot, indexed_slots, is_closed, needs_request}
use Rattle.cip_events.specs.declared.event.StepFault.{StepFault}
use Rattle.cip_events.specs.declared.event.StepFault.TheVariants as fault
use Rattle.scanner_table.specs.Lemmas.Moves.{from_none}
use Rattle.scanner_table.specs.Effects.{Next, Effect, nothing, on_each, after, state_notices}
use Rattle.scanner_table.specs.Replies.{failed_slot}
use Rattle.scanner_table.specs.Closing.{requested_link, left_state, idle_slot, is_close_in_time, unclosed_slot, given_up, given_up_state}
use Rattle.scanner_table.specs.Opening.{has_request, can_open, opened, opened_within, close_requested, cleared_within, opened_from, open_requested, exhausted, is_ready_slot, ready_slots, ready_opened, asking_session}
use Rattle.scanner_table.specs.Productions.{is_due, state_is_due, by_due, slot_production, state_production, due_productions}
use Rattle.cip_events.specs.declared.event.Unanswered.TheVariants as unanswered
use Rattle.scanner_table.specs.declared.explicit.PendingExplicit.{PendingExplicit}
use Rattle.scanner_table.specs.Explicit.{is_late, unanswered_notice, explicit_timed_out}
use Rattle.scanner_table.specs.Ticks.{has_expired, state_has_expired, by_deadline, expired, expired_state, expired_slots, all_expired, is_overdue, state_is_overdue, all_given_up, clocked_table, advanced, moved_on, ticked, tick}
use Rattle.cip_tables.specs.declared.table.DeviceTable.TheVariants.{Scanner}
use Rattle.cip_tables.specs.Step.{step, as_scanner}
use Rattle.cip_tables.specs.Wakes.{never, can_ask, state_due, slot_due, slots_due, explicit_due, clocked}
use Rattle.device_laws.specs.Lemmas.Lists.{all_more, all_ordered, all_kept}
use Rattle.device_laws.proofs.AdapterDue.{later, answer_of}
use Rattle.device_laws.proofs.Emptied.{none_ordered, none_mapped, none_joined, none_kept, none_made}

-- ---- slots that wait

-- it does not open by now
retry_waits : (clock at : ℕ) (up session : Bool) → clock < never → ((up && (true && nat_le at clock)) ≡ true → session ≡ false) → clock < cond (up && session) at never
retry_waits clock at true true below rests = split (nat_le at clock) refl rests
  where
    split : (b : Bool) → nat_le at clock ≡ b → ((true && (true && b)) ≡ true → true ≡ false) → clock < at
    split true is rests = absurd (let e : true ≡ false = rests refl in cc)
    split false is rests = later clock at is
retry_waits clock at true false below rests = below
retry_waits clock at false session below rests = below

state_waits : (clock : Ms) (at : ℕ) (up session : Bool) (state : SlotState) → clock.0 < never → state_has_expired clock state ≡ false → state_is_overdue clock state ≡ false → state_is_due clock state ≡ false → ((up && (is_closed state && nat_le at clock.0)) ≡ true → session ≡ false) → clock.0 < state_due (cond (up && session) at never) state
state_waits clock at up session Idle below lasts pending rests closed = retry_waits clock.0 at up session below closed
state_waits clock at up session (Opening o) below lasts pending rests closed = later clock.0 o.deadline.0 pending
state_waits clock at up session (Established c) below lasts pending rests closed =
    let first = later clock.0 c.deadline.0 lasts in
    let second = later clock.0 c.production.due.0 rests in
    omega (arith, first, second)
state_waits clock at up session (TimedOut link) below lasts pending rests closed = retry_waits clock.0 at up session below closed
state_waits clock at up session (Closing c) below lasts pending rests closed = later clock.0 c.deadline.0 pending

-- the slot cannot ask its target
abbrev HasNone : (IndexedSlot → Bool) → IndexedSlot → Type 0
HasNone asks indexed = asks indexed ≡ false

-- what holds of what a test keeps holds of an element that passes it, and of what it keeps of the others
kept_parts : (asks : IndexedSlot → Bool) (p : IndexedSlot → Bool) (indexed : IndexedSlot) (rest : List IndexedSlot) → AllByRecursion (HasNone asks) (filter p (indexed ∷ rest)) → (p indexed ≡ true → HasNone asks indexed) × AllByRecursion (HasNone asks) (filter p rest)
kept_parts asks p indexed rest all = split (p indexed) all
  where
    split : (b : Bool) → AllByRecursion (HasNone asks) (cond b (indexed ∷ filter p rest) (filter p rest)) → (b ≡ true → HasNone asks indexed) × AllByRecursion (HasNone asks) (filter p rest)
    split true all = (λ is. all.0, all.1)
    split false all = (λ is. absurd (let e : false ≡ true = is in cc), all)

slots_wait : (asks : IndexedSlot → Bool) (clock : Ms) (all : List IndexedSlot) → clock.0 < never → filter (has_expired clock) all ≡ [] → filter (is_overdue clock) all ≡ [] → filter (is_due clock) all ≡ [] → AllByRecursion (HasNone asks) (filter (is_ready_slot clock) all) → clock.0 < slots_due asks all
slots_wait asks clock [] below unexpired pending resting closed = below
slots_wait asks clock (indexed ∷ all) below unexpired pending resting closed =
    let lasts = none_kept (has_expired clock) indexed all unexpired in
    let waits = none_kept (is_overdue clock) indexed all pending in
    let rests = none_kept (is_due clock) indexed all resting in
    let parts = kept_parts asks (is_ready_slot clock) indexed all closed in
    let here : clock.0 < slot_due asks indexed = state_waits clock indexed.slot.retry_at.0 (needs_request indexed.slot) (asks indexed) indexed.slot.state below lasts.0 waits.0 rests.0 parts.0 in
    let rest = slots_wait asks clock all below lasts.1 waits.1 rests.1 parts.1 in
    omega (arith, here, rest)

-- ---- effects without notices

-- a change of state has a notice
state_noted : (n : ℕ) (state old new : SlotState) → state ≡ old → state_notices n state new ≡ [] → state_notices n old new ≡ []
state_noted n state old new is none = sym (ap (λ (s : SlotState). state_notices n s new) is) ∙ none

expired_noted : (t : ScannerTable) (indexed : IndexedSlot) (clock : Ms) (state : SlotState) → indexed.slot.state ≡ state → state_has_expired clock state ≡ true → (expired_state t indexed state).notices ≡ [] → true ≡ false
expired_noted t indexed clock Idle is late none = sym late
expired_noted t indexed clock (Opening o) is late none = sym late
expired_noted t indexed clock (Established c) is late none = absurd (let e = state_noted indexed.number indexed.slot.state (Established c) (TimedOut c.link) is none in cc)
expired_noted t indexed clock (TimedOut link) is late none = sym late
expired_noted t indexed clock (Closing c) is late none = sym late

left_noted : (b : Bool) (n : ℕ) (o : PendingOpen) (link : Link) → state_notices n (Opening o) (cond b (TimedOut link) Idle) ≡ [] → true ≡ false
left_noted true n o link none = absurd cc
left_noted false n o link none = absurd cc

unclosed_noted : (b : Bool) (t : ScannerTable) (n : ℕ) (c : PendingClose) (slot : Slot) → state_notices n (Closing c) (cond b (failed_slot t (TimedOut c.link) slot) (idle_slot slot)).state ≡ [] → true ≡ false
unclosed_noted true t n c slot none = absurd cc
unclosed_noted false t n c slot none = absurd cc

given_up_noted : (t : ScannerTable) (indexed : IndexedSlot) (clock : Ms) (state : SlotState) → indexed.slot.state ≡ state → state_is_overdue clock state ≡ true → (given_up_state t indexed state).notices ≡ [] → true ≡ false
given_up_noted t indexed clock Idle is late none = sym late
given_up_noted t indexed clock (Opening o) is late none =
    left_noted t.profile.tidy indexed.number o (requested_link o.requested) (state_noted indexed.number indexed.slot.state (Opening o) (left_state t (requested_link o.requested)) is none)
given_up_noted t indexed clock (Established c) is late none = sym late
given_up_noted t indexed clock (TimedOut link) is late none = sym late
given_up_noted t indexed clock (Closing c) is late none =
    unclosed_noted (t.profile.tidy && is_close_in_time t c) t indexed.number c indexed.slot (state_noted indexed.number indexed.slot.state (Closing c) (unclosed_slot t c indexed.slot).state is none)

-- an effect with a notice at each slot leaves none out
none_changed : (effect : ScannerTable → IndexedSlot → Effect) (P : IndexedSlot → Type 0) (t : ScannerTable) (all : List IndexedSlot) → ((indexed : IndexedSlot) → P indexed → (effect t indexed).notices ≡ [] → true ≡ false) → AllByRecursion P all → (on_each effect all t).notices ≡ [] → all ≡ []
none_changed effect P t [] noted holds none = refl
none_changed effect P t (indexed ∷ rest) noted holds none =
    absurd (let e = noted indexed holds.0 (none_joined (effect t indexed).notices (on_each effect rest (effect t indexed).table).notices none).0 in cc)

none_expire : (t : ScannerTable) → (all_expired t).notices ≡ [] → expired_slots t ≡ []
unfolding all_expired
none_expire t none =
    none_changed expired (λ indexed. has_expired t.clock indexed ≡ true) t (expired_slots t) (λ indexed late. expired_noted t indexed t.clock indexed.slot.state refl late)
    (all_ordered (λ indexed. has_expired t.clock indexed ≡ true) by_deadline (filter (has_expired t.clock) (indexed_slots t)) (all_kept (has_expired t.clock) (indexed_slots t))) none

nothing_expires : (t : ScannerTable) → expired_slots t ≡ [] → all_expired t ≡ nothing t
unfolding all_expired
nothing_expires t is = ap (λ l. on_each expired l t) is

none_given_up : (t : ScannerTable) → (all_given_up t).notices ≡ [] → filter (is_overdue t.clock) (indexed_slots t) ≡ []
unfolding all_given_up
none_given_up t none =
    none_changed given_up (λ indexed. is_overdue t.clock indexed ≡ true) t (filter (is_overdue t.clock) (indexed_slots t)) (λ indexed late. given_up_noted t indexed t.clock indexed.slot.state refl late) (all_kept (is_overdue t.clock) (indexed_slots t)) none

nothing_given_up : (t : ScannerTable) → filter (is_overdue t.clock) (indexed_slots t) ≡ [] → all_given_up t ≡ nothing t
unfolding all_given_up
nothing_given_up t is = ap (λ l. on_each given_up l t) is

-- ---- openings

-- an opening that sends nothing and has no notice is none
unopened : (t : ScannerTable) (indexed : IndexedSlot) (session : Option Session) → (opened_within t indexed session).sent ≡ [] → (opened_within t indexed session).notices ≡ [] → session ≡ None
unopened t indexed None sends notes = refl
unopened t indexed (Some session) sends notes = split (can_open t indexed.config) sends notes
  where
    split : (b : Bool) → (cond b (open_requested t indexed session) (exhausted t indexed)).sent ≡ [] → (cond b (open_requested t indexed session) (exhausted t indexed)).notices ≡ [] → Some session ≡ None
    split true sends notes = absurd cc
    split false sends notes = absurd cc

uncleared : (t : ScannerTable) (indexed : IndexedSlot) (link : Link) (session : Option Session) → (cleared_within t indexed link session).sent ≡ [] → (cleared_within t indexed link session).notices ≡ [] → session ≡ None
uncleared t indexed link None sends notes = refl
uncleared t indexed link (Some session) sends notes = split (has_request t) sends notes
  where
    split : (b : Bool) → (cond b (close_requested t indexed link indexed.slot.desired_up session) (exhausted t indexed)).sent ≡ [] → (cond b (close_requested t indexed link indexed.slot.desired_up session) (exhausted t indexed)).notices ≡ [] → Some session ≡ None
    split true sends notes = absurd cc
    split false sends notes = absurd cc

-- neither does one that first closes a connection
unopened_from : (t : ScannerTable) (indexed : IndexedSlot) (session : Option Session) (state : SlotState) → (opened_from t indexed session state).sent ≡ [] → (opened_from t indexed session state).notices ≡ [] → session ≡ None
unopened_from t indexed session (TimedOut link) sends notes = split t.profile.tidy sends notes
  where
    split : (b : Bool) → (cond b (cleared_within t indexed link session) (opened_within t indexed session)).sent ≡ [] → (cond b (cleared_within t indexed link session) (opened_within t indexed session)).notices ≡ [] → session ≡ None
    split true sends notes = uncleared t indexed link session sends notes
    split false sends notes = unopened t indexed session sends notes
unopened_from t indexed session other sends notes = unopened t indexed session sends notes

-- the slots cannot ask their targets, and nothing happens to them
pub record StayClosed (t : ScannerTable) (all : List IndexedSlot) : Type 0 where
  pub none : AllByRecursion (HasNone (can_ask t)) all
  pub rests : on_each opened all t ≡ nothing t

closed_one : (t : ScannerTable) (indexed : IndexedSlot) (rest : List IndexedSlot) (first : Effect) → opened t indexed ≡ first → asking_session t indexed ≡ None → first ≡ nothing t → StayClosed t rest → StayClosed t (indexed ∷ rest)
closed_one t indexed rest first is none quiet more = record {
  none = (ap (λ (o : Option Session). is_some o) none, more.none);
  rests = ap (λ (e : Effect). after e (on_each opened rest e.table)) (is ∙ quiet) ∙ ap (after (nothing t)) more.rests;
}

opened_is : (t : ScannerTable) (indexed : IndexedSlot) → opened t indexed ≡ opened_from t indexed (asking_session t indexed) indexed.slot.state
unfolding opened
opened_is t indexed = refl

stay_closed : (t : ScannerTable) (all : List IndexedSlot) → (on_each opened all t).sent ≡ [] → (on_each opened all t).notices ≡ [] → StayClosed t all
stay_closed t [] sends notes = record { none = tt; rests = refl }
stay_closed t (indexed ∷ rest) sends notes =
    let first = opened t indexed in
    let sent_parts = none_joined first.sent (on_each opened rest first.table).sent sends in
    let note_parts = none_joined first.notices (on_each opened rest first.table).notices notes in
    let is = opened_is t indexed in
    let none : asking_session t indexed ≡ None = unopened_from t indexed (asking_session t indexed) indexed.slot.state (ap (λ (e : Effect). e.sent) (sym is) ∙ sent_parts.0) (ap (λ (e : Effect). e.notices) (sym is) ∙ note_parts.0) in
    let quiet : first ≡ nothing t = is ∙ ap (λ (s : Option Session). opened_from t indexed s indexed.slot.state) none ∙ from_none t indexed indexed.slot.state in
    closed_one t indexed rest first refl none quiet (stay_closed t rest (subst (λ (e : Effect). (on_each opened rest e.table).sent ≡ []) quiet sent_parts.1) (subst (λ (e : Effect). (on_each opened rest e.table).notices ≡ []) quiet note_parts.1))

none_opens : (t : ScannerTable) → (ready_opened t).sent ≡ [] → (ready_opened t).notices ≡ [] → StayClosed t (ready_slots t)
unfolding ready_opened
none_opens t sends notes = stay_closed t (ready_slots t) sends notes

opens_nothing : (t : ScannerTable) → StayClosed t (ready_slots t) → ready_opened t ≡ nothing t
unfolding ready_opened
opens_nothing t closed = closed.rests

-- ---- productions

has_production : (run : Bool) (indexed : IndexedSlot) (clock : Ms) (state : SlotState) → state_is_due clock state ≡ true → is_some (state_production run indexed state) ≡ true
has_production run indexed clock Idle due = absurd (let e : false ≡ true = due in cc)
has_production run indexed clock (Opening o) due = absurd (let e : false ≡ true = due in cc)
has_production run indexed clock (Established c) due = refl
has_production run indexed clock (TimedOut link) due = absurd (let e : false ≡ true = due in cc)
has_production run indexed clock (Closing c) due = absurd (let e : false ≡ true = due in cc)

none_due : (t : ScannerTable) → due_productions t ≡ [] → filter (is_due t.clock) (indexed_slots t) ≡ []
none_due t none =
    let due = filter (is_due t.clock) (indexed_slots t) in
    let all = all_ordered (λ indexed. is_due t.clock indexed ≡ true) by_due due (all_kept (is_due t.clock) (indexed_slots t)) in
    none_ordered by_due due (none_made (slot_production t.run) (in_order by_due due) (all_more (λ indexed. is_due t.clock indexed ≡ true) (λ indexed. is_some (slot_production t.run indexed) ≡ true) (λ indexed late. has_production t.run indexed t.clock indexed.slot.state late) (in_order by_due due) all) none)

-- ---- a table that stays

-- nothing happens to slots where the answer says nothing, and the table stays
record StaysQuiet (t : ScannerTable) : Type 0 where
  unexpired : expired_slots t ≡ []
  waiting : filter (is_overdue t.clock) (indexed_slots t) ≡ []
  closed : StayClosed t (ready_slots t)
  same : (advanced t).table ≡ t

stays_quiet : (t : ScannerTable) → (advanced t).sent ≡ [] → (advanced t).notices ≡ [] → StaysQuiet t
stays_quiet t sends notes =
    let ends = all_expired t in
    let pending = all_given_up ends.table in
    let opens = ready_opened pending.table in
    let outer = none_joined (ends.notices ++ pending.notices) opens.notices notes in
    let inner = none_joined ends.notices pending.notices outer.0 in
    let outer_sent = none_joined (ends.sent ++ pending.sent) opens.sent sends in
    let unexpired = none_expire t inner.0 in
    let no_end = nothing_expires t unexpired in
    let waiting = none_given_up t (subst (λ (e : Effect). (all_given_up e.table).notices ≡ []) no_end inner.1) in
    let no_give = ap (λ (e : Effect). all_given_up e.table) no_end ∙ nothing_given_up t waiting in
    let closed = none_opens t (subst (λ (e : Effect). (ready_opened e.table).sent ≡ []) no_give outer_sent.1) (subst (λ (e : Effect). (ready_opened e.table).notices ≡ []) no_give outer.1) in
    let no_open = ap (λ (e : Effect). ready_opened e.table) no_give ∙ opens_nothing t closed in
    record { unexpired = unexpired; waiting = waiting; closed = closed; same = ap (λ (e : Effect). e.table) no_open }

-- a table at which a tick without an answer ends
quiet_table : (t : ScannerTable) → t.clock.0 < never → StaysQuiet t → due_productions (advanced t).table ≡ [] → t.clock.0 < slots_due (can_ask t) (indexed_slots t)
quiet_table t below quiet none =
    let resting = none_due t (subst (λ (u : ScannerTable). due_productions u ≡ []) quiet.same none) in
    slots_wait (can_ask t) t.clock (indexed_slots t) below (none_ordered by_deadline (filter (has_expired t.clock) (indexed_slots t)) quiet.unexpired) quiet.waiting resting quiet.closed.none

-- ---- explicit requests

explicit_waits : (clock : Ms) (all : List PendingExplicit) → clock.0 < never → filter (is_late clock) all ≡ [] → clock.0 < explicit_due all
explicit_waits clock [] below none = below
explicit_waits clock (pending ∷ all) below none =
    let parts = none_kept (is_late clock) pending all none in
    let here = later clock.0 pending.deadline.0 parts.0 in
    let rest = explicit_waits clock all below parts.1 in
    omega (arith, here, rest)

none_late : (t : ScannerTable) → (explicit_timed_out t).notices ≡ [] → filter (is_late t.clock) t.explicit ≡ []
unfolding explicit_timed_out
none_late t none = none_mapped (unanswered_notice unanswered.TimedOut) (filter (is_late t.clock) t.explicit) none

-- ---- the tick

ticked_step : (a b : Bool) (next : Next) → a ≡ false → b ≡ false → ◌≡◌ {A = Result Next StepFault} (cond a (Err fault.TickTooLong) (cond b (Err fault.ClockEnd) (Ok next))) (Ok next)
ticked_step true b next first second = absurd (let e = first in cc)
ticked_step false true next first second = absurd (let e = second in cc)
ticked_step false false next first second = refl

all_ticked : (t : ScannerTable) (ms : ℕ) → ms ≤ longest_tick → t.clock.0 + ms ≤ clock_end → tick t ms ≡ Ok (ticked (moved_on (clocked_table t ms)))
unfolding tick
all_ticked t ms short inside =
    let first : nat_lt longest_tick ms ≡ false = grind (arith, nat_tests) in
    let second : nat_lt clock_end (t.clock.0 + ms) ≡ false = grind (arith, nat_tests) in
    ticked_step (nat_lt longest_tick ms) (nat_lt clock_end (t.clock.0 + ms)) (ticked (moved_on (clocked_table t ms))) first second

-- the explicit requests that end have no productions
same_due : (t : ScannerTable) → due_productions (explicit_timed_out t).table ≡ due_productions t
unfolding explicit_timed_out
same_due t = refl

quiet_answer : (t : ScannerTable) → t.clock.0 < never → (ticked (moved_on t)).0 ≡ plain_answer Done → t.clock.0 < min (slots_due (can_ask t) (indexed_slots t)) (explicit_due t.explicit)
quiet_answer t below is =
    let moved = advanced t in
    let ends = explicit_timed_out moved.table in
    let sends = none_joined moved.sent ends.sent (none_mapped sent_frame (moved.sent ++ ends.sent) (ap (λ (a : Answer). a.frames) is)) in
    let notes = none_joined moved.notices ends.notices (ap (λ (a : Answer). a.notices) is) in
    let quiet = stays_quiet t sends.0 notes.0 in
    let produced = none_mapped sent (due_productions ends.table) (ap (λ (a : Answer). a.datagrams) is) in
    let slots = quiet_table t below quiet (sym (same_due moved.table) ∙ produced) in
    let late : filter (is_late t.clock) t.explicit ≡ [] = subst (λ (u : ScannerTable). filter (is_late u.clock) u.explicit ≡ []) quiet.same (none_late moved.table notes.1) in
    let explicit = explicit_waits t.clock t.explicit below late in
    omega (arith, slots, explicit)

pub scanner_waits : (t : ScannerTable) (ms : ℕ) → ms ≤ longest_tick → t.clock.0 + ms ≤ clock_end → step (Scanner t) (Tick ms) ≡ Ok (plain_answer Done, clocked (Scanner t) ms) → t.clock.0 + ms < min (slots_due (can_ask t) (indexed_slots t)) (explicit_due t.explicit)
unfolding step
scanner_waits t ms short inside is =
    let next = ticked (moved_on (clocked_table t ms)) in
    quiet_answer (clocked_table t ms) (omega (arith, inside)) (answer_of next.0 (plain_answer Done) (Scanner next.1) (clocked (Scanner t) ms) (sym (ap as_scanner (all_ticked t ms short inside)) ∙ is))
