-- Each request to open that a scanner sends is the request of the slot that has its number, now and later.
use Rattle.std.proofs.Common.{◌≡◌, ◌≤◌, ◌<◌, ◌⊎◌, inl, inr, ℕ, ◌+◌, ◌==◌, nat_lt, Bool, true, false, cond, List, [], ◌∷◌, map, filter, find, slice_get, Option, Some, None, Result, Ok, Err, IfOk, refl, sym, ◌∙◌, ap, subst, arith, eqb-true}
use Rattle.std.specs.List.{AllByRecursion}
use Rattle.std.proofs.lemmas.Bool.{and_parts, eqb-false}
use Rattle.std.proofs.lemmas.Option.{same_Some}
use Rattle.device_laws.specs.Lemmas.OpeningNumbers.{written_number, below, due_number, moded_number}
use Rattle.cip_types.specs.Cases.{first_case}
use Rattle.cip_types.specs.declared.names.Mismatch.{Mismatch}
use Rattle.cip_types.specs.declared.names.Ms.{Ms}
use Rattle.cip_types.specs.declared.names.Node.{Node}
use Rattle.cip_types.specs.declared.names.Triad.{Triad}
use Rattle.cip_encap.specs.declared.message.EncapFault.{EncapFault}
use Rattle.cip_encap.specs.Message.{MessageFields}
use Rattle.cip_encap.specs.Reading.{message_reading}
use Rattle.cip_events.specs.declared.event.Event.{Event}
use Rattle.cip_events.specs.declared.event.Event.TheVariants as event
use Rattle.cip_events.specs.declared.event.Reason.{Reason}
use Rattle.cip_events.specs.declared.event.Reason.TheVariants as reason
use Rattle.cip_events.specs.declared.event.StepFault.{StepFault}
use Rattle.cip_events.specs.declared.event.StepFault.TheVariants as fault
use Rattle.cip_events.specs.Clock.{longest_tick, clock_end}
use Rattle.cip_fwdopen.specs.declared.reply.Opened as made
use Rattle.cip_fwdopen.specs.declared.reply.OpenAnswer.{OpenAnswer}
use Rattle.cip_fwdopen.specs.declared.reply.OpenAnswer.TheVariants as answer
use Rattle.cip_fwdopen.specs.Open.{OpenFields}
use Rattle.conn_state.specs.Answers.{answer_tests}
use Rattle.conn_state.specs.declared.names.Link.{Link}
use Rattle.conn_state.specs.declared.names.Requested.{Requested}
use Rattle.cip_productions.specs.Kinds.{is_owner}
use Rattle.scanner_table.specs.declared.profile.ScannerProfile.{ScannerProfile}
use Rattle.scanner_table.specs.declared.profile.SlotConfig.{SlotConfig}
use Rattle.scanner_table.specs.declared.slot.PendingOpen as pending
use Rattle.scanner_table.specs.declared.slot.Slot.{Slot}
use Rattle.scanner_table.specs.declared.slot.SlotState.{SlotState}
use Rattle.scanner_table.specs.declared.slot.SlotState.TheVariants.{Idle, Opening, Established, TimedOut, Closing}
use Rattle.scanner_table.specs.declared.table.ScannerTable.{ScannerTable}
use Rattle.scanner_table.specs.declared.table.Session.{Session}
use Rattle.scanner_table.specs.declared.table.Stage.{Stage}
use Rattle.scanner_table.specs.declared.table.Stage.TheVariants.{Waiting, Up, Unused}
use Rattle.scanner_table.specs.declared.table.TargetStream.{TargetStream}
use Rattle.scanner_table.specs.Requests.{Request, registration, registering, opening, closing, requesting, Sent, is_large, next_requested, open_fields, sent_frame}
use Rattle.scanner_table.specs.Closing.{idle_slot, requested_link, given_up_state, given_up, target_lost, reopened, closed, closed_within, dropped, slot_resigned, stopped_desire, stopped, stopped_at}
use Rattle.scanner_table.specs.Effects.{Next, Effect, nothing, after, and_then, on_each, done}
use Rattle.scanner_table.specs.Explicit.{awaits, without_explicit, explicit_sent, explicit_request, explicit_timed_out, explicit_lost}
use Rattle.scanner_table.specs.Encapsulation.{registering_on, stream_opened, stream_lost, cut_of, stream_cut, is_registered, session_begun, session_failed, registered, ends_session, session_renewed, unserved_state, unserved, unserved_at, ignored, is_awaiting, replied, replied_to, reported, frame_answer, frame_of, frame}
use Rattle.scanner_table.specs.Opening.{has_request, can_open, opening_slot, open_requested, exhausted, opened_within, close_requested, cleared_within, opened_from, opened, is_ready_slot, ready_slots, ready_opened, target_opened, asking_session}
use Rattle.scanner_table.specs.Points.{desired_slot, started, start_state, start_at, start, stop_of, stop}
use Rattle.scanner_table.specs.Productions.{state_is_due, produced_table}
use Rattle.scanner_table.specs.Replies.{is_id_free, refused, disowned, disowned_within, rejected, judged_success, open_answer, answered}
use Rattle.scanner_table.specs.Sessions.{is_stream, is_taken, without_stream, with_stage, session_with}
use Rattle.scanner_table.specs.Slots.{IndexedSlot, indexed_slots, is_numbered, is_closed, needs_request, is_with, slot_at, with_slot}
use Rattle.scanner_table.specs.Step.{scanner_step}
use Rattle.scanner_table.specs.Ticks.{expired_slots, expired_state, expired, all_expired, is_overdue, all_given_up, clocked_table, advanced, moved_on, ticked, tick}
use Rattle.device_laws.specs.Newest.{StateIsNumbered, OpeningsAreNumbered}
use Rattle.scanner_table.specs.Lemmas.Moves.{Kept, KeptWidely, KeptAlways, Does, IsClosedSlot, opened_does, stand_on, stands_with, expired_leads, overdue_leads, timed_out_leads, step_leads}
use Rattle.scanner_table.specs.Lemmas.SlotLookups.{Stands, Each, EachTwo, Apart, each_filter, each_found, each_more, each_passes, each_stands, two_filter, slots_apart, get_other, indexed_at, slot_is, slot_stands}
use Rattle.scanner_table.specs.Lemmas.Slotwise.{Relation, SlotwiseAlways, Goes, goes_always, was_of}
use Rattle.device_laws.specs.Lemmas.ExplicitRequests.{IsExplicit, explicit_holds, message_ends}
use Rattle.device_laws.specs.Lemmas.Lists.{all_both, all_more}
use Rattle.device_laws.specs.Lemmas.Texts.{either}
use Rattle.device_laws.specs.ProductionRuns.{opening_number}
use Rattle.scanner_table.specs.Lemmas.SlotEventLemmas.{slots_hold}
use Rattle.cip_events.specs.Answers.{plain_answer}

-- ---- opening numbers over a step

-- the number was drawn between these
pub record IsDrawn (from to number : ℕ) : Type 0 where
  pub first : from ≤ number
  pub last : number < to

-- the state has an opening number that the other had, or that was drawn since
abbrev pub Drew : ℕ → ℕ → SlotState → SlotState → Type 0
Drew from to was now = (number : ℕ) → opening_number now ≡ Some number → (opening_number was ≡ Some number) ⊎ IsDrawn from to number

abbrev pub Draws : Relation
Draws t u number config was now = Drew t.next_request u.next_request was.state now.state

kept : (from to : ℕ) (was now : SlotState) → opening_number now ≡ opening_number was → Drew from to was now
kept from to was now same number has = inl (sym same ∙ has)

none_left : (from to : ℕ) (was now : SlotState) → opening_number now ≡ None → Drew from to was now
none_left from to was now none number has = absurd (let e : None ≡ Some number = sym none ∙ has in cc)

drew_after : (from mid to : ℕ) (a b c : SlotState) → from ≤ mid → mid ≤ to → Drew from mid a b → Drew mid to b c → Drew from to a c
drew_after from mid to a b c up on before behind number has = at_end (behind number has) where
  at_mid : (opening_number a ≡ Some number) ⊎ IsDrawn from mid number → (opening_number a ≡ Some number) ⊎ IsDrawn from to number
  at_mid (inl had) = inl had
  at_mid (inr drew) = inr (record { first = drew.first; last = omega (arith, drew.last, on) })

  at_end : (opening_number b ≡ Some number) ⊎ IsDrawn mid to number → (opening_number a ≡ Some number) ⊎ IsDrawn from to number
  at_end (inl had) = at_mid (before number had)
  at_end (inr drew) = inr (record { first = omega (arith, drew.first, up); last = drew.last })

draws_always : SlotwiseAlways Draws
draws_always = record {
  widely = record {
    stays = λ t u number config slot later. kept t.next_request u.next_request slot.state slot.state refl;
    after = λ t u v number config a b c first next before behind. drew_after t.next_request u.next_request v.next_request a.state b.state c.state first.requests next.requests before behind;
    opening = λ t place closed_before left number has. inr (let same = same_Some t.next_request number has in record { first = omega (arith, same); last = omega (arith, same) });
    idling = λ t place slot idle. none_left t.next_request t.next_request place.slot.state slot.state (ap opening_number idle.state);
    timing_out = λ t place link slot is becomes. none_left t.next_request t.next_request place.slot.state slot.state (ap opening_number becomes.state);
    closing = λ t place link desired_up is number has. absurd (let e = has in cc);
    producing = λ t n config slot number has. inl (sym (due_number (state_is_due t.clock slot.state) t.clock slot) ∙ has);
    moding = λ t run place number has. inl (sym (moded_number (is_owner place.config.kind) place.slot) ∙ has);
  };
  establishing = λ t place o success is requested number has. inl (ap opening_number is ∙ has);
  writing = λ t place bytes number has. inl (sym (written_number place.slot.state) ∙ has);
  accepting = λ t place d c bytes is number has. inl (ap opening_number is.established ∙ has);
}

always : KeptAlways (Goes Draws)
always = goes_always Draws draws_always

kept_widely : KeptWidely (Goes Draws)
kept_widely = always.widely

slots_kept : Kept (Goes Draws)
slots_kept = kept_widely.slots

abbrev OkGoes : ScannerTable → Result Next StepFault → Type 0
OkGoes t said = IfOk said (λ next. Goes Draws t next.1)

pub step_goes : (t : ScannerTable) (happens : Event) (next : Next) → scanner_step t happens ≡ Ok next → Goes Draws t next.1
step_goes t happens next is = subst (OkGoes t) is (step_leads (Goes Draws) always t happens)

-- ---- the slot that has a number

state_numbered : (next : ℕ) (state : SlotState) → ((number : ℕ) → opening_number state ≡ Some number → number < next) → StateIsNumbered next state
state_numbered next Idle less = tt
state_numbered next (Opening o) less = less o.request refl
state_numbered next (Established c) less = less c.opening refl
state_numbered next (TimedOut link) less = tt
state_numbered next (Closing c) less = tt

-- the slot as it was, with the number
pub record WasNumbered (t : ScannerTable) (config : SlotConfig) (number : ℕ) : Type 0 where
  pub place : IndexedSlot
  pub there : slot_at t place.number ≡ Some place
  pub config_is : place.config ≡ config
  pub has : opening_number place.slot.state ≡ Some number

pub was_numbered : (t u : ScannerTable) (place : IndexedSlot) (number : ℕ) → Goes Draws t u → slot_at u place.number ≡ Some place → opening_number place.slot.state ≡ Some number → number < t.next_request → WasNumbered t place.config number
was_numbered t u place number goes there has less =
    let was = was_of Draws t u place goes (slot_is u place.number place there).stands in
    step was.slot (slot_stands t (indexed_at place.number place.config was.slot) was.stands) (was.holds number has)
  where
    step : (slot : Slot) → slot_at t place.number ≡ Some (indexed_at place.number place.config slot) → (opening_number slot.state ≡ Some number) ⊎ IsDrawn t.next_request u.next_request number → WasNumbered t place.config number
    step slot at (inl had) = record { place = indexed_at place.number place.config slot; there = at; config_is = refl; has = had }
    step slot at (inr drew) = absurd (omega (arith, less, drew.first))

numbered_on : (t u : ScannerTable) → Goes Draws t u → OpeningsAreNumbered t → OpeningsAreNumbered u
numbered_on t u goes all number place is =
    let at = slot_is u number place is in
    let was = was_of Draws t u place goes at.stands in
    let old : StateIsNumbered t.next_request was.slot.state = all place.number (indexed_at place.number place.config was.slot) (slot_stands t (indexed_at place.number place.config was.slot) was.stands) in
    state_numbered u.next_request place.slot.state (λ n has. less n was.slot old (was.holds n has))
  where
    less : (n : ℕ) (slot : Slot) → StateIsNumbered t.next_request slot.state → (opening_number slot.state ≡ Some n) ⊎ IsDrawn t.next_request u.next_request n → n < u.next_request
    less n slot old (inl had) = let few = below t.next_request n slot.state old had in let later = goes.later in omega (arith, few, later.requests)
    less n slot old (inr drew) = drew.last

-- ---- requests and their slots

-- the request that a slot of this configuration sends
pub record IsRequestOf (config : SlotConfig) (large : Bool) (fields : OpenFields) : Type 0 where
  pub profile : ScannerProfile
  pub requested : Requested
  pub large_is : large ≡ is_large config
  pub fields_are : fields ≡ open_fields profile config requested

-- the number was drawn, and the request is that of each slot that has it
pub record IsForSlots (from : ℕ) (t : ScannerTable) (number : ℕ) (large : Bool) (fields : OpenFields) : Type 0 where
  pub first : from ≤ number
  pub last : number < t.next_request
  pub slots : (place : IndexedSlot) → slot_at t place.number ≡ Some place → opening_number place.slot.state ≡ Some number → IsRequestOf place.config large fields

abbrev pub RequestIsFor : ℕ → ScannerTable → ℕ → Request → Type 0
RequestIsFor from t number registering = Unit {0}
RequestIsFor from t number (opening large fields) = IsForSlots from t number large fields
RequestIsFor from t number (closing fields) = Unit {0}
RequestIsFor from t number (requesting bytes) = IsExplicit bytes

abbrev pub SentIsFor : ℕ → ScannerTable → Sent → Type 0
SentIsFor from t sent = RequestIsFor from t sent.number sent.request

request_later : (from : ℕ) (t u : ScannerTable) (number : ℕ) (request : Request) → Goes Draws t u → RequestIsFor from t number request → RequestIsFor from u number request
request_later from t u number registering goes is = tt
request_later from t u number (opening large fields) goes is =
    let later = goes.later in
    record {
      first = is.first;
      last = omega (arith, is.last, later.requests);
      slots = λ place there has.
          let was = was_numbered t u place number goes there has is.last in
          subst (λ (c : SlotConfig). IsRequestOf c large fields) was.config_is (is.slots was.place was.there was.has);
    }
request_later from t u number (closing fields) goes is = tt
request_later from t u number (requesting bytes) goes is = is

request_from : (low from : ℕ) (t : ScannerTable) (number : ℕ) (request : Request) → low ≤ from → RequestIsFor from t number request → RequestIsFor low t number request
request_from low from t number registering up is = tt
request_from low from t number (opening large fields) up is = record { first = omega (arith, up, is.first); last = is.last; slots = is.slots }
request_from low from t number (closing fields) up is = tt
request_from low from t number (requesting bytes) up is = is

-- the effect goes on from the table, and its requests are those of their slots
record OpensFor (t : ScannerTable) (effect : Effect) : Type 0 where
  goes : Goes Draws t effect.table
  sent : AllByRecursion (SentIsFor t.next_request effect.table) effect.sent

opens_then : (t : ScannerTable) (first second : Effect) → OpensFor t first → OpensFor first.table second → OpensFor t (after first second)
opens_then t first second one two =
    let went = one.goes in
    let later = went.later in
    record {
      goes = slots_kept.after t first.table second.table one.goes two.goes;
      sent = all_both (SentIsFor t.next_request second.table) first.sent second.sent
          (all_more (SentIsFor t.next_request first.table) (SentIsFor t.next_request second.table) (λ sent is. request_later t.next_request first.table second.table sent.number sent.request two.goes is) first.sent one.sent)
          (all_more (SentIsFor first.table.next_request second.table) (SentIsFor t.next_request second.table) (λ sent is. request_from t.next_request first.table.next_request second.table sent.number sent.request later.requests is) second.sent two.sent);
    }

-- ---- one slot opens

-- the slot that opened has the number, and no other one
open_is_for : (t : ScannerTable) (place other : IndexedSlot) (session : Session) → Stands t place → OpeningsAreNumbered t → slot_at (open_requested t place session).table other.number ≡ Some other → opening_number other.slot.state ≡ Some t.next_request → IsRequestOf other.config (is_large place.config) (open_fields t.profile place.config (next_requested t place.config))
open_is_for t place other session stands all there has =
    let u = (open_requested t place session).table in
    let at = slot_is (open_requested t place session).table other.number other there in
    decide (other.number == place.number) refl at.stands
  where
    decide : (b : Bool) → (other.number == place.number) ≡ b → Stands (open_requested t place session).table other → IsRequestOf other.config (is_large place.config) (open_fields t.profile place.config (next_requested t place.config))
    decide true is at =
        let same : place.config ≡ other.config = same_Some place.config other.config (sym stands.config ∙ ap (slice_get t.profile.slots) (sym (eqb-true other.number place.number is)) ∙ at.config) in
        record {
          profile = t.profile;
          requested = next_requested t place.config;
          large_is = ap is_large same;
          fields_are = ap (λ (c : SlotConfig). open_fields t.profile c (next_requested t place.config)) same;
        }
    decide false is at =
        let old : Stands t other = record { config = at.config; slot = sym (get_other place.number other.number t.slots (opening_slot t place) (eqb-false other.number place.number is)) ∙ at.slot } in
        let few = below t.next_request t.next_request other.slot.state (all other.number other (slot_stands t other old)) has in
        absurd (omega (arith, few))

within_opens : (t : ScannerTable) (place : IndexedSlot) (session : Option Session) → Stands t place → OpeningsAreNumbered t → AllByRecursion (SentIsFor t.next_request (opened_within t place session).table) (opened_within t place session).sent
within_opens t place None stands all = tt
within_opens t place (Some session) stands all =
    either (λ (e : Effect). AllByRecursion (SentIsFor t.next_request e.table) e.sent) (can_open t place.config) (open_requested t place session) (exhausted t place)
    (record { first = omega arith; last = omega arith; slots = λ other there has. open_is_for t place other session stands all there has }, tt) tt

-- the effect's requests are those of their slots
abbrev SentFrom : ℕ → Effect → Type 0
SentFrom from effect = AllByRecursion (SentIsFor from effect.table) effect.sent

-- a Forward_Close of a slot
close_opens : (t : ScannerTable) (place : IndexedSlot) (link : Link) (desired_up : Bool) (session : Session) → SentFrom t.next_request (cond (has_request t) (close_requested t place link desired_up session) (exhausted t place))
close_opens t place link desired_up session = either (SentFrom t.next_request) (has_request t) (close_requested t place link desired_up session) (exhausted t place) (tt, tt) tt

cleared_opens : (t : ScannerTable) (place : IndexedSlot) (link : Link) (session : Option Session) → SentFrom t.next_request (cleared_within t place link session)
cleared_opens t place link None = tt
cleared_opens t place link (Some session) = close_opens t place link place.slot.desired_up session

from_opens : (t : ScannerTable) (place : IndexedSlot) (session : Option Session) (state : SlotState) → Stands t place → OpeningsAreNumbered t → SentFrom t.next_request (opened_from t place session state)
from_opens t place session (TimedOut link) stands all =
    either (SentFrom t.next_request) t.profile.tidy (cleared_within t place link session) (opened_within t place session) (cleared_opens t place link session) (within_opens t place session stands all)
from_opens t place session other stands all = within_opens t place session stands all

-- the effect of one slot, which leaves all others
one_opens : (t : ScannerTable) (place : IndexedSlot) → Stands t place → IsClosedSlot place → OpeningsAreNumbered t → Does (Goes Draws) t place (opened t place) → OpensFor t (opened t place)
unfolding opened
one_opens t place stands closed_before all does = record { goes = does.leads; sent = from_opens t place (asking_session t place) place.slot.state stands all }

each_opens : (places : List IndexedSlot) (t : ScannerTable) → Each (Stands t) places → EachTwo Apart places → Each IsClosedSlot places → OpeningsAreNumbered t → OpensFor t (on_each opened places t)
each_opens [] t stand apart closed_before all = record { goes = slots_kept.same t; sent = tt }
each_opens (place ∷ rest) t stand apart closed_before all =
    let does = opened_does (Goes Draws) slots_kept t place stand.0 closed_before.0 in
    let next = (opened t place).table in
    opens_then t (opened t place) (on_each opened rest next) (one_opens t place stand.0 closed_before.0 all does)
    (each_opens rest next (stand_on t next place.number rest does.local apart.0 stand.1) apart.1 closed_before.1 (numbered_on t next does.leads all))

ready_closed : (clock : Ms) (place : IndexedSlot) → is_ready_slot clock place ≡ true → IsClosedSlot place
ready_closed clock place ready = (and_parts (is_closed place.slot.state) _ (and_parts (needs_request place.slot) _ ready).1).0

all_closed : (t : ScannerTable) → Each IsClosedSlot (ready_slots t)
all_closed t = each_more (λ place. is_ready_slot t.clock place ≡ true) IsClosedSlot (ready_closed t.clock) (ready_slots t) (each_passes (is_ready_slot t.clock) (indexed_slots t))

all_stand : (t : ScannerTable) → Each (Stands t) (ready_slots t)
all_stand t = each_filter (Stands t) (is_ready_slot t.clock) (indexed_slots t) (each_stands t)

all_apart : (t : ScannerTable) → EachTwo Apart (ready_slots t)
all_apart t = two_filter Apart (is_ready_slot t.clock) (indexed_slots t) (slots_apart t)

ready_opens : (t : ScannerTable) → OpeningsAreNumbered t → OpensFor t (ready_opened t)
unfolding ready_opened
ready_opens t all = each_opens (ready_slots t) t (all_stand t) (all_apart t) (all_closed t) all

target_opens : (target : Node) (t : ScannerTable) → OpeningsAreNumbered t → OpensFor t (target_opened target t)
unfolding target_opened
target_opens target t all =
    each_opens (filter (is_with target) (ready_slots t)) t (each_filter (Stands t) (is_with target) (ready_slots t) (all_stand t))
    (two_filter Apart (is_with target) (ready_slots t) (all_apart t)) (each_filter IsClosedSlot (is_with target) (ready_slots t) (all_closed t)) all

-- ---- what sends nothing

abbrev SendsNone : Effect → Type 0
SendsNone effect = effect.sent ≡ []

each_silent : (effect : ScannerTable → IndexedSlot → Effect) → ((t : ScannerTable) (place : IndexedSlot) → SendsNone (effect t place)) → (places : List IndexedSlot) (t : ScannerTable) → SendsNone (on_each effect places t)
each_silent effect none [] t = refl
each_silent effect none (place ∷ places) t =
    let one = none t place in
    let rest = each_silent effect none places (effect t place).table in
    rw (one, rest) refl

given_silent : (t : ScannerTable) (place : IndexedSlot) (state : SlotState) → SendsNone (given_up_state t place state)
given_silent t place Idle = refl
given_silent t place (Opening o) = refl
given_silent t place (Established c) = refl
given_silent t place (TimedOut link) = refl
given_silent t place (Closing c) = refl

expired_silent : (t : ScannerTable) (place : IndexedSlot) (state : SlotState) → SendsNone (expired_state t place state)
expired_silent t place Idle = refl
expired_silent t place (Opening o) = refl
expired_silent t place (Established c) = refl
expired_silent t place (TimedOut link) = refl
expired_silent t place (Closing c) = refl

silent_for : (t : ScannerTable) (effect : Effect) → SendsNone effect → Goes Draws t effect.table → OpensFor t effect
silent_for t effect none goes = record { goes = goes; sent = subst (AllByRecursion (SentIsFor t.next_request effect.table)) (sym none) tt }

all_expired_silent : (t : ScannerTable) → SendsNone (all_expired t)
unfolding all_expired
all_expired_silent t = each_silent expired (λ u place. expired_silent u place place.slot.state) (expired_slots t) t

all_given_silent : (t : ScannerTable) → SendsNone (all_given_up t)
unfolding all_given_up
all_given_silent t = each_silent given_up (λ u place. given_silent u place place.slot.state) (filter (is_overdue t.clock) (indexed_slots t)) t

expired_for : (t : ScannerTable) → OpensFor t (all_expired t)
expired_for t = silent_for t (all_expired t) (all_expired_silent t) (expired_leads (Goes Draws) slots_kept t)

given_for : (t : ScannerTable) → OpensFor t (all_given_up t)
given_for t = silent_for t (all_given_up t) (all_given_silent t) (overdue_leads (Goes Draws) slots_kept t)

lost_silent : (target : Node) (t : ScannerTable) → SendsNone (target_lost target t)
unfolding target_lost
lost_silent target t = each_silent given_up (λ u place. given_silent u place place.slot.state) (filter (is_with target) (indexed_slots t)) t

ended_silent : (stream : ℕ) (t : ScannerTable) → SendsNone (explicit_lost stream t)
unfolding explicit_lost
ended_silent stream t = refl

timed_out_silent : (t : ScannerTable) → SendsNone (explicit_timed_out t)
unfolding explicit_timed_out
timed_out_silent t = refl

timed_out_for : (t : ScannerTable) → OpensFor t (explicit_timed_out t)
timed_out_for t = silent_for t (explicit_timed_out t) (timed_out_silent t) (timed_out_leads (Goes Draws) kept_widely t)

advanced_for : (t : ScannerTable) → OpeningsAreNumbered t → OpensFor t (advanced t)
advanced_for t all =
    let first = expired_for t in
    let one = (all_expired t).table in
    let second = given_for one in
    let both = opens_then t (all_expired t) (all_given_up one) first second in
    let two = (all_given_up one).table in
    opens_then t (after (all_expired t) (all_given_up one)) (ready_opened two) both (ready_opens two (numbered_on t two both.goes all))

moved_for : (t : ScannerTable) → OpeningsAreNumbered t → OpensFor t (moved_on t)
moved_for t all = opens_then t (advanced t) (explicit_timed_out (advanced t).table) (advanced_for t all) (timed_out_for (advanced t).table)

-- ---- a step

-- the frames of the answer are requests of their slots
pub record NextOpens (t : ScannerTable) (next : Next) : Type 0 where
  pub requests : List Sent
  pub frames : next.0.frames ≡ map sent_frame requests
  pub are_for : AllByRecursion (SentIsFor t.next_request next.1) requests

abbrev OkOpens : ScannerTable → Result Next StepFault → Type 0
OkOpens t said = IfOk said (NextOpens t)

quiet : (t : ScannerTable) (next : Next) → next.0.frames ≡ [] → NextOpens t next
quiet t next none = record { requests = []; frames = none; are_for = tt }

done_opens : (t : ScannerTable) (effect : Effect) → AllByRecursion (SentIsFor t.next_request effect.table) effect.sent → NextOpens t (done effect)
done_opens t effect sent = record { requests = effect.sent; frames = refl; are_for = sent }

silent_opens : (t : ScannerTable) (effect : Effect) → SendsNone effect → NextOpens t (done effect)
silent_opens t effect none = done_opens t effect (subst (AllByRecursion (SentIsFor t.next_request effect.table)) (sym none) tt)

disowned_sent : (from : ℕ) (t : ScannerTable) (config : SlotConfig) (triad : Triad) (session : Option Session) → SentFrom from (disowned_within t config triad session)
disowned_sent from t config triad None = tt
disowned_sent from t config triad (Some session) = either (SentFrom from) (has_request t) (disowned t config triad session) (nothing t) (tt, tt) tt

rejected_sent : (from : ℕ) (t : ScannerTable) (config : SlotConfig) (triad : Triad) → SentFrom from (rejected config triad t)
rejected_sent from t config triad =
    either (SentFrom from) t.profile.tidy (disowned_within t config triad (session_with t config.target)) (nothing t) (disowned_sent from t config triad (session_with t config.target)) tt

success_sent : (t : ScannerTable) (place : IndexedSlot) (o : pending.PendingOpen) (success : made.Opened) (why : Option Mismatch) → SentFrom t.next_request (judged_success t place o success why)
success_sent t place o success None = tt
success_sent t place o success (Some why) = rejected_sent t.next_request (refused t place (reason.Mismatch why)).table place.config o.requested.triad

answered_sent : (t : ScannerTable) (place : IndexedSlot) (o : pending.PendingOpen) (says : Result OpenAnswer Reason) → SentFrom t.next_request (answered t place o says)
unfolding answered
answered_sent t place o (Err why) = tt
answered_sent t place o (Ok (answer.Refused r)) = tt
answered_sent t place o (Ok (answer.Opened success)) = success_sent t place o success (first_case (answer_tests o.requested success (is_id_free t place success.t_o_id)))

-- any reply to a Forward_Close
reopened_sent : (t : ScannerTable) (place : IndexedSlot) → Stands t place → IsClosedSlot place → OpeningsAreNumbered t → SentFrom t.next_request (reopened place t)
reopened_sent t place stands closed_before all =
    let opens = one_opens t place stands closed_before all (opened_does (Goes Draws) slots_kept t place stands closed_before) in
    either (SentFrom t.next_request) place.slot.desired_up (opened t place) (nothing t) opens.sent tt

ended_sent : (t : ScannerTable) (place : IndexedSlot) → Stands t place → OpeningsAreNumbered t → SentFrom t.next_request (closed t place)
ended_sent t place stands all =
    let here : IndexedSlot = record place { slot = idle_slot place.slot } in
    let went : Goes Draws t (with_slot t place.number (idle_slot place.slot)) = slots_kept.idling t place (idle_slot place.slot) stands (record { state = refl; output = refl; image = refl }) in
    reopened_sent (with_slot t place.number (idle_slot place.slot)) here (stands_with t place (idle_slot place.slot) stands) refl (numbered_on t (with_slot t place.number (idle_slot place.slot)) went all)

replied_opens : (t : ScannerTable) (place : IndexedSlot) (m : MessageFields) (state : SlotState) → Stands t place → OpeningsAreNumbered t → NextOpens t (replied t place m state)
replied_opens t place m Idle stands all = quiet t (ignored t) refl
replied_opens t place m (Opening o) stands all = done_opens t (answered t place o (open_answer (is_large place.config) m)) (answered_sent t place o (open_answer (is_large place.config) m))
replied_opens t place m (Established c) stands all = quiet t (ignored t) refl
replied_opens t place m (TimedOut link) stands all = quiet t (ignored t) refl
replied_opens t place m (Closing c) stands all = done_opens t (closed t place) (ended_sent t place stands all)

awaited_opens : (t : ScannerTable) (m : MessageFields) (test : IndexedSlot → Bool) (found : Option IndexedSlot) → find test (indexed_slots t) ≡ found → OpeningsAreNumbered t → NextOpens t (replied_to t m found)
awaited_opens t m test None is all = quiet t (ignored t) refl
awaited_opens t m test (Some place) is all = replied_opens t place m place.slot.state (each_found (Stands t) test (indexed_slots t) place is (each_stands t)) all

registered_opens : (t : ScannerTable) (stream : TargetStream) (m : MessageFields) → OpeningsAreNumbered t → NextOpens t (done (registered t stream m))
registered_opens t stream m all =
    let now = with_stage t stream.number (Up m.session) in
    let opens : OpensFor (with_stage t stream.number (Up m.session)) (target_opened stream.peer (with_stage t stream.number (Up m.session))) = target_opens stream.peer (with_stage t stream.number (Up m.session)) all in
    either (λ (e : Effect). NextOpens t (done e)) (is_registered m) (session_begun t stream m.session) (session_failed t stream)
    (done_opens t (session_begun t stream m.session) opens.sent) (silent_opens t (session_failed t stream) refl)

-- the session on a stream ends, and a new one is registered
renewed_is : (t : ScannerTable) (stream : TargetStream) → (session_renewed stream t).sent ≡ registration stream.number ∷ []
renewed_is t stream =
    let none = lost_silent stream.peer (with_stage t stream.number Waiting) in
    let rest = ended_silent stream.number (target_lost stream.peer (with_stage t stream.number Waiting)).table in
    rw (none, rest) refl

renewed_sent : (from : ℕ) (t : ScannerTable) (stream : TargetStream) → SentFrom from (session_renewed stream t)
renewed_sent from t stream = subst (AllByRecursion (SentIsFor from (session_renewed stream t).table)) (sym (renewed_is t stream)) (tt, tt)

unserved_sent : (from : ℕ) (t : ScannerTable) (stream : TargetStream) (place : IndexedSlot) (status : ℕ) (state : SlotState) → SentFrom from (and_then (unserved_state status t place state) (session_renewed stream))
unserved_sent from t stream place status (Opening o) = renewed_sent from (refused t place (reason.Encap status)).table stream
unserved_sent from t stream place status Idle = renewed_sent from t stream
unserved_sent from t stream place status (Established c) = renewed_sent from t stream
unserved_sent from t stream place status (TimedOut link) = renewed_sent from t stream
unserved_sent from t stream place status (Closing c) = renewed_sent from t stream

unserved_opens : (t : ScannerTable) (stream : TargetStream) (m : MessageFields) (found : Option IndexedSlot) → NextOpens t (unserved_at t stream m found)
unserved_opens t stream m None = quiet t (ignored t) refl
unserved_opens t stream m (Some place) = done_opens t (and_then (unserved m.status t place) (session_renewed stream)) (unserved_sent t.next_request t stream place m.status place.slot.state)

reported_opens : (t : ScannerTable) (stream : TargetStream) (m : MessageFields) (stage : Stage) → OpeningsAreNumbered t → NextOpens t (reported t stream m stage)
reported_opens t stream m Waiting all = either (NextOpens t) (m.context == 0) (done (registered t stream m)) (ignored t) (registered_opens t stream m all) (quiet t (ignored t) refl)
reported_opens t stream m (Up handle) all =
    let found = find (is_awaiting stream.peer m.context) (indexed_slots t) in
    either (NextOpens t) (ends_session t m) (unserved_at t stream m found) (replied_to t m found) (unserved_opens t stream m found) (awaited_opens t m (is_awaiting stream.peer m.context) found refl all)
reported_opens t stream m Unused all = quiet t (ignored t) refl

answer_opens : (t : ScannerTable) (stream : TargetStream) (reading : Result MessageFields EncapFault) → OpeningsAreNumbered t → NextOpens t (frame_answer t stream reading)
answer_opens t stream (Err why) all = quiet t (frame_answer t stream (Err why)) refl
answer_opens t stream (Ok m) all =
    message_ends (NextOpens t) t stream m (reported_opens t stream m stream.stage all) (done_opens t (session_renewed stream t) (renewed_sent t.next_request t stream)) (λ pending answer none silent. quiet t (answer, without_explicit t pending) none)
    (find (awaits stream.number m.context) t.explicit)

frame_of_opens : (t : ScannerTable) (bytes : List ℕ) (found : Option TargetStream) → OpeningsAreNumbered t → OkOpens t (frame_of t bytes found)
frame_of_opens t bytes None all = tt
frame_of_opens t bytes (Some stream) all = answer_opens t stream (message_reading bytes) all

cut_opens : (t : ScannerTable) (found : Option TargetStream) → OkOpens t (cut_of t found)
cut_opens t None = tt
cut_opens t (Some stream) =
    let none = lost_silent stream.peer (without_stream t stream.number) in
    let rest = ended_silent stream.number (target_lost stream.peer (without_stream t stream.number)).table in
    silent_opens t (stream_lost t stream) (rw (none, rest) refl)

streamed_opens : (t : ScannerTable) (number : ℕ) (target : Node) → OkOpens t (stream_opened t number target)
unfolding stream_opened
streamed_opens t number target =
    either (OkOpens t) (is_taken t.streams number target) (Err fault.NotAllowedNow) (Ok (done (registering_on t number target))) tt
    (done_opens t (registering_on t number target) (tt, tt))

started_for : (t : ScannerTable) (place : IndexedSlot) → place.slot.state ≡ Idle → Stands t place → OpeningsAreNumbered t → NextOpens t (done (started t place (desired_slot t place.slot)))
started_for t place is stands all =
    let slot = desired_slot t place.slot in
    let now = with_slot t place.number slot in
    let here : IndexedSlot = record place { slot = slot } in
    let went : Goes Draws t (with_slot t place.number (desired_slot t place.slot)) = slots_kept.idling t place (desired_slot t place.slot) stands (record { state = is; output = refl; image = refl }) in
    let there = stands_with t place (desired_slot t place.slot) stands in
    let rests : is_closed (desired_slot t place.slot).state ≡ true = ap is_closed is in
    let does = opened_does (Goes Draws) slots_kept (with_slot t place.number (desired_slot t place.slot)) here there rests in
    let opens = one_opens (with_slot t place.number (desired_slot t place.slot)) here there rests (numbered_on t (with_slot t place.number (desired_slot t place.slot)) went all) does in
    done_opens t (started t place (desired_slot t place.slot)) opens.sent

start_state_opens : (t : ScannerTable) (place : IndexedSlot) (state : SlotState) → place.slot.state ≡ state → Stands t place → OpeningsAreNumbered t → OkOpens t (start_state t place state)
start_state_opens t place Idle is stands all =
    either (OkOpens t) place.slot.desired_up (Err fault.NotAllowedNow) (Ok (done (started t place (desired_slot t place.slot)))) tt (started_for t place is stands all)
start_state_opens t place (Opening o) is stands all = tt
start_state_opens t place (Established c) is stands all = tt
start_state_opens t place (TimedOut link) is stands all = tt
start_state_opens t place (Closing c) is stands all = tt

start_opens : (t : ScannerTable) (number : ℕ) (found : Option IndexedSlot) → slot_at t number ≡ found → OpeningsAreNumbered t → OkOpens t (start_at t found)
start_opens t number None is all = tt
start_opens t number (Some place) is all = start_state_opens t place place.slot.state refl (each_found (Stands t) (is_numbered number) (indexed_slots t) place is (each_stands t)) all

resigned_opens : (t : ScannerTable) (place : IndexedSlot) → NextOpens t (done (slot_resigned t place))
resigned_opens t place = silent_opens t (slot_resigned t place) refl

desire_opens : (t : ScannerTable) (place : IndexedSlot) → OkOpens t (stop_of (stopped_desire t place))
desire_opens t place = either (λ said. OkOpens t (stop_of said)) place.slot.desired_up (Ok (slot_resigned t place)) (Err fault.NotAllowedNow) (resigned_opens t place) tt

closed_opens : (t : ScannerTable) (place : IndexedSlot) (link : Link) (session : Option Session) → NextOpens t (done (closed_within t place link session))
closed_opens t place link None = silent_opens t (closed_within t place link None) refl
closed_opens t place link (Some session) = done_opens t (closed_within t place link (Some session)) (close_opens t place link false session)

dropped_opens : (t : ScannerTable) (place : IndexedSlot) (link : Link) → NextOpens t (done (dropped t place link))
dropped_opens t place link =
    either (λ (e : Effect). NextOpens t (done e)) t.profile.tidy (closed_within t place link (session_with t place.config.target)) (slot_resigned t place)
    (closed_opens t place link (session_with t place.config.target)) (resigned_opens t place)

stopped_opens : (t : ScannerTable) (place : IndexedSlot) (state : SlotState) → OkOpens t (stop_of (stopped t place state))
stopped_opens t place Idle = desire_opens t place
stopped_opens t place (Opening o) = dropped_opens t place (requested_link o.requested)
stopped_opens t place (Established c) = closed_opens t place c.link (session_with t place.config.target)
stopped_opens t place (TimedOut link) = dropped_opens t place link
stopped_opens t place (Closing c) = desire_opens t place

stop_opens : (t : ScannerTable) (found : Option IndexedSlot) → OkOpens t (stop_of (stopped_at t found))
stop_opens t None = tt
stop_opens t (Some place) = stopped_opens t place place.slot.state

explicit_opens : (t : ScannerTable) (target : Node) (number : ℕ) (bytes : List ℕ) → OkOpens t (explicit_request t target number bytes)
explicit_opens t target number bytes =
    explicit_holds (OkOpens t) t target number bytes (λ why. tt) (λ session goes. done_opens t (explicit_sent t session number bytes) (goes.explicit, tt))

ticked_opens : (t : ScannerTable) (ms : ℕ) → OpeningsAreNumbered t → NextOpens t (ticked (moved_on (clocked_table t ms)))
ticked_opens t ms all =
    let effect = moved_on (clocked_table t ms) in
    let opens = moved_for (clocked_table t ms) all in
    record {
      requests = (moved_on (clocked_table t ms)).sent;
      frames = refl;
      are_for = all_more (SentIsFor t.next_request (moved_on (clocked_table t ms)).table) (SentIsFor t.next_request (produced_table (moved_on (clocked_table t ms)).table))
          (λ sent is. request_later t.next_request (moved_on (clocked_table t ms)).table (produced_table (moved_on (clocked_table t ms)).table) sent.number sent.request (kept_widely.producing (moved_on (clocked_table t ms)).table) is)
          (moved_on (clocked_table t ms)).sent opens.sent;
    }

tick_opens : (t : ScannerTable) (ms : ℕ) → OpeningsAreNumbered t → OkOpens t (tick t ms)
unfolding tick
tick_opens t ms all =
    either (OkOpens t) (nat_lt longest_tick ms) (Err fault.TickTooLong) _ tt
    (either (OkOpens t) (nat_lt clock_end (t.clock.0 + ms)) (Err fault.ClockEnd) (Ok (ticked (moved_on (clocked_table t ms)))) tt (ticked_opens t ms all))

all_opens : (t : ScannerTable) (happens : Event) → OpeningsAreNumbered t → OkOpens t (scanner_step t happens)
unfolding frame stream_cut start stop
all_opens t (event.StreamOpened number peer) all = streamed_opens t number peer
all_opens t (event.Frame number bytes) all = frame_of_opens t bytes (find (is_stream number) t.streams) all
all_opens t (event.StreamCut number) all = cut_opens t (find (is_stream number) t.streams)
all_opens t (event.Tick ms) all = tick_opens t ms all
all_opens t (event.Start number) all = start_opens t number (slot_at t number) refl all
all_opens t (event.Stop number) all = stop_opens t (slot_at t number)
all_opens t (event.Explicit target number bytes) all = explicit_opens t target number bytes
all_opens t other all = slots_hold (OkOpens t) t (λ why. tt) (λ verdict u of. quiet t (plain_answer verdict, u) refl) other refl

pub step_opens : (t : ScannerTable) (happens : Event) (next : Next) → scanner_step t happens ≡ Ok next → OpeningsAreNumbered t → NextOpens t next
step_opens t happens next is all = subst (OkOpens t) is (all_opens t happens all)
