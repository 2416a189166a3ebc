-- A tick leaves no slot timed out that could open or close.
use Rattle.std.proofs.Common.{◌≡◌, ◌≢◌, ◌⊎◌, inl, inr, ◌≤◌, ℕ, zero, suc, ◌+◌, ◌==◌, ◌&&◌, ◌||◌, nat_le, nat_lt, Bool, true, false, cond, List, [], ◌∷◌, length, map, filter, find, slice_get, Option, Some, None, Result, Ok, Err, IfOk, refl, sym, ◌∙◌, ap, subst, arith, eqb-true as number_is}
use Rattle.std.proofs.lemmas.Bool.{eqb-false}
use Rattle.std.proofs.lemmas.Bool.Decides.{nat_tests}
use Rattle.std.proofs.lemmas.Option.{same_Some}
use Rattle.cip_types.specs.declared.names.Node.{Node}
use Rattle.cip_types.specs.declared.names.Ms.{Ms}
use Rattle.cip_events.specs.Clock.{longest_tick, clock_end}
use Rattle.cip_events.specs.declared.event.StepFault.{StepFault}
use Rattle.cip_events.specs.declared.event.StepFault.TheVariants as fault
use Rattle.conn_state.specs.declared.names.Link.{Link}
use Rattle.scanner_table.specs.declared.profile.ScannerProfile.{ScannerProfile}
use Rattle.scanner_table.specs.declared.profile.SlotConfig.{SlotConfig}
use Rattle.scanner_table.specs.declared.slot.Slot.{Slot}
use Rattle.scanner_table.specs.declared.slot.SlotState.{SlotState}
use Rattle.scanner_table.specs.declared.slot.SlotState.TheVariants.{Idle, Opening, Established, TimedOut, Closing}
use Rattle.scanner_table.specs.declared.table.ScannerTable.{ScannerTable}
use Rattle.scanner_table.specs.declared.table.Session.{Session}
use Rattle.scanner_table.specs.Effects.{Next, on_each}
use Rattle.scanner_table.specs.Explicit.{explicit_timed_out}
use Rattle.scanner_table.specs.Opening.{has_request, can_open, open_requested, opening_slot, resigned, exhausted, opened_within, closing_slot, close_requested, cleared_within, opened_from, opens_at, leaves_room, open_session, asking_in, opened, is_ready_slot, ready_slots, ready_opened}
use Rattle.scanner_table.specs.Productions.{state_is_due, produced_state, produced_slot, produced_table}
use Rattle.scanner_table.specs.Sessions.{session_with}
use Rattle.scanner_table.specs.Slots.{IndexedSlot, indexed_slots, is_numbered}
use Rattle.scanner_table.specs.Ticks.{all_expired, all_given_up, clocked_table, moved_on, ticked, tick}
use Rattle.scanner_table.specs.Lemmas.Moves.{Kept, IsClosedSlot, Local, stand_on, ready_leads, overdue_leads, expired_leads}
use Rattle.scanner_table.specs.Lemmas.SlotLookups.{Stands, Each, EachTwo, Apart, get_same, indexed_at, slot_is, slot_stands}
use Rattle.device_laws.specs.Lemmas.Texts.{either}
use Rattle.device_laws.specs.TimedOutSlots.{ClosesInTime, WaitsForSession, TimedOutSlotsWait}
use Rattle.device_laws.proofs.TidyEffects.{each_cares, at_opened, ready_cares, ready_stand, ready_apart, ready_rest}

-- ---- one slot

-- the slot of this number has not timed out, or its target has no session
abbrev IsDoneAt : ScannerTable → ℕ → Type 0
IsDoneAt t number =
    (config : SlotConfig) (slot : Slot) (link : Link) → slice_get t.profile.slots number ≡ Some config → slice_get t.slots number ≡ Some slot →
    slot.state ≡ TimedOut link → session_with t config.target ≡ None

-- the slot of this number is in a state that is not timed out
other_done : (t : ScannerTable) (number : ℕ) (slot : Slot) → slice_get t.slots number ≡ Some slot → ((link : Link) → slot.state ≡ TimedOut link → ⊥) → IsDoneAt t number
other_done t number slot there other config now link at is timed_out =
    absurd (other link (subst (λ (s : Slot). s.state ≡ TimedOut link) (same_Some now slot (sym is ∙ there)) timed_out))

-- without a session with its target nothing has to be done
none_done : (t : ScannerTable) (place : IndexedSlot) → Stands t place → session_with t place.config.target ≡ None → IsDoneAt t place.number
none_done t place stands none config now link at is timed_out =
    let same : place.config ≡ config = same_Some place.config config (sym stands.config ∙ at) in
    subst (λ (c : SlotConfig). session_with t c.target ≡ None) same none

exhausted_done : (t : ScannerTable) (place : IndexedSlot) → Stands t place → IsDoneAt (exhausted t place).table place.number
exhausted_done t place stands =
    other_done (exhausted t place).table place.number (resigned place.slot) (get_same place.number t.slots (resigned place.slot) place.slot stands.slot) (λ link is. absurd cc)

close_done : (b : Bool) (t : ScannerTable) (place : IndexedSlot) (link : Link) (desired_up : Bool) (session : Session) → Stands t place → IsDoneAt (cond b (close_requested t place link desired_up session) (exhausted t place)).table place.number
close_done true t place link desired_up session stands =
    let slot = closing_slot t link desired_up place.slot in
    other_done (close_requested t place link desired_up session).table place.number slot (get_same place.number t.slots slot place.slot stands.slot) (λ other is. absurd cc)
close_done false t place link desired_up session stands = exhausted_done t place stands

open_done : (b : Bool) (t : ScannerTable) (place : IndexedSlot) (session : Session) → Stands t place → IsDoneAt (cond b (open_requested t place session) (exhausted t place)).table place.number
open_done true t place session stands =
    let slot = opening_slot t place in
    other_done (open_requested t place session).table place.number slot (get_same place.number t.slots slot place.slot stands.slot) (λ link is. absurd cc)
open_done false t place session stands = exhausted_done t place stands

within_done : (t : ScannerTable) (place : IndexedSlot) (session : Option Session) → session_with t place.config.target ≡ session → Stands t place → IsDoneAt (opened_within t place session).table place.number
within_done t place None is stands = none_done t place stands is
within_done t place (Some session) is stands = open_done (can_open t place.config) t place session stands

cleared_done : (t : ScannerTable) (place : IndexedSlot) (link : Link) (session : Option Session) → session_with t place.config.target ≡ session → Stands t place → IsDoneAt (cleared_within t place link session).table place.number
cleared_done t place link None is stands = none_done t place stands is
cleared_done t place link (Some session) is stands = close_done (has_request t) t place link place.slot.desired_up session stands

-- without a limit on openings no slot waits for its turn
turn_is : (t : ScannerTable) (target : Node) (openings : Option ℕ) (count : ℕ) → openings ≡ None → session_with t target ≡ cond (leaves_room openings count) (session_with t target) None
turn_is t target None count is = refl
turn_is t target (Some most) count is = absurd cc

timed_out_done : (b : Bool) (t : ScannerTable) (place : IndexedSlot) (link : Link) → t.profile.tidy ≡ b → ClosesInTime t → Stands t place → IsDoneAt (cond b (cleared_within t place link (cond b (session_with t place.config.target) (open_session t place.config.target))) (opened_within t place (cond b (session_with t place.config.target) (open_session t place.config.target)))).table place.number
timed_out_done true t place link tidy limits stands = cleared_done t place link (session_with t place.config.target) refl stands
timed_out_done false t place link tidy limits stands =
    within_done t place (open_session t place.config.target) (turn_is t place.config.target t.profile.openings (length (filter (opens_at place.config.target) (indexed_slots t))) (limits tidy)) stands

-- a slot that has not timed out
turn_done : (t : ScannerTable) (place : IndexedSlot) (session : Option Session) → ((link : Link) → place.slot.state ≡ TimedOut link → ⊥) → Stands t place → IsDoneAt (opened_within t place session).table place.number
turn_done t place None other stands = other_done t place.number place.slot stands.slot other
turn_done t place (Some session) other stands = open_done (can_open t place.config) t place session stands

other_state : (state now : SlotState) (link : Link) → (TimedOut link ≡ now → ⊥) → state ≡ now → state ≡ TimedOut link → ⊥
other_state state now link differs is timed_out = differs (sym timed_out ∙ is)

from_done : (t : ScannerTable) (place : IndexedSlot) (state : SlotState) → place.slot.state ≡ state → ClosesInTime t → Stands t place → IsDoneAt (opened_from t place (asking_in t place.config.target state) state).table place.number
from_done t place (TimedOut link) is limits stands = timed_out_done t.profile.tidy t place link refl limits stands
from_done t place Idle is limits stands = turn_done t place (open_session t place.config.target) (λ link timed_out. other_state place.slot.state Idle link (λ e. absurd cc) is timed_out) stands
from_done t place (Opening o) is limits stands = turn_done t place (open_session t place.config.target) (λ link timed_out. other_state place.slot.state (Opening o) link (λ e. absurd cc) is timed_out) stands
from_done t place (Established c) is limits stands = turn_done t place (open_session t place.config.target) (λ link timed_out. other_state place.slot.state (Established c) link (λ e. absurd cc) is timed_out) stands
from_done t place (Closing c) is limits stands = turn_done t place (open_session t place.config.target) (λ link timed_out. other_state place.slot.state (Closing c) link (λ e. absurd cc) is timed_out) stands

opened_done : (t : ScannerTable) (place : IndexedSlot) → ClosesInTime t → Stands t place → IsDoneAt (opened t place).table place.number
unfolding opened
opened_done t place limits stands = from_done t place place.slot.state refl limits stands

-- ---- all ready slots

done_on : (t u : ScannerTable) (number : ℕ) → u.profile ≡ t.profile → u.streams ≡ t.streams → slice_get u.slots number ≡ slice_get t.slots number → IsDoneAt t number → IsDoneAt u number
done_on t u number profile streams same done config slot link at is timed_out =
    rw streams (done config slot link (subst (λ (p : ScannerProfile). slice_get p.slots number ≡ Some config) profile at) (sym same ∙ is) timed_out)

each_done : (places : List IndexedSlot) (t : ScannerTable) → ClosesInTime t → Each (Stands t) places → EachTwo Apart places → Each IsClosedSlot places → Each (λ place. IsDoneAt (on_each opened places t).table place.number) places
each_done [] t limits stand apart rest = tt
each_done (place ∷ places) t limits stand apart rest =
    let u = (opened t place).table in
    let one = at_opened t place stand.0 rest.0 in
    let local : Local place.number t (opened t place).table = record { profile = one.profile; elsewhere = one.elsewhere } in
    let later = stand_on t u place.number places local apart.0 stand.1 in
    let two = each_cares IsClosedSlot opened at_opened places u later apart.1 rest.1 in
    (done_on u (on_each opened places u).table place.number two.cares.profile two.cares.streams (two.elsewhere place.number apart.0) (opened_done t place limits stand.0), each_done places u (subst (λ (p : ScannerProfile). p.tidy ≡ false → p.openings ≡ None) (sym one.profile) limits) later apart.1 rest.1)

-- a slot of this number is among these, or none is
record Among (P : IndexedSlot → Type 0) (number : ℕ) : Type 0 where
  place : IndexedSlot
  same : number ≡ place.number
  holds : P place

among_or_apart : (P : IndexedSlot → Type 0) (number : ℕ) (places : List IndexedSlot) → Each P places → Among P number ⊎ Each (λ place. number ≢ place.number) places
among_or_apart P number [] all = inr tt
among_or_apart P number (place ∷ places) all = pick (number == place.number) refl (among_or_apart P number places all.1)
  where
    pick : (b : Bool) → (number == place.number) ≡ b → Among P number ⊎ Each (λ place. number ≢ place.number) places → Among P number ⊎ Each (λ place. number ≢ place.number) (place ∷ places)
    pick true is rest = inl (record { place = place; same = number_is number place.number is; holds = all.0 })
    pick false is (inl found) = inl found
    pick false is (inr apart) = inr (eqb-false number place.number is, apart)

-- what a lookup finds is among those that pass a test that it passes
found_not_apart : (p : IndexedSlot → Bool) (number : ℕ) (places : List IndexedSlot) (place : IndexedSlot) → find (is_numbered number) places ≡ Some place → p place ≡ true → Each (λ other. number ≢ other.number) (filter p places) → ⊥
found_not_apart p number [] place is passes apart = absurd cc
found_not_apart p number (first ∷ places) place is passes apart =
    pick (is_numbered number first) refl is (p first) refl apart (λ more behind. found_not_apart p number places place more passes behind)
  where
    pick : (b : Bool) → is_numbered number first ≡ b → cond b (Some first) (find (is_numbered number) places) ≡ Some place → (c : Bool) → p first ≡ c → Each (λ other. number ≢ other.number) (cond c (first ∷ filter p places) (filter p places)) → (find (is_numbered number) places ≡ Some place → Each (λ other. number ≢ other.number) (filter p places) → ⊥) → ⊥
    pick true here is true passed apart more = apart.0 (sym (number_is first.number number here))
    pick true here is false passed apart more = absurd (let e : false ≡ true = sym passed ∙ subst (λ (x : IndexedSlot). p x ≡ true) (sym (same_Some first place is)) passes in cc)
    pick false here is true passed apart more = more is apart.1
    pick false here is false passed apart more = more is apart

time_came : (clock retry : ℕ) → retry ≤ clock → nat_le retry clock ≡ true
time_came clock retry came = grind (arith, nat_tests)

-- a slot that has timed out is ready at its retry time
ready_then : (clock : Ms) (place : IndexedSlot) (link : Link) → place.slot.state ≡ TimedOut link → place.slot.retry_at.0 ≤ clock.0 → is_ready_slot clock place ≡ true
ready_then clock place link is came = rw (is, time_came clock.0 place.slot.retry_at.0 came) (or_true place.slot.desired_up)
  where
    or_true : (b : Bool) → ((b || true) && (true && true)) ≡ true
    or_true true = refl
    or_true false = refl

-- the clock stays
abbrev ClockStays : ScannerTable → ScannerTable → Type 0
ClockStays t u = u.clock ≡ t.clock

clock_stays : Kept ClockStays
clock_stays = record {
  same = λ t. refl;
  after = λ t u v first next. next ∙ first;
  opening = λ t place stands closed_before in_turn left. refl;
  idling = λ t place slot stands idle. refl;
  timing_out = λ t place link slot stands is becomes. refl;
  closing = λ t place link desired_up stands is. refl;
}

ready_each : (t : ScannerTable) → ClosesInTime t → Each (λ place. IsDoneAt (ready_opened t).table place.number) (ready_slots t)
unfolding ready_opened
ready_each t limits = each_done (ready_slots t) t limits (ready_stand t) (ready_apart t) (ready_rest t)

ready_elsewhere : (t : ScannerTable) (k : ℕ) → Each (λ place. k ≢ place.number) (ready_slots t) → slice_get (ready_opened t).table.slots k ≡ slice_get t.slots k
unfolding ready_opened
ready_elsewhere t k away = (each_cares IsClosedSlot opened at_opened (ready_slots t) t (ready_stand t) (ready_apart t) (ready_rest t)).elsewhere k away

-- after the ready slots have opened, a slot that has timed out waits
opened_waits : (t : ScannerTable) (place : IndexedSlot) → ClosesInTime t → Stands (ready_opened t).table place → WaitsForSession (ready_opened t).table place
opened_waits t place limits stands link is came =
    on (among_or_apart (λ other. IsDoneAt (ready_opened t).table other.number) place.number (ready_slots t) (ready_each t limits))
  where
    end : ScannerTable
    end = (ready_opened t).table

    on : Among (λ other. IsDoneAt (ready_opened t).table other.number) place.number ⊎ Each (λ other. place.number ≢ other.number) (ready_slots t) → session_with (ready_opened t).table place.config.target ≡ None
    on (inl among) =
        among.holds place.config place.slot link (subst (λ (n : ℕ). slice_get (ready_opened t).table.profile.slots n ≡ Some place.config) among.same stands.config)
        (subst (λ (n : ℕ). slice_get (ready_opened t).table.slots n ≡ Some place.slot) among.same stands.slot) is
    on (inr apart) =
        let cares = ready_cares t in
        let before : Stands t place = record {
          config = subst (λ (p : ScannerProfile). slice_get p.slots place.number ≡ Some place.config) cares.profile stands.config;
          slot = sym (ready_elsewhere t place.number apart) ∙ stands.slot;
        } in
        let clock : (ready_opened t).table.clock ≡ t.clock = ready_leads ClockStays clock_stays t in
        let ready = ready_then t.clock place link is (subst (λ (k : Ms). place.slot.retry_at.0 ≤ k.0) clock came) in
        absurd (found_not_apart (is_ready_slot t.clock) place.number (indexed_slots t) place (slot_stands t place before) ready apart)

-- ---- a tick

produced_timed_out : (b : Bool) (clock : Ms) (slot : Slot) (link : Link) → (cond b (record slot { state = produced_state clock slot.state }) slot).state ≡ TimedOut link → slot.state ≡ TimedOut link
produced_timed_out false clock slot link is = is
produced_timed_out true clock slot link is = on slot.state is
  where
    on : (state : SlotState) → produced_state clock state ≡ TimedOut link → state ≡ TimedOut link
    on Idle is = is
    on (Opening o) is = is
    on (Established c) is = absurd cc
    on (TimedOut other) is = is
    on (Closing c) is = is

produced_retry : (b : Bool) (clock : Ms) (slot : Slot) → (cond b (record slot { state = produced_state clock slot.state }) slot).retry_at ≡ slot.retry_at
produced_retry true clock slot = refl
produced_retry false clock slot = refl

-- a slot of a list, before each was changed
record Before (f : Slot → Slot) (slots : List Slot) (number : ℕ) (slot : Slot) : Type 0 where
  was : Slot
  there : slice_get slots number ≡ Some was
  is : f was ≡ slot

before_map : (f : Slot → Slot) (slots : List Slot) (number : ℕ) (slot : Slot) → slice_get (map f slots) number ≡ Some slot → Before f slots number slot
before_map f [] number slot is = absurd cc
before_map f (s ∷ slots) zero slot is = record { was = s; there = refl; is = same_Some (f s) slot is }
before_map f (s ∷ slots) (suc number) slot is =
    let rest = before_map f slots number slot is in
    record { was = rest.was; there = rest.there; is = rest.is }

-- explicit requests end, and slots produce: no slot times out by it
rest_waits : (t : ScannerTable) → ((place : IndexedSlot) → Stands t place → WaitsForSession t place) → (place : IndexedSlot) → Stands (produced_table (explicit_timed_out t).table) place → WaitsForSession (produced_table (explicit_timed_out t).table) place
unfolding produced_table explicit_timed_out
rest_waits t waits place stands link is came =
    let before = before_map (produced_slot t.clock) t.slots place.number place.slot stands.slot in
    let due = state_is_due t.clock before.was.state in
    let state : before.was.state ≡ TimedOut link = produced_timed_out (state_is_due t.clock before.was.state) t.clock before.was link (subst (λ (s : Slot). s.state ≡ TimedOut link) (sym before.is) is) in
    let retry : place.slot.retry_at ≡ before.was.retry_at = ap (λ (s : Slot). s.retry_at) (sym before.is) ∙ produced_retry (state_is_due t.clock before.was.state) t.clock before.was in
    waits (indexed_at place.number place.config before.was) (record { config = stands.config; slot = before.there }) link state (subst (λ (k : Ms). k.0 ≤ t.clock.0) retry came)

-- the profile stays
abbrev ProfileStays : ScannerTable → ScannerTable → Type 0
ProfileStays t u = u.profile ≡ t.profile

profile_stays : Kept ProfileStays
profile_stays = record {
  same = λ t. refl;
  after = λ t u v first next. next ∙ first;
  opening = λ t place stands closed_before in_turn left. refl;
  idling = λ t place slot stands idle. refl;
  timing_out = λ t place link slot stands is becomes. refl;
  closing = λ t place link desired_up stands is. refl;
}

second_profile : (t : ScannerTable) → (all_given_up (all_expired t).table).table.profile ≡ t.profile
second_profile t = overdue_leads ProfileStays profile_stays (all_expired t).table ∙ expired_leads ProfileStays profile_stays t

ticked_waits : (t : ScannerTable) (place : IndexedSlot) → ClosesInTime t → Stands (ticked (moved_on t)).1 place → WaitsForSession (ticked (moved_on t)).1 place
ticked_waits t place limits stands =
    let second = all_given_up (all_expired t).table in
    rest_waits (ready_opened second.table).table (λ other there. opened_waits second.table other (subst (λ (p : ScannerProfile). p.tidy ≡ false → p.openings ≡ None) (sym (second_profile t)) limits) there) place stands

-- so it is of each answer
abbrev WaitsAfter : Result Next StepFault → Type 0
WaitsAfter said = IfOk said (λ next. (place : IndexedSlot) → Stands next.1 place → WaitsForSession next.1 place)

tick_waits : (t : ScannerTable) (ms : ℕ) → ClosesInTime t → WaitsAfter (tick t ms)
unfolding tick
tick_waits t ms limits =
    either WaitsAfter (nat_lt longest_tick ms) (Err fault.TickTooLong) _ tt
    (either WaitsAfter (nat_lt clock_end (t.clock.0 + ms)) (Err fault.ClockEnd) (Ok (ticked (moved_on (clocked_table t ms)))) tt (λ place stands. ticked_waits (clocked_table t ms) place limits stands))

pub slots_wait : TimedOutSlotsWait
slots_wait t ms next limits is number place at =
    let waits : WaitsAfter (Ok next) = subst WaitsAfter is (tick_waits t ms limits) in
    waits place (slot_is next.1 number place at).stands
