-- After a tick no slot has a deadline that has come.
use Rattle.std.proofs.Common.{◌≡◌, ◌≤◌, ◌⊎◌, inl, inr, ℕ, ◌+◌, Bool, true, false, cond, not, ◌&&◌, ◌||◌, ◌==◌, nat_le, nat_lt, List, [], ◌∷◌, filter, find, slice_get, Some, None, Result, Ok, Err, refl, sym, ◌∙◌, subst, arith, eqb-true, leb-false}
use Rattle.std.specs.List.{list_any, list_all}
use Rattle.std.proofs.lemmas.Bool.{and_parts, false_from_ne_true, eqb-false}
use Rattle.std.proofs.lemmas.Bool.Decides.{nat_tests}
use Rattle.std.proofs.lemmas.Option.{same_Some}
use Rattle.base_lemmas.specs.Booleans.{or_true}
use Rattle.base_lemmas.specs.Numbers.{other_number}
use Rattle.cip_types.specs.Order.{inserted, in_order}
use Rattle.cip_types.specs.declared.names.Ms.{Ms}
use Rattle.cip_events.specs.declared.profile_fault.ProfileFault.TheVariants as wrong
use Rattle.cip_events.specs.declared.event.StepFault.{StepFault}
use Rattle.cip_events.specs.declared.event.StepFault.TheVariants as fault
use Rattle.cip_events.specs.Clock.{longest_tick, clock_end}
use Rattle.cip_productions.specs.Kinds.{is_owner}
use Rattle.conn_state.specs.declared.names.Link.{Link}
use Rattle.scanner_table.specs.declared.profile.ScannerProfile.{ScannerProfile}
use Rattle.scanner_table.specs.declared.slot.PendingClose as closing
use Rattle.scanner_table.specs.declared.slot.PendingOpen as opening
use Rattle.scanner_table.specs.declared.slot.Slot.{Slot}
use Rattle.scanner_table.specs.declared.slot.SlotState.{SlotState}
use Rattle.scanner_table.specs.declared.slot.SlotState.TheVariants.{Idle, Opening, Established, TimedOut, Closing}
use Rattle.scanner_table.specs.declared.table.ScannerTable.{ScannerTable}
use Rattle.scanner_table.specs.Profiles.{are_openings, are_paced, are_serials, is_wait, has_times, keeps_time, profile_fault}
use Rattle.scanner_table.specs.Slots.{IndexedSlot, indexed_slots, is_numbered, with_slot}
use Rattle.scanner_table.specs.Effects.{Next, Effect, on_each}
use Rattle.scanner_table.specs.Opening.{ready_opened}
use Rattle.scanner_table.specs.Replies.{failed_slot}
use Rattle.scanner_table.specs.Closing.{requested_link, left_state, idle_slot, is_close_in_time, unclosed_slot, given_up_state, given_up}
use Rattle.scanner_table.specs.Productions.{written_state, state_is_due, produced_state, produced_table}
use Rattle.scanner_table.specs.Ticks.{state_has_expired, has_expired, by_deadline, expired_slots, expired_state, expired, all_expired, state_is_overdue, is_overdue, all_given_up, clocked_table, advanced, moved_on, ticked, tick}
use Rattle.scanner_table.specs.Explicit.{explicit_timed_out}
use Rattle.device_laws.specs.ScannerDeadlines.{StateIsAhead, DeadlinesAreAhead, TicksLeaveNoneLate}
use Rattle.scanner_table.specs.Lemmas.SlotLookups.{get_same, Stands, indexed_at, Each, EachTwo, Apart, each_filter, two_filter, each_in_order, two_in_order, each_stands, slots_apart, slot_is, slot_stands}
use Rattle.scanner_table.specs.Lemmas.Moves.{Kept, Local, given_does, expired_does, expired_leads, overdue_leads, ready_leads, stand_on}
use Rattle.scanner_table.specs.Lemmas.Slotwise.{Relation, Slotwise, Goes, goes_widely, was_of}

-- ---- clocks stay while slots change

abbrev ClockStays : ScannerTable → ScannerTable → Type 0
ClockStays t u = u.clock ≡ t.clock

clock_kept : Kept ClockStays
clock_kept = record {
  same = λ t. refl;
  after = λ t u v first next. next ∙ first;
  opening = λ t indexed stands closed_before in_turn left. refl;
  idling = λ t indexed slot stands idle. refl;
  timing_out = λ t indexed link slot stands is becomes. refl;
  closing = λ t indexed link desired_up stands is. refl;
}

-- ---- an effect on each slot of which a test holds leaves none of which it holds

-- each slot of which the test holds is among these, by its number
abbrev Left : (SlotState → Bool) → List IndexedSlot → ScannerTable → Type 0
Left test rest t = (indexed : IndexedSlot) → Stands t indexed → test indexed.slot.state ≡ true → list_any (is_numbered indexed.number) rest ≡ true

-- the test holds of no slot
abbrev pub NoneIs : (SlotState → Bool) → ScannerTable → Type 0
NoneIs test t = (indexed : IndexedSlot) → Stands t indexed → test indexed.slot.state ≡ false

-- after the effect the test does not hold of the slot, and other slots stay
record Clears (test : SlotState → Bool) (indexed : IndexedSlot) (t u : ScannerTable) : Type 0 where
  local : Local indexed.number t u
  clear : (slot : Slot) → slice_get u.slots indexed.number ≡ Some slot → test slot.state ≡ false

left_step : (b : Bool) (test : SlotState → Bool) (indexed : IndexedSlot) (rest : List IndexedSlot) (t u : ScannerTable) → Left test (indexed ∷ rest) t → Clears test indexed t u → (other : IndexedSlot) → (indexed.number == other.number) ≡ b → Stands u other → test other.slot.state ≡ true → list_any (is_numbered other.number) rest ≡ true
left_step true test indexed rest t u left clears other is stands holds =
    let same : other.number ≡ indexed.number = sym (eqb-true indexed.number other.number is) in
    let clear : test other.slot.state ≡ false = clears.clear other.slot (subst (λ (n : ℕ). slice_get u.slots n ≡ Some other.slot) same stands.slot) in
    absurd (contrary (test other.slot.state) holds clear) where
      contrary : (b : Bool) → b ≡ true → b ≡ false → ⊥
      contrary b yes_so not_so = absurd cc
left_step false test indexed rest t u left clears other is stands holds =
    let before : Stands t other = record { config = subst (λ (p : ScannerProfile). slice_get p.slots other.number ≡ Some other.config) clears.local.profile stands.config; slot = sym (clears.local.elsewhere other.number (eqb-false other.number indexed.number (other_number indexed.number other.number is))) ∙ stands.slot } in
    behind (indexed.number == other.number) is (left other before holds) where
      behind : (b : Bool) → b ≡ false → (b || list_any (is_numbered other.number) rest) ≡ true → list_any (is_numbered other.number) rest ≡ true
      behind true not_so any = absurd cc
      behind false not_so any = any

-- an effect on a slot of the table clears it
abbrev ClearsAt : (SlotState → Bool) → (IndexedSlot → Type 0) → (ScannerTable → IndexedSlot → Effect) → Type 0
ClearsAt test Q effect = (t : ScannerTable) (indexed : IndexedSlot) → Stands t indexed → Q indexed → Clears test indexed t (effect t indexed).table

sweep : (test : SlotState → Bool) (Q : IndexedSlot → Type 0) (effect : ScannerTable → IndexedSlot → Effect) → ClearsAt test Q effect → (rest : List IndexedSlot) (t : ScannerTable) → Each (Stands t) rest → EachTwo Apart rest → Each Q rest → Left test rest t → NoneIs test (on_each effect rest t).table
sweep test Q effect clears [] t stand apart holds left = λ indexed stands. false_from_ne_true (test indexed.slot.state) (λ is. absurd (empty (left indexed stands is))) where
  empty : false ≡ true → ⊥
  empty is = absurd cc
sweep test Q effect clears (indexed ∷ rest) t stand apart holds left =
    let first = clears t indexed stand.0 holds.0 in
    let next = (effect t indexed).table in
    sweep test Q effect clears rest next (stand_on t next indexed.number rest first.local apart.0 stand.1) apart.1 holds.1
    (λ other stands is. left_step (indexed.number == other.number) test indexed rest t next left first other refl stands is)

-- ---- a filter selects all slots of which its test holds

contrary : (b : Bool) → b ≡ true → b ≡ false → ⊥
contrary b yes_so not_so = absurd cc

filter_step : (a b : Bool) (p q : IndexedSlot → Bool) (indexed first : IndexedSlot) (rest : List IndexedSlot) → q first ≡ a → p first ≡ b → cond a (Some first) (find q rest) ≡ Some indexed → p indexed ≡ true → (find q rest ≡ Some indexed → list_any q (filter p rest) ≡ true) → list_any q (cond b (first ∷ filter p rest) (filter p rest)) ≡ true
filter_step true true p q indexed first rest passes kept is holds more = rw passes refl
filter_step true false p q indexed first rest passes kept is holds more = absurd (contrary (p indexed) holds (subst (λ (x : IndexedSlot). p x ≡ false) (same_Some first indexed is) kept))
filter_step false true p q indexed first rest passes kept is holds more = rw passes (more is)
filter_step false false p q indexed first rest passes kept is holds more = more is

any_filter : (p q : IndexedSlot → Bool) (indexed : IndexedSlot) (all : List IndexedSlot) → find q all ≡ Some indexed → p indexed ≡ true → list_any q (filter p all) ≡ true
any_filter p q indexed [] is holds = absurd cc
any_filter p q indexed (first ∷ rest) is holds = filter_step (q first) (p first) p q indexed first rest refl refl is holds (λ later. any_filter p q indexed rest later holds)

either_or : (a b c : Bool) → (a || (b || c)) ≡ true → (b ≡ true) ⊎ ((a || c) ≡ true)
either_or true b c is = inr refl
either_or false true c is = inl refl
either_or false false c is = inr is

behind_or : (a b c : Bool) → (b ≡ true) ⊎ (a ≡ true) → (a ≡ true → c ≡ true) → (b || c) ≡ true
behind_or a b c (inl is) more = rw is refl
behind_or a b c (inr is) more = rw (more is) (or_true b)

inserted_step : (b : Bool) (q : IndexedSlot → Bool) (indexed first : IndexedSlot) (rest more : List IndexedSlot) → (q indexed || (q first || list_any q rest)) ≡ true → (q first || list_any q more) ≡ true → list_any q (cond b (indexed ∷ first ∷ rest) (first ∷ more)) ≡ true
inserted_step true q indexed first rest more any behind = any
inserted_step false q indexed first rest more any behind = behind

any_inserted : (q : IndexedSlot → Bool) (before : IndexedSlot → IndexedSlot → Bool) (indexed : IndexedSlot) (rest : List IndexedSlot) → (q indexed || list_any q rest) ≡ true → list_any q (inserted before indexed rest) ≡ true
any_inserted q before indexed [] any = any
any_inserted q before indexed (first ∷ rest) any =
    inserted_step (before indexed first) q indexed first rest (inserted before indexed rest) any
    (behind_or (q indexed || list_any q rest) (q first) (list_any q (inserted before indexed rest)) (either_or (q indexed) (q first) (list_any q rest) any) (any_inserted q before indexed rest))

or_more : (b c d : Bool) → (b || c) ≡ true → (c ≡ true → d ≡ true) → (b || d) ≡ true
or_more true c d is more = refl
or_more false c d is more = more is

any_in_order : (q : IndexedSlot → Bool) (before : IndexedSlot → IndexedSlot → Bool) (all : List IndexedSlot) → list_any q all ≡ true → list_any q (in_order before all) ≡ true
any_in_order q before [] any = any
any_in_order q before (indexed ∷ rest) any =
    any_inserted q before indexed (in_order before rest) (or_more (q indexed) (list_any q rest) (list_any q (in_order before rest)) any (any_in_order q before rest))

all_left : (test : SlotState → Bool) (t : ScannerTable) → Left test (filter (λ indexed. test indexed.slot.state) (indexed_slots t)) t
all_left test t = λ indexed stands is. any_filter (λ p. test p.slot.state) (is_numbered indexed.number) indexed (indexed_slots t) (slot_stands t indexed stands) is

-- ---- expired connections, and late replies

-- the test of the filter holds of the slot
abbrev Passes : (SlotState → Bool) → IndexedSlot → Type 0
Passes test indexed = test indexed.slot.state ≡ true

passes_step : (test : SlotState → Bool) (b : Bool) (indexed : IndexedSlot) (rest : List IndexedSlot) → test indexed.slot.state ≡ b → Each (Passes test) rest → Each (Passes test) (cond b (indexed ∷ rest) rest)
passes_step test true indexed rest is all = (is, all)
passes_step test false indexed rest is all = all

each_passes : (test : SlotState → Bool) (all : List IndexedSlot) → Each (Passes test) (filter (λ indexed. test indexed.slot.state) all)
each_passes test [] = tt
each_passes test (indexed ∷ rest) = passes_step test (test indexed.slot.state) indexed (filter (λ p. test p.slot.state) rest) refl (each_passes test rest)

set_clears : (test : SlotState → Bool) (t : ScannerTable) (indexed : IndexedSlot) (slot : Slot) → Stands t indexed → Local indexed.number t (with_slot t indexed.number slot) → test slot.state ≡ false → Clears test indexed t (with_slot t indexed.number slot)
set_clears test t indexed slot stands local clear = record {
  local = local;
  clear = λ now is. subst (λ (s : Slot). test s.state ≡ false) (same_Some slot now (sym (get_same indexed.number t.slots slot indexed.slot stands.slot) ∙ is)) clear;
}

expired_clears : (k : Ms) (t : ScannerTable) (indexed : IndexedSlot) (state : SlotState) → indexed.slot.state ≡ state → Stands t indexed → state_has_expired k state ≡ true → Local indexed.number t (expired_state t indexed state).table → Clears (state_has_expired k) indexed t (expired_state t indexed state).table
expired_clears k t indexed Idle is stands late local = absurd cc
expired_clears k t indexed (Opening o) is stands late local = absurd cc
expired_clears k t indexed (Established c) is stands late local = set_clears (state_has_expired k) t indexed (failed_slot t (TimedOut c.link) indexed.slot) stands local refl
expired_clears k t indexed (TimedOut link) is stands late local = absurd cc
expired_clears k t indexed (Closing c) is stands late local = absurd cc

left_rests : (b : Bool) (k : Ms) (link : Link) → state_is_overdue k (cond b (TimedOut link) Idle) ≡ false
left_rests true k link = refl
left_rests false k link = refl

unclosed_rests : (b : Bool) (k : Ms) (t : ScannerTable) (link : Link) (slot : Slot) → state_is_overdue k (cond b (failed_slot t (TimedOut link) slot) (idle_slot slot)).state ≡ false
unclosed_rests true k t link slot = refl
unclosed_rests false k t link slot = refl

given_clears : (k : Ms) (t : ScannerTable) (indexed : IndexedSlot) (state : SlotState) → indexed.slot.state ≡ state → Stands t indexed → state_is_overdue k state ≡ true → Local indexed.number t (given_up_state t indexed state).table → Clears (state_is_overdue k) indexed t (given_up_state t indexed state).table
given_clears k t indexed Idle is stands late local = absurd cc
given_clears k t indexed (Opening o) is stands late local = set_clears (state_is_overdue k) t indexed (failed_slot t (left_state t (requested_link o.requested)) indexed.slot) stands local (left_rests t.profile.tidy k (requested_link o.requested))
given_clears k t indexed (Established c) is stands late local = absurd cc
given_clears k t indexed (TimedOut link) is stands late local = absurd cc
given_clears k t indexed (Closing c) is stands late local = set_clears (state_is_overdue k) t indexed (unclosed_slot t c indexed.slot) stands local (unclosed_rests (t.profile.tidy && is_close_in_time t c) k t c.link indexed.slot)

none_expired : (t : ScannerTable) → NoneIs (state_has_expired t.clock) (all_expired t).table
unfolding all_expired
none_expired t =
    let late = filter (has_expired t.clock) (indexed_slots t) in
    sweep (state_has_expired t.clock) (Passes (state_has_expired t.clock)) expired
    (λ u indexed stands is. expired_clears t.clock u indexed indexed.slot.state refl stands is (expired_does ClockStays clock_kept u indexed stands tt).local) (expired_slots t) t
    (each_in_order (Stands t) by_deadline late (each_filter (Stands t) (has_expired t.clock) (indexed_slots t) (each_stands t)))
    (two_in_order by_deadline late (two_filter Apart (has_expired t.clock) (indexed_slots t) (slots_apart t)))
    (each_in_order (Passes (state_has_expired t.clock)) by_deadline late (each_passes (state_has_expired t.clock) (indexed_slots t)))
    (λ indexed stands is. any_in_order (is_numbered indexed.number) by_deadline late (all_left (state_has_expired t.clock) t indexed stands is))

none_overdue : (t : ScannerTable) → NoneIs (state_is_overdue t.clock) (all_given_up t).table
unfolding all_given_up
none_overdue t =
    sweep (state_is_overdue t.clock) (Passes (state_is_overdue t.clock)) given_up
    (λ u indexed stands is. given_clears t.clock u indexed indexed.slot.state refl stands is (given_does ClockStays clock_kept u indexed stands tt).local) (filter (is_overdue t.clock) (indexed_slots t)) t
    (each_filter (Stands t) (is_overdue t.clock) (indexed_slots t) (each_stands t)) (two_filter Apart (is_overdue t.clock) (indexed_slots t) (slots_apart t))
    (each_passes (state_is_overdue t.clock) (indexed_slots t)) (all_left (state_is_overdue t.clock) t)

-- ---- none becomes late by what follows

-- from a time on, a test that does not hold of a slot's state does not hold later
abbrev Clear : (SlotState → Bool) → Ms → Relation
Clear test k t u number config was now = k.0 ≤ t.clock.0 → 1 ≤ t.profile.open_timeout → test was.state ≡ false → test now.state ≡ false

record Calms (k : Ms) (test : SlotState → Bool) : Type 0 where
  idle : test Idle ≡ false
  timed_out : (link : Link) → test (TimedOut link) ≡ false
  opening : (o : opening.PendingOpen) → nat_le o.deadline.0 k.0 ≡ false → test (Opening o) ≡ false
  closing : (c : closing.PendingClose) → nat_le c.deadline.0 k.0 ≡ false → test (Closing c) ≡ false
  produced : (clock : Ms) (state : SlotState) → test state ≡ false → test (produced_state clock state) ≡ false
  written : (state : SlotState) → test state ≡ false → test (written_state state) ≡ false

expired_produced : (k clock : Ms) (state : SlotState) → state_has_expired k state ≡ false → state_has_expired k (produced_state clock state) ≡ false
expired_produced k clock Idle is = is
expired_produced k clock (Opening o) is = is
expired_produced k clock (Established c) is = is
expired_produced k clock (TimedOut link) is = is
expired_produced k clock (Closing c) is = is

expired_written : (k : Ms) (state : SlotState) → state_has_expired k state ≡ false → state_has_expired k (written_state state) ≡ false
expired_written k Idle is = is
expired_written k (Opening o) is = is
expired_written k (Established c) is = is
expired_written k (TimedOut link) is = is
expired_written k (Closing c) is = is

expired_calms : (k : Ms) → Calms k (state_has_expired k)
expired_calms k = record { idle = refl; timed_out = λ link. refl; opening = λ o is. refl; closing = λ c is. refl; produced = expired_produced k; written = expired_written k }

overdue_produced : (k clock : Ms) (state : SlotState) → state_is_overdue k state ≡ false → state_is_overdue k (produced_state clock state) ≡ false
overdue_produced k clock Idle is = is
overdue_produced k clock (Opening o) is = is
overdue_produced k clock (Established c) is = is
overdue_produced k clock (TimedOut link) is = is
overdue_produced k clock (Closing c) is = is

overdue_written : (k : Ms) (state : SlotState) → state_is_overdue k state ≡ false → state_is_overdue k (written_state state) ≡ false
overdue_written k Idle is = is
overdue_written k (Opening o) is = is
overdue_written k (Established c) is = is
overdue_written k (TimedOut link) is = is
overdue_written k (Closing c) is = is

overdue_calms : (k : Ms) → Calms k (state_is_overdue k)
overdue_calms k = record { idle = refl; timed_out = λ link. refl; opening = λ o is. is; closing = λ c is. is; produced = overdue_produced k; written = overdue_written k }

not_yet : (k now wait : ℕ) → k ≤ now → 1 ≤ wait → nat_le (now + wait) k ≡ false
not_yet k now wait later some = grind (arith, nat_tests, later, some)

due_clear : (b : Bool) (k : Ms) (test : SlotState → Bool) (clock : Ms) (slot : Slot) → Calms k test → test slot.state ≡ false → test (cond b (record slot { state = produced_state clock slot.state }) slot).state ≡ false
due_clear true k test clock slot calms is = calms.produced clock slot.state is
due_clear false k test clock slot calms is = is

moded_clear : (b : Bool) (k : Ms) (test : SlotState → Bool) (slot : Slot) → Calms k test → test slot.state ≡ false → test (cond b (record slot { state = written_state slot.state }) slot).state ≡ false
moded_clear true k test slot calms is = calms.written slot.state is
moded_clear false k test slot calms is = is

clear_widely : (k : Ms) (test : SlotState → Bool) → Calms k test → Slotwise (Clear test k)
clear_widely k test calms = record {
  stays = λ t u number config slot later from wait is. is;
  after = λ t u v number config a b c first next before behind from wait is. behind (omega (arith, from, first.clock)) (subst (λ (p : ScannerProfile). 1 ≤ p.open_timeout) (sym first.profile) wait) (before from wait is);
  opening = λ t indexed closed_before left from wait is. calms.opening _ (not_yet k.0 t.clock.0 t.profile.open_timeout from wait);
  idling = λ t indexed slot idle from wait is. rw idle.state calms.idle;
  timing_out = λ t indexed link slot was becomes from wait is. rw becomes.state (calms.timed_out link);
  closing = λ t indexed link desired_up was from wait is. calms.closing _ (not_yet k.0 t.clock.0 t.profile.open_timeout from wait);
  producing = λ t number config slot from wait is. due_clear (state_is_due t.clock slot.state) k test t.clock slot calms is;
  moding = λ t run indexed from wait is. moded_clear (is_owner indexed.config.kind) k test indexed.slot calms is;
}

none_later : (k : Ms) (test : SlotState → Bool) (t u : ScannerTable) → Goes (Clear test k) t u → k.0 ≤ t.clock.0 → 1 ≤ t.profile.open_timeout → NoneIs test t → NoneIs test u
none_later k test t u goes from wait none = λ indexed stands.
    let was = was_of (Clear test k) t u indexed goes stands in
    was.holds from wait (none (indexed_at indexed.number indexed.config was.slot) was.stands)

-- ---- a tick

-- properties of the tables of a tick
record Ticks (k : Ms) (u : ScannerTable) : Type 0 where
  clock : u.clock ≡ k
  wait : 1 ≤ u.profile.open_timeout
  expired : NoneIs (state_has_expired k) u
  overdue : NoneIs (state_is_overdue k) u

ahead_is : (k : Ms) (state : SlotState) → state_has_expired k state ≡ false → state_is_overdue k state ≡ false → StateIsAhead k.0 state
ahead_is k Idle not_expired not_overdue = tt
ahead_is k (Opening o) not_expired not_overdue = leb-false o.deadline.0 k.0 not_overdue
ahead_is k (Established c) not_expired not_overdue = leb-false c.deadline.0 k.0 not_expired
ahead_is k (TimedOut link) not_expired not_overdue = tt
ahead_is k (Closing c) not_expired not_overdue = leb-false c.deadline.0 k.0 not_overdue

tick_ends : (t : ScannerTable) → 1 ≤ t.profile.open_timeout → Ticks t.clock (produced_table (advanced t).table)
unfolding produced_table
tick_ends t wait =
    let k = t.clock in
    let first = (all_expired t).table in
    let second = (all_given_up first).table in
    let third = (ready_opened second).table in
    let by_expired = goes_widely (Clear (state_has_expired k) k) (clear_widely k (state_has_expired k) (expired_calms k)) in
    let by_overdue = goes_widely (Clear (state_is_overdue k) k) (clear_widely k (state_is_overdue k) (overdue_calms k)) in
    let to_first = expired_leads (Goes (Clear (state_has_expired k) k)) by_expired.slots t in
    let to_second = overdue_leads (Goes (Clear (state_has_expired k) k)) by_expired.slots first in
    let to_third = ready_leads (Goes (Clear (state_has_expired k) k)) by_expired.slots second in
    let clock_first : first.clock ≡ k = expired_leads ClockStays clock_kept t in
    let clock_second : second.clock ≡ k = overdue_leads ClockStays clock_kept first ∙ clock_first in
    let clock_third : third.clock ≡ k = ready_leads ClockStays clock_kept second ∙ clock_second in
    let wait_first : 1 ≤ first.profile.open_timeout = subst (λ (p : ScannerProfile). 1 ≤ p.open_timeout) (sym to_first.later.profile) wait in
    let wait_second : 1 ≤ second.profile.open_timeout = subst (λ (p : ScannerProfile). 1 ≤ p.open_timeout) (sym to_second.later.profile) wait_first in
    let wait_third : 1 ≤ third.profile.open_timeout = subst (λ (p : ScannerProfile). 1 ≤ p.open_timeout) (sym to_third.later.profile) wait_second in
    let from_first : k.0 ≤ first.clock.0 = rw clock_first (omega arith) in
    let from_second : k.0 ≤ second.clock.0 = rw clock_second (omega arith) in
    let from_third : k.0 ≤ third.clock.0 = rw clock_third (omega arith) in
    let expired_second = none_later k (state_has_expired k) first second to_second from_first wait_first (none_expired t) in
    let expired_third = none_later k (state_has_expired k) second third to_third from_second wait_second expired_second in
    let overdue_second : NoneIs (state_is_overdue k) second = subst (λ (m : Ms). NoneIs (state_is_overdue m) second) clock_first (none_overdue first) in
    let overdue_third = none_later k (state_is_overdue k) second third (ready_leads (Goes (Clear (state_is_overdue k) k)) by_overdue.slots second) from_second wait_second overdue_second in
    record {
      clock = clock_third;
      wait = wait_third;
      expired = none_later k (state_has_expired k) third (produced_table third) (by_expired.producing third) from_third wait_third expired_third;
      overdue = none_later k (state_is_overdue k) third (produced_table third) (by_overdue.producing third) from_third wait_third overdue_third;
    }

ticks_ahead : (k : Ms) (u : ScannerTable) → Ticks k u → DeadlinesAreAhead u
ticks_ahead k u ticks = λ number indexed is.
    let stands = (slot_is u number indexed is).stands in
    subst (λ (m : Ms). StateIsAhead m.0 indexed.slot.state) (sym ticks.clock) (ahead_is k indexed.slot.state (ticks.expired indexed stands) (ticks.overdue indexed stands))

-- the explicit requests that end have no slots
ended_ahead : (u : ScannerTable) → DeadlinesAreAhead (produced_table u) → DeadlinesAreAhead (produced_table (explicit_timed_out u).table)
unfolding produced_table explicit_timed_out
ended_ahead u ahead = ahead

next_is : (x y : Next) → ◌≡◌ {A = Result Next StepFault} (Ok x) (Ok y) → x ≡ y
next_is x y is = cc

tick_step : (a b : Bool) (t : ScannerTable) (ms : ℕ) (next : Next) → 1 ≤ t.profile.open_timeout → cond a (Err fault.TickTooLong) (cond b (Err fault.ClockEnd) (Ok (ticked (moved_on (clocked_table t ms))))) ≡ Ok next → DeadlinesAreAhead next.1
tick_step true b t ms next wait is = absurd cc
tick_step false true t ms next wait is = absurd cc
tick_step false false t ms next wait is =
    let now = clocked_table t ms in
    subst (λ (n : Next). DeadlinesAreAhead n.1) (next_is (ticked (moved_on now)) next is)
    (ended_ahead (advanced now).table (ticks_ahead now.clock (produced_table (advanced now).table) (tick_ends now wait)))

-- ---- the time that a target has, in a profile without fault

is_timed : (a b c d e f g h : Bool) → cond a (Some wrong.Incarnation) (cond b (Some wrong.Points) (cond c (Some wrong.SameInstance) (cond d (Some wrong.Length) (cond (not e) (Some wrong.Timing) (cond f (Some wrong.Limits) (cond g (Some wrong.Limits) (cond h (Some wrong.Limits) None))))))) ≡ None → e ≡ true
is_timed true b c d e f g h is = absurd cc
is_timed false true c d e f g h is = absurd cc
is_timed false false true d e f g h is = absurd cc
is_timed false false false true e f g h is = absurd cc
is_timed false false false false true f g h is = refl
is_timed false false false false false f g h is = absurd cc

has_wait : (profile : ScannerProfile) → profile_fault profile ≡ None → 1 ≤ profile.open_timeout
unfolding profile_fault
has_wait profile is =
    let times = is_timed _ _ _ _ (keeps_time profile) (not (are_paced profile.newer profile.slots)) (not (are_openings profile.openings)) (not (are_serials profile.serials)) is in
    let waits = and_parts (list_all has_times profile.slots) (is_wait profile.open_timeout && is_wait profile.retry) times in
    let wait = and_parts (is_wait profile.open_timeout) (is_wait profile.retry) waits.1 in
    at_least profile.open_timeout (and_parts (nat_le 1 profile.open_timeout) (nat_le profile.open_timeout 60000) wait.0).0 where
      at_least : (n : ℕ) → nat_le 1 n ≡ true → 1 ≤ n
      at_least n h = grind (arith, nat_tests)

pub ticks_leave_none_late : TicksLeaveNoneLate
unfolding tick
ticks_leave_none_late t ms next faultless is = tick_step (nat_lt longest_tick ms) (nat_lt clock_end (t.clock.0 + ms)) t ms next (has_wait t.profile faultless) is
