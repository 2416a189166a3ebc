-- A close whose stream is cut is kept.
use Rattle.std.proofs.Common.{◌≡◌, ℕ, ◌<◌, ◌&&◌, nat_lt, Bool, true, false, cond, List, [], ◌∷◌, filter, find, slice_get, Option, Some, None, Result, Ok, IfOk, refl, sym, ◌∙◌, ap, subst, arith}
use Rattle.std.proofs.lemmas.Bool.Decides.{nat_tests}
use Rattle.std.proofs.lemmas.Option.{same_Some}
use Rattle.cip_types.specs.declared.names.Ms.{Ms}
use Rattle.cip_types.specs.declared.names.Node.{Node}
use Rattle.cip_events.specs.declared.event.StepFault.{StepFault}
use Rattle.conn_state.specs.declared.names.Link.{Link}
use Rattle.scanner_table.specs.declared.profile.ScannerProfile.{ScannerProfile}
use Rattle.scanner_table.specs.declared.slot.PendingClose.{PendingClose}
use Rattle.scanner_table.specs.declared.slot.Slot.{Slot}
use Rattle.scanner_table.specs.declared.slot.SlotState.{SlotState}
use Rattle.scanner_table.specs.declared.slot.SlotState.TheVariants.{TimedOut, Closing}
use Rattle.scanner_table.specs.declared.table.ScannerTable.{ScannerTable}
use Rattle.scanner_table.specs.declared.table.TargetStream.{TargetStream}
use Rattle.scanner_table.specs.Closing.{idle_slot, is_close_in_time, unclosed_slot, given_up_state, given_up, target_lost}
use Rattle.scanner_table.specs.Effects.{Next, on_each}
use Rattle.scanner_table.specs.Encapsulation.{stream_lost, cut_of, stream_cut}
use Rattle.scanner_table.specs.Explicit.{explicit_lost}
use Rattle.scanner_table.specs.Replies.{failed_slot}
use Rattle.scanner_table.specs.Sessions.{is_stream, without_stream}
use Rattle.scanner_table.specs.Slots.{IndexedSlot, indexed_slots, is_numbered, is_with, with_slot}
use Rattle.scanner_table.specs.Lemmas.Moves.{Kept, stand_on, given_does}
use Rattle.scanner_table.specs.Lemmas.SlotLookups.{Stands, Each, EachTwo, Any, Apart, each_any, each_filter, two_filter, each_stands, slots_apart, get_same, slot_is}
use Rattle.device_laws.specs.CutCloses.{ClosesOver, CutClosesAreKept}
use Rattle.device_laws.proofs.TidyEffects.{each_cares, given_at}

-- profile and clock stay
record SameTime (t u : ScannerTable) : Type 0 where
  profile : u.profile ≡ t.profile
  clock : u.clock ≡ t.clock

time_kept : Kept SameTime
time_kept = record {
  same = λ t. record { profile = refl; clock = refl };
  after = λ t u v first next. record { profile = next.profile ∙ first.profile; clock = next.clock ∙ first.clock };
  opening = λ t place stands closed_before in_turn left. record { profile = refl; clock = refl };
  idling = λ t place slot stands idle. record { profile = refl; clock = refl };
  timing_out = λ t place link slot stands is becomes. record { profile = refl; clock = refl };
  closing = λ t place link desired_up stands is. record { profile = refl; clock = refl };
}

-- the slot of this number has timed out with the connection
abbrev HasTimedOut : ScannerTable → ℕ → Link → Type 0
HasTimedOut t number link = (slot : Slot) → slice_get t.slots number ≡ Some slot → slot.state ≡ TimedOut link

-- the slot closes, and its time is not over at this clock
record Closes (clock : Ms) (place : IndexedSlot) (close : PendingClose) : Type 0 where
  closes : place.slot.state ≡ Closing close
  early : clock.0 < close.deadline.0

in_time : (a b : ℕ) → a < b → nat_lt a b ≡ true
in_time a b early = grind (arith, nat_tests)

both_so : (a b : Bool) → a ≡ true → b ≡ true → (a && b) ≡ true
both_so a b first second = rw (first, second) refl

-- such a slot keeps the connection
given_keeps : (t : ScannerTable) (place : IndexedSlot) (close : PendingClose) → t.profile.tidy ≡ true → Stands t place → Closes t.clock place close → HasTimedOut (given_up t place).table place.number close.link
given_keeps t place close tidy stands is slot there =
    let both = both_so t.profile.tidy (is_close_in_time t close) tidy (in_time t.clock.0 close.deadline.0 is.early) in
    let left : unclosed_slot t close place.slot ≡ failed_slot t (TimedOut close.link) place.slot = ap (λ (b : Bool). cond b (failed_slot t (TimedOut close.link) place.slot) (idle_slot place.slot)) both in
    let table : (given_up t place).table ≡ with_slot t place.number (unclosed_slot t close place.slot) = ap (λ (s : SlotState). (given_up_state t place s).table) is.closes in
    let put : slice_get (given_up t place).table.slots place.number ≡ Some (unclosed_slot t close place.slot) =
    ap (λ (u : ScannerTable). slice_get u.slots place.number) table ∙ get_same place.number t.slots (unclosed_slot t close place.slot) place.slot stands.slot in
    ap (λ (s : Slot). s.state) (same_Some slot (unclosed_slot t close place.slot) (sym there ∙ put) ∙ left)

-- so do all such slots of a list
all_keep : (clock : Ms) (places : List IndexedSlot) (t : ScannerTable) → t.profile.tidy ≡ true → t.clock ≡ clock → Each (Stands t) places → EachTwo Apart places → Each (λ place. (close : PendingClose) → Closes clock place close → HasTimedOut (on_each given_up places t).table place.number close.link) places
all_keep clock [] t tidy at stand apart = tt
all_keep clock (place ∷ places) t tidy at stand apart =
    let u = (given_up t place).table in
    let one = given_does SameTime time_kept t place stand.0 tt in
    let later = stand_on t u place.number places one.local apart.0 stand.1 in
    let two = each_cares Any given_up given_at places u later apart.1 (each_any places) in (
      (λ close is slot there.
          given_keeps t place close tidy stand.0 (record { closes = is.closes; early = subst (λ (k : Ms). k.0 < close.deadline.0) (sym at) is.early }) slot (sym (two.elsewhere place.number apart.0) ∙ there)),
      all_keep clock places u (ap (λ (p : ScannerProfile). p.tidy) one.leads.profile ∙ tidy) (one.leads.clock ∙ at) later apart.1,
    )

-- what a lookup finds is among those that pass a test that it passes
found_among : (P : IndexedSlot → Type 0) (p : IndexedSlot → Bool) (number : ℕ) (places : List IndexedSlot) (place : IndexedSlot) → find (is_numbered number) places ≡ Some place → p place ≡ true → Each P (filter p places) → P place
found_among P p number [] place is passes all = absurd (let e = is in cc)
found_among P p number (first ∷ places) place is passes all =
    pick (is_numbered number first) is (p first) refl all (λ more rest. found_among P p number places place more passes rest)
  where
    pick : (b : Bool) → cond b (Some first) (find (is_numbered number) places) ≡ Some place → (c : Bool) → p first ≡ c → Each P (cond c (first ∷ filter p places) (filter p places)) → (find (is_numbered number) places ≡ Some place → Each P (filter p places) → P place) → P place
    pick true is true passed all more = subst P (same_Some first place is) all.0
    pick true is false passed all more = absurd (let e : false ≡ true = sym passed ∙ subst (λ (x : IndexedSlot). p x ≡ true) (sym (same_Some first place is)) passes in cc)
    pick false is true passed all more = more is all.1
    pick false is false passed all more = more is all

target_keeps : (target : Node) (t : ScannerTable) (place : IndexedSlot) (close : PendingClose) → t.profile.tidy ≡ true → find (is_numbered place.number) (indexed_slots t) ≡ Some place → is_with target place ≡ true → Closes t.clock place close → HasTimedOut (target_lost target t).table place.number close.link
unfolding target_lost
target_keeps target t place close tidy at goes closes =
    let all = all_keep t.clock (filter (is_with target) (indexed_slots t)) t tidy refl (each_filter (Stands t) (is_with target) (indexed_slots t) (each_stands t)) (two_filter Apart (is_with target) (indexed_slots t) (slots_apart t)) in
    found_among (λ place. (close : PendingClose) → Closes t.clock place close → HasTimedOut (on_each given_up (filter (is_with target) (indexed_slots t)) t).table place.number close.link) (is_with target) place.number (indexed_slots t) place at goes all close closes

-- explicit requests that end leave the slots
lost_keeps : (t : ScannerTable) (stream : TargetStream) (place : IndexedSlot) (close : PendingClose) → t.profile.tidy ≡ true → find (is_numbered place.number) (indexed_slots t) ≡ Some place → is_with stream.peer place ≡ true → Closes t.clock place close → HasTimedOut (stream_lost t stream).table place.number close.link
unfolding explicit_lost
lost_keeps t stream place close tidy at goes closes = target_keeps stream.peer (without_stream t stream.number) place close tidy at goes closes

-- so it is of each answer to a cut
abbrev KeepsAfter : ScannerTable → ℕ → Result Next StepFault → Type 0
KeepsAfter t number said = IfOk said (λ next. (place : IndexedSlot) (close : PendingClose) → ClosesOver t number place close → HasTimedOut next.1 place.number close.link)

cut_keeps : (t : ScannerTable) (number : ℕ) (found : Option TargetStream) → t.profile.tidy ≡ true → find (is_stream number) t.streams ≡ found → KeepsAfter t number (cut_of t found)
cut_keeps t number None tidy is = tt
cut_keeps t number (Some stream) tidy is = λ place close over.
    let same : over.stream ≡ stream = same_Some over.stream stream (sym over.found ∙ is) in
    lost_keeps t stream place close tidy over.at (subst (λ (s : TargetStream). is_with s.peer place ≡ true) same over.goes) (record { closes = over.closes; early = over.early })

step_keeps : (t : ScannerTable) (number : ℕ) → t.profile.tidy ≡ true → KeepsAfter t number (stream_cut t number)
unfolding stream_cut
step_keeps t number tidy = cut_keeps t number (find (is_stream number) t.streams) tidy refl

pub closes_kept : CutClosesAreKept
closes_kept t number next tidy is place close over now at =
    let keeps : KeepsAfter t number (Ok next) = subst (KeepsAfter t number) is (step_keeps t number tidy) in
    let here = slot_is next.1 place.number now at in
    keeps place close over now.slot (subst (λ (n : ℕ). slice_get next.1.slots n ≡ Some now.slot) here.number_is here.stands.slot)
