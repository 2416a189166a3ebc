-- A connection accepts only datagrams that are newer than the one that it accepted before.
use Rattle.std.proofs.Common.{◌≡◌, ◌≤◌, ◌<◌, ℕ, zero, suc, ◌-◌, ◌^◌, Bool, true, false, cond, ◌&&◌, ◌==◌, nat_le, List, [], ◌∷◌, ◌++◌, find, slice_get, Option, Some, None, Result, Ok, Err, refl, sym, ◌∙◌, ap, subst, arith, eqb-true as number_is, eq-eqb}
use Rattle.std.proofs.lemmas.Bool.{and_parts, eqb-false}
use Rattle.std.proofs.lemmas.Bool.Decides.{nat_tests}
use Rattle.base_lemmas.specs.Booleans.{and_none}
use Rattle.cip_types.specs.Circle.{distance, IsNewer, is_newer}
use Rattle.cip_types.specs.declared.names.Ms.{Ms}
use Rattle.cip_types.specs.declared.names.Node.{Node}
use Rattle.cip_datagram.specs.declared.datagram.DatagramFault.{DatagramFault}
use Rattle.cip_datagram.specs.Datagram.{DatagramFields}
use Rattle.cip_datagram.specs.Reading.{datagram_reading}
use Rattle.cip_events.specs.declared.event.Delivery.{Delivery}
use Rattle.cip_events.specs.declared.event.Delivery.TheVariants as delivery
use Rattle.cip_events.specs.declared.event.Event.{Event}
use Rattle.cip_events.specs.declared.event.Event.TheVariants.{Frame, Datagram, Write}
use Rattle.cip_events.specs.declared.event.StepFault.{StepFault}
use Rattle.cip_events.specs.declared.event.Verdict.TheVariants.{Delivered}
use Rattle.cip_events.specs.Answers.{is_accepted}
use Rattle.cip_productions.specs.declared.acceptance.Accepted.{Accepted}
use Rattle.cip_productions.specs.Acceptance.{accepts_sequence, is_duplicate}
use Rattle.cip_productions.specs.Kinds.{is_owner}
use Rattle.conn_state.specs.declared.names.Link.{Link}
use Rattle.scanner_table.specs.declared.profile.SlotConfig.{SlotConfig}
use Rattle.scanner_table.specs.declared.slot.SlotConnection.{SlotConnection}
use Rattle.scanner_table.specs.declared.slot.Slot.{Slot}
use Rattle.scanner_table.specs.declared.slot.SlotState.{SlotState}
use Rattle.scanner_table.specs.declared.slot.SlotState.TheVariants.{Idle, Opening, Established, TimedOut, Closing}
use Rattle.scanner_table.specs.declared.table.ScannerTable.{ScannerTable}
use Rattle.scanner_table.specs.Slots.{IndexedSlot, indexed_slots, slot_at}
use Rattle.scanner_table.specs.Effects.{Next}
use Rattle.scanner_table.specs.Replies.{new_connection, established_slot}
use Rattle.cip_productions.specs.Window.{since_accepted, is_within}
use Rattle.scanner_table.specs.Datagrams.{slot_pace, accepts_at, is_for, accepted_connection, accepted_table, delivered, accepted, sized, state_received, received_at, received_as, received}
use Rattle.scanner_table.specs.Points.{output_slot}
use Rattle.scanner_table.specs.Productions.{written_state, state_is_due, produced_state, produced_slot, produced_table}
use Rattle.scanner_table.specs.Step.{scanner_step}
use Rattle.scanner_table.specs.WellFormed.{FitsState, SlotsFit}
use Rattle.scanner_table.specs.Runs.{left_by, StepsKeep, IsLaw}
use Rattle.device_laws.specs.ScannerDeliveries.{is_applied}
use Rattle.device_laws.specs.Newest.{Acceptance, came_from, is_connection, accepted_found, accepted_read, accepted_at, acceptances, EachAfter, last_accepted, HasNewerNumber, IsAppliedNew, IsNotAgain, StateRemembers, TableRemembers, state_last, last_of, last_in, StateIsNumbered, OpeningsAreNumbered, WholeTablesNumberOpenings, StepsAcceptAfter, RefusalsAcceptNothing, EventsAcceptAfter}
use Rattle.scanner_table.specs.Lemmas.SlotLookups.{Stands, indexed_at, slot_is, slot_stands, each_found, each_stands}
use Rattle.scanner_table.specs.Lemmas.Moves.{KeptWidely, OrEstablished, Leads, Writes, frame_leads, write_leads}
use Rattle.scanner_table.specs.Lemmas.Events.{steps_lead, law_of}
use Rattle.scanner_table.specs.Lemmas.Slotwise.{set_later, Relation, Slotwise, SlotwiseAlways, Goes, set_goes, apart_goes, goes_widely, goes_taken, goes_always, Property, Stays, was_of, of_each_slot}
use Rattle.scanner_table.specs.Lemmas.FreshSlots.{fresh_rests}
use Rattle.scanner_table.specs.Lemmas.Moves.{bare_leads}

-- ---- openings are numbered

abbrev Numbered : Property
Numbered t number config slot = StateIsNumbered t.next_request slot.state

numbered_on : (r s : ℕ) (state : SlotState) → r ≤ s → StateIsNumbered r state → StateIsNumbered s state
numbered_on r s Idle up numbered = tt
numbered_on r s (Opening o) up numbered = omega (arith, numbered, up)
numbered_on r s (Established c) up numbered = omega (arith, numbered, up)
numbered_on r s (TimedOut link) up numbered = tt
numbered_on r s (Closing c) up numbered = tt

numbered_is : (r : ℕ) (state other : SlotState) → state ≡ other → StateIsNumbered r state → StateIsNumbered r other
numbered_is r state other is numbered = subst (StateIsNumbered r) is numbered

idle_numbered : (r : ℕ) (state : SlotState) → state ≡ Idle → StateIsNumbered r state
idle_numbered r state is = rw is tt

timed_out_numbered : (r : ℕ) (link : Link) (state : SlotState) → state ≡ TimedOut link → StateIsNumbered r state
timed_out_numbered r link state is = rw is tt

written_numbered : (r : ℕ) (state : SlotState) → StateIsNumbered r state → StateIsNumbered r (written_state state)
written_numbered r Idle numbered = tt
written_numbered r (Opening o) numbered = numbered
written_numbered r (Established c) numbered = numbered
written_numbered r (TimedOut link) numbered = tt
written_numbered r (Closing c) numbered = tt

produced_numbered : (clock : Ms) (r : ℕ) (state : SlotState) → StateIsNumbered r state → StateIsNumbered r (produced_state clock state)
produced_numbered clock r Idle numbered = tt
produced_numbered clock r (Opening o) numbered = numbered
produced_numbered clock r (Established c) numbered = numbered
produced_numbered clock r (TimedOut link) numbered = tt
produced_numbered clock r (Closing c) numbered = tt

due_numbered : (b : Bool) (clock : Ms) (r : ℕ) (slot : Slot) → StateIsNumbered r slot.state → StateIsNumbered r (cond b (record slot { state = produced_state clock slot.state }) slot).state
due_numbered true clock r slot numbered = produced_numbered clock r slot.state numbered
due_numbered false clock r slot numbered = numbered

moded_numbered : (b : Bool) (r : ℕ) (slot : Slot) → StateIsNumbered r slot.state → StateIsNumbered r (cond b (record slot { state = written_state slot.state }) slot).state
moded_numbered true r slot numbered = written_numbered r slot.state numbered
moded_numbered false r slot numbered = numbered

table_numbered : (t : ScannerTable) (number : ℕ) (config : SlotConfig) (slot : Slot) → Numbered t number config slot → Numbered (produced_table t) number config (produced_slot t.clock slot)
unfolding produced_table
table_numbered t number config slot numbered = due_numbered (state_is_due t.clock slot.state) t.clock t.next_request slot numbered

numbered_always : SlotwiseAlways (Stays Numbered)
numbered_always = record {
  widely = record {
    stays = λ t u number config slot later numbered. numbered_on t.next_request u.next_request slot.state later.requests numbered;
    after = λ t u v number config a b c first next before behind numbered. behind (before numbered);
    opening = λ t indexed closed_before left numbered. omega arith;
    idling = λ t indexed slot idle numbered. idle_numbered t.next_request slot.state idle.state;
    timing_out = λ t indexed link slot is becomes numbered. timed_out_numbered t.next_request link slot.state becomes.state;
    closing = λ t indexed link desired_up is numbered. tt;
    producing = table_numbered;
    moding = λ t run indexed numbered. moded_numbered (is_owner indexed.config.kind) t.next_request indexed.slot numbered;
  };
  establishing = λ t indexed o success is desired_up numbered. numbered_is t.next_request indexed.slot.state (Opening o) is numbered;
  writing = λ t indexed bytes numbered. written_numbered t.next_request indexed.slot.state numbered;
  accepting = λ t indexed d c bytes is numbered. numbered_is t.next_request indexed.slot.state (Established c) is.established numbered;
}

numbers_keep : StepsKeep OpeningsAreNumbered
numbers_keep t event next is all = of_each_slot Numbered t next.1 (steps_lead (Goes (Stays Numbered)) (goes_always (Stays Numbered) numbered_always) t event next is) all

pub numbered_law : IsLaw OpeningsAreNumbered
numbered_law = law_of OpeningsAreNumbered numbers_keep (λ profile number indexed is. idle_numbered 1 indexed.slot.state (fresh_rests profile number indexed is))

fits_numbered : (next clock : ℕ) (desired_up : Bool) (state : SlotState) → FitsState next clock desired_up state → StateIsNumbered next state
fits_numbered next clock desired_up Idle fits = tt
fits_numbered next clock desired_up (Opening o) fits = fits.1
fits_numbered next clock desired_up (Established c) fits = fits.1.opening
fits_numbered next clock desired_up (TimedOut link) fits = tt
fits_numbered next clock desired_up (Closing c) fits = tt

slot_numbered : (next clock k : ℕ) (configs : List SlotConfig) (slots : List Slot) (slot : Slot) → SlotsFit next clock configs slots → slice_get slots k ≡ Some slot → StateIsNumbered next slot.state
slot_numbered next clock k [] [] slot fit is = absurd cc
slot_numbered next clock k [] (first ∷ slots) slot fit is = absurd fit
slot_numbered next clock k (config ∷ configs) [] slot fit is = absurd cc
slot_numbered next clock zero (config ∷ configs) (first ∷ slots) slot fit is =
    let same : first ≡ slot = cc in
    subst (λ (s : Slot). StateIsNumbered next s.state) same (fits_numbered next clock first.desired_up first.state fit.0.state)
slot_numbered next clock (suc k) (config ∷ configs) (first ∷ slots) slot fit is = slot_numbered next clock k configs slots slot fit.1 is

pub whole_numbered : WholeTablesNumberOpenings
whole_numbered t whole = λ number indexed is. slot_numbered t.next_request t.clock.0 indexed.number t.profile.slots t.slots indexed.slot whole.slots (slot_is t number indexed is).stands.slot

-- ---- the last accepted datagram stays in the table

-- the last accepted datagram of a slot's connection, and of openings to come
record Knows (opening : ℕ) (last : Option Accepted) (next_request : ℕ) (state : SlotState) : Type 0 where
  numbered : StateIsNumbered next_request state
  unopened : next_request ≤ opening → last ≡ None
  remembers : StateRemembers opening last state

abbrev Remembers : ℕ → Option Accepted → Property
Remembers opening last t number config slot = Knows opening last t.next_request slot.state

written_remembers : (opening : ℕ) (last : Option Accepted) (state : SlotState) → StateRemembers opening last state → StateRemembers opening last (written_state state)
written_remembers opening last Idle remembers = tt
written_remembers opening last (Opening o) remembers = remembers
written_remembers opening last (Established c) remembers = remembers
written_remembers opening last (TimedOut link) remembers = tt
written_remembers opening last (Closing c) remembers = tt

produced_remembers : (clock : Ms) (opening : ℕ) (last : Option Accepted) (state : SlotState) → StateRemembers opening last state → StateRemembers opening last (produced_state clock state)
produced_remembers clock opening last Idle remembers = tt
produced_remembers clock opening last (Opening o) remembers = remembers
produced_remembers clock opening last (Established c) remembers = remembers
produced_remembers clock opening last (TimedOut link) remembers = tt
produced_remembers clock opening last (Closing c) remembers = tt

due_remembers : (b : Bool) (clock : Ms) (opening : ℕ) (last : Option Accepted) (slot : Slot) → StateRemembers opening last slot.state → StateRemembers opening last (cond b (record slot { state = produced_state clock slot.state }) slot).state
due_remembers true clock opening last slot remembers = produced_remembers clock opening last slot.state remembers
due_remembers false clock opening last slot remembers = remembers

moded_remembers : (b : Bool) (opening : ℕ) (last : Option Accepted) (slot : Slot) → StateRemembers opening last slot.state → StateRemembers opening last (cond b (record slot { state = written_state slot.state }) slot).state
moded_remembers true opening last slot remembers = written_remembers opening last slot.state remembers
moded_remembers false opening last slot remembers = remembers

idle_remembers : (opening : ℕ) (last : Option Accepted) (state : SlotState) → state ≡ Idle → StateRemembers opening last state
idle_remembers opening last state is = rw is tt

timed_out_remembers : (opening : ℕ) (last : Option Accepted) (link : Link) (state : SlotState) → state ≡ TimedOut link → StateRemembers opening last state
timed_out_remembers opening last link state is = rw is tt

remembers_is : (opening : ℕ) (last : Option Accepted) (state other : SlotState) → state ≡ other → StateRemembers opening last state → StateRemembers opening last other
remembers_is opening last state other is remembers = subst (StateRemembers opening last) is remembers

table_remembers : (opening : ℕ) (last : Option Accepted) (t : ScannerTable) (number : ℕ) (config : SlotConfig) (slot : Slot) → Remembers opening last t number config slot → Remembers opening last (produced_table t) number config (produced_slot t.clock slot)
unfolding produced_table
table_remembers opening last t number config slot knows = record {
  numbered = due_numbered (state_is_due t.clock slot.state) t.clock t.next_request slot knows.numbered;
  unopened = knows.unopened;
  remembers = due_remembers (state_is_due t.clock slot.state) t.clock opening last slot knows.remembers;
}

remembers_widely : (opening : ℕ) (last : Option Accepted) → Slotwise (Stays (Remembers opening last))
remembers_widely opening last = record {
  stays = λ t u number config slot later knows. record { numbered = numbered_on t.next_request u.next_request slot.state later.requests knows.numbered; unopened = λ more. knows.unopened (omega (arith, more, later.requests)); remembers = knows.remembers };
  after = λ t u v number config a b c first next before behind knows. behind (before knows);
  opening = λ t indexed closed_before left knows. record { numbered = omega arith; unopened = λ more. knows.unopened (omega (arith, more)); remembers = λ is. knows.unopened (omega (arith, is)) };
  idling = λ t indexed slot idle knows. record { numbered = idle_numbered t.next_request slot.state idle.state; unopened = knows.unopened; remembers = idle_remembers opening last slot.state idle.state };
  timing_out = λ t indexed link slot is becomes knows. record { numbered = timed_out_numbered t.next_request link slot.state becomes.state; unopened = knows.unopened; remembers = timed_out_remembers opening last link slot.state becomes.state };
  closing = λ t indexed link desired_up is knows. record { numbered = tt; unopened = λ more. knows.unopened (omega (arith, more)); remembers = tt };
  producing = table_remembers opening last;
  moding = λ t run indexed knows. record { numbered = moded_numbered (is_owner indexed.config.kind) t.next_request indexed.slot knows.numbered; unopened = knows.unopened; remembers = moded_remembers (is_owner indexed.config.kind) opening last indexed.slot knows.remembers };
}

abbrev Knowing : ℕ → Option Accepted → ScannerTable → ScannerTable → Type 0
Knowing opening last t u = Goes (Stays (Remembers opening last)) t u

known_widely : (opening : ℕ) (last : Option Accepted) → KeptWidely (Knowing opening last)
known_widely opening last = goes_widely (Stays (Remembers opening last)) (remembers_widely opening last)

-- a new connection has accepted nothing
known_established : (opening : ℕ) (last : Option Accepted) (t : ScannerTable) → OrEstablished (Knowing opening last) (Knowing opening last) t
known_established opening last t = record {
  kept = known_widely opening last;
  weaker = λ u goes. goes;
  establishing = λ indexed o success stands is desired_up.
      let slot = established_slot indexed (new_connection t indexed o success) in
      set_goes (Stays (Remembers opening last)) (remembers_widely opening last).stays t t indexed slot (set_later t indexed.number slot) refl stands
      (λ knows. record { numbered = numbered_is t.next_request indexed.slot.state (Opening o) is knows.numbered; unopened = knows.unopened; remembers = λ same. sym (remembers_is opening last indexed.slot.state (Opening o) is knows.remembers same) });
}

known_writes : (opening : ℕ) (last : Option Accepted) (t : ScannerTable) → Writes (Knowing opening last) t
known_writes opening last t indexed bytes stands =
    let slot = output_slot bytes indexed.slot in
    set_goes (Stays (Remembers opening last)) (remembers_widely opening last).stays t t indexed slot (set_later t indexed.number slot) refl stands
    (λ knows. record { numbered = written_numbered t.next_request indexed.slot.state knows.numbered; unopened = knows.unopened; remembers = written_remembers opening last indexed.slot.state knows.remembers })

known_table : (number opening : ℕ) (last : Option Accepted) (t u : ScannerTable) → OpeningsAreNumbered t → TableRemembers number opening last t → Knowing opening last t u → TableRemembers number opening last u
known_table number opening last t u all table goes = record {
  there = λ indexed is.
      let at = slot_is u number indexed is in
      let was = was_of (Stays (Remembers opening last)) t u indexed goes at.stands in
      let before = indexed_at indexed.number indexed.config was.slot in
      let stands : slot_at t number ≡ Some before = subst (λ (n : ℕ). slot_at t n ≡ Some before) at.number_is (slot_stands t before was.stands) in
      (was.holds (record { numbered = all number before stands; unopened = table.unopened; remembers = table.there before stands })).remembers;
  unopened = λ more. table.unopened (omega (arith, more, goes.later.requests));
}

-- ---- accepted datagrams

-- the relation holds of a datagram whose number is newer, and whose count differs from the last one if it is applied
abbrev pub FitsNewer : (Option Accepted → Acceptance → Type 0) → Type 0
FitsNewer R = (last : Option Accepted) (next : Acceptance) → accepts_sequence last next.datagram.number ≡ true → (next.applied ≡ true → is_duplicate last next.datagram.count ≡ false) → R last next

is_newer_by : (a b : ℕ) → is_newer a b ≡ true → IsNewer a b
is_newer_by a b is =
    let parts = and_parts (nat_le 1 (distance a b)) (nat_le (distance a b) (2 ^ 31 - 1)) is in
    (le_of _ _ parts.0, le_of _ _ parts.1) where
      le_of : (m n : ℕ) → nat_le m n ≡ true → m ≤ n
      le_of m n h = grind (arith, nat_tests)

newer_fits : FitsNewer HasNewerNumber
newer_fits None next newer other = tt
newer_fits (Some last) next newer other = is_newer_by next.datagram.number last.number newer

applied_fits : FitsNewer IsAppliedNew
applied_fits None next newer other = λ applied. tt
applied_fits (Some last) next newer other = λ applied. eqb-false next.datagram.count last.count (other applied)

again_fits : FitsNewer IsNotAgain
again_fits None next newer other = tt
again_fits (Some last) next newer other = λ applied same. eqb-false next.datagram.count last.count (other applied) (ap (λ (a : Accepted). a.count) same)

-- ---- a datagram

-- an accepted datagram comes after the last one, and becomes the last one
abbrev GoesOn : (Option Accepted → Acceptance → Type 0) → ℕ → ℕ → Option Accepted → List Acceptance → ScannerTable → Type 0
GoesOn R number opening last more u = EachAfter R last more × TableRemembers number opening (last_accepted last more) u

-- the slot of the number has another last one
abbrev Renewed : ℕ → ℕ → Option Accepted → Option Accepted → Relation
Renewed number opening last after t u k config was now = k ≡ number → StateRemembers opening last was.state → StateRemembers opening after now.state

renewed_table : (number opening : ℕ) (last after : Option Accepted) (t u : ScannerTable) → TableRemembers number opening last t → (u.next_request ≤ opening → after ≡ None) → Goes (Renewed number opening last after) t u → TableRemembers number opening after u
renewed_table number opening last after t u table unopened goes = record {
  there = λ indexed is.
      let at = slot_is u number indexed is in
      let was = was_of (Renewed number opening last after) t u indexed goes at.stands in
      let before = indexed_at indexed.number indexed.config was.slot in
      let stands : slot_at t number ≡ Some before = subst (λ (n : ℕ). slot_at t n ≡ Some before) at.number_is (slot_stands t before was.stands) in
      was.holds at.number_is (table.there before stands);
  unopened = unopened;
}

-- the table before a datagram
record Before (number opening : ℕ) (last : Option Accepted) (t : ScannerTable) (indexed : IndexedSlot) (c : SlotConnection) : Type 0 where
  stands : Stands t indexed
  established : indexed.slot.state ≡ Established c
  all : OpeningsAreNumbered t
  table : TableRemembers number opening last t

-- the datagram is accepted on another connection
other_goes : (number opening : ℕ) (last : Option Accepted) (t : ScannerTable) (indexed : IndexedSlot) (d : DatagramFields) (c : SlotConnection) (bytes : List ℕ) → Before number opening last t indexed c → (indexed.number ≡ number → c.opening ≡ opening → ⊥) → TableRemembers number opening last (accepted_table t indexed d c bytes)
other_goes number opening last t indexed d c bytes before other =
    let slot : Slot = record indexed.slot { state = Established (accepted_connection t.clock d c); image = bytes } in
    renewed_table number opening last last t (accepted_table t indexed d c bytes) before.table before.table.unopened
    (apart_goes (Renewed number opening last last) t t indexed slot (λ k config was apart same remembers. remembers) (set_later t indexed.number slot) refl before.stands (λ same remembers opened. absurd (other same opened)))

-- the datagram is accepted on the connection itself
own_goes : (number opening : ℕ) (last : Option Accepted) (t : ScannerTable) (indexed : IndexedSlot) (d : DatagramFields) (c : SlotConnection) (bytes : List ℕ) → Before number opening last t indexed c → indexed.number ≡ number → c.opening ≡ opening → TableRemembers number opening (Some (record { number = d.sequence; count = d.count })) (accepted_table t indexed d c bytes)
own_goes number opening last t indexed d c bytes before same opened =
    let slot : Slot = record indexed.slot { state = Established (accepted_connection t.clock d c); image = bytes } in
    let below : c.opening < t.next_request = numbered_is t.next_request indexed.slot.state (Established c) before.established (before.all indexed.number indexed (slot_stands t indexed before.stands)) in
    let after : Option Accepted = Some (record { number = d.sequence; count = d.count }) in
    renewed_table number opening last after t (accepted_table t indexed d c bytes) before.table (λ more. absurd (omega (arith, more, below, opened)))
    (apart_goes (Renewed number opening last after) t t indexed slot (λ k config was apart is. absurd (eqb-false k indexed.number apart (is ∙ sym same))) (set_later t indexed.number slot) refl before.stands (λ is remembers other. refl))

-- the datagram that the connection accepted last
had_last : (number opening : ℕ) (last : Option Accepted) (t : ScannerTable) (indexed : IndexedSlot) (c : SlotConnection) → Before number opening last t indexed c → indexed.number ≡ number → c.opening ≡ opening → c.last ≡ last
had_last number opening last t indexed c before same opened =
    let at : slot_at t number ≡ Some indexed = subst (λ (n : ℕ). slot_at t n ≡ Some indexed) same (slot_stands t indexed before.stands) in
    remembers_is opening last indexed.slot.state (Established c) before.established (before.table.there indexed at) opened

accepts_step : (a b : Bool) (R : Option Accepted → Acceptance → Type 0) → FitsNewer R → (number opening : ℕ) (last : Option Accepted) (t : ScannerTable) (indexed : IndexedSlot) (d : DatagramFields) (c : SlotConnection) (bytes : List ℕ) (applied : Bool) → (indexed.number == number) ≡ a → (c.opening == opening) ≡ b → Before number opening last t indexed c → accepts_sequence c.last d.sequence ≡ true → (applied ≡ true → is_duplicate c.last d.count ≡ false) → GoesOn R number opening last (cond ((a && b) && true) (record { datagram = record { number = d.sequence; count = d.count }; applied = applied } ∷ []) []) (accepted_table t indexed d c bytes)
accepts_step true true R fits number opening last t indexed d c bytes applied numbered opened before newer fresh =
    let same = number_is indexed.number number numbered in
    let from = number_is c.opening opening opened in
    let next : Acceptance = record { datagram = record { number = d.sequence; count = d.count }; applied = applied } in
    ((subst (λ (x : Option Accepted). R x next) (had_last number opening last t indexed c before same from) (fits c.last next newer fresh), tt), own_goes number opening last t indexed d c bytes before same from)
accepts_step true false R fits number opening last t indexed d c bytes applied numbered opened before newer fresh =
    (tt, other_goes number opening last t indexed d c bytes before (λ same from. eqb-false c.opening opening opened from))
accepts_step false b R fits number opening last t indexed d c bytes applied numbered opened before newer fresh =
    (tt, other_goes number opening last t indexed d c bytes before (λ same from. eqb-false indexed.number number numbered same))

-- a datagram at the slot that the lookup found
abbrev GoesBy : (Option Accepted → Acceptance → Type 0) → ℕ → ℕ → Option Accepted → Option IndexedSlot → DatagramFields → Next → Type 0
GoesBy R number opening last found d next = GoesOn R number opening last (accepted_found number opening d next.0.verdict found) next.1

none_accepted : (number opening : ℕ) (d : DatagramFields) (what : Delivery) (found : Option IndexedSlot) → is_accepted what ≡ false → accepted_found number opening d (Delivered what) found ≡ []
none_accepted number opening d what None is = refl
none_accepted number opening d what (Some indexed) is = rw (is, and_none (is_connection number opening indexed)) refl

stays_on : (R : Option Accepted → Acceptance → Type 0) (number opening : ℕ) (last : Option Accepted) (t : ScannerTable) (d : DatagramFields) (what : Delivery) (found : Option IndexedSlot) → is_accepted what ≡ false → TableRemembers number opening last t → GoesBy R number opening last found d (delivered what t)
stays_on R number opening last t d what found is table = rw (none_accepted number opening d what found is) (tt, table)

came_is : (opening : ℕ) (state : SlotState) (c : SlotConnection) → state ≡ Established c → came_from opening state ≡ (c.opening == opening)
came_is opening state c is = ap (came_from opening) is

accepted_goes : (R : Option Accepted → Acceptance → Type 0) → FitsNewer R → (number opening : ℕ) (last : Option Accepted) (t : ScannerTable) (indexed : IndexedSlot) (d : DatagramFields) (c : SlotConnection) (bytes : List ℕ) (what : Delivery) → is_accepted what ≡ true → Before number opening last t indexed c → accepts_sequence c.last d.sequence ≡ true → (is_applied what ≡ true → is_duplicate c.last d.count ≡ false) → GoesBy R number opening last (Some indexed) d (delivered what (accepted_table t indexed d c bytes))
accepted_goes R fits number opening last t indexed d c bytes what is before newer fresh =
    rw (is, came_is opening indexed.slot.state c before.established)
    (accepts_step (indexed.number == number) (c.opening == opening) R fits number opening last t indexed d c bytes (is_applied what) refl refl before newer fresh)

duplicate_step : (b : Bool) (R : Option Accepted → Acceptance → Type 0) → FitsNewer R → (number opening : ℕ) (last : Option Accepted) (t : ScannerTable) (indexed : IndexedSlot) (d : DatagramFields) (c : SlotConnection) → is_duplicate c.last d.count ≡ b → Before number opening last t indexed c → accepts_sequence c.last d.sequence ≡ true → GoesBy R number opening last (Some indexed) d (cond b (delivered delivery.Duplicate (accepted_table t indexed d c indexed.slot.image)) (delivered delivery.Applied (accepted_table t indexed d c d.payload)))
duplicate_step true R fits number opening last t indexed d c is before newer = accepted_goes R fits number opening last t indexed d c indexed.slot.image delivery.Duplicate refl before newer (λ never. absurd cc)
duplicate_step false R fits number opening last t indexed d c is before newer = accepted_goes R fits number opening last t indexed d c d.payload delivery.Applied refl before newer (λ applied. is)

sequence_step : (b : Bool) (R : Option Accepted → Acceptance → Type 0) → FitsNewer R → (number opening : ℕ) (last : Option Accepted) (t : ScannerTable) (indexed : IndexedSlot) (d : DatagramFields) (c : SlotConnection) → accepts_at t indexed c d.sequence ≡ b → Before number opening last t indexed c → GoesBy R number opening last (Some indexed) d (cond b (accepted t indexed d c) (delivered delivery.Old t))
sequence_step true R fits number opening last t indexed d c is before = duplicate_step (is_duplicate c.last d.count) R fits number opening last t indexed d c refl before
    (and_parts (accepts_sequence c.last d.sequence) (is_within t.profile.newer (since_accepted t.clock c.watchdog c.deadline) (slot_pace indexed c) c.last d.sequence) is).0
sequence_step false R fits number opening last t indexed d c is before = stays_on R number opening last t d delivery.Old (Some indexed) refl before.table

sized_step : (b : Bool) (R : Option Accepted → Acceptance → Type 0) → FitsNewer R → (number opening : ℕ) (last : Option Accepted) (t : ScannerTable) (indexed : IndexedSlot) (d : DatagramFields) (c : SlotConnection) → Before number opening last t indexed c → GoesBy R number opening last (Some indexed) d (cond b (sized t indexed d c) (delivered delivery.WrongSize t))
sized_step true R fits number opening last t indexed d c before = sequence_step (accepts_at t indexed c d.sequence) R fits number opening last t indexed d c refl before
sized_step false R fits number opening last t indexed d c before = stays_on R number opening last t d delivery.WrongSize (Some indexed) refl before.table

state_step : (R : Option Accepted → Acceptance → Type 0) → FitsNewer R → (number opening : ℕ) (last : Option Accepted) (t : ScannerTable) (indexed : IndexedSlot) (d : DatagramFields) (state : SlotState) → indexed.slot.state ≡ state → Stands t indexed → OpeningsAreNumbered t → TableRemembers number opening last t → GoesBy R number opening last (Some indexed) d (state_received t indexed d state)
state_step R fits number opening last t indexed d Idle is stands all table = stays_on R number opening last t d delivery.UnknownId (Some indexed) refl table
state_step R fits number opening last t indexed d (Opening o) is stands all table = stays_on R number opening last t d delivery.UnknownId (Some indexed) refl table
state_step R fits number opening last t indexed d (Established c) is stands all table = sized_step _ R fits number opening last t indexed d c (record { stands = stands; established = is; all = all; table = table })
state_step R fits number opening last t indexed d (TimedOut link) is stands all table = stays_on R number opening last t d delivery.UnknownId (Some indexed) refl table
state_step R fits number opening last t indexed d (Closing c) is stands all table = stays_on R number opening last t d delivery.UnknownId (Some indexed) refl table

found_goes : (R : Option Accepted → Acceptance → Type 0) → FitsNewer R → (number opening : ℕ) (last : Option Accepted) (t : ScannerTable) (d : DatagramFields) (p : IndexedSlot → Bool) (found : Option IndexedSlot) → find p (indexed_slots t) ≡ found → OpeningsAreNumbered t → TableRemembers number opening last t → GoesBy R number opening last found d (received_at t d found)
found_goes R fits number opening last t d p None is all table = stays_on R number opening last t d delivery.UnknownId None refl table
found_goes R fits number opening last t d p (Some indexed) is all table = state_step R fits number opening last t indexed d indexed.slot.state refl (each_found (Stands t) p (indexed_slots t) indexed is (each_stands t)) all table

read_goes : (R : Option Accepted → Acceptance → Type 0) → FitsNewer R → (number opening : ℕ) (last : Option Accepted) (t : ScannerTable) (peer : Node) (reading : Result DatagramFields DatagramFault) → OpeningsAreNumbered t → TableRemembers number opening last t → GoesOn R number opening last (accepted_read number opening t peer (received_as t peer reading).0.verdict reading) (received_as t peer reading).1
read_goes R fits number opening last t peer (Err why) all table = (tt, table)
read_goes R fits number opening last t peer (Ok d) all table = found_goes R fits number opening last t d (is_for peer d.connection) (find (is_for peer d.connection) (indexed_slots t)) refl all table

received_goes : (R : Option Accepted → Acceptance → Type 0) → FitsNewer R → (number opening : ℕ) (last : Option Accepted) (t : ScannerTable) (peer : Node) (bytes : List ℕ) → OpeningsAreNumbered t → TableRemembers number opening last t → GoesOn R number opening last (accepted_at number opening t (Datagram peer bytes)) (received t peer bytes).1
unfolding received
received_goes R fits number opening last t peer bytes all table = read_goes R fits number opening last t peer (datagram_reading bytes) all table

-- ---- a step

-- an answer accepts only later datagrams, and the next table has the last of them
abbrev AnswerGoes : (Option Accepted → Acceptance → Type 0) → ℕ → ℕ → Option Accepted → ScannerTable → Event → Result Next StepFault → Type 0
AnswerGoes R number opening last t event said = Leads (λ u v. GoesOn R number opening last (accepted_at number opening t event) v) t said

leads_known : (number opening : ℕ) (last : Option Accepted) (t : ScannerTable) (said : Result Next StepFault) → OpeningsAreNumbered t → TableRemembers number opening last t → Leads (Knowing opening last) t said → Leads (λ u v. (Unit {0}) × TableRemembers number opening last v) t said
leads_known number opening last t (Ok next) all table goes = (tt, known_table number opening last t next.1 all table goes)
leads_known number opening last t (Err why) all table goes = tt

step_goes : (R : Option Accepted → Acceptance → Type 0) → FitsNewer R → (number opening : ℕ) (last : Option Accepted) (t : ScannerTable) (event : Event) → OpeningsAreNumbered t → TableRemembers number opening last t → AnswerGoes R number opening last t event (scanner_step t event)
step_goes R fits number opening last t (Frame stream bytes) all table = leads_known number opening last t (scanner_step t (Frame stream bytes)) all table (frame_leads (Knowing opening last) (Knowing opening last) t (known_established opening last t) stream bytes)
step_goes R fits number opening last t (Datagram peer bytes) all table = received_goes R fits number opening last t peer bytes all table
step_goes R fits number opening last t (Write point bytes) all table = leads_known number opening last t (scanner_step t (Write point bytes)) all table (write_leads (Knowing opening last) t (known_writes opening last t) point bytes)
step_goes R fits number opening last t other all table = leads_known number opening last t (scanner_step t other) all table (bare_leads (Knowing opening last) (known_widely opening last) (goes_taken (Stays (Remembers opening last)) (remembers_widely opening last)) t other refl)

goes_next : (R : Option Accepted → Acceptance → Type 0) (number opening : ℕ) (last : Option Accepted) (t : ScannerTable) (event : Event) (said : Result Next StepFault) (next : Next) → said ≡ Ok next → AnswerGoes R number opening last t event said → GoesOn R number opening last (accepted_at number opening t event) next.1
goes_next R number opening last t event said next is goes = subst (AnswerGoes R number opening last t event) is goes

accept_after : (R : Option Accepted → Acceptance → Type 0) → FitsNewer R → StepsAcceptAfter R
accept_after R fits number opening last t event next is all table = goes_next R number opening last t event (scanner_step t event) next is (step_goes R fits number opening last t event all table)

pub refusals_accept_nothing : RefusalsAcceptNothing
refusals_accept_nothing number opening t (Datagram peer bytes) why is = absurd cc
refusals_accept_nothing number opening t other why is = refl

-- ---- events

after_more : (R : Option Accepted → Acceptance → Type 0) (last : Option Accepted) (first rest : List Acceptance) → EachAfter R last first → EachAfter R (last_accepted last first) rest → EachAfter R last (first ++ rest)
after_more R last [] rest done more = more
after_more R last (next ∷ first) rest done more = (done.0, after_more R (Some next.datagram) first rest done.1 more)

-- the next table goes on
record Left (R : Option Accepted → Acceptance → Type 0) (number opening : ℕ) (last : Option Accepted) (t : ScannerTable) (event : Event) (u : ScannerTable) : Type 0 where
  goes : GoesOn R number opening last (accepted_at number opening t event) u
  all : OpeningsAreNumbered u

left_goes : (R : Option Accepted → Acceptance → Type 0) → FitsNewer R → (number opening : ℕ) (last : Option Accepted) (t : ScannerTable) (event : Event) (said : Result Next StepFault) → scanner_step t event ≡ said → OpeningsAreNumbered t → TableRemembers number opening last t → Left R number opening last t event (left_by t said)
left_goes R fits number opening last t event (Ok next) is all table = record { goes = accept_after R fits number opening last t event next is all table; all = numbers_keep t event next is all }
left_goes R fits number opening last t event (Err why) is all table = record { goes = rw (refusals_accept_nothing number opening t event why is) (tt, table); all = all }

events_go : (R : Option Accepted → Acceptance → Type 0) → FitsNewer R → (number opening : ℕ) (last : Option Accepted) (t : ScannerTable) (events : List Event) → OpeningsAreNumbered t → TableRemembers number opening last t → EachAfter R last (acceptances number opening t events)
events_go R fits number opening last t [] all table = tt
events_go R fits number opening last t (event ∷ events) all table =
    let next = left_by t (scanner_step t event) in
    let more = accepted_at number opening t event in
    let first = left_goes R fits number opening last t event (scanner_step t event) refl all table in
    after_more R last more (acceptances number opening next events) first.goes.0 (events_go R fits number opening (last_accepted last more) next events first.all first.goes.1)

-- a state has the datagram that it accepted last
state_knows : (opening : ℕ) (state : SlotState) → StateRemembers opening (state_last opening state) state
state_knows opening Idle = tt
state_knows opening (Opening o) = λ same. refl
state_knows opening (Established c) = λ same. rw (eq-eqb c.opening opening same) refl
state_knows opening (TimedOut link) = tt
state_knows opening (Closing c) = tt

none_later : (b : Bool) (opening next : ℕ) (c : SlotConnection) → (c.opening == opening) ≡ b → c.opening < next → next ≤ opening → cond b c.last None ≡ None
none_later true opening next c is below more = let same = number_is c.opening opening is in absurd (omega (arith, same, below, more))
none_later false opening next c is below more = refl

state_unopened : (opening next : ℕ) (state : SlotState) → StateIsNumbered next state → next ≤ opening → state_last opening state ≡ None
state_unopened opening next Idle numbered more = refl
state_unopened opening next (Opening o) numbered more = refl
state_unopened opening next (Established c) numbered more = none_later (c.opening == opening) opening next c refl numbered more
state_unopened opening next (TimedOut link) numbered more = refl
state_unopened opening next (Closing c) numbered more = refl

found_unopened : (opening : ℕ) (t : ScannerTable) (number : ℕ) (found : Option IndexedSlot) → slot_at t number ≡ found → OpeningsAreNumbered t → t.next_request ≤ opening → last_of opening found ≡ None
found_unopened opening t number None is all more = refl
found_unopened opening t number (Some indexed) is all more = state_unopened opening t.next_request indexed.slot.state (all number indexed is) more

knows_last : (number opening : ℕ) (t : ScannerTable) → OpeningsAreNumbered t → TableRemembers number opening (last_in number opening t) t
knows_last number opening t all = record {
  there = λ indexed is. rw is (state_knows opening indexed.slot.state);
  unopened = λ more. found_unopened opening t number (slot_at t number) refl all more;
}

events_accept : (R : Option Accepted → Acceptance → Type 0) → FitsNewer R → EventsAcceptAfter R
events_accept R fits number opening t events all = events_go R fits number opening (last_in number opening t) t events all (knows_last number opening t all)

-- ---- the laws

pub steps_accept_newer : StepsAcceptAfter HasNewerNumber
steps_accept_newer = accept_after HasNewerNumber newer_fits

pub steps_apply_new : StepsAcceptAfter IsAppliedNew
steps_apply_new = accept_after IsAppliedNew applied_fits

pub steps_apply_once : StepsAcceptAfter IsNotAgain
steps_apply_once = accept_after IsNotAgain again_fits

pub events_accept_newer : EventsAcceptAfter HasNewerNumber
events_accept_newer = events_accept HasNewerNumber newer_fits

pub events_apply_new : EventsAcceptAfter IsAppliedNew
events_apply_new = events_accept IsAppliedNew applied_fits

pub events_apply_once : EventsAcceptAfter IsNotAgain
events_apply_once = events_accept IsNotAgain again_fits
