-- A scanner's books over a change of mode, and over the productions of a tick.
use Rattle.std.proofs.Common.{◌≡◌, ◌≢◌, ◌≤◌, ℕ, ◌+◌, Bool, true, false, cond, List, [], ◌∷◌, ◌++◌, filter, find, Option, Some, Result, Ok, Err, IfOk, ◌⊎◌, inl, inr, refl, sym, ◌∙◌, ap, subst, arith, nat_lt, eq-eqb}
use Rattle.std.specs.List.{filter_map}
use Rattle.cip_types.specs.declared.names.Ms.{Ms}
use Rattle.cip_events.specs.Clock.{longest_tick, clock_end}
use Rattle.cip_types.specs.declared.ids.IdBlock.{IdBlock}
use Rattle.cip_events.specs.declared.event.Event.{Event}
use Rattle.cip_events.specs.declared.event.Event.TheVariants.{StreamOpened, Frame, StreamCut, Datagram, Write, Tick, Mode, Start, Stop, Explicit, Ids}
use Rattle.cip_events.specs.declared.event.StepFault.{StepFault}
use Rattle.cip_events.specs.declared.event.StepFault.TheVariants as fault
use Rattle.cip_productions.specs.declared.production.Production as cip
use Rattle.cip_productions.specs.Productions.{produced}
use Rattle.cip_productions.specs.Kinds.{is_owner}
use Rattle.scanner_table.specs.declared.profile.SlotConfig.{SlotConfig}
use Rattle.scanner_table.specs.declared.slot.SlotConnection.{SlotConnection}
use Rattle.scanner_table.specs.declared.slot.PendingOpen as opening
use Rattle.scanner_table.specs.declared.slot.Slot.{Slot}
use Rattle.scanner_table.specs.declared.slot.SlotState.{SlotState}
use Rattle.scanner_table.specs.declared.slot.SlotState.TheVariants.{Idle, Opening, Established, TimedOut, Closing}
use Rattle.scanner_table.specs.declared.table.ScannerTable.{ScannerTable}
use Rattle.scanner_table.specs.Slots.{IndexedSlot, indexed_slots}
use Rattle.scanner_table.specs.Effects.{Next}
use Rattle.scanner_table.specs.Points.{moded_slot, moded_table, same_mode, mode}
use Rattle.scanner_table.specs.Productions.{written_state, state_is_due, is_due, by_due, due_slots, produced_state, produced_slot, produced_table}
use Rattle.scanner_table.specs.Ticks.{clocked_table, advanced, moved_on, ticked, tick}
use Rattle.scanner_table.specs.Explicit.{explicit_timed_out}
use Rattle.scanner_table.specs.Lemmas.SlotEventLemmas.{ids_hold}
use Rattle.scanner_table.specs.Step.{scanner_step, taken_table}
use Rattle.scanner_table.specs.Lemmas.SlotLookups.{Stands, indexed_at, same_slot, Each, EachTwo, Apart, each_stands, each_filter, two_filter, each_passes, each_in_order, two_in_order, slots_apart, slot_stands}
use Rattle.scanner_table.specs.Lemmas.Moves.{Leads, received_leads, write_leads, start_leads, stop_leads}
use Rattle.scanner_table.specs.Lemmas.Slotwise.{Relation, moded_goes, produced_goes, was_of, Was}
use Rattle.device_laws.specs.Lemmas.Quietly.{timed_out_leads, explicit_leads, advanced_leads, streamed_leads, cut_leads, frame_leads}
use Rattle.device_laws.specs.Lemmas.ListCounts.{Has, has_filter, has_order}
use Rattle.device_laws.specs.Lemmas.Books.{HasNotProduced, ProducerBooks, WellMade, IsOwn, books_own, books_other, unproduced_more, well_more}
use Rattle.device_laws.specs.Lemmas.ScannerBooks.{output_data, StateBooks, opening_in, ScannerBooks, Keeps, books_quietly, writing_keeps, accepting_keeps, written_books, written_old}
use Rattle.device_laws.specs.Made.{Made, connection_made, state_made, slot_made, places_made, scanner_makes}
use Rattle.device_laws.specs.Productions.{End, end_at, Production, numbered, produced_more}
use Rattle.scanner_table.specs.Lemmas.Moves.{passive_leads}

-- ---- a change of mode

abbrev IsModed : Relation
IsModed t u number config was now = now ≡ moded_slot (indexed_at number config was)

data_none : (run : Bool) (config : SlotConfig) (slot : Slot) → is_owner config.kind ≡ false → output_data run config slot ≡ []
data_none run config slot is = rw is refl

silent_books : (sent : List Production) (device : ℕ) (run more : Bool) (next : ℕ) (config : SlotConfig) (slot : Slot) (state : SlotState) → is_owner config.kind ≡ false → StateBooks sent device run next config slot state → StateBooks sent device more next config slot state
silent_books sent device run more next config slot Idle is ok = tt
silent_books sent device run more next config slot (Opening o) is ok = ok
silent_books sent device run more next config slot (Established c) is ok =
    (ok.0, subst (ProducerBooks sent (end_at device c.opening) c.production) (data_none run config slot is ∙ sym (data_none more config slot is)) ok.1)
silent_books sent device run more next config slot (TimedOut link) is ok = tt
silent_books sent device run more next config slot (Closing c) is ok = tt

moded_books : (b : Bool) (sent : List Production) (device : ℕ) (run more : Bool) (next : ℕ) (config : SlotConfig) (was : Slot) → is_owner config.kind ≡ b → StateBooks sent device run next config was was.state → StateBooks sent device more next config (cond b (record was { state = written_state was.state }) was) (cond b (record was { state = written_state was.state }) was).state
moded_books true sent device run more next config was is ok = written_books sent device run more next config was (record was { state = written_state was.state }) was.state ok
moded_books false sent device run more next config was is ok = silent_books sent device run more next config was was.state is ok

moded_old : (b : Bool) (r : ℕ) (was : Slot) → opening_in r (cond b (record was { state = written_state was.state }) was).state ≡ opening_in r was.state
moded_old true r was = written_old r was.state
moded_old false r was = refl

was_moded : (t : ScannerTable) (run : Bool) (place : IndexedSlot) → Stands (moded_table t run) place → Was IsModed t (moded_table t run) place
was_moded t run place stands = was_of IsModed t (moded_table t run) place (moded_goes IsModed (λ t run place. refl) t run) stands

was_opening : (t : ScannerTable) (run : Bool) (place : IndexedSlot) (r : ℕ) → (was : Was IsModed t (moded_table t run) place) → opening_in r place.slot.state ≡ true → opening_in r was.slot.state ≡ true
was_opening t run place r was opens = sym (moded_old (is_owner place.config.kind) r was.slot) ∙ ap (λ (s : Slot). opening_in r s.state) (sym was.holds) ∙ opens

moding_keeps : (sent : List Production) (device : ℕ) (t : ScannerTable) (run : Bool) → Keeps sent device t (moded_table t run)
moding_keeps sent device t run ok = record {
  unproduced = ok.unproduced;
  slots = λ place stands.
      let was = was_moded t run place stands in
      subst (λ (s : Slot). StateBooks sent device run t.next_request place.config s s.state) (sym was.holds)
      (moded_books (is_owner place.config.kind) sent device t.run run t.next_request place.config was.slot refl (ok.slots (indexed_at place.number place.config was.slot) was.stands));
  distinct = λ a b r one two first second.
      let was = was_moded t run a one in
      let too = was_moded t run b two in
      ok.distinct (indexed_at a.number a.config was.slot) (indexed_at b.number b.config too.slot) r was.stands too.stands (was_opening t run a r was first) (was_opening t run b r too second);
}

mode_step : (b : Bool) (sent : List Production) (device : ℕ) (t : ScannerTable) (run : Bool) → Keeps sent device t (cond b t (moded_table t run))
mode_step true sent device t run ok = ok
mode_step false sent device t run ok = moding_keeps sent device t run ok

mode_keeps : (sent : List Production) (device : ℕ) (t : ScannerTable) (run : Bool) → Keeps sent device t (mode t run).1
unfolding mode
mode_keeps sent device t run = mode_step (same_mode run t.run) sent device t run

-- ---- the productions of some indexed_slots, one after another

-- the place is not open by the opening of this end
abbrev OtherThan : ℕ → End → IndexedSlot → Type 0
OtherThan device e place = (c : SlotConnection) → place.slot.state ≡ Established c → end_at device c.opening ≢ e

others_step : (device : ℕ) (run : Bool) (e : End) (p : cip.Production) (kept : List ℕ) (place : IndexedSlot) (state : SlotState) (rest : List Made) → place.slot.state ≡ state → OtherThan device e place → ((sent : List Production) → ProducerBooks sent e p kept → ProducerBooks (produced_more device sent rest) e p kept) → (sent : List Production) → ProducerBooks sent e p kept → ProducerBooks (produced_more device sent (filter_map (λ (o : Option Made). o) (state_made run place state ∷ []) ++ rest)) e p kept
others_step device run e p kept place Idle rest is other more sent ok = more sent ok
others_step device run e p kept place (Opening o) rest is other more sent ok = more sent ok
others_step device run e p kept place (Established c) rest is other more sent ok = more (sent ++ numbered device sent (connection_made run place c) ∷ []) (books_other sent e p kept device (connection_made run place c) (other c is) ok)
others_step device run e p kept place (TimedOut link) rest is other more sent ok = more sent ok
others_step device run e p kept place (Closing c) rest is other more sent ok = more sent ok

made_first : (run : Bool) (place : IndexedSlot) (state : SlotState) (batch : List IndexedSlot) → place.slot.state ≡ state → filter_map (slot_made run) (place ∷ batch) ≡ filter_map (λ (o : Option Made). o) (state_made run place state ∷ []) ++ filter_map (slot_made run) batch
made_first run place Idle batch is = rw is refl
made_first run place (Opening o) batch is = rw is refl
made_first run place (Established c) batch is = rw is refl
made_first run place (TimedOut link) batch is = rw is refl
made_first run place (Closing c) batch is = rw is refl

-- others produce
others_in : (device : ℕ) (run : Bool) (e : End) (p : cip.Production) (kept : List ℕ) (batch : List IndexedSlot) → Each (OtherThan device e) batch → (sent : List Production) → ProducerBooks sent e p kept → ProducerBooks (produced_more device sent (filter_map (slot_made run) batch)) e p kept
others_in device run e p kept [] others sent ok = ok
others_in device run e p kept (place ∷ batch) others sent ok =
    rw (made_first run place place.slot.state batch refl)
    (others_step device run e p kept place place.slot.state (filter_map (slot_made run) batch) refl others.0 (others_in device run e p kept batch others.1) sent ok)

unproduced_step : (device : ℕ) (run : Bool) (e : End) (place : IndexedSlot) (state : SlotState) (rest : List Made) → place.slot.state ≡ state → OtherThan device e place → ((sent : List Production) → HasNotProduced sent e → HasNotProduced (produced_more device sent rest) e) → (sent : List Production) → HasNotProduced sent e → HasNotProduced (produced_more device sent (filter_map (λ (o : Option Made). o) (state_made run place state ∷ []) ++ rest)) e
unproduced_step device run e place Idle rest is other more sent ok = more sent ok
unproduced_step device run e place (Opening o) rest is other more sent ok = more sent ok
unproduced_step device run e place (Established c) rest is other more sent ok = more (sent ++ numbered device sent (connection_made run place c) ∷ []) (unproduced_more sent e device (connection_made run place c) (other c is) ok)
unproduced_step device run e place (TimedOut link) rest is other more sent ok = more sent ok
unproduced_step device run e place (Closing c) rest is other more sent ok = more sent ok

unproduced_in : (device : ℕ) (run : Bool) (e : End) (batch : List IndexedSlot) → Each (OtherThan device e) batch → (sent : List Production) → HasNotProduced sent e → HasNotProduced (produced_more device sent (filter_map (slot_made run) batch)) e
unproduced_in device run e [] others sent ok = ok
unproduced_in device run e (place ∷ batch) others sent ok =
    rw (made_first run place place.slot.state batch refl)
    (unproduced_step device run e place place.slot.state (filter_map (slot_made run) batch) refl others.0 (unproduced_in device run e batch others.1) sent ok)

-- the openings of two indexed_slots differ
abbrev Distinct : ScannerTable → Type 0
Distinct t = (a b : IndexedSlot) (r : ℕ) → Stands t a → Stands t b → opening_in r a.slot.state ≡ true → opening_in r b.slot.state ≡ true → a.number ≡ b.number

established_in : (state : SlotState) (c : SlotConnection) → state ≡ Established c → opening_in c.opening state ≡ true
established_in state c is = rw is (eq-eqb c.opening c.opening refl)

apart_other : (device : ℕ) (t : ScannerTable) (a b : IndexedSlot) (r : ℕ) → Distinct t → Stands t a → opening_in r a.slot.state ≡ true → Stands t b → a.number ≢ b.number → OtherThan device (end_at device r) b
apart_other device t a b r distinct stands opens there apart c is same =
    let one : c.opening ≡ r = ap (λ (e : End). e.number) same in
    let two : opening_in r b.slot.state ≡ true = subst (λ (n : ℕ). opening_in n b.slot.state ≡ true) one (established_in b.slot.state c is) in
    apart (distinct a b r stands there opens two)

all_other : (device : ℕ) (t : ScannerTable) (a : IndexedSlot) (r : ℕ) → Distinct t → Stands t a → opening_in r a.slot.state ≡ true → (batch : List IndexedSlot) → Each (Stands t) batch → Each (Apart a) batch → Each (OtherThan device (end_at device r)) batch
all_other device t a r distinct stands opens [] stand apart = tt
all_other device t a r distinct stands opens (b ∷ batch) stand apart =
    (apart_other device t a b r distinct stands opens stand.0 apart.0, all_other device t a r distinct stands opens batch stand.1 apart.1)

own_made : (device : ℕ) (run : Bool) (place : IndexedSlot) (c : SlotConnection) → IsOwn device (end_at device c.opening) c.production (output_data run place.config place.slot) (connection_made run place c)
own_made device run place c = record { end = refl; is_new_data = refl; sequence = refl; count = refl; payload = refl }

abbrev OwnKept : Bool → IndexedSlot → List ℕ
OwnKept run place = output_data run place.config place.slot

-- one of them produces, and then others
own_first : (device : ℕ) (t : ScannerTable) (run : Bool) (clock : Ms) (place : IndexedSlot) (c : SlotConnection) (batch : List IndexedSlot) → Distinct t → Stands t place → place.slot.state ≡ Established c → Each (Stands t) batch → Each (Apart place) batch → (sent : List Production) → ProducerBooks sent (end_at device c.opening) c.production (OwnKept run place) → ProducerBooks (produced_more device sent (filter_map (slot_made run) (place ∷ batch))) (end_at device c.opening) (produced clock c.o_t_api_ms c.production) (OwnKept run place)
own_first device t run clock place c batch distinct stands is stand apart sent ok =
    rw (made_first run place (Established c) batch is)
    (others_in device run (end_at device c.opening) (produced clock c.o_t_api_ms c.production) (OwnKept run place) batch
    (all_other device t place c.opening distinct stands (established_in place.slot.state c is) batch stand apart)
    (sent ++ numbered device sent (connection_made run place c) ∷ [])
    (books_own sent (end_at device c.opening) c.production (OwnKept run place) device (connection_made run place c) clock c.o_t_api_ms (own_made device run place c) ok))

each_of : (P : IndexedSlot → Type 0) (batch : List IndexedSlot) (place : IndexedSlot) → Each P batch → Has place batch → P place
each_of P [] place each has = absurd has
each_of P (a ∷ batch) place each (inl is) = subst P is each.0
each_of P (a ∷ batch) place each (inr has) = each_of P batch place each.1 has

passed_step : (device : ℕ) (run : Bool) (place : IndexedSlot) (c : SlotConnection) (a : IndexedSlot) (state : SlotState) (rest : List Made) (clock : Ms) → a.slot.state ≡ state → OtherThan device (end_at device c.opening) a → ((sent : List Production) → ProducerBooks sent (end_at device c.opening) c.production (OwnKept run place) → ProducerBooks (produced_more device sent rest) (end_at device c.opening) (produced clock c.o_t_api_ms c.production) (OwnKept run place)) → (sent : List Production) → ProducerBooks sent (end_at device c.opening) c.production (OwnKept run place) → ProducerBooks (produced_more device sent (filter_map (λ (o : Option Made). o) (state_made run a state ∷ []) ++ rest)) (end_at device c.opening) (produced clock c.o_t_api_ms c.production) (OwnKept run place)
passed_step device run place c a Idle rest clock was other more sent ok = more sent ok
passed_step device run place c a (Opening o) rest clock was other more sent ok = more sent ok
passed_step device run place c a (Established d) rest clock was other more sent ok =
    more (sent ++ numbered device sent (connection_made run a d) ∷ []) (books_other sent (end_at device c.opening) c.production (OwnKept run place) device (connection_made run a d) (other d was) ok)
passed_step device run place c a (TimedOut link) rest clock was other more sent ok = more sent ok
passed_step device run place c a (Closing d) rest clock was other more sent ok = more sent ok

pub own_in : (device : ℕ) (t : ScannerTable) (run : Bool) (clock : Ms) (place : IndexedSlot) (c : SlotConnection) (batch : List IndexedSlot) → Distinct t → Stands t place → place.slot.state ≡ Established c → Each (Stands t) batch → EachTwo Apart batch → Has place batch → (sent : List Production) → ProducerBooks sent (end_at device c.opening) c.production (OwnKept run place) → ProducerBooks (produced_more device sent (filter_map (slot_made run) batch)) (end_at device c.opening) (produced clock c.o_t_api_ms c.production) (OwnKept run place)
own_in device t run clock place c [] distinct stands is stand apart has sent ok = absurd has
own_in device t run clock place c (a ∷ batch) distinct stands is stand apart (inl same) sent ok =
    subst (λ (x : IndexedSlot). ProducerBooks (produced_more device sent (filter_map (slot_made run) (x ∷ batch))) (end_at device c.opening) (produced clock c.o_t_api_ms c.production) (OwnKept run place)) (sym same)
    (own_first device t run clock place c batch distinct stands is stand.1 (subst (λ (x : IndexedSlot). Each (Apart x) batch) same apart.0) sent ok)
own_in device t run clock place c (a ∷ batch) distinct stands is stand apart (inr has) sent ok =
    let ne : a.number ≢ place.number = each_of (Apart a) batch place apart.0 has in
    let other = apart_other device t place a c.opening distinct stands (established_in place.slot.state c is) stand.0 (λ e. ne (sym e)) in
    rw (made_first run a a.slot.state batch refl)
    (passed_step device run place c a a.slot.state (filter_map (slot_made run) batch) clock refl other
    (λ more ok. own_in device t run clock place c batch distinct stands is stand.1 apart.1 has more ok) sent ok)

-- ---- the list of all that was sent

abbrev BatchBooks : ℕ → Bool → List Production → IndexedSlot → Type 0
BatchBooks device run sent place = (c : SlotConnection) → place.slot.state ≡ Established c → ProducerBooks sent (end_at device c.opening) c.production (OwnKept run place)

batch_more : (device : ℕ) (t : ScannerTable) (run : Bool) (sent : List Production) (a : IndexedSlot) (d : SlotConnection) (batch : List IndexedSlot) → Distinct t → Stands t a → a.slot.state ≡ Established d → Each (Stands t) batch → Each (Apart a) batch → Each (BatchBooks device run sent) batch → Each (BatchBooks device run (sent ++ numbered device sent (connection_made run a d) ∷ [])) batch
batch_more device t run sent a d [] distinct stands is stand apart ok = tt
batch_more device t run sent a d (b ∷ batch) distinct stands is stand apart ok = (
  (λ c was. books_other sent (end_at device c.opening) c.production (OwnKept run b) device (connection_made run a d)
      (λ same. apart_other device t a b d.opening distinct stands (established_in a.slot.state d is) stand.0 apart.0 c was (sym same)) (ok.0 c was)),
  batch_more device t run sent a d batch distinct stands is stand.1 apart.1 ok.1,
)

well_by : (device : ℕ) (t : ScannerTable) (run : Bool) (a : IndexedSlot) (state : SlotState) (batch : List IndexedSlot) → Distinct t → Stands t a → Each (Stands t) batch → Each (Apart a) batch → a.slot.state ≡ state → ((sent : List Production) → Each (BatchBooks device run sent) batch → WellMade sent → WellMade (produced_more device sent (filter_map (slot_made run) batch))) → (sent : List Production) → BatchBooks device run sent a → Each (BatchBooks device run sent) batch → WellMade sent → WellMade (produced_more device sent (filter_map (λ (o : Option Made). o) (state_made run a state ∷ []) ++ filter_map (slot_made run) batch))
well_by device t run a Idle batch distinct here stand apart was more sent own ok well = more sent ok well
well_by device t run a (Opening o) batch distinct here stand apart was more sent own ok well = more sent ok well
well_by device t run a (Established d) batch distinct here stand apart was more sent own ok well =
    more (sent ++ numbered device sent (connection_made run a d) ∷ []) (batch_more device t run sent a d batch distinct here was stand apart ok)
    (well_more sent (end_at device d.opening) d.production (OwnKept run a) device (connection_made run a d) (own_made device run a d) (own d was) well)
well_by device t run a (TimedOut link) batch distinct here stand apart was more sent own ok well = more sent ok well
well_by device t run a (Closing d) batch distinct here stand apart was more sent own ok well = more sent ok well

pub well_in : (device : ℕ) (t : ScannerTable) (run : Bool) (batch : List IndexedSlot) → Distinct t → Each (Stands t) batch → EachTwo Apart batch → (sent : List Production) → Each (BatchBooks device run sent) batch → WellMade sent → WellMade (produced_more device sent (filter_map (slot_made run) batch))
well_in device t run [] distinct stand apart sent ok well = well
well_in device t run (a ∷ batch) distinct stand apart sent ok well =
    rw (made_first run a a.slot.state batch refl)
    (well_by device t run a a.slot.state batch distinct stand.0 stand.1 apart.0 refl (λ more books fine. well_in device t run batch distinct stand.1 apart.1 more books fine) sent ok.0 ok.1 well)

-- ---- a tick

due_stand : (t : ScannerTable) → Each (Stands t) (due_slots t)
due_stand t = each_in_order (Stands t) by_due (filter (is_due t.clock) (indexed_slots t)) (each_filter (Stands t) (is_due t.clock) (indexed_slots t) (each_stands t))

due_apart : (t : ScannerTable) → EachTwo Apart (due_slots t)
due_apart t = two_in_order by_due (filter (is_due t.clock) (indexed_slots t)) (two_filter Apart (is_due t.clock) (indexed_slots t) (slots_apart t))

abbrev IsDue : ScannerTable → IndexedSlot → Type 0
IsDue t place = is_due t.clock place ≡ true

all_due : (t : ScannerTable) → Each (IsDue t) (due_slots t)
all_due t = each_in_order (IsDue t) by_due (filter (is_due t.clock) (indexed_slots t)) (each_passes (is_due t.clock) (indexed_slots t))

-- a place of the table is among its indexed_slots
found_has : (p : IndexedSlot → Bool) (all : List IndexedSlot) (place : IndexedSlot) → find p all ≡ Some place → Has place all
found_has p [] place is = absurd (let e = is in cc)
found_has p (a ∷ all) place is = found_step (p a) a (find p all) is (λ later. found_has p all place later) where
  found_step : (b : Bool) (a : IndexedSlot) (rest : Option IndexedSlot) → cond b (Some a) rest ≡ Some place → (rest ≡ Some place → Has place all) → (a ≡ place) ⊎ Has place all
  found_step true a rest is more = inl (let e = is in cc)
  found_step false a rest is more = inr (more is)

place_has : (t : ScannerTable) (place : IndexedSlot) → Stands t place → Has place (indexed_slots t)
place_has t place stands = found_has _ (indexed_slots t) place (slot_stands t place stands)

due_has : (t : ScannerTable) (place : IndexedSlot) → Stands t place → is_due t.clock place ≡ true → Has place (due_slots t)
due_has t place stands due = has_order by_due place (filter (is_due t.clock) (indexed_slots t)) (has_filter (is_due t.clock) place (indexed_slots t) due (place_has t place stands))

-- a place that is not due is none of those that are
not_due : (t : ScannerTable) (place : IndexedSlot) → Stands t place → is_due t.clock place ≡ false → (batch : List IndexedSlot) → Each (Stands t) batch → Each (IsDue t) batch → Each (Apart place) batch
not_due t place stands is [] stand due = tt
not_due t place stands is (b ∷ batch) stand due =
    ((λ same. absurd (let e : is_due t.clock b ≡ false = subst (λ (x : IndexedSlot). is_due t.clock x ≡ false) (same_slot t place b same stands stand.0) is in let d = due.0 in cc)), not_due t place stands is batch stand.1 due.1)

abbrev IsProduced : Relation
IsProduced t u number config was now = now ≡ produced_slot t.clock was

was_produced : (t : ScannerTable) (place : IndexedSlot) → Stands (produced_table t) place → Was IsProduced t (produced_table t) place
was_produced t place stands = was_of IsProduced t (produced_table t) place (produced_goes IsProduced (λ t number config slot. refl) t) stands

produced_old : (b : Bool) (clock : Ms) (r : ℕ) (was : Slot) (state : SlotState) → was.state ≡ state → opening_in r (cond b (record was { state = produced_state clock was.state }) was).state ≡ opening_in r was.state
produced_old true clock r was Idle is = rw is refl
produced_old true clock r was (Opening o) is = rw is refl
produced_old true clock r was (Established c) is = rw is refl
produced_old true clock r was (TimedOut link) is = rw is refl
produced_old true clock r was (Closing c) is = rw is refl
produced_old false clock r was state is = refl

was_opened : (t : ScannerTable) (place : IndexedSlot) (r : ℕ) (was : Was IsProduced t (produced_table t) place) → opening_in r place.slot.state ≡ true → opening_in r was.slot.state ≡ true
was_opened t place r was opens = sym (produced_old (state_is_due t.clock was.slot.state) t.clock r was.slot was.slot.state refl) ∙ ap (λ (s : Slot). opening_in r s.state) (sym was.holds) ∙ opens

request_in : (state : SlotState) (o : opening.PendingOpen) → state ≡ Opening o → opening_in o.request state ≡ true
request_in state o is = rw is (eq-eqb o.request o.request refl)

-- a slot's books after the productions: it produced, or others did
slot_books : (sent : List Production) (device : ℕ) (t : ScannerTable) (place : IndexedSlot) (b : Bool) (state : SlotState) → ScannerBooks sent device t → Stands t place → place.slot.state ≡ state → state_is_due t.clock state ≡ b → StateBooks (produced_more device sent (places_made t)) device t.run t.next_request place.config (cond b (record place.slot { state = produced_state t.clock state }) place.slot) (cond b (produced_state t.clock state) state)
slot_books sent device t place b Idle ok stands is due = elim b as (λ b. StateBooks (produced_more device sent (places_made t)) device t.run t.next_request place.config (cond b (record place.slot { state = Idle }) place.slot) (cond b Idle Idle)) [ true ↦ tt | false ↦ tt ]
slot_books sent device t place true (Opening o) ok stands is due = absurd (let e = due in cc)
slot_books sent device t place false (Opening o) ok stands is due =
    let was = subst (λ (s : SlotState). StateBooks sent device t.run t.next_request place.config place.slot s) is (ok.slots place stands) in
    let none : is_due t.clock place ≡ false = rw is refl in (
      was.0,
      unproduced_in device t.run (end_at device o.request) (due_slots t)
          (all_other device t place o.request ok.distinct stands (request_in place.slot.state o is) (due_slots t) (due_stand t) (not_due t place stands none (due_slots t) (due_stand t) (all_due t))) sent was.1,
    )
slot_books sent device t place true (Established c) ok stands is due =
    let was = subst (λ (s : SlotState). StateBooks sent device t.run t.next_request place.config place.slot s) is (ok.slots place stands) in
    let at : is_due t.clock place ≡ true = rw is due in
    (was.0, own_in device t t.run t.clock place c (due_slots t) ok.distinct stands is (due_stand t) (due_apart t) (due_has t place stands at) sent was.1)
slot_books sent device t place false (Established c) ok stands is due =
    let was = subst (λ (s : SlotState). StateBooks sent device t.run t.next_request place.config place.slot s) is (ok.slots place stands) in
    let none : is_due t.clock place ≡ false = rw is due in (
      was.0,
      others_in device t.run (end_at device c.opening) c.production (OwnKept t.run place) (due_slots t)
          (all_other device t place c.opening ok.distinct stands (established_in place.slot.state c is) (due_slots t) (due_stand t) (not_due t place stands none (due_slots t) (due_stand t) (all_due t))) sent was.1,
    )
slot_books sent device t place b (TimedOut link) ok stands is due = elim b as (λ b. StateBooks (produced_more device sent (places_made t)) device t.run t.next_request place.config (cond b (record place.slot { state = TimedOut link }) place.slot) (cond b (TimedOut link) (TimedOut link))) [ true ↦ tt | false ↦ tt ]
slot_books sent device t place b (Closing c) ok stands is due = elim b as (λ b. StateBooks (produced_more device sent (places_made t)) device t.run t.next_request place.config (cond b (record place.slot { state = Closing c }) place.slot) (cond b (Closing c) (Closing c))) [ true ↦ tt | false ↦ tt ]

cond_state : (b : Bool) (slot : Slot) (state : SlotState) → (cond b (record slot { state = state }) slot).state ≡ cond b state slot.state
cond_state true slot state = refl
cond_state false slot state = refl

late_other : (sent : List Production) (device : ℕ) (t : ScannerTable) (r : ℕ) → ScannerBooks sent device t → t.next_request ≤ r → (batch : List IndexedSlot) → Each (Stands t) batch → Each (OtherThan device (end_at device r)) batch
late_other sent device t r ok up [] stand = tt
late_other sent device t r ok up (b ∷ batch) stand =
    ((λ c is same. let less = (subst (λ (s : SlotState). StateBooks sent device t.run t.next_request b.config b.slot s) is (ok.slots b stand.0)).0 in let one : c.opening ≡ r = ap (λ (e : End). e.number) same in absurd (omega (arith, less, one, up))), late_other sent device t r ok up batch stand.1)

producing_keeps : (sent : List Production) (device : ℕ) (t : ScannerTable) → ScannerBooks sent device t → ScannerBooks (produced_more device sent (places_made t)) device (produced_table t)
unfolding produced_table
producing_keeps sent device t ok = record {
  unproduced = λ r up. unproduced_in device t.run (end_at device r) (due_slots t) (late_other sent device t r ok up (due_slots t) (due_stand t)) sent (ok.unproduced r up);
  slots = λ place stands.
      let was = was_produced t place stands in
      let b = state_is_due t.clock was.slot.state in
      subst (λ (s : Slot). StateBooks (produced_more device sent (places_made t)) device t.run t.next_request place.config s s.state) (sym was.holds)
      (subst (StateBooks (produced_more device sent (places_made t)) device t.run t.next_request place.config (produced_slot t.clock was.slot)) (sym (cond_state b was.slot (produced_state t.clock was.slot.state)))
      (slot_books sent device t (indexed_at place.number place.config was.slot) b was.slot.state ok was.stands refl refl));
  distinct = λ a b r one two first second.
      let was = was_produced t a one in
      let too = was_produced t b two in
      ok.distinct (indexed_at a.number a.config was.slot) (indexed_at b.number b.config too.slot) r was.stands too.stands (was_opened t a r was first) (was_opened t b r too second);
}

each_books : (sent : List Production) (device : ℕ) (t : ScannerTable) → ScannerBooks sent device t → (batch : List IndexedSlot) → Each (Stands t) batch → Each (BatchBooks device t.run sent) batch
each_books sent device t ok [] stand = tt
each_books sent device t ok (b ∷ batch) stand =
    ((λ c is. (subst (λ (s : SlotState). StateBooks sent device t.run t.next_request b.config b.slot s) is (ok.slots b stand.0)).1), each_books sent device t ok batch stand.1)

-- ---- a step

-- what a scanner and the list of all that was sent say of one another
pub record Agrees (sent : List Production) (device : ℕ) (t : ScannerTable) : Type 0 where
  pub books : ScannerBooks sent device t
  pub well : WellMade sent

abbrev NextAgrees : List Production → ℕ → Next → Type 0
NextAgrees sent device next = Agrees sent device next.1

same_sent : (sent : List Production) (device : ℕ) (t : ScannerTable) (said : Result Next StepFault) → Agrees sent device t → Leads (Keeps sent device) t said → IfOk said (NextAgrees sent device)
same_sent sent device t (Err why) ok leads = tt
same_sent sent device t (Ok next) ok leads = record { books = leads ok.books; well = ok.well }

tick_step : (a b : Bool) (sent : List Production) (device : ℕ) (t : ScannerTable) (ms : ℕ) → Agrees sent device t → IfOk (cond a (Err fault.TickTooLong) (cond b (Err fault.ClockEnd) (Ok (ticked (moved_on (clocked_table t ms)))))) (NextAgrees (produced_more device sent (places_made (advanced (clocked_table t ms)).table)) device)
unfolding explicit_timed_out
tick_step true b sent device t ms ok = tt
tick_step false true sent device t ms ok = tt
tick_step false false sent device t ms ok =
    let now = clocked_table t ms in
    let u = (explicit_timed_out (advanced now).table).table in
    let kept = books_quietly sent device in
    let books = timed_out_leads (Keeps sent device) kept (advanced now).table (advanced_leads (Keeps sent device) kept.slots now (kept.clocked t ms ok.books)) in
    record {
      books = producing_keeps sent device u books;
      well = well_in device u u.run (due_slots u) books.distinct (due_stand u) (due_apart u) sent (each_books sent device u books (due_slots u) (due_stand u)) ok.well;
    }

tick_agrees : (sent : List Production) (device : ℕ) (t : ScannerTable) (ms : ℕ) → Agrees sent device t → IfOk (tick t ms) (NextAgrees (produced_more device sent (places_made (advanced (clocked_table t ms)).table)) device)
unfolding tick
tick_agrees sent device t ms ok = tick_step (nat_lt longest_tick ms) (nat_lt clock_end (t.clock.0 + ms)) sent device t ms ok

-- a further block of ids changes no slot
ids_books : (sent : List Production) (device : ℕ) (t : ScannerTable) (block : IdBlock) → ScannerBooks sent device t → ScannerBooks sent device (taken_table t block)
ids_books sent device t block ok = record {
  unproduced = ok.unproduced;
  slots = λ place stands. ok.slots place (record { config = stands.config; slot = stands.slot });
  distinct = λ a b r one two. ok.distinct a b r (record { config = one.config; slot = one.slot }) (record { config = two.config; slot = two.slot });
}

pub scanner_agrees : (sent : List Production) (device : ℕ) (t : ScannerTable) (event : Event) → Agrees sent device t → IfOk (scanner_step t event) (NextAgrees (produced_more device sent (scanner_makes t event)) device)
scanner_agrees sent device t (StreamOpened stream peer) ok = same_sent sent device t (scanner_step t (StreamOpened stream peer)) ok (streamed_leads (Keeps sent device) (books_quietly sent device) t stream peer)
scanner_agrees sent device t (Frame stream bytes) ok = same_sent sent device t (scanner_step t (Frame stream bytes)) ok (frame_leads (Keeps sent device) t (books_quietly sent device) stream bytes)
scanner_agrees sent device t (StreamCut stream) ok = same_sent sent device t (scanner_step t (StreamCut stream)) ok (cut_leads (Keeps sent device) (books_quietly sent device) t stream)
scanner_agrees sent device t (Datagram peer bytes) ok = same_sent sent device t (scanner_step t (Datagram peer bytes)) ok (received_leads (Keeps sent device) t (λ same. same) (accepting_keeps sent device t) peer bytes)
scanner_agrees sent device t (Write point bytes) ok = same_sent sent device t (scanner_step t (Write point bytes)) ok (write_leads (Keeps sent device) t (writing_keeps sent device t) point bytes)
scanner_agrees sent device t (Tick ms) ok = tick_agrees sent device t ms ok
scanner_agrees sent device t (Mode run) ok = same_sent sent device t (scanner_step t (Mode run)) ok (mode_keeps sent device t run)
scanner_agrees sent device t (Start slot) ok = same_sent sent device t (scanner_step t (Start slot)) ok (start_leads (Keeps sent device) (books_quietly sent device).slots t slot)
scanner_agrees sent device t (Stop slot) ok = same_sent sent device t (scanner_step t (Stop slot)) ok (stop_leads (Keeps sent device) (books_quietly sent device).slots t slot)
scanner_agrees sent device t (Explicit target number bytes) ok = same_sent sent device t (scanner_step t (Explicit target number bytes)) ok (explicit_leads (Keeps sent device) (books_quietly sent device) t target number bytes)
scanner_agrees sent device t (Ids block) ok = ids_hold (λ said. IfOk said (NextAgrees sent device)) t block (λ why. tt) (λ may. record { books = ids_books sent device t block ok.books; well = ok.well })
scanner_agrees sent device t other ok = same_sent sent device t (scanner_step t other) ok (passive_leads (Keeps sent device) (books_quietly sent device).slots t other refl)
