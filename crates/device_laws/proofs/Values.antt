-- What slots produce is what their outputs held before the event.
use Rattle.std.proofs.Common.{◌≡◌, ℕ, ◌==◌, Bool, true, false, cond, List, [], ◌∷◌, Option, Some, None, refl, sym, ◌∙◌, ap, subst, eqb-true, eq-eqb}
use Rattle.std.specs.List.{AllByRecursion, filter_map}
use Rattle.std.specs.Option.{IfSome}
use Rattle.cip_types.specs.declared.names.Ms.{Ms}
use Rattle.cip_events.specs.declared.event.Event.TheVariants.{Tick}
use Rattle.cip_productions.specs.Kinds.{is_owner}
use Rattle.scanner_table.specs.declared.slot.SlotConnection.{SlotConnection}
use Rattle.scanner_table.specs.declared.slot.Slot.{Slot}
use Rattle.scanner_table.specs.declared.slot.SlotState.{SlotState}
use Rattle.scanner_table.specs.declared.slot.SlotState.TheVariants.{Idle, Opening, Established, TimedOut, Closing}
use Rattle.scanner_table.specs.declared.table.ScannerTable.{ScannerTable}
use Rattle.scanner_table.specs.Opening.{opening_slot, closing_slot}
use Rattle.scanner_table.specs.Productions.{by_due, due_slots, is_due, produced_state, state_is_due, written_state}
use Rattle.scanner_table.specs.Slots.{IndexedSlot, indexed_slots}
use Rattle.scanner_table.specs.Ticks.{clocked_table, advanced}
use Rattle.device_laws.specs.Newest.{came_from}
use Rattle.scanner_table.specs.Lemmas.Moves.{Kept}
use Rattle.scanner_table.specs.Lemmas.SlotLookups.{Each, Stands, each_filter, each_in_order, each_stands, slot_stands, indexed_at}
use Rattle.scanner_table.specs.Lemmas.Slotwise.{Goes, Relation, Slotwise, goes_kept, goes_widely, was_of}
use Rattle.device_laws.specs.Made.{Made, places_made, slot_made, state_made}
use Rattle.device_laws.specs.Values.{IsSlots, SlotsProduceTheirOutputs}
use Rattle.device_laws.specs.Lemmas.Quietly.{advanced_leads}

-- ---- an output stays, and what is established was so by the same opening

pub record StaysOut (was now : Slot) : Type 0 where
  pub output : now.output ≡ was.output
  pub opening : (c : SlotConnection) → now.state ≡ Established c → came_from c.opening was.state ≡ true

abbrev Outputs : Relation
Outputs t u number config was now = StaysOut was now

own_opening : (state : SlotState) (c : SlotConnection) → state ≡ Established c → came_from c.opening state ≡ true
own_opening state c is = rw is (eq-eqb c.opening c.opening refl)

came_so : (n : ℕ) (state : SlotState) → came_from n state ≡ true → (b : SlotConnection) × (state ≡ Established b) × ((b.opening == n) ≡ true)
came_so n Idle is = absurd (let e = is in cc)
came_so n (Opening o) is = absurd (let e = is in cc)
came_so n (Established c) is = (c, refl, is)
came_so n (TimedOut link) is = absurd (let e = is in cc)
came_so n (Closing c) is = absurd (let e = is in cc)

came_as : (a b : ℕ) (state : SlotState) → (a == b) ≡ true → came_from a state ≡ true → came_from b state ≡ true
came_as a b state same is = subst (λ (n : ℕ). came_from n state ≡ true) (eqb-true a b same) is

out_after : (a b c : Slot) → StaysOut a b → StaysOut b c → StaysOut a c
out_after a b c first next = record {
  output = next.output ∙ first.output;
  opening = λ d is. let m = came_so d.opening b.state (next.opening d is) in came_as m.0.opening d.opening a.state m.2 (first.opening m.0 m.1);
}

not_open : (was now : Slot) (state : SlotState) → now.state ≡ state → ((c : SlotConnection) → state ≡ Established c → ⊥) → now.output ≡ was.output → StaysOut was now
not_open was now state is never output = record { output = output; opening = λ c so. absurd (never c (sym is ∙ so)) }

changed_out : (b : Bool) (was : Slot) (next : SlotState → SlotState) → ((c : SlotConnection) → next was.state ≡ Established c → came_from c.opening was.state ≡ true) → StaysOut was (cond b (record was { state = next was.state }) was)
changed_out true was next same = record { output = refl; opening = same }
changed_out false was next same = record { output = refl; opening = λ c is. own_opening was.state c is }

-- the opening number of an established state
abbrev opening_of : SlotConnection → SlotState → ℕ
opening_of other Idle = other.opening
opening_of other (Opening o) = other.opening
opening_of other (Established c) = c.opening
opening_of other (TimedOut link) = other.opening
opening_of other (Closing c) = other.opening

written_out : (state : SlotState) (c : SlotConnection) → written_state state ≡ Established c → came_from c.opening state ≡ true
written_out Idle c is = absurd (let e = is in cc)
written_out (Opening o) c is = absurd (let e = is in cc)
written_out (Established a) c is = let same : a.opening ≡ c.opening = ap (opening_of a) is in eq-eqb a.opening c.opening same
written_out (TimedOut link) c is = absurd (let e = is in cc)
written_out (Closing a) c is = absurd (let e = is in cc)

made_out : (clock : Ms) (state : SlotState) (c : SlotConnection) → produced_state clock state ≡ Established c → came_from c.opening state ≡ true
made_out clock Idle c is = absurd (let e = is in cc)
made_out clock (Opening o) c is = absurd (let e = is in cc)
made_out clock (Established a) c is = let same : a.opening ≡ c.opening = ap (opening_of a) is in eq-eqb a.opening c.opening same
made_out clock (TimedOut link) c is = absurd (let e = is in cc)
made_out clock (Closing a) c is = absurd (let e = is in cc)

outputs_slotwise : Slotwise Outputs
outputs_slotwise = record {
  stays = λ t u number config slot later. record { output = refl; opening = λ c is. own_opening slot.state c is };
  after = λ t u v number config a b c one two first next. out_after a b c first next;
  opening = λ t place resting left. not_open place.slot (opening_slot t place) (opening_slot t place).state refl (λ c is. let e = is in cc) refl;
  idling = λ t place slot idle. not_open place.slot slot Idle idle.state (λ c is. let e = is in cc) idle.output;
  timing_out = λ t place link slot is becomes. not_open place.slot slot (TimedOut link) becomes.state (λ d now. let e = now in cc) becomes.output;
  closing = λ t place link desired_up is. not_open place.slot (closing_slot t link desired_up place.slot) (closing_slot t link desired_up place.slot).state refl (λ d now. let e = now in cc) refl;
  producing = λ t number config slot. changed_out (state_is_due t.clock slot.state) slot (produced_state t.clock) (made_out t.clock slot.state);
  moding = λ t run place. changed_out (is_owner place.config.kind) place.slot written_state (written_out place.slot.state);
}

-- the mode stays while time passes
abbrev SameRun : ScannerTable → ScannerTable → Type 0
SameRun t u = u.run ≡ t.run

runs_kept : Kept SameRun
runs_kept = record {
  same = λ t. refl;
  after = λ t u v first next. next ∙ first;
  opening = λ t place stands resting in_turn left. refl;
  idling = λ t place slot stands idle. refl;
  timing_out = λ t place link slot stands is becomes. refl;
  closing = λ t place link desired_up stands is. refl;
}

-- ---- a tick

made_value : (t u : ScannerTable) → Goes Outputs t u → SameRun t u → (place : IndexedSlot) → Stands u place → (state : SlotState) → place.slot.state ≡ state → IfSome (state_made u.run place state) (IsSlots t)
made_value t u goes run place stands Idle is = tt
made_value t u goes run place stands (Opening o) is = tt
made_value t u goes run place stands (Established c) is =
    let was = was_of Outputs t u place goes stands in
    record {
      place = indexed_at place.number place.config was.slot;
      made = record {
        there = slot_stands t (indexed_at place.number place.config was.slot) was.stands;
        opening = was.holds.opening c is;
        value = was.holds.output;
        run = run;
      };
    }
made_value t u goes run place stands (TimedOut link) is = tt
made_value t u goes run place stands (Closing c) is = tt

made_step : (o : Option Made) (t : ScannerTable) (run : Bool) (place : IndexedSlot) (rest : List IndexedSlot) → slot_made run place ≡ o → IfSome o (IsSlots t) → AllByRecursion (IsSlots t) (filter_map (slot_made run) rest) → AllByRecursion (IsSlots t) (filter_map (slot_made run) (place ∷ rest))
made_step None t run place rest is made more = rw is more
made_step (Some m) t run place rest is made more = rw is (made, more)

all_values : (t u : ScannerTable) → Goes Outputs t u → SameRun t u → (rest : List IndexedSlot) → Each (Stands u) rest → AllByRecursion (IsSlots t) (filter_map (slot_made u.run) rest)
all_values t u goes run [] stand = tt
all_values t u goes run (place ∷ rest) stand =
    made_step (slot_made u.run place) t u.run place rest refl (made_value t u goes run place stand.0 place.slot.state refl) (all_values t u goes run rest stand.1)

due_values : (t u : ScannerTable) → Goes Outputs t u → SameRun t u → AllByRecursion (IsSlots t) (places_made u)
due_values t u goes run = all_values t u goes run (due_slots u) (each_in_order (Stands u) by_due _ (each_filter (Stands u) (is_due u.clock) (indexed_slots u) (each_stands u)))

clocked_run : (t : ScannerTable) (ms : ℕ) → SameRun t (clocked_table t ms)
clocked_run t ms = refl

pub outputs_produced : SlotsProduceTheirOutputs
outputs_produced t (Tick ms) =
    let kept = goes_kept Outputs outputs_slotwise in
    let now = clocked_table t ms in
    due_values t (advanced now).table (kept.after t now (advanced now).table ((goes_widely Outputs outputs_slotwise).clocked t ms) (advanced_leads (Goes Outputs) kept now))
    (advanced_leads SameRun runs_kept now ∙ clocked_run t ms)
outputs_produced t other = tt
