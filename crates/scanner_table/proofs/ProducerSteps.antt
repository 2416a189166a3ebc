-- A slot's producer has the slot's number and target; a slot waits for a reply no longer than the open timeout.
use Rattle.std.proofs.Common.{◌≡◌, ◌≤◌, ℕ, ◌+◌, Bool, true, false, cond, refl, sym, subst, arith}
use Rattle.cip_types.specs.declared.names.Ms.{Ms}
use Rattle.cip_types.specs.declared.names.Node.{Node}
use Rattle.cip_productions.specs.Kinds.{is_owner}
use Rattle.conn_state.specs.declared.names.Link.{Link}
use Rattle.scanner_table.specs.declared.profile.ScannerProfile.{ScannerProfile}
use Rattle.scanner_table.specs.declared.profile.SlotConfig.{SlotConfig}
use Rattle.scanner_table.specs.declared.slot.Slot.{Slot}
use Rattle.scanner_table.specs.declared.slot.SlotState.{SlotState}
use Rattle.scanner_table.specs.declared.slot.SlotState.TheVariants.{Idle, Opening, Established, TimedOut, Closing}
use Rattle.scanner_table.specs.declared.table.ScannerTable.{ScannerTable}
use Rattle.scanner_table.specs.Productions.{written_state, state_is_due, produced_state, produced_slot, produced_table}
use Rattle.scanner_table.specs.Step.{scanner_table}
use Rattle.scanner_table.specs.Runs.{StepsKeep, IsLaw}
use Rattle.scanner_table.specs.Producers.{StateProducesAs, SlotsProduceAsThemselves}
use Rattle.scanner_table.specs.Waiting.{StateWaitsTo, SlotsWaitInTime}
use Rattle.scanner_table.specs.Lemmas.Events.{steps_lead, law_of}
use Rattle.scanner_table.specs.Lemmas.Slotwise.{Later, SlotwiseAlways, Goes, goes_always, Property, Stays, of_each_slot}
use Rattle.scanner_table.specs.Lemmas.FreshSlots.{fresh_rests}

-- ---- producers

abbrev Produces : Property
Produces t number config slot = StateProducesAs number config.target slot.state

produces_is : (number : ℕ) (target : Node) (state other : SlotState) → state ≡ other → StateProducesAs number target state → StateProducesAs number target other
produces_is number target state other is produces = subst (StateProducesAs number target) is produces

written_produces : (number : ℕ) (target : Node) (state : SlotState) → StateProducesAs number target state → StateProducesAs number target (written_state state)
written_produces number target Idle produces = tt
written_produces number target (Opening o) produces = tt
written_produces number target (Established c) produces = produces
written_produces number target (TimedOut link) produces = tt
written_produces number target (Closing c) produces = tt

produced_produces : (clock : Ms) (number : ℕ) (target : Node) (state : SlotState) → StateProducesAs number target state → StateProducesAs number target (produced_state clock state)
produced_produces clock number target Idle produces = tt
produced_produces clock number target (Opening o) produces = tt
produced_produces clock number target (Established c) produces = produces
produced_produces clock number target (TimedOut link) produces = tt
produced_produces clock number target (Closing c) produces = tt

due_produces : (b : Bool) (clock : Ms) (number : ℕ) (target : Node) (slot : Slot) → StateProducesAs number target slot.state → StateProducesAs number target (cond b (record slot { state = produced_state clock slot.state }) slot).state
due_produces true clock number target slot produces = produced_produces clock number target slot.state produces
due_produces false clock number target slot produces = produces

moded_produces : (b : Bool) (number : ℕ) (target : Node) (slot : Slot) → StateProducesAs number target slot.state → StateProducesAs number target (cond b (record slot { state = written_state slot.state }) slot).state
moded_produces true number target slot produces = written_produces number target slot.state produces
moded_produces false number target slot produces = produces

idle_produces : (number : ℕ) (target : Node) (state : SlotState) → state ≡ Idle → StateProducesAs number target state
idle_produces number target state is = rw is tt

timed_out_produces : (number : ℕ) (target : Node) (link : Link) (state : SlotState) → state ≡ TimedOut link → StateProducesAs number target state
timed_out_produces number target link state is = rw is tt

produces_always : SlotwiseAlways (Stays Produces)
produces_always = record {
  widely = record {
    stays = λ t u number config slot later produces. produces;
    after = λ t u v number config a b c first next before behind produces. behind (before produces);
    opening = λ t indexed closed_before left produces. tt;
    idling = λ t indexed slot idle produces. idle_produces indexed.number indexed.config.target slot.state idle.state;
    timing_out = λ t indexed link slot is becomes produces. timed_out_produces indexed.number indexed.config.target link slot.state becomes.state;
    closing = λ t indexed link desired_up is produces. tt;
    producing = λ t number config slot produces. due_produces (state_is_due t.clock slot.state) t.clock number config.target slot produces;
    moding = λ t run indexed produces. moded_produces (is_owner indexed.config.kind) indexed.number indexed.config.target indexed.slot produces;
  };
  establishing = λ t indexed o success is requested produces. (refl, refl);
  writing = λ t indexed bytes produces. written_produces indexed.number indexed.config.target indexed.slot.state produces;
  accepting = λ t indexed d c bytes is produces. produces_is indexed.number indexed.config.target indexed.slot.state (Established c) is.established produces;
}

producers_keep : StepsKeep SlotsProduceAsThemselves
producers_keep t event next is all = of_each_slot Produces t next.1 (steps_lead (Goes (Stays Produces)) (goes_always (Stays Produces) produces_always) t event next is) all

pub producers_law : IsLaw SlotsProduceAsThemselves
producers_law = law_of SlotsProduceAsThemselves producers_keep
    (λ profile number indexed is. idle_produces indexed.number indexed.config.target indexed.slot.state (fresh_rests profile number indexed is))

-- ---- waiting

abbrev Waits : Property
Waits t number config slot = StateWaitsTo (t.clock.0 + t.profile.open_timeout) slot.state

waits_longer : (m n : ℕ) (state : SlotState) → m ≤ n → StateWaitsTo m state → StateWaitsTo n state
waits_longer m n Idle up waits = tt
waits_longer m n (Opening o) up waits = omega (arith, waits, up)
waits_longer m n (Established c) up waits = tt
waits_longer m n (TimedOut link) up waits = tt
waits_longer m n (Closing c) up waits = omega (arith, waits, up)

longer : (t u : ScannerTable) → Later t u → t.clock.0 + t.profile.open_timeout ≤ u.clock.0 + u.profile.open_timeout
longer t u later = subst (λ (p : ScannerProfile). t.clock.0 + t.profile.open_timeout ≤ u.clock.0 + p.open_timeout) (sym later.profile) (omega (arith, later.clock))

written_waits : (n : ℕ) (state : SlotState) → StateWaitsTo n state → StateWaitsTo n (written_state state)
written_waits n Idle waits = tt
written_waits n (Opening o) waits = waits
written_waits n (Established c) waits = tt
written_waits n (TimedOut link) waits = tt
written_waits n (Closing c) waits = waits

produced_waits : (n : ℕ) (clock : Ms) (state : SlotState) → StateWaitsTo n state → StateWaitsTo n (produced_state clock state)
produced_waits n clock Idle waits = tt
produced_waits n clock (Opening o) waits = waits
produced_waits n clock (Established c) waits = tt
produced_waits n clock (TimedOut link) waits = tt
produced_waits n clock (Closing c) waits = waits

due_waits : (b : Bool) (n : ℕ) (clock : Ms) (slot : Slot) → StateWaitsTo n slot.state → StateWaitsTo n (cond b (record slot { state = produced_state clock slot.state }) slot).state
due_waits true n clock slot waits = produced_waits n clock slot.state waits
due_waits false n clock slot waits = waits

moded_waits : (b : Bool) (n : ℕ) (slot : Slot) → StateWaitsTo n slot.state → StateWaitsTo n (cond b (record slot { state = written_state slot.state }) slot).state
moded_waits true n slot waits = written_waits n slot.state waits
moded_waits false n slot waits = waits

idle_waits : (n : ℕ) (state : SlotState) → state ≡ Idle → StateWaitsTo n state
idle_waits n state is = rw is tt

timed_out_waits : (n : ℕ) (link : Link) (state : SlotState) → state ≡ TimedOut link → StateWaitsTo n state
timed_out_waits n link state is = rw is tt

table_waits : (t : ScannerTable) (number : ℕ) (config : SlotConfig) (slot : Slot) → Waits t number config slot → Waits (produced_table t) number config (produced_slot t.clock slot)
unfolding produced_table
table_waits t number config slot waits = due_waits (state_is_due t.clock slot.state) (t.clock.0 + t.profile.open_timeout) t.clock slot waits

waits_always : SlotwiseAlways (Stays Waits)
waits_always = record {
  widely = record {
    stays = λ t u number config slot later waits. waits_longer (t.clock.0 + t.profile.open_timeout) (u.clock.0 + u.profile.open_timeout) slot.state (longer t u later) waits;
    after = λ t u v number config a b c first next before behind waits. behind (before waits);
    opening = λ t indexed closed_before left waits. omega arith;
    idling = λ t indexed slot idle waits. idle_waits (t.clock.0 + t.profile.open_timeout) slot.state idle.state;
    timing_out = λ t indexed link slot is becomes waits. timed_out_waits (t.clock.0 + t.profile.open_timeout) link slot.state becomes.state;
    closing = λ t indexed link desired_up is waits. omega arith;
    producing = table_waits;
    moding = λ t run indexed waits. moded_waits (is_owner indexed.config.kind) (t.clock.0 + t.profile.open_timeout) indexed.slot waits;
  };
  establishing = λ t indexed o success is requested waits. tt;
  writing = λ t indexed bytes waits. written_waits (t.clock.0 + t.profile.open_timeout) indexed.slot.state waits;
  accepting = λ t indexed d c bytes is waits. tt;
}

waits_keep : StepsKeep SlotsWaitInTime
waits_keep t event next is all = of_each_slot Waits t next.1 (steps_lead (Goes (Stays Waits)) (goes_always (Stays Waits) waits_always) t event next is) all

pub waits_law : IsLaw SlotsWaitInTime
waits_law = law_of SlotsWaitInTime waits_keep
    (λ profile number indexed is. idle_waits ((scanner_table profile).clock.0 + profile.open_timeout) indexed.slot.state (fresh_rests profile number indexed is))
