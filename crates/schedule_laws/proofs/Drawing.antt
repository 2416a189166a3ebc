-- A slot that has an opening number had it before, or drew it since.
use Rattle.std.proofs.Common.{◌≡◌, ◌≤◌, ◌⊎◌, inl, inr, ℕ, List, [], ◌∷◌, ◌++◌, Some, None, Result, Ok, Err, refl, sym, ◌∙◌, ap, subst, arith}
use Rattle.std.proofs.lemmas.Option.{same_Some}
use Rattle.device_laws.specs.Lemmas.OpeningNumbers.{written_number, below, due_number, moded_number}
use Rattle.cip_events.specs.declared.event.Event.{Event}
use Rattle.cip_events.specs.declared.event.StepFault.{StepFault}
use Rattle.cip_productions.specs.Kinds.{is_owner}
use Rattle.scanner_table.specs.declared.slot.Slot.{Slot}
use Rattle.scanner_table.specs.declared.slot.SlotState.{SlotState}
use Rattle.scanner_table.specs.declared.table.ScannerTable.{ScannerTable}
use Rattle.scanner_table.specs.Effects.{Next}
use Rattle.scanner_table.specs.Productions.{state_is_due, produced_slot}
use Rattle.scanner_table.specs.Slots.{IndexedSlot, slot_at}
use Rattle.scanner_table.specs.Step.{scanner_step, scanner_table}
use Rattle.device_laws.specs.Newest.{OpeningsAreNumbered}
use Rattle.scanner_table.specs.Runs.{left_by, table_after, IsLaw}
use Rattle.scanner_table.specs.Lemmas.Moves.{Leads, step_leads}
use Rattle.scanner_table.specs.Lemmas.SlotLookups.{indexed_at, slot_is, slot_stands}
use Rattle.scanner_table.specs.Lemmas.Slotwise.{Relation, SlotwiseAlways, Goes, same_later, stays_goes, goes_always, was_of}
use Rattle.device_laws.specs.ProductionRuns.{opening_number, OpeningsDiffer, SlotsHaveOpeningsOfTheirOwn}
use Rattle.schedule_laws.specs.OpeningNumbers.{HasOpening, OpeningNumbersNameOneSlot}

-- ---- one step

-- the state has an opening number that the other had, or that is not below the next one
abbrev Drew : ℕ → SlotState → SlotState → Type 0
Drew next was now = (number : ℕ) → opening_number now ≡ Some number → (opening_number was ≡ Some number) ⊎ (next ≤ number)

-- a slot that has an opening number had it before, or drew it since
abbrev Draws : Relation
Draws t u number config was now = Drew t.next_request was.state now.state

-- the state's opening stays
kept : (next : ℕ) (was now : SlotState) → opening_number now ≡ opening_number was → Drew next was now
kept next was now same number has = inl (sym same ∙ has)

-- no opening is left
none_left : (next : ℕ) (was now : SlotState) → opening_number now ≡ None → Drew next was now
none_left next was now none number has = absurd (let e : None ≡ Some number = sym none ∙ has in cc)

drew_after : (next more : ℕ) (a b c : SlotState) → next ≤ more → Drew next a b → Drew more b c → Drew next a c
drew_after next more a b c up before behind number has = step (behind number has) where
  step : (opening_number b ≡ Some number) ⊎ (more ≤ number) → (opening_number a ≡ Some number) ⊎ (next ≤ number)
  step (inl mid) = before number mid
  step (inr le) = inr (omega (arith, up, le))

draws_always : SlotwiseAlways Draws
draws_always = record {
  widely = record {
    stays = λ t u number config slot later. kept t.next_request slot.state slot.state refl;
    after = λ t u v number config a b c first next before behind. drew_after t.next_request u.next_request a.state b.state c.state first.requests before behind;
    opening = λ t place closed_before left number has. inr (let same = same_Some t.next_request number has in omega (arith, same));
    idling = λ t place slot idle. none_left t.next_request place.slot.state slot.state (ap opening_number idle.state);
    timing_out = λ t place link slot is becomes. none_left t.next_request place.slot.state slot.state (ap opening_number becomes.state);
    closing = λ t place link desired_up is number has. absurd (let e = has in cc);
    producing = λ t number config slot. kept t.next_request slot.state (produced_slot t.clock slot).state (due_number (state_is_due t.clock slot.state) t.clock slot);
    moding = λ t run place number has. inl (sym (moded_number (is_owner place.config.kind) place.slot) ∙ has);
  };
  establishing = λ t place o success is requested number has. inl (ap opening_number is ∙ has);
  writing = λ t place bytes number has. inl (sym (written_number place.slot.state) ∙ has);
  accepting = λ t place d c bytes is number has. inl (ap opening_number is.established ∙ has);
}

-- ---- events

goes_same : (t : ScannerTable) → Goes Draws t t
goes_same t = stays_goes Draws draws_always.widely.stays t t (same_later t) refl

left_goes : (t : ScannerTable) (said : Result Next StepFault) → Leads (Goes Draws) t said → Goes Draws t (left_by t said)
left_goes t (Ok next) leads = leads
left_goes t (Err why) leads = goes_same t

events_go : (t : ScannerTable) (events : List Event) → Goes Draws t (table_after t events)
events_go t [] = goes_same t
events_go t (event ∷ events) =
    let next = left_by t (scanner_step t event) in
    (goes_always Draws draws_always).widely.slots.after t next (table_after next events)
    (left_goes t (scanner_step t event) (step_leads (Goes Draws) (goes_always Draws draws_always) t event)) (events_go next events)

after_both : (t : ScannerTable) (events more : List Event) → table_after t (events ++ more) ≡ table_after (table_after t events) more
after_both t [] more = refl
after_both t (event ∷ events) more = after_both (left_by t (scanner_step t event)) events more

-- ---- two moments

names_one : (t u : ScannerTable) (first later : IndexedSlot) (number : ℕ) → OpeningsAreNumbered t → OpeningsDiffer t → Goes Draws t u → HasOpening t first number → HasOpening u later number → first.number ≡ later.number
names_one t u first later number numbered differ goes before behind =
    let was = was_of Draws t u later goes (slot_is u later.number later behind.there).stands in
    step was.slot (slot_stands t (indexed_at later.number later.config was.slot) was.stands) (was.holds number behind.has)
  where
    step : (slot : Slot) → slot_at t later.number ≡ Some (indexed_at later.number later.config slot) → (opening_number slot.state ≡ Some number) ⊎ (t.next_request ≤ number) → first.number ≡ later.number
    step slot there (inl had) = differ first (indexed_at later.number later.config slot) number before.there there before.has had
    step slot there (inr drew) =
        absurd (let less = below t.next_request number first.slot.state (numbered first.number first before.there) before.has in omega (arith, less, drew))

pub one_slot : IsLaw OpeningsAreNumbered → SlotsHaveOpeningsOfTheirOwn → OpeningNumbersNameOneSlot
one_slot law differ profile events more first later number before behind =
    let t = table_after (scanner_table profile) events in
    names_one t (table_after t more) first later number (law.fresh profile events) (differ profile events) (events_go t more) before
    (subst (λ (u : ScannerTable). HasOpening u later number) (after_both (scanner_table profile) events more) behind)
