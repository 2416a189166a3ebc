-- A point to point slot that opens after a moment receives nothing that was sent by then; and only the reply to its own
-- request establishes a slot.
use Rattle.std.proofs.Common.{◌≡◌, ◌≢◌, ◌≤◌, ℕ, suc, ◌==◌, Bool, true, false, List, [], ◌∷◌, ◌++◌, Result, Ok, Err, sym, ◌∙◌, ap, subst, arith, eq-eqb, eqb-true}
use Rattle.std.specs.List.{AllByRecursion}
use Rattle.std.proofs.lemmas.Bool.{and_parts, false_from_ne_true}
use Rattle.std.proofs.lemmas.Option.{same_Some}
use Rattle.device_laws.specs.Lemmas.Stepping.{device_stepped, ok_inside}
use Rattle.cip_types.specs.declared.ids.IdBlock.{IdBlock}
use Rattle.cip_types.specs.declared.names.ConnId.{ConnId}
use Rattle.cip_types.specs.declared.names.Node.{Node}
use Rattle.cip_events.specs.declared.event.Answer.{Answer}
use Rattle.cip_events.specs.declared.event.Event.{Event}
use Rattle.cip_events.specs.declared.event.StepFault.{StepFault}
use Rattle.scanner_table.specs.declared.profile.SlotConfig.{SlotConfig}
use Rattle.scanner_table.specs.declared.slot.SlotConnection.{SlotConnection}
use Rattle.scanner_table.specs.declared.slot.Slot.{Slot}
use Rattle.scanner_table.specs.declared.slot.SlotState.{SlotState}
use Rattle.scanner_table.specs.declared.slot.SlotState.TheVariants.{Idle, Opening, Established, TimedOut, Closing}
use Rattle.scanner_table.specs.declared.table.ScannerTable.{ScannerTable}
use Rattle.scanner_table.specs.Datagrams.{is_for}
use Rattle.scanner_table.specs.Replies.{state_consumes}
use Rattle.scanner_table.specs.Slots.{IndexedSlot, indexed_from, indexed_slots, is_with}
use Rattle.scanner_table.specs.Step.{scanner_step}
use Rattle.scanner_table.specs.WellFormed.{FitsState, SlotsFit}
use Rattle.cip_tables.specs.declared.table.DeviceTable.{DeviceTable}
use Rattle.cip_tables.specs.declared.table.DeviceTable.TheVariants.{Adapter, Scanner}
use Rattle.cip_tables.specs.Run.{table_of}
use Rattle.adapter_table.specs.declared.table.AdapterTable.{AdapterTable}
use Rattle.adapter_table.specs.Requests.{Next}
use Rattle.adapter_table.specs.Step.{adapter_step}
use Rattle.cip_tables.specs.Step.{DeviceNext, as_adapter, step}
use Rattle.cip_tables.specs.Whole.{IsWholeDevice, RunsKeepWhole}
use Rattle.segment_world.specs.Story.{is_of}
use Rattle.device_laws.specs.Carrying.{IsFrom, StateFrom, SlotFrom, SlotsFrom, StepsKeepFrom, RepliesEstablish}
use Rattle.schedule_laws.specs.Stories.{led_by, led_to}
use Rattle.schedule_laws.specs.Ids.{LaterSlotsTakeNoneOfIt, RepliesEstablishTheirOwn}
use Rattle.schedule_laws.specs.Lemmas.Reporting.{Answers, AnswersIf, Reports, led_both, reports_rest, reports_first, is_run, outcomes_of, story_leads}
use Rattle.schedule_laws.specs.Lemmas.Drawing.{StepLaws, runs_drawn, runs_grew}
use Rattle.schedule_laws.proofs.Later.{all_contains, unsent, StepsKeepIt, runs_kept, at_moment}

-- ---- the scanner's step

abbrev ok_of : DeviceNext → Result DeviceNext StepFault
ok_of n = Ok n

-- ---- slots that are opened later

fits_from : (ids : List IdBlock) (request first clock n : ℕ) (configs : List SlotConfig) (slots : List Slot) → SlotsFit request clock configs slots → AllByRecursion (SlotFrom ids request first) (indexed_from n configs slots)
fits_from ids request first clock n [] slots fit = tt
fits_from ids request first clock n (config ∷ configs) [] fit = tt
fits_from ids request first clock n (config ∷ configs) (slot ∷ slots) fit =
    (λ single. state_from ids request first clock slot.desired_up slot.state fit.0.state, fits_from ids request first clock (suc n) configs slots fit.1)
  where
    state_from : (ids : List IdBlock) (request first clock : ℕ) (desired_up : Bool) (state : SlotState) → FitsState request clock desired_up state → StateFrom ids request first state
    state_from ids request first clock desired_up Idle is = tt
    state_from ids request first clock desired_up (Opening o) is = λ over. absurd (let below = is.1 in omega (arith, below, over))
    state_from ids request first clock desired_up (Established c) is = λ over. absurd (let below = is.1.opening in omega (arith, below, over))
    state_from ids request first clock desired_up (TimedOut link) is = tt
    state_from ids request first clock desired_up (Closing c) is = tt

-- a property that a scanner keeps from the moment on
abbrev GoesOn : (request first : ℕ) → DeviceTable → Type 0
GoesOn request first (Scanner u) = (first ≤ u.next_id) × SlotsFrom request first u
GoesOn request first (Adapter a) = Unit {0}

goes_scanner : StepLaws → StepsKeepFrom → (request first : ℕ) (t u : ScannerTable) (happens : Event) (a : Answer) → scanner_step t happens ≡ Ok (a, u) → IsWholeDevice (Scanner t) → GoesOn request first (Scanner t) → GoesOn request first (Scanner u)
goes_scanner laws keeps request first t u happens a is whole goes =
    let counts = laws.scanners t happens (a, u) is in
    let from = goes.0 in
    (omega (arith, from, counts.ids), keeps request first t happens a u is whole from goes.1)

no_scanner : (a : Answer) (u : ScannerTable) (said : Result Next StepFault) → as_adapter said ≡ Ok (a, Scanner u) → ⊥
no_scanner a u (Err fault) is = absurd (let e = is in cc)
no_scanner a u (Ok n) is = let e = ap (λ (p : DeviceNext). p.1) (ok_inside (n.0, Adapter n.1) (a, Scanner u) is) in absurd cc

stays_adapter : (t : AdapterTable) (u : ScannerTable) (happens : Event) (a : Answer) → step (Adapter t) happens ≡ Ok (a, Scanner u) → ⊥
unfolding step
stays_adapter t u happens a is = no_scanner a u (adapter_step t happens) is

goes_device : StepLaws → StepsKeepFrom → (request first : ℕ) → StepsKeepIt (GoesOn request first)
goes_device laws keeps request first (Scanner t) happens a (Scanner u) is whole whole_u goes = goes_scanner laws keeps request first t u happens a (device_stepped t u happens a is) whole goes
goes_device laws keeps request first (Adapter t) happens a (Adapter u) is whole whole_u goes = tt
goes_device laws keeps request first (Scanner t) happens a (Adapter u) is whole whole_u goes = tt
goes_device laws keeps request first (Adapter t) happens a (Scanner u) is whole whole_u goes = absurd (stays_adapter t u happens a is)

takes_none : (peer : Node) (id : ℕ) (indexed : IndexedSlot) (c : SlotConnection) → indexed.slot.state ≡ Established c → id ≢ c.link.t_o_id.0 → is_for peer id indexed ≡ false
takes_none peer id indexed c is other =
    false_from_ne_true (is_for peer id indexed) (λ takes.
    let parts = and_parts (is_with peer indexed) (state_consumes (record { 0 = id }) indexed.slot.state) takes in
    let consumes : (c.link.t_o_id.0 == id) ≡ true = sym (ap (state_consumes (record { 0 = id })) is) ∙ parts.1 in
    other (sym (eqb-true c.link.t_o_id.0 id consumes)))

established_from : (ids : List IdBlock) (request first : ℕ) (indexed : IndexedSlot) (c : SlotConnection) → SlotFrom ids request first indexed → indexed.config.multicast ≡ false → indexed.slot.state ≡ Established c → request ≤ c.opening → IsFrom ids first c.link.t_o_id
established_from ids request first indexed c from single is over = (subst (StateFrom ids request first) is (from single)) over

pub later_slots : StepLaws → StepsKeepFrom → LaterSlotsTakeNoneOfIt
later_slots laws keeps start was now device t u indexed c s d ids moments apart at_was at_now among single is over there reads =
    let drawn = at_moment laws start was now ids moments in
    let later = runs_drawn laws (λ e o. true) was now moments.late moments.rest drawn in
    let grew = runs_grew laws (λ e o. true) was now moments.late moments.rest drawn in
    let whole = drawn.whole device (Scanner t) at_was in
    let first : GoesOn t.next_request t.next_id (Scanner t) = (omega arith, fits_from t.ids t.next_request t.next_id t.clock.0 0 t.profile.slots t.slots whole.table.slots) in
    let kept = runs_kept laws (GoesOn t.next_request t.next_id) (goes_device laws keeps t.next_request t.next_id) (λ e o. true) device was now moments.late moments.rest
    (record { drawn = drawn; holds = λ x at. subst (GoesOn t.next_request t.next_id) (same_Some (Scanner t) x (sym at_was ∙ at)) first }) in
    let goes = kept.holds (Scanner u) at_now in
    let from = established_from u.ids t.next_request t.next_id indexed c (all_contains (SlotFrom u.ids t.next_request t.next_id) (indexed_slots u) indexed goes.1 among) single is over in
    takes_none s.from d.connection indexed c is
    (λ same. unsent was.world now.world device (Scanner t) (Scanner u) from.number s d drawn.sent drawn.whole later.whole grew apart at_was at_now from.begins (record { begins = from.one; ends = from.ends }) there reads
    (same ∙ ap (λ (i : ConnId). i.0) from.is))

-- ---- replies

pub replies_establish_their_own : RunsKeepWhole → RepliesEstablish → RepliesEstablishTheirOwn
replies_establish_their_own runs_whole law start acts story device t u v before after reported ran at whole parts own there then_there =
    let leads = story_leads start acts story device t ran at in
    let reports : Reports t device (before ++ reported ∷ after) = subst (Reports t device) parts leads.reports in
    let rest = reports_rest t device before (reported ∷ after) reports in
    let mine : is_of device reported ≡ true = eq-eqb reported.device device own in
    let answers : Answers (led_to t device before) reported = subst (λ (b : Bool). AnswersIf b (led_to t device before) reported) mine rest.0 in
    let stepped : step (Scanner u) reported.event ≡ Ok (reported.answer, answers.next) = subst (λ (x : DeviceTable). step x reported.event ≡ Ok (reported.answer, answers.next)) there answers.is in
    let left : led_to t device (before ++ reported ∷ []) ≡ answers.next =
    led_both t device before (reported ∷ []) ∙ ap (λ (c : Bool). led_by c (led_to t device before) reported) mine ∙ ap (table_of (led_to t device before)) answers.is in
    let next : answers.next ≡ Scanner v = sym left ∙ then_there in
    let so : step (Scanner u) reported.event ≡ Ok (reported.answer, Scanner v) = subst (λ (x : DeviceTable). step (Scanner u) reported.event ≡ Ok (reported.answer, x)) next stepped in
    let run = is_run t device before (reports_first t device before (reported ∷ after) reports) in
    let whole_u : IsWholeDevice (Scanner u) = subst IsWholeDevice there (runs_whole t (led_to t device before) _ (outcomes_of device before) whole run) in
    law u reported.event reported.answer v (device_stepped u v reported.event reported.answer so) whole_u
