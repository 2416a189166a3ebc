-- An established slot keeps the ids of the success that established it.
use Rattle.std.proofs.Common.{◌≡◌, ◌⊎◌, inl, inr, ℕ, List, [], ◌∷◌, ◌++◌, refl, sym, ◌∙◌, ap, subst, append_assoc, arith}
use Rattle.std.specs.List.{AllByRecursion, Contains}
use Rattle.std.proofs.lemmas.List.Elements.{Contains-append_left, Contains-append_right, Contains-push}
use Rattle.cip_encap.specs.ReadsBack.{ItemsReadBack}
use Rattle.cip_events.specs.declared.event.Event.{Event}
use Rattle.conn_state.specs.declared.names.Link.{Link}
use Rattle.scanner_table.specs.declared.profile.SlotConfig.{SlotConfig}
use Rattle.scanner_table.specs.declared.slot.SlotConnection.{SlotConnection}
use Rattle.scanner_table.specs.declared.slot.SlotState.{SlotState}
use Rattle.scanner_table.specs.declared.slot.SlotState.TheVariants.{Idle, Opening, Established, TimedOut, Closing}
use Rattle.scanner_table.specs.declared.table.ScannerTable.{ScannerTable}
use Rattle.scanner_table.specs.Slots.{IndexedSlot, indexed_slots}
use Rattle.cip_tables.specs.declared.table.DeviceTable.TheVariants.{Scanner}
use Rattle.cip_tables.specs.Step.{as_scanner, step}
use Rattle.answer_sizes.specs.Sizes.{AnswersAreSmall}
use Rattle.device_laws.specs.Lemmas.Slots.{OfSlots, SlotsHold, Kept}
use Rattle.device_laws.specs.Lemmas.ScannerIds as scanners
use Rattle.device_laws.specs.Lemmas.ScannerIds.{scanner_holds}
use Rattle.device_laws.specs.SlotIds.{WasEstablished, IsEstablishedBy, StateHasItsIds, SlotHasItsIds, SlotsHaveTheIdsOfTheirSuccess}

abbrev pub HasItsIds : ScannerTable → Event → OfSlots
HasItsIds t happens number config state = StateHasItsIds t happens number config state

same_on : (t : ScannerTable) (happens : Event) (number : ℕ) (config : SlotConfig) (c d : SlotConnection) → d.opening ≡ c.opening → d.link ≡ c.link → WasEstablished t number config c ⊎ IsEstablishedBy t happens number config c → WasEstablished t number config d ⊎ IsEstablishedBy t happens number config d
same_on t happens number config c d opening link (inl was) =
    let same = was.same in
    inl (record { place = was.place; there = was.there; number_is = was.number_is; config_is = was.config_is; before = was.before; state = was.state; same = record { opening = opening ∙ same.opening; link = link ∙ same.link } })
same_on t happens number config c d opening link (inr by) =
    inr (record { opening = by.opening; waits = by.waits; request_is = opening ∙ by.request_is; success = by.success; replied = by.replied; o_t = ap (λ (l : Link). l.o_t_id) link ∙ by.o_t; t_o = ap (λ (l : Link). l.t_o_id) link ∙ by.t_o })

pub ids_kept : (t : ScannerTable) (to : ℕ) (happens : Event) → Kept (HasItsIds t happens) t to happens
ids_kept t to happens = record {
  rests = λ number config. tt;
  times_out = λ number config link state from is. tt;
  closes = λ number config link state close same from is. tt;
  goes_on = λ number config c d opening link is. same_on t happens number config c d opening link is;
  opens = λ number config now o can requested by. tt;
  establishes = λ number config o success c waits replied requested opening link is.
      inr (record { opening = o; waits = waits; request_is = opening; success = success; replied = replied; o_t = ap (λ (l : Link). l.o_t_id) link; t_o = ap (λ (l : Link). l.t_o_id) link });
}

was_so : (t : ScannerTable) (happens : Event) (place : IndexedSlot) (state : SlotState) → Contains (indexed_slots t) place → place.slot.state ≡ state → StateHasItsIds t happens place.number place.config state
was_so t happens place Idle there is = tt
was_so t happens place (Opening o) there is = tt
was_so t happens place (Established c) there is = inl (record { place = place; there = there; number_is = refl; config_is = refl; before = c; state = is; same = record { opening = refl; link = refl } })
was_so t happens place (TimedOut link) there is = tt
was_so t happens place (Closing c) there is = tt

were_from : (t : ScannerTable) (happens : Event) (before rest : List IndexedSlot) → indexed_slots t ≡ before ++ rest → AllByRecursion (SlotHasItsIds t happens) rest
were_from t happens before [] is = tt
were_from t happens before (place ∷ rest) is =
    let there : Contains (indexed_slots t) place = subst (λ (l : List IndexedSlot). Contains l place) (sym is) (Contains-append_right before (place ∷ rest) place (Contains-append_left (place ∷ []) rest place (Contains-push [] place))) in
    (was_so t happens place place.slot.state there refl, were_from t happens (before ++ place ∷ []) rest (is ∙ sym (append_assoc before (place ∷ []) rest)))

-- so it is of the slots before the step
pub were_so : (t : ScannerTable) (happens : Event) → SlotsHold (HasItsIds t happens) t
were_so t happens = were_from t happens [] (indexed_slots t) refl

abbrev Anything : ℕ → Type 0
Anything id = Unit {0}

pub slots_have_ids : ItemsReadBack → AnswersAreSmall → SlotsHaveTheIdsOfTheirSuccess
unfolding step
slots_have_ids back few t happens answer next is whole =
    let small = few (Scanner t) happens answer (Scanner next) whole (ap as_scanner is) in
    let G = HasItsIds t happens in
    let holds = scanner_holds back (HasItsIds t happens) Anything (λ id any. tt) (λ number config c g. tt) next.next_id t happens (ids_kept t next.next_id happens) (λ now config can. tt) (were_so t happens) in
    let h : scanners.NextHolds (HasItsIds t happens) Anything next.next_id (answer, next) = subst (scanners.OkHolds (HasItsIds t happens) Anything next.next_id) is holds in
    (h (omega arith) small).1
