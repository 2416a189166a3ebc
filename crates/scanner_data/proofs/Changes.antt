-- Slots that change in place.
use Rattle.std.proofs.Common.{◌≡◌, ◌<◌, ◌≤◌, ℕ, suc, ◌+◌, ◌==◌, Result, Bool, true, false, cond, List, [], ◌∷◌, ◌++◌, length, map, take, drop, get_or, set, drop-cons, find, Option, Some, Ok, refl, sym, ◌∙◌, ap, subst, arith}
use Rattle.std.specs.List.{filter_map, cons_option}
use Rattle.std.proofs.lemmas.List.{append-nil, map-append}
use Rattle.std.proofs.lemmas.List.Elements.{filter_map-append}
use Rattle.cip_events.specs.declared.event.OutgoingDatagram.{OutgoingDatagram}
use Rattle.cip_productions.specs.Productions.{sent}
use Rattle.scanner_table.specs.Productions.{connection_production, state_production, slot_production}
use Rattle.std.proofs.lemmas.Grind.{common_steps}
use Rattle.cip_datagram.specs.Datagram.{DatagramFields}
use Rattle.cip_events.specs.declared.event.Delivery.{Delivery}
use Rattle.cip_events.specs.declared.event.Delivery.TheVariants.{Applied, Duplicate}
use Rattle.cip_events.specs.declared.event.Verdict.TheVariants.{Delivered, Done}
use Rattle.cip_events.specs.Answers.{plain_answer}
use Rattle.cip_productions.specs.Acceptance.{is_duplicate}
use Rattle.scanner_table.specs.declared.profile.SlotConfig.{SlotConfig}
use Rattle.scanner_table.specs.declared.slot.SlotConnection.{SlotConnection}
use Rattle.scanner_table.specs.declared.slot.Slot.{Slot}
use Rattle.scanner_table.specs.declared.slot.SlotState.{SlotState}
use Rattle.scanner_table.specs.declared.slot.SlotState.TheVariants.{Established}
use Rattle.scanner_table.specs.declared.table.ScannerTable.{ScannerTable}
use Rattle.scanner_table.specs.Slots.{IndexedSlot, indexed_from, indexed_slots, with_slot, is_numbered}
use Rattle.scanner_table.specs.Effects.{Next}
use Rattle.scanner_table.specs.Datagrams.{accepted_connection, accepted, received_at, state_received}
use Rattle.scanner_table.specs.Points.{moded_slot, output_slot, write_at, write}
use Rattle.cip_productions.specs.Kinds.{is_owner}
use Rattle.cip_events.specs.declared.event.StepFault.{StepFault}
use Rattle.scanner_table.specs.Datagrams.{accepted_table}
use Rattle.scanner_slots.specs.declared.bounds.Bounds.{Bounds}
use Rattle.scanner_slots.specs.Bounding.{IsHinted, IsNoLater, with_deadline}
use Rattle.scanner_table.specs.Opening.{later}
use Rattle.cip_types.specs.declared.names.Ms.{Ms}
use Rattle.scanner_data.specs.Results.{judged, recorded, recorded_state}

-- ---- one slot

-- the slot that has accepted a datagram, by whether its count was that of the last
abbrev gathered_slot : Bool → ScannerTable → IndexedSlot → DatagramFields → SlotConnection → Slot
gathered_slot duplicate t indexed d c = record indexed.slot {
  state = Established (accepted_connection t.clock d c);
  image = cond duplicate indexed.slot.image d.payload;
}

accepted_by : (b : Bool) (t : ScannerTable) (indexed : IndexedSlot) (d : DatagramFields) (c : SlotConnection) → is_duplicate c.last d.count ≡ b → accepted t indexed d c ≡ (plain_answer (Delivered (cond b Duplicate Applied)), with_slot t indexed.number (gathered_slot b t indexed d c))
accepted_by true t indexed d c is = rw is refl
accepted_by false t indexed d c is = rw is refl

-- the slot of a connection that has recorded a datagram with its new deadline
pub recorded_is : (old here new : Slot) (clock deadline : Ms) (d : DatagramFields) (c : SlotConnection) (image : List ℕ) → old ≡ here → here.state ≡ Established c → deadline ≡ later clock c.watchdog.0 → new ≡ record old { state = recorded_state deadline d old.state; image = image } → new ≡ record old { state = Established (accepted_connection clock d c); image = image }
recorded_is old here new clock deadline d c image same is at changed =
    let state : recorded_state deadline d old.state ≡ Established (accepted_connection clock d c) = ap (λ (s : Slot). recorded_state deadline d s.state) same ∙ ap (recorded_state deadline d) is ∙ ap (λ (x : Ms). Established (recorded x d c)) at in
    changed ∙ ap (λ (s : SlotState). record old { state = s; image = image }) state

-- a datagram at the slot that the lookup found for it
pub received_is : (t : ScannerTable) (indexed : IndexedSlot) (d : DatagramFields) (c : SlotConnection) (found : Option IndexedSlot) (old new : Slot) (delivery : Delivery) → Some indexed ≡ found → state_received t indexed d indexed.slot.state ≡ judged t indexed d (Ok c) → old ≡ indexed.slot → delivery ≡ cond (is_duplicate c.last d.count) Duplicate Applied → new ≡ record old { state = Established (accepted_connection t.clock d c); image = cond (is_duplicate c.last d.count) old.image d.payload } → ◌≡◌ {A = Next} (plain_answer (Delivered delivery), with_slot t indexed.number new) (received_at t d found)
received_is t indexed d c found old new delivery at is same reported changed =
    sym (ap (received_at t d) (sym at) ∙ is ∙ accepted_by (is_duplicate c.last d.count) t indexed d c refl ∙ step (sym reported) (changed ∙ ap (λ (s : Slot). record s { state = Established (accepted_connection t.clock d c); image = cond (is_duplicate c.last d.count) s.image d.payload }) same)) where
      step : cond (is_duplicate c.last d.count) Duplicate Applied ≡ delivery → new ≡ gathered_slot (is_duplicate c.last d.count) t indexed d c → ◌≡◌ {A = Next} (plain_answer (Delivered (cond (is_duplicate c.last d.count) Duplicate Applied)), with_slot t indexed.number (gathered_slot (is_duplicate c.last d.count) t indexed d c)) (plain_answer (Delivered delivery), with_slot t indexed.number new)
      step reported is = rw (reported, is) refl

-- a write at the slot that the lookup found for it
pub written_is : (t : ScannerTable) (number : ℕ) (indexed : IndexedSlot) (bytes : List ℕ) (old new : Slot) → Some indexed ≡ find (is_numbered number) (indexed_slots t) → indexed.number ≡ number → is_owner indexed.config.kind ≡ true → (length bytes == indexed.config.out_len) ≡ true → old ≡ indexed.slot → new ≡ output_slot bytes old → ◌≡◌ {A = Result Next StepFault} (Ok (plain_answer Done, with_slot t number new)) (write t number bytes)
unfolding write
written_is t number indexed bytes old new at same owner long stood changed =
    sym (ap (write_at t bytes) (sym at) ∙ step owner long same (sym (changed ∙ ap (output_slot bytes) stood))) where
      step : is_owner indexed.config.kind ≡ true → (length bytes == indexed.config.out_len) ≡ true → indexed.number ≡ number → output_slot bytes indexed.slot ≡ new → ◌≡◌ {A = Result Next StepFault} (write_at t bytes (Some indexed)) (Ok (plain_answer Done, with_slot t number new))
      step owner long same is = rw (owner, long, same, is) refl

-- ---- each slot

-- lists that agree from i on agree at i
same_at : {X : Type 0} (xs ys : List X) (i : ℕ) (d : X) → i < length xs → i < length ys → drop i ys ≡ drop i xs → get_or ys i d ≡ get_or xs i d
same_at xs ys i d lt lt' same =
    let a : drop i xs ≡ get_or xs i d ∷ drop (suc i) xs = drop-cons xs i d lt in
    let b : drop i ys ≡ get_or ys i d ∷ drop (suc i) ys = drop-cons ys i d lt' in
    cc

-- a loop that has changed each element up to i in place, from xs to ys
pub record Mapped {X : Type 0} (f : X → X) (xs ys : List X) (i : ℕ) : Type 0 where
  pub front : take i ys ≡ map f (take i xs)
  pub rest : drop i ys ≡ drop i xs

pub map_more : {X : Type 0} (f : X → X) (xs ys : List X) (i : ℕ) (d y : X) → i < length xs → length ys ≡ length xs → Mapped f xs ys i → y ≡ f (get_or ys i d) → Mapped f xs (set ys i y) (i + 1)
map_more f xs ys i d y lt same mapped is =
    let at : get_or ys i d ≡ get_or xs i d = same_at xs ys i d lt (omega arith) mapped.rest in
    let front = mapped.front in
    let rest = mapped.rest in
    record { front = grind (arith, common_steps); rest = grind (arith, common_steps) }

-- a loop over slots that has changed the slots up to i
abbrev pub Renewed : List SlotConfig → List Slot → List Slot → ℕ → Type 0
Renewed configs old new i = map moded_slot (indexed_from 0 configs old) ≡ take i new ++ map moded_slot (indexed_from i (drop i configs) (drop i new))

no_slots : (number : ℕ) (configs : List SlotConfig) → indexed_from number configs [] ≡ []
no_slots number [] = refl
no_slots number (config ∷ configs) = refl

pub renewed_all : (configs : List SlotConfig) (old slots : List Slot) (i : ℕ) → length slots ≤ i → Renewed configs old slots i → slots ≡ map moded_slot (indexed_from 0 configs old)
renewed_all configs old slots i le so_far =
    let all : take i slots ≡ slots = grind (arith, common_steps) in
    let none : drop i slots ≡ [] = grind (arith, common_steps) in
    sym (so_far ∙ ap (λ l. l ++ map moded_slot (indexed_from i (drop i configs) (drop i slots))) all ∙ ap (λ l. slots ++ map moded_slot (indexed_from i (drop i configs) l)) none ∙ ap (λ l. slots ++ map moded_slot l) (no_slots i (drop i configs)) ∙ append-nil slots)

-- one more slot's production is sent
pub sent_more : {A B C D : Type 0} (view : A → B) (f : B → Option C) (g : C → D) (xs : List A) (i : ℕ) (x d : A) (sent more : List D) → i < length xs → x ≡ get_or xs i d → sent ≡ map g (filter_map f (map view (take i xs))) → more ≡ sent ++ map g (filter_map f (view x ∷ [])) → more ≡ map g (filter_map f (map view (take (i + 1) xs)))
sent_more view f g xs i x d sent more lt is so_far grown =
    let one : take (i + 1) xs ≡ take i xs ++ x ∷ [] = rw is (grind (arith, common_steps)) in
    grown
    ∙ ap (λ l. l ++ map g (filter_map f (view x ∷ []))) so_far
    ∙ sym (map-append g (filter_map f (map view (take i xs))) (filter_map f (view x ∷ [])))
    ∙ ap (map g) (sym (filter_map-append f (map view (take i xs)) (view x ∷ [])))
    ∙ ap (λ l. map g (filter_map f l)) (sym (map-append view (take i xs) (x ∷ [])))
    ∙ ap (λ l. map g (filter_map f (map view l))) (sym one)

-- what an established connection produces is sent
pub pushed_is : (run : Bool) (indexed : IndexedSlot) (c : SlotConnection) (old new : List OutgoingDatagram) (one : OutgoingDatagram) → indexed.slot.state ≡ Established c → one ≡ sent (connection_production run indexed c) → new ≡ old ++ one ∷ [] → new ≡ old ++ map sent (filter_map (slot_production run) (indexed ∷ []))
pushed_is run indexed c old new one is made grown =
    grown ∙ ap (λ (s : OutgoingDatagram). old ++ s ∷ []) made ∙ ap (λ (s : SlotState). old ++ map sent (cons_option (state_production run indexed s) [])) (sym is)

-- ---- hints

-- the bounds of a slot that has accepted a datagram
pub accepted_hinted : (later bounds : Bounds) (t : ScannerTable) (indexed : IndexedSlot) (d : DatagramFields) (c accepted : SlotConnection) (old new : Slot) (image : List ℕ) → ((b l : Bounds) (u : ScannerTable) → IsNoLater b l → IsHinted l u → IsHinted b u) → accepted ≡ accepted_connection t.clock d c → old ≡ indexed.slot → new ≡ record old { state = Established accepted; image = image } → IsHinted (with_deadline bounds (accepted_connection t.clock d c).deadline) (accepted_table t indexed d c image) → IsNoLater later (with_deadline bounds accepted.deadline) → IsHinted later (with_slot t indexed.number new)
accepted_hinted later bounds t indexed d c accepted old new image earlier is same changed hinted le =
    let next : new ≡ record indexed.slot { state = Established (accepted_connection t.clock d c); image = image } = changed ∙ ap (λ (s : Slot). record s { state = Established accepted; image = image }) same ∙ ap (λ (x : SlotConnection). record indexed.slot { state = Established x; image = image }) is in
    subst (λ (s : Slot). IsHinted later (with_slot t indexed.number s)) (sym next) (earlier later _ _ (subst (λ (x : SlotConnection). IsNoLater later (with_deadline bounds x.deadline)) is le) hinted)
