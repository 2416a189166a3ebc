-- What the image of a slot holds over acts: zeros, or the data of a production that the slot accepted since it was last
-- established.
use Rattle.std.proofs.Common.{◌≡◌, ◌≢◌, ℕ, ◌==◌, Bool, true, false, cond, List, [], ◌∷◌, ◌++◌, find, length, Option, Some, None, Result, Ok, Err, IfOk, ◌⊎◌, inl, inr, refl, sym, ◌∙◌, ap, subst, eqb-true, eq-eqb, ne_eqb}
use Rattle.std.specs.Int.{w32}
use Rattle.std.specs.List.{AllByRecursion, Contains, filter_map}
use Rattle.std.proofs.lemmas.Bool.{and_parts, and_left, and_right, eqb-false}
use Rattle.std.proofs.lemmas.Option.{same_Some}
use Rattle.base_lemmas.specs.Lists.{found_passes}
use Rattle.cip_types.specs.declared.names.ConnId.{ConnId}
use Rattle.cip_types.specs.declared.names.Node.{Node}
use Rattle.cip_datagram.specs.declared.datagram.DatagramFault.{DatagramFault}
use Rattle.cip_datagram.specs.Datagram.{DatagramFields, datagram_text}
use Rattle.cip_datagram.specs.Reading.{datagram_reading}
use Rattle.cip_events.specs.declared.event.Delivery.TheVariants.{Applied, Duplicate, Old, WrongSize}
use Rattle.cip_events.specs.declared.event.Event.{Event}
use Rattle.cip_events.specs.declared.event.StepFault.{StepFault}
use Rattle.cip_productions.specs.Acceptance.{is_duplicate}
use Rattle.conn_state.specs.declared.names.Link.{Link}
use Rattle.scanner_table.specs.declared.profile.SlotConfig.{SlotConfig}
use Rattle.scanner_table.specs.declared.slot.SlotConnection.{SlotConnection}
use Rattle.scanner_table.specs.declared.slot.Slot.{Slot}
use Rattle.scanner_table.specs.declared.slot.SlotState.{SlotState}
use Rattle.scanner_table.specs.declared.slot.SlotState.TheVariants.{Idle, Opening, Established, TimedOut, Closing}
use Rattle.scanner_table.specs.declared.table.ScannerTable.{ScannerTable}
use Rattle.scanner_table.specs.Datagrams.{accepts_at, accepted, accepted_connection, accepted_table, connected, delivered, is_for, received, received_as, received_at, sized, state_received}
use Rattle.scanner_table.specs.Effects.{Next}
use Rattle.scanner_table.specs.Replies.{state_consumes}
use Rattle.scanner_table.specs.Slots.{IndexedSlot, is_numbered, is_with, slot_at, indexed_slots, with_slot}
use Rattle.scanner_table.specs.Step.{scanner_step}
use Rattle.device_laws.specs.Newest.{came_from}
use Rattle.scanner_table.specs.Lemmas.SlotLookups.{Apart, Each, EachTwo, Stands, each_found, each_stands, same_slot, slot_stands, indexed_at, slots_apart}
use Rattle.scanner_table.specs.Lemmas.Slotwise.{Goes, same_later, set_goes, set_later, stays_goes, was_of}
use Rattle.device_laws.specs.Lemmas.Texts.{either, again}
use Rattle.cip_tables.specs.declared.table.DeviceTable.{DeviceTable}
use Rattle.cip_tables.specs.declared.table.DeviceTable.TheVariants.{Adapter, Scanner}
use Rattle.cip_tables.specs.Step.{is_datagram}
use Rattle.cip_tables.specs.Whole.{IsWholeDevice}
use Rattle.device_laws.specs.SlotIds.{WasEstablished, IsEstablishedBy, StateHasItsIds, SlotHasItsIds, SlotsHaveTheIdsOfTheirSuccess}
use Rattle.device_laws.specs.Productions.{End, end_at, Production}
use Rattle.device_laws.specs.Lemmas.ListCounts.{Has}
use Rattle.device_laws.specs.Lemmas.Reading.{ComesBack, read_as}
use Rattle.device_laws.specs.Lemmas.ScannerBooks.{SetCases, same_alike, set_cases}
use Rattle.schedule_laws.specs.Chronicle.{Acceptance, Establishment, accepted_by_verdict, came_before, establishes, establishment, is_slot, names, names_in, place_establishes, slot_number, state_establishes, state_number}
use Rattle.schedule_laws.specs.Lemmas.AdapterNewest.{Entry}
use Rattle.schedule_laws.specs.Lemmas.Found.{found_holds, all_contains}
use Rattle.schedule_laws.proofs.ImageSteps.{Continues, Images, WasSame, images_lead, images_slotwise, zeros_of}

-- ---- what holds of a slot

-- this end accepted a production with this T->O id and these data
pub record Gathered (accepted : List Acceptance) (consumer : End) (t_o : ℕ) (image : List ℕ) : Type 0 where
  pub acceptance : Acceptance
  pub there : Has acceptance accepted
  pub consumer_is : acceptance.consumer ≡ consumer
  pub id_is : again w32 acceptance.production.made.datagram.connection ≡ t_o
  pub image_is : image ≡ acceptance.production.made.datagram.payload

-- the image is zeros, or what the slot accepted since it was last established
abbrev pub ImageOf : List Acceptance → ℕ → SlotConfig → List ℕ → Option Establishment → Type 0
ImageOf accepted device config image None = image ≡ zeros_of config
ImageOf accepted device config image (Some e) = (image ≡ zeros_of config) ⊎ Gathered accepted (end_at device e.request) e.t_o_id.0 image

-- an established slot was last established by the opening of its connection, with the connection's T->O id
pub record IsLast (found : Option Establishment) (c : SlotConnection) : Type 0 where
  pub establishment : Establishment
  pub is : found ≡ Some establishment
  pub request : establishment.request ≡ c.opening
  pub t_o : establishment.t_o_id ≡ c.link.t_o_id

pub record SlotGathers (accepted : List Acceptance) (established : List Establishment) (device : ℕ) (place : IndexedSlot) : Type 0 where
  pub image : ImageOf accepted device place.config place.slot.image (find (is_slot device place.number) established)
  pub last : (c : SlotConnection) → place.slot.state ≡ Established c → IsLast (find (is_slot device place.number) established) c

abbrev pub TableGathers : List Acceptance → List Establishment → ℕ → ScannerTable → Type 0
TableGathers accepted established device t = (place : IndexedSlot) → Stands t place → SlotGathers accepted established device place

-- ---- which slot becomes established

abbrev or_other : Option Establishment → Option Establishment → Option Establishment
or_other None other = other
or_other (Some e) other = Some e

find_both : (p : Establishment → Bool) (xs ys : List Establishment) → find p (xs ++ ys) ≡ or_other (find p xs) (find p ys)
find_both p [] ys = refl
find_both p (x ∷ xs) ys = step (p x) (find_both p xs ys) where
  step : (b : Bool) → find p (xs ++ ys) ≡ or_other (find p xs) (find p ys) → cond b (Some x) (find p (xs ++ ys)) ≡ or_other (cond b (Some x) (find p xs)) (find p ys)
  step true same = refl
  step false same = same

-- it is of the device and the slot
record IsOf (device number : ℕ) (e : Establishment) : Type 0 where
  device_is : e.device ≡ device
  slot_is : e.slot ≡ number

established_of : (b : Bool) (device number : ℕ) (c : SlotConnection) (e : Establishment) → cond b None (Some (establishment device number c)) ≡ Some e → IsOf device number e
established_of true device number c e is = absurd (let h = is in cc)
established_of false device number c e is = subst (IsOf device number) (same_Some (establishment device number c) e is) (record { device_is = refl; slot_is = refl })

state_of : (device : ℕ) (t : ScannerTable) (number : ℕ) (state : SlotState) (e : Establishment) → state_establishes device t number state ≡ Some e → IsOf device number e
state_of device t number Idle e is = absurd (let h = is in cc)
state_of device t number (Opening o) e is = absurd (let h = is in cc)
state_of device t number (Established c) e is = established_of (came_before c.opening (slot_at t number)) device number c e is
state_of device t number (TimedOut link) e is = absurd (let h = is in cc)
state_of device t number (Closing c) e is = absurd (let h = is in cc)

is_own : (device number : ℕ) (e : Establishment) → IsOf device number e → is_slot device number e ≡ true
is_own device number e of = rw (eq-eqb e.device device of.device_is, eq-eqb e.slot number of.slot_is) refl

not_slot : (device number other : ℕ) (e : Establishment) → IsOf device other e → number ≢ other → is_slot device number e ≡ false
not_slot device number other e of ne = and_right (e.device == device) (e.slot == number) (ne_eqb e.slot number (λ same. ne (sym same ∙ of.slot_is)))

not_device : (device other number k : ℕ) (e : Establishment) → IsOf device k e → device ≢ other → is_slot other number e ≡ false
not_device device other number k e of ne = and_left (e.device == other) (e.slot == number) (ne_eqb e.device other (λ same. ne (sym of.device_is ∙ same)))

-- among slots none of which has the number none is found
none_step : (o : Option Establishment) (device number : ℕ) (t : ScannerTable) (place : IndexedSlot) (rest : List IndexedSlot) → place_establishes device t place ≡ o → number ≢ place.number → find (is_slot device number) (filter_map (place_establishes device t) rest) ≡ None → find (is_slot device number) (filter_map (place_establishes device t) (place ∷ rest)) ≡ None
none_step None device number t place rest is ne more = rw is more
none_step (Some e) device number t place rest is ne more = rw (is, not_slot device number place.number e (state_of device t place.number place.slot.state e is) ne) more

none_found : (device number : ℕ) (t : ScannerTable) (rest : List IndexedSlot) → Each (λ place. number ≢ place.number) rest → find (is_slot device number) (filter_map (place_establishes device t) rest) ≡ None
none_found device number t [] apart = refl
none_found device number t (place ∷ rest) apart = none_step (place_establishes device t place) device number t place rest refl apart.0 (none_found device number t rest apart.1)

own_step : (o : Option Establishment) (device : ℕ) (t : ScannerTable) (place : IndexedSlot) (rest : List IndexedSlot) → place_establishes device t place ≡ o → Each (λ other. place.number ≢ other.number) rest → find (is_slot device place.number) (filter_map (place_establishes device t) (place ∷ rest)) ≡ place_establishes device t place
own_step None device t place rest is apart = rw is (none_found device place.number t rest apart)
own_step (Some e) device t place rest is apart = rw (is, is_own device place.number e (state_of device t place.number place.slot.state e is)) refl

past_step : (o : Option Establishment) (device number : ℕ) (t : ScannerTable) (place now : IndexedSlot) (rest : List IndexedSlot) → place_establishes device t place ≡ o → number ≢ place.number → find (is_slot device number) (filter_map (place_establishes device t) rest) ≡ place_establishes device t now → find (is_slot device number) (filter_map (place_establishes device t) (place ∷ rest)) ≡ place_establishes device t now
past_step None device number t place now rest is ne more = rw is more
past_step (Some e) device number t place now rest is ne more = rw (is, not_slot device number place.number e (state_of device t place.number place.slot.state e is) ne) more

among : (device : ℕ) (t : ScannerTable) (now : IndexedSlot) (all : List IndexedSlot) → EachTwo Apart all → find (is_numbered now.number) all ≡ Some now → find (is_slot device now.number) (filter_map (place_establishes device t) all) ≡ place_establishes device t now
among device t now [] apart found = absurd (let h = found in cc)
among device t now (place ∷ all) apart found = step (is_numbered now.number place) refl found (among device t now all apart.1) where
  step : (b : Bool) → is_numbered now.number place ≡ b → cond b (Some place) (find (is_numbered now.number) all) ≡ Some now → (find (is_numbered now.number) all ≡ Some now → find (is_slot device now.number) (filter_map (place_establishes device t) all) ≡ place_establishes device t now) → find (is_slot device now.number) (filter_map (place_establishes device t) (place ∷ all)) ≡ place_establishes device t now
  step true is found more =
      subst (λ (p : IndexedSlot). find (is_slot device p.number) (filter_map (place_establishes device t) (place ∷ all)) ≡ place_establishes device t p) (same_Some place now found)
      (own_step (place_establishes device t place) device t place all refl apart.0)
  step false is found more = past_step (place_establishes device t place) device now.number t place now all refl (λ same. eqb-false place.number now.number is (sym same)) (more found)

-- what is found of a slot after an event
found_after : (device : ℕ) (t u : ScannerTable) (established : List Establishment) (now : IndexedSlot) → Stands u now → find (is_slot device now.number) (establishes device (Scanner t) (Scanner u) ++ established) ≡ or_other (place_establishes device t now) (find (is_slot device now.number) established)
found_after device t u established now stands =
    find_both (is_slot device now.number) (establishes device (Scanner t) (Scanner u)) established
    ∙ ap (λ (o : Option Establishment). or_other o (find (is_slot device now.number) established)) (among device t now (indexed_slots u) (slots_apart u) (slot_stands u now stands))

-- of another device
others_none : (device other number : ℕ) (t : ScannerTable) (all : List IndexedSlot) → device ≢ other → find (is_slot other number) (filter_map (place_establishes device t) all) ≡ None
others_none device other number t [] ne = refl
others_none device other number t (place ∷ all) ne = step (place_establishes device t place) refl (others_none device other number t all ne) where
  step : (o : Option Establishment) → place_establishes device t place ≡ o → find (is_slot other number) (filter_map (place_establishes device t) all) ≡ None → find (is_slot other number) (filter_map (place_establishes device t) (place ∷ all)) ≡ None
  step None is more = rw is more
  step (Some e) is more = rw (is, not_device device other number place.number e (state_of device t place.number place.slot.state e is) ne) more

pub found_elsewhere : (device other number : ℕ) (t u : DeviceTable) (established : List Establishment) → device ≢ other → find (is_slot other number) (establishes device t u ++ established) ≡ find (is_slot other number) established
found_elsewhere device other number (Adapter t) u established ne = refl
found_elsewhere device other number (Scanner t) (Adapter u) established ne = refl
found_elsewhere device other number (Scanner t) (Scanner u) established ne =
    find_both (is_slot other number) (establishes device (Scanner t) (Scanner u)) established
    ∙ ap (λ (o : Option Establishment). or_other o (find (is_slot other number) established)) (others_none device other number t (indexed_slots u) ne)

-- ---- an event that is no datagram

image_on : (accepted : List Acceptance) (device : ℕ) (config : SlotConfig) (was now : List ℕ) (o : Option Establishment) → (now ≡ was) ⊎ (now ≡ zeros_of config) → ImageOf accepted device config was o → ImageOf accepted device config now o
image_on accepted device config was now None (inl same) ok = same ∙ ok
image_on accepted device config was now None (inr zeros) ok = zeros
image_on accepted device config was now (Some e) (inl same) (inl zeros) = inl (same ∙ zeros)
image_on accepted device config was now (Some e) (inl same) (inr g) = inr (record { acceptance = g.acceptance; there = g.there; consumer_is = g.consumer_is; id_is = g.id_is; image_is = same ∙ g.image_is })
image_on accepted device config was now (Some e) (inr zeros) ok = inl zeros

came_same : (state : SlotState) (c : SlotConnection) → WasSame state c → came_from c.opening state ≡ true
came_same state c m = rw m.state (eq-eqb m.before.opening c.opening m.opening)

slot_on : (accepted : List Acceptance) (established : List Establishment) (device : ℕ) (t : ScannerTable) (number : ℕ) (config : SlotConfig) (was now : Slot) (o : Option Establishment) → slot_at t number ≡ Some (indexed_at number config was) → state_establishes device t number now.state ≡ o → Continues config was now → ((c : SlotConnection) → now.state ≡ Established c → came_from c.opening was.state ≡ true → WasSame was.state c) → SlotGathers accepted established device (indexed_at number config was) → (found : Option Establishment) → found ≡ or_other o (find (is_slot device number) established) → ImageOf accepted device config now.image found × ((c : SlotConnection) → now.state ≡ Established c → IsLast found c)
slot_on accepted established device t number config was now o at is continues links ok found found_is =
    subst (λ (f : Option Establishment). ImageOf accepted device config now.image f × ((c : SlotConnection) → now.state ≡ Established c → IsLast f c)) (sym found_is)
    (by_state o now.state refl is)
  where
    old : Option Establishment
    old = find (is_slot device number) established

    stays : ((c : SlotConnection) → now.state ≡ Established c → came_from c.opening was.state ≡ true) → ImageOf accepted device config now.image old × ((c : SlotConnection) → now.state ≡ Established c → IsLast old c)
    stays came = (
      image_on accepted device config was.image now.image old continues.image ok.image,
      λ c established_so.
          let m = links c established_so (came c established_so) in
          let l = ok.last m.before m.state in
          record { establishment = l.establishment; is = l.is; request = l.request ∙ m.opening; t_o = l.t_o ∙ ap (λ (x : Link). x.t_o_id) m.link },
    )

    connection_is : (x y : SlotConnection) → Established x ≡ Established y → x ≡ y
    connection_is x y is = cc

    begins : (c : SlotConnection) → now.state ≡ Established c → WasSame was.state c ⊎ (now.image ≡ zeros_of config) → came_from c.opening was.state ≡ false → now.image ≡ zeros_of config
    begins c established_so (inr zeros) never = zeros
    begins c established_so (inl m) never = absurd (let e = came_same was.state c m in let f = never in cc)

    by_came : (b : Bool) (c : SlotConnection) → now.state ≡ Established c → came_from c.opening was.state ≡ b → (e : Option Establishment) → cond b None (Some (establishment device number c)) ≡ e → ImageOf accepted device config now.image (or_other e old) × ((d : SlotConnection) → now.state ≡ Established d → IsLast (or_other e old) d)
    by_came true c established_so came e is =
        subst (λ (x : Option Establishment). ImageOf accepted device config now.image (or_other x old) × ((d : SlotConnection) → now.state ≡ Established d → IsLast (or_other x old) d)) is
        (stays (λ d so. subst (λ (x : SlotConnection). came_from x.opening was.state ≡ true) (connection_is c d (sym established_so ∙ so)) came))
    by_came false c established_so came e is =
        subst (λ (x : Option Establishment). ImageOf accepted device config now.image (or_other x old) × ((d : SlotConnection) → now.state ≡ Established d → IsLast (or_other x old) d)) is
        (inl (begins c established_so (continues.state c established_so) came), λ d so. record { establishment = establishment device number c; is = refl; request = ap (λ (x : SlotConnection). x.opening) (connection_is c d (sym established_so ∙ so)); t_o = ap (λ (x : SlotConnection). x.link.t_o_id) (connection_is c d (sym established_so ∙ so)) })

    none_by : (e : Option Establishment) (state : SlotState) → now.state ≡ state → ((c : SlotConnection) → state ≡ Established c → ⊥) → state_establishes device t number now.state ≡ e → state_establishes device t number state ≡ None → ImageOf accepted device config now.image (or_other e old) × ((c : SlotConnection) → now.state ≡ Established c → IsLast (or_other e old) c)
    none_by e state state_is never is none =
        subst (λ (x : Option Establishment). ImageOf accepted device config now.image (or_other x old) × ((c : SlotConnection) → now.state ≡ Established c → IsLast (or_other x old) c))
        (sym none ∙ ap (state_establishes device t number) (sym state_is) ∙ is)
        (stays (λ c so. absurd (never c (sym state_is ∙ so))))

    by_state : (e : Option Establishment) (state : SlotState) → now.state ≡ state → state_establishes device t number now.state ≡ e → ImageOf accepted device config now.image (or_other e old) × ((c : SlotConnection) → now.state ≡ Established c → IsLast (or_other e old) c)
    by_state e (Established c) state_is is =
        by_came (came_from c.opening was.state) c state_is refl e (sym (ap (λ (p : Option IndexedSlot). cond (came_before c.opening p) None (Some (establishment device number c))) at) ∙ ap (state_establishes device t number) (sym state_is) ∙ is)
    by_state e Idle state_is is = none_by e Idle state_is (λ c so. let h = so in cc) is refl
    by_state e (Opening x) state_is is = none_by e (Opening x) state_is (λ c so. let h = so in cc) is refl
    by_state e (TimedOut link) state_is is = none_by e (TimedOut link) state_is (λ c so. let h = so in cc) is refl
    by_state e (Closing x) state_is is = none_by e (Closing x) state_is (λ c so. let h = so in cc) is refl

-- a slot that is established by the opening by which it was has the ids that it had
abbrev pub KeepsLinks : ScannerTable → ScannerTable → Type 0
KeepsLinks t u =
    (now : IndexedSlot) → Stands u now → (was : Slot) → Stands t (indexed_at now.number now.config was) →
    (c : SlotConnection) → now.slot.state ≡ Established c → came_from c.opening was.state ≡ true → WasSame was.state c

goes_gathers : (accepted : List Acceptance) (established : List Establishment) (device : ℕ) (t u : ScannerTable) → Goes Images t u → KeepsLinks t u → TableGathers accepted established device t → TableGathers accepted (establishes device (Scanner t) (Scanner u) ++ established) device u
goes_gathers accepted established device t u goes links ok now stands =
    let was = was_of Images t u now goes stands in
    let both = slot_on accepted established device t now.number now.config was.slot now.slot (place_establishes device t now) (slot_stands t (indexed_at now.number now.config was.slot) was.stands) refl was.holds (links now stands was.slot was.stands) (ok (indexed_at now.number now.config was.slot) was.stands)
    (find (is_slot device now.number) (establishes device (Scanner t) (Scanner u) ++ established)) (found_after device t u established now stands) in
    record { image = both.0; last = both.1 }

pub quiet_gathers : (accepted : List Acceptance) (established : List Establishment) (device : ℕ) (t : ScannerTable) (e : Event) (next : Next) → scanner_step t e ≡ Ok next → is_datagram e ≡ false → KeepsLinks t next.1 → TableGathers accepted established device t → TableGathers accepted (establishes device (Scanner t) (Scanner next.1) ++ established) device next.1
quiet_gathers accepted established device t e next is none links ok =
    goes_gathers accepted established device t next.1 (subst (λ (said : Result Next StepFault). IfOk said (λ n. Goes Images t n.1)) is (images_lead t e none)) links ok

-- ---- slots that keep their ids

same_links : (t : ScannerTable) → KeepsLinks t t
same_links t now stands was before c is came =
    let same = same_slot t (indexed_at now.number now.config was) now refl before stands in
    record { before = c; state = ap (λ (x : IndexedSlot). x.slot.state) same ∙ is; opening = refl; link = refl }

set_links : (t : ScannerTable) (place : IndexedSlot) (slot : Slot) → Stands t place → ((x : SlotConnection) → slot.state ≡ Established x → WasSame place.slot.state x) → KeepsLinks t (with_slot t place.number slot)
set_links t place slot stands own now there was before c is came = by_case (set_cases t t place slot now (same_alike t) stands there) where
  old : now ≡ indexed_at place.number place.config slot → WasSame was.state c
  old same =
      let same_place = same_slot t (indexed_at now.number now.config was) place (ap (λ (x : IndexedSlot). x.number) same) before stands in
      subst (λ (x : IndexedSlot). WasSame x.slot.state c) (sym same_place) (own c (sym (ap (λ (x : IndexedSlot). x.slot.state) same) ∙ is))

  by_case : SetCases t place slot now → WasSame was.state c
  by_case (inl same) = old same
  by_case (inr apart) = same_links t now apart.1 was before c is came

as_all : (P : IndexedSlot → Type 0) (xs : List IndexedSlot) → Each P xs → AllByRecursion P xs
as_all P [] all = tt
as_all P (y ∷ ys) all = (all.0, as_all P ys all.1)

-- the slot of a number is the one that stands there
was_there : (t : ScannerTable) (now : IndexedSlot) (was : Slot) (place : IndexedSlot) → Stands t (indexed_at now.number now.config was) → Contains (indexed_slots t) place → place.number ≡ now.number → place.slot ≡ was
was_there t now was place before there number =
    let stands : Stands t place = all_contains (Stands t) (indexed_slots t) place (as_all (Stands t) (indexed_slots t) (each_stands t)) there in
    ap (λ (x : IndexedSlot). x.slot) (same_slot t place (indexed_at now.number now.config was) number stands before)

ids_keep : (t : ScannerTable) (e : Event) (now : IndexedSlot) (was : Slot) (c : SlotConnection) → Stands t (indexed_at now.number now.config was) → came_from c.opening was.state ≡ true → WasEstablished t now.number now.config c ⊎ IsEstablishedBy t e now.number now.config c → WasSame was.state c
ids_keep t e now was c before came (inl w) =
    let same = w.same in
    let slot = was_there t now was w.place before w.there w.number_is in
    record { before = w.before; state = sym (ap (λ (s : Slot). s.state) slot) ∙ w.state; opening = sym same.opening; link = sym same.link }
ids_keep t e now was c before came (inr by) =
    let waits = by.waits in
    let slot = was_there t now was waits.indexed before waits.there waits.number_is in
    absurd (let e : came_from c.opening (Opening by.opening) ≡ true = subst (λ (s : SlotState). came_from c.opening s ≡ true) (sym (ap (λ (s : Slot). s.state) slot) ∙ waits.state) came in cc)

-- so it is after each step
pub steps_keep_links : SlotsHaveTheIdsOfTheirSuccess → (t : ScannerTable) (e : Event) (next : Next) → scanner_step t e ≡ Ok next → IsWholeDevice (Scanner t) → KeepsLinks t next.1
steps_keep_links ids t e (answer, u) is whole now stands was before c established_so came =
    let has : SlotHasItsIds t e now = found_holds (SlotHasItsIds t e) (is_numbered now.number) (indexed_slots u) now (ids t e answer u is whole) (slot_stands u now stands) in
    ids_keep t e now was c before came (subst (StateHasItsIds t e now.number now.config) established_so has)

-- ---- a datagram

-- more is accepted
has_behind : (xs ys : List Acceptance) (a : Acceptance) → Has a ys → Has a (xs ++ ys)
has_behind [] ys a has = has
has_behind (x ∷ xs) ys a has = inr (has_behind xs ys a has)

image_more : (more accepted : List Acceptance) (device : ℕ) (config : SlotConfig) (image : List ℕ) (o : Option Establishment) → ImageOf accepted device config image o → ImageOf (more ++ accepted) device config image o
image_more more accepted device config image None ok = ok
image_more more accepted device config image (Some e) (inl zeros) = inl zeros
image_more more accepted device config image (Some e) (inr g) = inr (record { acceptance = g.acceptance; there = has_behind more accepted g.acceptance g.there; consumer_is = g.consumer_is; id_is = g.id_is; image_is = g.image_is })

pub gathers_more : (more accepted : List Acceptance) (established : List Establishment) (device : ℕ) (t : ScannerTable) → TableGathers accepted established device t → TableGathers (more ++ accepted) established device t
gathers_more more accepted established device t ok place stands =
    let old = ok place stands in
    record { image = image_more more accepted device place.config place.slot.image (find (is_slot device place.number) established) old.image; last = old.last }

-- the accepted datagram is the last of its connection, and the image may be other bytes
abbrev fed_slot : ScannerTable → IndexedSlot → DatagramFields → SlotConnection → List ℕ → Slot
fed_slot t place d c bytes = record place.slot { state = Established (accepted_connection t.clock d c); image = bytes }

fed_same : (t : ScannerTable) (place : IndexedSlot) (d : DatagramFields) (c : SlotConnection) (bytes : List ℕ) → place.slot.state ≡ Established c → (x : SlotConnection) → (fed_slot t place d c bytes).state ≡ Established x → WasSame place.slot.state x
fed_same t place d c bytes is x now =
    let same : accepted_connection t.clock d c ≡ x = connection_is (accepted_connection t.clock d c) x now in
    record { before = c; state = is; opening = ap (λ (y : SlotConnection). y.opening) same; link = ap (λ (y : SlotConnection). y.link) same }
  where
    connection_is : (a b : SlotConnection) → Established a ≡ Established b → a ≡ b
    connection_is a b is = cc

-- a repeated count leaves the image
repeat_goes : (t : ScannerTable) (place : IndexedSlot) (d : DatagramFields) (c : SlotConnection) → Stands t place → place.slot.state ≡ Established c → Goes Images t (accepted_table t place d c place.slot.image)
repeat_goes t place d c stands is =
    let slot = fed_slot t place d c place.slot.image in
    set_goes Images images_slotwise.stays t t place slot (set_later t place.number slot) refl stands (record { image = inl refl; state = λ x now. inl (fed_same t place d c place.slot.image is x now) })

same_goes : (t : ScannerTable) → Goes Images t t
same_goes t = stays_goes Images images_slotwise.stays t t (same_later t) refl

-- a slot that is as it was, or accepted a datagram, becomes established by nothing
none_new : (device : ℕ) (t : ScannerTable) (number : ℕ) (config : SlotConfig) (was : Slot) (state : SlotState) → slot_at t number ≡ Some (indexed_at number config was) → ((x : SlotConnection) → state ≡ Established x → WasSame was.state x) → state_establishes device t number state ≡ None
none_new device t number config was Idle at same = refl
none_new device t number config was (Opening o) at same = refl
none_new device t number config was (Established x) at same =
    ap (λ (p : Option IndexedSlot). cond (came_before x.opening p) None (Some (establishment device number x))) at ∙ ap (λ (b : Bool). cond b None (Some (establishment device number x))) (came_same was.state x (same x refl))
none_new device t number config was (TimedOut link) at same = refl
none_new device t number config was (Closing x) at same = refl

-- new data of the slot's connection stand in the image
applied_gathers : (accepted_so_far : List Acceptance) (established : List Establishment) (device : ℕ) (p : Production) (t : ScannerTable) (place : IndexedSlot) (d : DatagramFields) (c : SlotConnection) → Stands t place → place.slot.state ≡ Established c → c.link.t_o_id.0 ≡ again w32 p.made.datagram.connection → d.payload ≡ p.made.datagram.payload → TableGathers accepted_so_far established device t → TableGathers (Entry device p c.opening Applied ∷ accepted_so_far) (establishes device (Scanner t) (Scanner (accepted_table t place d c d.payload)) ++ established) device (accepted_table t place d c d.payload)
applied_gathers accepted_so_far established device p t place d c stands is id payload ok now there = by_case (set_cases t t place slot now (same_alike t) stands there) where
  slot : Slot
  slot = fed_slot t place d c d.payload

  u : ScannerTable
  u = accepted_table t place d c d.payload

  more : List Acceptance
  more = Entry device p c.opening Applied ∷ accepted_so_far

  found : Establishment → Bool
  found = is_slot device now.number

  none_left : (config : SlotConfig) (was : Slot) → slot_at t now.number ≡ Some (indexed_at now.number config was) → ((x : SlotConnection) → now.slot.state ≡ Established x → WasSame was.state x) → find found (establishes device (Scanner t) (Scanner u) ++ established) ≡ find found established
  none_left config was at same = found_after device t u established now there ∙ ap (λ (o : Option Establishment). or_other o (find found established)) (none_new device t now.number config was now.slot.state at same)

  gathers : (f : Option Establishment) → f ≡ find found established → ImageOf more device now.config now.slot.image (find found established) → ((x : SlotConnection) → now.slot.state ≡ Established x → IsLast (find found established) x) → ImageOf more device now.config now.slot.image f × ((x : SlotConnection) → now.slot.state ≡ Established x → IsLast f x)
  gathers f same image last = subst (λ (o : Option Establishment). ImageOf more device now.config now.slot.image o × ((x : SlotConnection) → now.slot.state ≡ Established x → IsLast o x)) (sym same) (image, last)

  as_gathers : ImageOf more device now.config now.slot.image (find found (establishes device (Scanner t) (Scanner u) ++ established)) × ((x : SlotConnection) → now.slot.state ≡ Established x → IsLast (find found (establishes device (Scanner t) (Scanner u) ++ established)) x) → SlotGathers more (establishes device (Scanner t) (Scanner u) ++ established) device now
  as_gathers both = record { image = both.0; last = both.1 }

  own : now ≡ indexed_at place.number place.config slot → SlotGathers more (establishes device (Scanner t) (Scanner u) ++ established) device now
  own same =
      let number : now.number ≡ place.number = ap (λ (x : IndexedSlot). x.number) same in
      let state : now.slot.state ≡ slot.state = ap (λ (x : IndexedSlot). x.slot.state) same in
      let image : now.slot.image ≡ d.payload = ap (λ (x : IndexedSlot). x.slot.image) same in
      let at : slot_at t now.number ≡ Some (indexed_at now.number place.config place.slot) = subst (λ (n : ℕ). slot_at t n ≡ Some (indexed_at n place.config place.slot)) (sym number) (slot_stands t place stands) in
      let was_same : (x : SlotConnection) → now.slot.state ≡ Established x → WasSame place.slot.state x = λ x so. fed_same t place d c d.payload is x (sym state ∙ so) in
      let old : IsLast (find found established) c = subst (λ (n : ℕ). IsLast (find (is_slot device n) established) c) (sym number) ((ok place stands).last c is) in
      let gathered_now : Gathered more (end_at device old.establishment.request) old.establishment.t_o_id.0 now.slot.image =
      record { acceptance = Entry device p c.opening Applied; there = inl refl; consumer_is = ap (end_at device) (sym old.request); id_is = sym id ∙ sym (ap (λ (x : ConnId). x.0) old.t_o); image_is = image ∙ payload } in
      as_gathers (gathers (find found (establishes device (Scanner t) (Scanner u) ++ established)) (none_left place.config place.slot at was_same)
      (subst (ImageOf more device now.config now.slot.image) (sym old.is) (inr gathered_now))
      (λ x so. let m = was_same x so in record { establishment = old.establishment; is = old.is; request = old.request ∙ ap (λ (y : SlotConnection). y.opening) (connection_is c m.before (sym is ∙ m.state)) ∙ m.opening; t_o = old.t_o ∙ ap (λ (y : SlotConnection). y.link.t_o_id) (connection_is c m.before (sym is ∙ m.state)) ∙ ap (λ (l : Link). l.t_o_id) m.link }))
    where
      connection_is : (a b : SlotConnection) → Established a ≡ Established b → a ≡ b
      connection_is a b is = cc

  other : Stands t now → SlotGathers more (establishes device (Scanner t) (Scanner u) ++ established) device now
  other before =
      let old = ok now before in
      let at : slot_at t now.number ≡ Some (indexed_at now.number now.config now.slot) = slot_stands t now before in
      as_gathers (gathers (find found (establishes device (Scanner t) (Scanner u) ++ established)) (none_left now.config now.slot at (λ x so. record { before = x; state = so; opening = refl; link = refl }))
      (image_more (Entry device p c.opening Applied ∷ []) accepted_so_far device now.config now.slot.image (find found established) old.image) old.last)

  by_case : SetCases t place slot now → SlotGathers more (establishes device (Scanner t) (Scanner u) ++ established) device now
  by_case (inl same) = own same
  by_case (inr apart) = other apart.1

-- what a scanner's answer to a datagram leaves
abbrev NextGathers : List Acceptance → List Establishment → ℕ → Production → ScannerTable → Option ℕ → Next → Type 0
NextGathers so_far established device p t number n = TableGathers (accepted_by_verdict device p number n.0.verdict ++ so_far) (establishes device (Scanner t) (Scanner n.1) ++ established) device n.1

connected_gathers : (so_far : List Acceptance) (established : List Establishment) (device : ℕ) (p : Production) (t : ScannerTable) (place : IndexedSlot) (d : DatagramFields) (c : SlotConnection) → Stands t place → place.slot.state ≡ Established c → c.link.t_o_id.0 ≡ again w32 p.made.datagram.connection → d.payload ≡ p.made.datagram.payload → TableGathers so_far established device t → NextGathers so_far established device p t (Some c.opening) (connected t place d c)
connected_gathers so_far established device p t place d c stands is id payload ok =
    let same = goes_gathers so_far established device t t (same_goes t) (same_links t) ok in
    let P : Next → Type 0 = NextGathers so_far established device p t (Some c.opening) in
    either P (length d.payload == place.config.in_len) (sized t place d c) (delivered WrongSize t)
    (either P (accepts_at t place c d.sequence) (accepted t place d c) (delivered Old t)
    (either P (is_duplicate c.last d.count) (delivered Duplicate (accepted_table t place d c place.slot.image)) (delivered Applied (accepted_table t place d c d.payload))
    (goes_gathers (Entry device p c.opening Duplicate ∷ so_far) established device t (accepted_table t place d c place.slot.image) (repeat_goes t place d c stands is) (set_links t place (fed_slot t place d c place.slot.image) stands (fed_same t place d c place.slot.image is))
    (gathers_more (Entry device p c.opening Duplicate ∷ []) so_far established device t ok))
    (applied_gathers so_far established device p t place d c stands is id payload ok))
    same)
    same

state_gathers : (so_far : List Acceptance) (established : List Establishment) (device : ℕ) (p : Production) (t : ScannerTable) (place : IndexedSlot) (d : DatagramFields) (state : SlotState) → Stands t place → place.slot.state ≡ state → ((c : SlotConnection) → state ≡ Established c → c.link.t_o_id.0 ≡ again w32 p.made.datagram.connection) → d.payload ≡ p.made.datagram.payload → TableGathers so_far established device t → NextGathers so_far established device p t (state_number state) (state_received t place d state)
state_gathers so_far established device p t place d (Established c) stands is id payload ok = connected_gathers so_far established device p t place d c stands is (id c refl) payload ok
state_gathers so_far established device p t place d Idle stands is id payload ok = goes_gathers so_far established device t t (same_goes t) (same_links t) ok
state_gathers so_far established device p t place d (Opening o) stands is id payload ok = goes_gathers so_far established device t t (same_goes t) (same_links t) ok
state_gathers so_far established device p t place d (TimedOut link) stands is id payload ok = goes_gathers so_far established device t t (same_goes t) (same_links t) ok
state_gathers so_far established device p t place d (Closing c) stands is id payload ok = goes_gathers so_far established device t t (same_goes t) (same_links t) ok

-- a slot that a datagram names has its id
named_id : (t : ScannerTable) (peer : Node) (d : DatagramFields) (p : Production) (place : IndexedSlot) (c : SlotConnection) → d.connection ≡ again w32 p.made.datagram.connection → is_for peer d.connection place ≡ true → place.slot.state ≡ Established c → c.link.t_o_id.0 ≡ again w32 p.made.datagram.connection
named_id t peer d p place c connection passes is =
    let parts = and_parts (is_with peer place) (state_consumes (record { 0 = d.connection }) place.slot.state) passes in
    eqb-true c.link.t_o_id.0 d.connection (subst (λ (s : SlotState). state_consumes (record { 0 = d.connection }) s ≡ true) is parts.1) ∙ connection

found_gathers : (so_far : List Acceptance) (established : List Establishment) (device : ℕ) (p : Production) (t : ScannerTable) (peer : Node) (d : DatagramFields) (found : Option IndexedSlot) → find (is_for peer d.connection) (indexed_slots t) ≡ found → ComesBack p.made.datagram d → TableGathers so_far established device t → NextGathers so_far established device p t (slot_number found) (received_at t d found)
found_gathers so_far established device p t peer d None is back ok = goes_gathers so_far established device t t (same_goes t) (same_links t) ok
found_gathers so_far established device p t peer d (Some place) is back ok =
    state_gathers so_far established device p t place d place.slot.state (each_found (Stands t) (is_for peer d.connection) (indexed_slots t) place is (each_stands t)) refl
    (λ c so. named_id t peer d p place c back.connection (found_passes (is_for peer d.connection) (indexed_slots t) place is) so) back.payload ok

read_gathers : (so_far : List Acceptance) (established : List Establishment) (device : ℕ) (p : Production) (t : ScannerTable) (peer : Node) (reading : Result DatagramFields DatagramFault) → datagram_reading (datagram_text p.made.datagram) ≡ reading → TableGathers so_far established device t → NextGathers so_far established device p t (names_in (Scanner t) peer reading) (received_as t peer reading)
read_gathers so_far established device p t peer (Err fault) is ok = goes_gathers so_far established device t t (same_goes t) (same_links t) ok
read_gathers so_far established device p t peer (Ok d) is ok = found_gathers so_far established device p t peer d (find (is_for peer d.connection) (indexed_slots t)) refl (read_as p.made.datagram d is) ok

pub datagram_gathers : (so_far : List Acceptance) (established : List Establishment) (device : ℕ) (p : Production) (t : ScannerTable) (peer : Node) → TableGathers so_far established device t → TableGathers (accepted_by_verdict device p (names (Scanner t) (record { from = peer; bytes = datagram_text p.made.datagram })) (received t peer (datagram_text p.made.datagram)).0.verdict ++ so_far) (establishes device (Scanner t) (Scanner (received t peer (datagram_text p.made.datagram)).1) ++ established) device (received t peer (datagram_text p.made.datagram)).1
unfolding received
datagram_gathers so_far established device p t peer ok = read_gathers so_far established device p t peer (datagram_reading (datagram_text p.made.datagram)) refl ok
