-- What an adapter accepts through one connection was produced by the slot's opening whose Forward_Open opened it.
use Rattle.std.proofs.Common.{◌≡◌, ◌<◌, ◌⊎◌, inl, inr, ℕ, ◌+◌, ◌^◌, ◌==◌, true, List, [], ◌++◌, find, map, slice_get, Option, Some, None, Result, Ok, Err, refl, sym, ◌∙◌, ap, subst, eqb-true}
use Rattle.std.specs.List.{AllByRecursion, Contains}
use Rattle.std.proofs.lemmas.List.Elements.{Contains-append_left}
use Rattle.std.proofs.lemmas.Bool.{and_parts}
use Rattle.std.proofs.lemmas.Option.{same_Some}
use Rattle.base_lemmas.specs.Lists.{found_passes}
use Rattle.cip_types.specs.declared.names.ConnId.{ConnId}
use Rattle.cip_datagram.specs.declared.datagram.DatagramFault.{DatagramFault}
use Rattle.cip_datagram.specs.Datagram.{DatagramFields, datagram_text}
use Rattle.cip_datagram.specs.Reading.{datagram_reading}
use Rattle.cip_events.specs.declared.event.Verdict.{Verdict}
use Rattle.adapter_table.specs.Connections.{Row}
use Rattle.adapter_table.specs.declared.table.AdapterTable.{AdapterTable}
use Rattle.adapter_table.specs.Datagrams.{is_for}
use Rattle.adapter_table.specs.Rows.{is_established}
use Rattle.scanner_table.specs.declared.slot.SlotConnection.{SlotConnection}
use Rattle.scanner_table.specs.declared.slot.SlotState.{SlotState}
use Rattle.scanner_table.specs.declared.slot.SlotState.TheVariants.{Idle, Opening, Established, TimedOut, Closing}
use Rattle.scanner_table.specs.declared.table.ScannerTable.{ScannerTable}
use Rattle.scanner_table.specs.Datagrams.{is_for as is_for_slot}
use Rattle.scanner_table.specs.Replies.{state_consumes}
use Rattle.scanner_table.specs.Slots.{IndexedSlot, indexed_slots, is_with}
use Rattle.cip_tables.specs.declared.table.DeviceTable.{DeviceTable}
use Rattle.cip_tables.specs.declared.table.DeviceTable.TheVariants.{Adapter, Scanner}
use Rattle.segment_world.specs.Transit.Log.{Sent}
use Rattle.segment_world.specs.declared.act.Act.{Act}
use Rattle.segment_world.specs.World.{World, ReportedEvent, node_at, happens}
use Rattle.device_laws.specs.Lemmas.Lists.{all_both, all_more}
use Rattle.device_laws.specs.Lemmas.Texts.{same_again}
use Rattle.device_laws.specs.Productions.{End, end_at, Production}
use Rattle.device_laws.specs.Lemmas.Reading.{ComesBack, read_as}
use Rattle.schedule_laws.specs.Ids.{AreDrawnApart}
use Rattle.schedule_laws.specs.Lemmas.Lists.{all_get}
use Rattle.schedule_laws.specs.Chronicle.{Opened, opens_row, row_number, state_number, slot_number, names_in, names, Acceptance, accepted_by_verdict, accepted_sent, accepted_by_act}
use Rattle.schedule_laws.specs.Indexes.{sent_of}
use Rattle.schedule_laws.specs.Names.{IsAdapterIn, IsScannerIn, IsOfGroup, IsOwn, IsEntry, HasEntry, IsOpenedFor, IsOpenedAt, StateHasEntry, SlotHasEntry, ProductionHasEntry, IsMadeBy, ProducerHasEntry, IsOfItsOpening, IsOfItsEntry, SlotAcceptsByEntry, WasProduced}
use Rattle.schedule_laws.specs.Lemmas.AdapterNewest.{Entry}
use Rattle.schedule_laws.specs.Lemmas.Entries.{Later, adapter_back, scanner_back, IsDeviceIn, AdapterIsNamed, ScannerIsNamed}
use Rattle.device_laws.specs.Lemmas.RowIds.{all_contained}
use Rattle.schedule_laws.specs.Lemmas.Found.{find_more, found_holds, all_contains}
use Rattle.schedule_laws.specs.Lemmas.NameActs.{NamedAt}
use Rattle.schedule_laws.specs.Lemmas.Numbers.{IsOne, id_fits, one_id}
use Rattle.schedule_laws.specs.Lemmas.Addresses.{HaveNodes}
use Rattle.schedule_laws.specs.Lemmas.ApartIds.{Differ, DifferFromAll}
use Rattle.schedule_laws.specs.Lemmas.OneProducer.{OpenedOnce, one_producer, own_number}
use Rattle.schedule_laws.specs.Lemmas.NewestActs.{sent_as}
use Rattle.schedule_laws.specs.Lemmas.Deliveries.{IsDelivery, IsOther, act_kind, IsNoted, verdict_noted}

-- ---- one O->T id, one entry

-- an entry's id is of 32 bits
entry_fits : (w : World) (opened : List Opened) (e : Opened) → AreDrawnApart w → IsEntry w opened e → e.o_t_id.0 < 2 ^ 32
entry_fits w opened e drawn is =
    subst (λ (id : ConnId). id.0 < 2 ^ 32) (sym is.id) (id_fits w e.row.device (Adapter is.table) e.row.number drawn.ids is.there is.has)

-- and so is its T->O id
t_o_fit : (w : World) (e : Opened) (t : AdapterTable) → AreDrawnApart w → slice_get w.tables e.row.device ≡ Some (Adapter t) → IsOfGroup t e ⊎ IsOwn w e → e.t_o_id.0 < 2 ^ 32
t_o_fit w e t drawn at (inl group) =
    subst (λ (id : ConnId). id.0 < 2 ^ 32) (sym group.id) (id_fits w e.row.device (Adapter t) (e.producer.number + 1) drawn.ids at group.has)
t_o_fit w e t drawn at (inr own) =
    let scanner = own.scanner in
    let id = own.id in
    subst (λ (n : ℕ). n < 2 ^ 32) (sym id.is) (id_fits w e.slot.device (Scanner scanner.table) id.number drawn.ids scanner.is (own_number w e own))

pub t_o_fits : (w : World) (opened : List Opened) (e : Opened) → AreDrawnApart w → IsEntry w opened e → e.t_o_id.0 < 2 ^ 32
t_o_fits w opened e drawn is = t_o_fit w e is.table drawn is.there is.t_o

pub entries_same : (w : World) (opened : List Opened) (e f : Opened) → AreDrawnApart w → IsEntry w opened e → IsEntry w opened f → e.o_t_id.0 ≡ f.o_t_id.0 → e ≡ f
entries_same w opened e f drawn one two same =
    let is : IsOne e.row.device f.row.device e.row.number f.row.number =
    one_id w e.row.device f.row.device (Adapter one.table) (Adapter two.table) e.row.number f.row.number drawn.ids drawn.apart one.there two.there
    one.has two.has (sym (ap (λ (id : ConnId). id.0) one.id) ∙ same ∙ ap (λ (id : ConnId). id.0) two.id) in
    let row : e.row ≡ f.row = ap (λ (d : ℕ). end_at d e.row.number) is.device ∙ ap (end_at f.row.device) is.number in
    same_Some e f (sym one.first ∙ ap (λ (x : End). find (opens_row x) opened) row ∙ two.first)

-- ---- a datagram for a connection

-- the device that made a production
abbrev IsDeviceOf : World → Production → Type 0
IsDeviceOf w p = (t : DeviceTable) × (slice_get w.tables p.producer.device ≡ Some t)

-- it is of the connection's opening
pub record IsOfOpening (opened : List Opened) (device number : ℕ) (p : Production) : Type 0 where
  pub entry : Opened
  pub found : find (opens_row (end_at device number)) opened ≡ Some entry
  pub producer : p.producer ≡ entry.slot
  pub id : p.made.datagram.connection ≡ entry.o_t_id.0

-- what made a production has an entry with the production's id: a scanner that of its own opening, an adapter one of its producer
pub record IsOfEntry (w : World) (opened : List Opened) (p : Production) : Type 0 where
  pub scanner : ProductionHasEntry w opened p
  pub adapter : ProducerHasEntry w opened p

never_equal : (w : World) (opened : List Opened) (produced : List Production) (e f : Opened) → NamedAt w opened produced → Contains opened e → Contains opened f → e.o_t_id.0 ≡ f.t_o_id.0 → ⊥
never_equal w opened produced e f named one two same =
    all_contains (Differ e) opened f (all_contains (DifferFromAll opened) opened e named.apart one) two same

-- the id of a datagram that was read is the production's, since it is that of an entry
read_id : (p : Production) (d : DatagramFields) (id : ℕ) → ComesBack p.made.datagram d → id ≡ p.made.datagram.connection → id < 2 ^ 32 → d.connection ≡ p.made.datagram.connection
read_id p d id back is fits = back.connection ∙ same_again p.made.datagram.connection (subst (λ (n : ℕ). n < 2 ^ 32) is fits)

-- the id of a connection that a datagram is for
row_id : (w : World) (p : Production) (d : DatagramFields) (row : Row) → is_for (node_at w p.producer.device) d.connection row ≡ true → row.o_t_id.0 ≡ d.connection
row_id w p d row passes =
    let parts = and_parts (is_established row) _ passes in
    let two = and_parts (row.peer.0 == (node_at w p.producer.device).0) (row.o_t_id.0 == d.connection) parts.1 in
    eqb-true row.o_t_id.0 d.connection two.1

row_of_opening : (w : World) (opened : List Opened) (produced : List Production) (device : ℕ) (t : AdapterTable) (p : Production) (d : DatagramFields) (row : Row) (maker : DeviceTable) → NamedAt w opened produced → AreDrawnApart w → slice_get w.tables p.producer.device ≡ Some maker → IsOfEntry w opened p → ComesBack p.made.datagram d → is_for (node_at w p.producer.device) d.connection row ≡ true → HasEntry w opened device row → IsOfOpening opened device row.opening p
row_of_opening w opened produced device t p d row (Scanner s) named drawn at has back passes entry =
    let e = entry.entry in
    let is : IsEntry w opened e = found_holds (IsEntry w opened) (opens_row (end_at device row.opening)) opened e named.entries entry.found in
    let opening : IsOpenedFor opened p.producer p.made.datagram.connection = has.scanner (record { table = s; is = at }) in
    let f = opening.entry in
    let other : IsEntry w opened f = all_contains (IsEntry w opened) opened f named.entries opening.there in
    let read = read_id p d f.o_t_id.0 back opening.o_t_is (entry_fits w opened f drawn other) in
    let same : e ≡ f = entries_same w opened e f drawn is other (ap (λ (x : ConnId). x.0) entry.o_t ∙ row_id w p d row passes ∙ read ∙ sym opening.o_t_is) in
    record { entry = e; found = entry.found; producer = sym opening.slot_is ∙ ap (λ (x : Opened). x.slot) (sym same); id = sym opening.o_t_is ∙ ap (λ (x : Opened). x.o_t_id.0) (sym same) }
row_of_opening w opened produced device t p d row (Adapter u) named drawn at has back passes entry =
    let e = entry.entry in
    let there : Contains opened e = found_holds (Contains opened) (opens_row (end_at device row.opening)) opened e (all_contained opened [] opened refl) entry.found in
    let made : IsMadeBy opened p.producer p.made = has.adapter (record { table = u; is = at }) in
    let from = made.by in
    let f = from.entry in
    let other : IsEntry w opened f = all_contains (IsEntry w opened) opened f named.entries from.there in
    let read = read_id p d f.t_o_id.0 back from.t_o_is (t_o_fits w opened f drawn other) in
    absurd (never_equal w opened produced e f named there from.there (ap (λ (x : ConnId). x.0) entry.o_t ∙ row_id w p d row passes ∙ read ∙ sym from.t_o_is))

named_row : (w : World) (opened : List Opened) (produced : List Production) (device : ℕ) (t : AdapterTable) (p : Production) (d : DatagramFields) (found : Option Row) (number : ℕ) → NamedAt w opened produced → AreDrawnApart w → IsDeviceOf w p → IsOfEntry w opened p → ComesBack p.made.datagram d → AllByRecursion (HasEntry w opened device) t.rows → find (is_for (node_at w p.producer.device) d.connection) t.rows ≡ found → row_number found ≡ Some number → IsOfOpening opened device number p
named_row w opened produced device t p d None number named drawn maker has back rows is names = absurd (let e = names in cc)
named_row w opened produced device t p d (Some row) number named drawn maker has back rows is names =
    let test = is_for (node_at w p.producer.device) d.connection in
    subst (λ (n : ℕ). IsOfOpening opened device n p) (some_number row.opening number names)
    (row_of_opening w opened produced device t p d row maker.0 named drawn maker.1 has back (found_passes (is_for (node_at w p.producer.device) d.connection) t.rows row is) (found_holds (HasEntry w opened device) (is_for (node_at w p.producer.device) d.connection) t.rows row rows is))
  where
    some_number : (a b : ℕ) → Some a ≡ Some b → a ≡ b
    some_number a b e = cc

named_reading : (w : World) (opened : List Opened) (produced : List Production) (device : ℕ) (t : AdapterTable) (p : Production) (reading : Result DatagramFields DatagramFault) (number : ℕ) → NamedAt w opened produced → AreDrawnApart w → IsDeviceOf w p → IsOfEntry w opened p → AllByRecursion (HasEntry w opened device) t.rows → datagram_reading (datagram_text p.made.datagram) ≡ reading → names_in (Adapter t) (node_at w p.producer.device) reading ≡ Some number → IsOfOpening opened device number p
named_reading w opened produced device t p (Err why) number named drawn maker has rows is names = absurd (let e = names in cc)
named_reading w opened produced device t p (Ok d) number named drawn maker has rows is names =
    named_row w opened produced device t p d (find (is_for (node_at w p.producer.device) d.connection) t.rows) number named drawn maker has (read_as p.made.datagram d is) rows refl names

entry_of : (w : World) (opened : List Opened) (produced : List Production) (index : ℕ) (p : Production) → NamedAt w opened produced → slice_get produced index ≡ Some p → IsOfEntry w opened p
entry_of w opened produced index p named there = record {
  scanner = all_get (ProductionHasEntry w opened) produced index p named.productions there;
  adapter = all_get (ProducerHasEntry w opened) produced index p named.producers there;
}

-- a production that names a connection of an adapter is of its opening
named_production : (w : World) (opened : List Opened) (produced : List Production) (device index : ℕ) (t : AdapterTable) (p : Production) (number : ℕ) → NamedAt w opened produced → HaveNodes w produced → AreDrawnApart w → slice_get w.tables device ≡ Some (Adapter t) → slice_get produced index ≡ Some p → names (Adapter t) (sent_of w p) ≡ Some number → IsOfOpening opened device number p
named_production w opened produced device index t p number named have drawn at there names =
    let maker = all_get (λ (q : Production). IsDeviceIn w q.producer.device) produced index p have.makers there in
    let table : AdapterIsNamed w opened device t = named.tables device (Adapter t) at in
    named_reading w opened produced device t p (datagram_reading (datagram_text p.made.datagram)) number named drawn (maker.table, maker.is)
    (entry_of w opened produced index p named there) table.rows refl names

-- ---- a datagram for a slot

-- the adapter of an entry of the slot's opening made it, with the entry's T->O id
record IsOfSlot (opened : List Opened) (device number : ℕ) (p : Production) : Type 0 where
  entry : Opened
  there : Contains opened entry
  slot_is : entry.slot ≡ end_at device number
  maker : p.producer.device ≡ entry.row.device
  id : p.made.datagram.connection ≡ entry.t_o_id.0

-- the id of an established slot that a datagram is for
slot_id : (w : World) (p : Production) (d : DatagramFields) (place : IndexedSlot) (c : SlotConnection) → is_for_slot (node_at w p.producer.device) d.connection place ≡ true → place.slot.state ≡ Established c → c.link.t_o_id.0 ≡ d.connection
slot_id w p d place c passes is_open =
    let parts = and_parts (is_with (node_at w p.producer.device) place) (state_consumes (record { 0 = d.connection }) place.slot.state) passes in
    eqb-true c.link.t_o_id.0 d.connection (subst (λ (s : SlotState). state_consumes (record { 0 = d.connection }) s ≡ true) is_open parts.1)

entry_of_slot : (w : World) (opened : List Opened) (produced : List Production) (device : ℕ) (p : Production) (d : DatagramFields) (place : IndexedSlot) (c : SlotConnection) (maker : DeviceTable) → NamedAt w opened produced → OpenedOnce w opened → AreDrawnApart w → slice_get w.tables p.producer.device ≡ Some maker → IsOfEntry w opened p → ComesBack p.made.datagram d → is_for_slot (node_at w p.producer.device) d.connection place ≡ true → place.slot.state ≡ Established c → SlotHasEntry w opened device place → IsOfSlot opened device c.opening p
entry_of_slot w opened produced device p d place c (Adapter t) named once drawn maker has back passes is_open entry =
    let at : IsOpenedAt w opened place.config.target (end_at device c.opening) c.link.o_t_id.0 c.link.t_o_id.0 = subst (StateHasEntry w opened device place.config.target) is_open entry in
    let by = at.opening in
    let e = by.entry in
    let is : IsEntry w opened e = all_contains (IsEntry w opened) opened e named.entries by.there in
    let made : IsMadeBy opened p.producer p.made = has.adapter (record { table = t; is = maker }) in
    let from = made.by in
    let f = from.entry in
    let other : IsEntry w opened f = all_contains (IsEntry w opened) opened f named.entries from.there in
    let read = read_id p d f.t_o_id.0 back from.t_o_is (t_o_fits w opened f drawn other) in
    let id : p.made.datagram.connection ≡ e.t_o_id.0 = sym read ∙ sym (slot_id w p d place c passes is_open) ∙ sym by.t_o_is in
    let same : f.producer ≡ e.producer = one_producer w opened f e drawn once from.there by.there other is (from.t_o_is ∙ id) in
    record { entry = e; there = by.there; slot_is = by.slot_is; maker = ap (λ (x : End). x.device) (sym from.producer_is ∙ same) ∙ is.maker; id = id }
entry_of_slot w opened produced device p d place c (Scanner t) named once drawn maker has back passes is_open entry =
    let at : IsOpenedAt w opened place.config.target (end_at device c.opening) c.link.o_t_id.0 c.link.t_o_id.0 = subst (StateHasEntry w opened device place.config.target) is_open entry in
    let by = at.opening in
    let e = by.entry in
    let opening : IsOpenedFor opened p.producer p.made.datagram.connection = has.scanner (record { table = t; is = maker }) in
    let f = opening.entry in
    let other : IsEntry w opened f = all_contains (IsEntry w opened) opened f named.entries opening.there in
    let read = read_id p d f.o_t_id.0 back opening.o_t_is (entry_fits w opened f drawn other) in
    absurd (never_equal w opened produced f e named opening.there by.there (opening.o_t_is ∙ sym read ∙ sym (slot_id w p d place c passes is_open) ∙ sym by.t_o_is))

open_place : (w : World) (opened : List Opened) (produced : List Production) (device : ℕ) (p : Production) (d : DatagramFields) (place : IndexedSlot) (state : SlotState) (number : ℕ) → NamedAt w opened produced → OpenedOnce w opened → AreDrawnApart w → IsDeviceOf w p → IsOfEntry w opened p → ComesBack p.made.datagram d → is_for_slot (node_at w p.producer.device) d.connection place ≡ true → SlotHasEntry w opened device place → place.slot.state ≡ state → state_number state ≡ Some number → IsOfSlot opened device number p
open_place w opened produced device p d place Idle number named once drawn maker has back passes entry is names = absurd (let e = names in cc)
open_place w opened produced device p d place (Opening o) number named once drawn maker has back passes entry is names = absurd (let e = names in cc)
open_place w opened produced device p d place (Established c) number named once drawn maker has back passes entry is names =
    subst (λ (n : ℕ). IsOfSlot opened device n p) (same_Some c.opening number names) (entry_of_slot w opened produced device p d place c maker.0 named once drawn maker.1 has back passes is entry)
open_place w opened produced device p d place (TimedOut link) number named once drawn maker has back passes entry is names = absurd (let e = names in cc)
open_place w opened produced device p d place (Closing c) number named once drawn maker has back passes entry is names = absurd (let e = names in cc)

named_place : (w : World) (opened : List Opened) (produced : List Production) (device : ℕ) (t : ScannerTable) (p : Production) (d : DatagramFields) (found : Option IndexedSlot) (number : ℕ) → NamedAt w opened produced → OpenedOnce w opened → AreDrawnApart w → IsDeviceOf w p → IsOfEntry w opened p → ComesBack p.made.datagram d → AllByRecursion (SlotHasEntry w opened device) (indexed_slots t) → find (is_for_slot (node_at w p.producer.device) d.connection) (indexed_slots t) ≡ found → slot_number found ≡ Some number → IsOfSlot opened device number p
named_place w opened produced device t p d None number named once drawn maker has back slots is names = absurd (let e = names in cc)
named_place w opened produced device t p d (Some place) number named once drawn maker has back slots is names =
    let test = is_for_slot (node_at w p.producer.device) d.connection in
    open_place w opened produced device p d place place.slot.state number named once drawn maker has back
    (found_passes (is_for_slot (node_at w p.producer.device) d.connection) (indexed_slots t) place is)
    (found_holds (SlotHasEntry w opened device) (is_for_slot (node_at w p.producer.device) d.connection) (indexed_slots t) place slots is) refl names

slot_reading : (w : World) (opened : List Opened) (produced : List Production) (device : ℕ) (t : ScannerTable) (p : Production) (reading : Result DatagramFields DatagramFault) (number : ℕ) → NamedAt w opened produced → OpenedOnce w opened → AreDrawnApart w → IsDeviceOf w p → IsOfEntry w opened p → AllByRecursion (SlotHasEntry w opened device) (indexed_slots t) → datagram_reading (datagram_text p.made.datagram) ≡ reading → names_in (Scanner t) (node_at w p.producer.device) reading ≡ Some number → IsOfSlot opened device number p
slot_reading w opened produced device t p (Err why) number named once drawn maker has slots is names = absurd (let e = names in cc)
slot_reading w opened produced device t p (Ok d) number named once drawn maker has slots is names =
    named_place w opened produced device t p d (find (is_for_slot (node_at w p.producer.device) d.connection) (indexed_slots t)) number named once drawn maker has (read_as p.made.datagram d is) slots refl names

-- a production that names a slot's opening has the id of its entry
slot_production : (w : World) (opened : List Opened) (produced : List Production) (device index : ℕ) (t : ScannerTable) (p : Production) (number : ℕ) → NamedAt w opened produced → HaveNodes w produced → OpenedOnce w opened → AreDrawnApart w → slice_get w.tables device ≡ Some (Scanner t) → slice_get produced index ≡ Some p → names (Scanner t) (sent_of w p) ≡ Some number → IsOfSlot opened device number p
slot_production w opened produced device index t p number named have once drawn at there names =
    let maker = all_get (λ (q : Production). IsDeviceIn w q.producer.device) produced index p have.makers there in
    let table : ScannerIsNamed w opened device t = named.tables device (Scanner t) at in
    slot_reading w opened produced device t p (datagram_reading (datagram_text p.made.datagram)) number named once drawn (maker.table, maker.is)
    (entry_of w opened produced index p named there) table.slots refl names

-- ---- what was accepted

-- what an adapter accepted is of its connection's opening, what a slot accepted of an entry of the slot's, and both were
-- produced
pub record IsAccepted (w : World) (opened : List Opened) (produced : List Production) (a : Acceptance) : Type 0 where
  pub of_opening : IsAdapterIn w a.consumer.device → IsOfItsOpening opened a
  pub of_entry : SlotAcceptsByEntry w opened a
  pub was_produced : WasProduced produced a

abbrev pub AreOfOpenings : World → List Opened → List Production → List Acceptance → Type 0
AreOfOpenings w opened produced accepted = AllByRecursion (IsAccepted w opened produced) accepted

-- what was produced is among what is produced
abbrev pub Grows : List Production → List Production → Type 0
Grows produced now = (p : Production) → Contains produced p → Contains now p

opening_later : (opened more : List Opened) (a : Acceptance) → IsOfItsOpening opened a → IsOfItsOpening (opened ++ more) a
opening_later opened more a old = record { entry = old.entry; found = find_more (opens_row a.consumer) opened more old.entry old.found; producer = old.producer; id = old.id }

entry_is_later : (opened more : List Opened) (a : Acceptance) → IsOfItsEntry opened a → IsOfItsEntry (opened ++ more) a
entry_is_later opened more a old = record { entry = old.entry; there = Contains-append_left opened more old.entry old.there; slot_is = old.slot_is; maker = old.maker; id = old.id }

accepted_later : (w new : World) (opened more : List Opened) (produced now : List Production) (a : Acceptance) → Later w new → Grows produced now → IsAccepted w opened produced a → IsAccepted new (opened ++ more) now a
accepted_later w new opened more produced now a later grows is = record {
  of_opening = λ adapter. opening_later opened more a (is.of_opening (adapter_back w new a.consumer.device later adapter));
  of_entry = λ scanner. entry_is_later opened more a (is.of_entry (scanner_back w new a.consumer.device later scanner));
  was_produced = grows a.production is.was_produced;
}

pub openings_later : (w new : World) (opened more : List Opened) (produced now : List Production) (accepted : List Acceptance) → Later w new → Grows produced now → AreOfOpenings w opened produced accepted → AreOfOpenings new (opened ++ more) now accepted
openings_later w new opened more produced now accepted later grows all =
    all_more (IsAccepted w opened produced) (IsAccepted new (opened ++ more) now) (λ a is. accepted_later w new opened more produced now a later grows is) accepted all

contained : (produced : List Production) (index : ℕ) (p : Production) → slice_get produced index ≡ Some p → Contains produced p
contained produced index p at = all_get (Contains produced) produced index p (all_contained produced [] produced refl) at

-- what the chronicle notes of a delivery to this device
noted_of_opening : (w : World) (opened : List Opened) (produced : List Production) (device index : ℕ) (t : DeviceTable) (p : Production) (mine : List Acceptance) (verdict : Verdict) → NamedAt w opened produced → HaveNodes w produced → OpenedOnce w opened → AreDrawnApart w → slice_get w.tables device ≡ Some t → slice_get produced index ≡ Some p → (mine ≡ []) ⊎ IsNoted device p (names t (sent_of w p)) verdict mine → AreOfOpenings w opened produced mine
noted_of_opening w opened produced device index t p mine verdict named have once drawn at there (inl none) = subst (AreOfOpenings w opened produced) (sym none) tt
noted_of_opening w opened produced device index t p mine verdict named have once drawn at there (inr noted) =
    subst (AreOfOpenings w opened produced) (sym noted.mine_is) (record { of_opening = opening_is; of_entry = entry_is; was_produced = contained produced index p there }, tt)
  where
    opening_is : IsAdapterIn w device → IsOfItsOpening opened (Entry device p noted.request noted.delivery)
    opening_is adapter =
        let same : t ≡ Adapter adapter.table = same_Some t (Adapter adapter.table) (sym at ∙ adapter.is) in
        let of = named_production w opened produced device index adapter.table p noted.request named have drawn adapter.is there (subst (λ (x : DeviceTable). names x (sent_of w p) ≡ Some noted.request) same noted.named) in
        record { entry = of.entry; found = of.found; producer = of.producer; id = of.id }

    entry_is : IsScannerIn w device → IsOfItsEntry opened (Entry device p noted.request noted.delivery)
    entry_is scanner =
        let same : t ≡ Scanner scanner.table = same_Some t (Scanner scanner.table) (sym at ∙ scanner.is) in
        let of = slot_production w opened produced device index scanner.table p noted.request named have once drawn scanner.is there (subst (λ (x : DeviceTable). names x (sent_of w p) ≡ Some noted.request) same noted.named) in
        record { entry = of.entry; there = of.there; slot_is = of.slot_is; maker = of.maker; id = of.id }

-- ---- an event

delivery_of_opening : (w new : World) (opened more : List Opened) (produced now : List Production) (accepted : List Acceptance) (act : Act) (reported : ReportedEvent) (t : DeviceTable) → slice_get w.tables reported.device ≡ Some t → w.sent ≡ map (sent_of w) produced → NamedAt w opened produced → HaveNodes w produced → OpenedOnce w opened → AreDrawnApart w → Later w new → Grows produced now → AreOfOpenings w opened produced accepted → IsDelivery w act reported → AreOfOpenings new (opened ++ more) now (accepted_by_act w produced act reported.answer.verdict ++ accepted)
delivery_of_opening w new opened more produced now accepted act reported t at sent named have once drawn later grows all del =
    let found = sent_as w produced del.index del.sent (ap (λ (xs : List Sent). slice_get xs del.index) (sym sent) ∙ del.there) in
    let p = found.production in
    let d = reported.device in
    let verdict = reported.answer.verdict in
    let noted : accepted_by_act w produced act verdict ≡ accepted_by_verdict d p (names t (sent_of w p)) verdict =
    ap (λ (a : Act). accepted_by_act w produced a verdict) del.act_is
    ∙ ap (λ (o : Option DeviceTable). accepted_sent d o (slice_get w.sent del.index) (slice_get produced del.index) verdict) at
    ∙ ap (λ (o : Option Sent). accepted_sent d (Some t) o (slice_get produced del.index) verdict) (del.there ∙ sym (ap Some found.is))
    ∙ ap (λ (o : Option Production). accepted_sent d (Some t) (Some (sent_of w p)) o verdict) found.there in
    let mine = noted_of_opening w opened produced d del.index t p (accepted_by_verdict d p (names t (sent_of w p)) verdict) verdict named have once drawn at found.there (verdict_noted d p (names t (sent_of w p)) verdict) in
    openings_later w new opened more produced now (accepted_by_act w produced act verdict ++ accepted) later grows
    (all_both (IsAccepted w opened produced) (accepted_by_act w produced act verdict) accepted (subst (AreOfOpenings w opened produced) (sym noted) mine) all)

pub event_of_opening : (w new : World) (opened more : List Opened) (produced now : List Production) (accepted : List Acceptance) (act : Act) (reported : ReportedEvent) (t : DeviceTable) → happens w act ≡ Ok (Some reported, new) → slice_get w.tables reported.device ≡ Some t → w.sent ≡ map (sent_of w) produced → NamedAt w opened produced → HaveNodes w produced → OpenedOnce w opened → AreDrawnApart w → Later w new → Grows produced now → AreOfOpenings w opened produced accepted → AreOfOpenings new (opened ++ more) now (accepted_by_act w produced act reported.answer.verdict ++ accepted)
event_of_opening w new opened more produced now accepted act reported t is at sent named have once drawn later grows all = kind (act_kind w produced act reported new is) where
  kind : IsDelivery w act reported ⊎ IsOther w produced act reported → AreOfOpenings new (opened ++ more) now (accepted_by_act w produced act reported.answer.verdict ++ accepted)
  kind (inl del) = delivery_of_opening w new opened more produced now accepted act reported t at sent named have once drawn later grows all del
  kind (inr other) = subst (λ (xs : List Acceptance). AreOfOpenings new (opened ++ more) now (xs ++ accepted)) (sym (other.none reported.answer.verdict)) (openings_later w new opened more produced now accepted later grows all)
