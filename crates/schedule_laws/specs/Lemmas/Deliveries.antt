-- The second and the third pass, over a schedule: of each end the newest accepted datagram, and accepted indexes that rise.
use Rattle.std.proofs.Common.{◌≡◌, ℕ, ◌==◌, ◌&&◌, Bool, true, false, cond, List, [], ◌∷◌, find, slice_get, Option, Some, None, Result, Ok, Err, ◌⊎◌, inl, inr, refl, sym, ◌∙◌, ap, subst, eq-eqb}
use Rattle.std.proofs.lemmas.Bool.{and_from}
use Rattle.std.proofs.lemmas.Option.{same_Some}
use Rattle.base_lemmas.specs.Numbers.{number_same}
use Rattle.cip_types.specs.Circle.{IsNewer}
use Rattle.cip_types.specs.declared.names.Node.{Node}
use Rattle.cip_datagram.specs.declared.datagram.DatagramFault.{DatagramFault}
use Rattle.cip_datagram.specs.Datagram.{DatagramFields, datagram_text}
use Rattle.cip_datagram.specs.Reading.{datagram_reading}
use Rattle.cip_events.specs.Answers.{is_accepted}
use Rattle.cip_events.specs.declared.event.Delivery.{Delivery}
use Rattle.cip_events.specs.declared.event.Event.{Event}
use Rattle.cip_events.specs.declared.event.Event.TheVariants as event
use Rattle.cip_events.specs.declared.event.Verdict.{Verdict}
use Rattle.cip_events.specs.declared.event.Verdict.TheVariants.{Done, Asked, BadFrame, Ignored, Value, Replied, Delivered}
use Rattle.cip_productions.specs.declared.acceptance.Accepted.{Accepted}
use Rattle.adapter_table.specs.Connections.{Row}
use Rattle.adapter_table.specs.declared.table.AdapterTable.{AdapterTable}
use Rattle.adapter_table.specs.Datagrams.{is_for, row_delivery, delivered as row_delivered, accepted_table, found_datagram, datagram_of, received}
use Rattle.adapter_table.specs.Newest as rows
use Rattle.scanner_table.specs.declared.table.ScannerTable.{ScannerTable}
use Rattle.scanner_table.specs.Datagrams.{is_for as is_for_slot, received as slot_received}
use Rattle.scanner_table.specs.Slots.{IndexedSlot, indexed_slots}
use Rattle.device_laws.specs.ScannerDeliveries.{reports_accepted}
use Rattle.device_laws.specs.Newest as slots
use Rattle.cip_tables.specs.declared.table.DeviceTable.{DeviceTable}
use Rattle.cip_tables.specs.declared.table.DeviceTable.TheVariants.{Adapter, Scanner}
use Rattle.cip_tables.specs.Step.{is_datagram}
use Rattle.segment_world.specs.Transit.Log.{Sent}
use Rattle.segment_world.specs.declared.act.Act.{Act}
use Rattle.segment_world.specs.declared.act.Act.TheVariants.{Local, Deliver, NextFrame, OpenStream, CutStream}
use Rattle.segment_world.specs.declared.act.Call.{Call}
use Rattle.segment_world.specs.World.{World, ReportedEvent, Happened, event_of_call, event_of_item, without_front, delivered, taken, taken_at, opened_if, cut_if, cut_at, happens}
use Rattle.segment_world.specs.declared.transit.direction.Direction.{Direction}
use Rattle.segment_world.specs.Transit.Streams.{QueueItem, Stream, side_of}
use Rattle.segment_world.specs.Transit.Streams as item
use Rattle.device_laws.specs.Productions.{Production, IsNumbered}
use Rattle.schedule_laws.specs.Chronicle.{Acceptance, row_number, state_number, slot_number, names_in, names, accepted_by_verdict, accepted_by_act}
use Rattle.schedule_laws.specs.Lemmas.ActEvents.{first_event, event_is_at_device}
use Rattle.device_laws.specs.Lemmas.Reading.{ComesBack, read_as, sequence_back}
use Rattle.schedule_laws.specs.Lemmas.ScannerNewest.{came_state}
use Rattle.schedule_laws.specs.Lemmas.AdapterNewest.{Entry}
use Rattle.cip_events.specs.Arrivals.{is_own}
use Rattle.segment_world.specs.Lemmas.CallLemmas.{call_is_own}

-- ---- what an act is

-- the event is a datagram that was sent, which the act delivers
pub record IsDelivery (w : World) (act : Act) (reported : ReportedEvent) : Type 0 where
  pub index : ℕ
  pub sent : Sent
  pub act_is : act ≡ Deliver index reported.device
  pub there : slice_get w.sent index ≡ Some sent
  pub event_is : reported.event ≡ event.Datagram sent.from sent.bytes

-- nothing is delivered
pub record IsOther (w : World) (produced : List Production) (act : Act) (reported : ReportedEvent) : Type 0 where
  pub none : (verdict : Verdict) → accepted_by_act w produced act verdict ≡ []
  pub event : is_datagram reported.event ≡ false

own_other : (e : Event) → is_own e ≡ true → is_datagram e ≡ false
own_other (event.Datagram peer bytes) own = absurd (let e = own in cc)
own_other other own = refl

call_other : (c : Call) → is_datagram (event_of_call c) ≡ false
call_other c = own_other (event_of_call c) (call_is_own c)

item_other : (n : ℕ) (peer : Node) (i : QueueItem) → is_datagram (event_of_item n peer i) ≡ false
item_other n peer item.Opening = refl
item_other n peer (item.Queued bytes) = refl
item_other n peer item.Ending = refl

abbrev Kind : World → List Production → Act → ReportedEvent → Type 0
Kind w produced act reported = IsDelivery w act reported ⊎ IsOther w produced act reported

deliver_kind : (w : World) (produced : List Production) (index device : ℕ) (t : Option DeviceTable) (sent : Option Sent) (reported : ReportedEvent) (new : World) → slice_get w.sent index ≡ sent → delivered device w t sent ≡ Ok (Some reported, new) → Kind w produced (Deliver index device) reported
deliver_kind w produced index device None sent reported new at is = absurd (let e = is in cc)
deliver_kind w produced index device (Some t) None reported new at is = absurd (let e = is in cc)
deliver_kind w produced index device (Some t) (Some sent) reported new at is =
    let so = event_is_at_device device (event.Datagram sent.from sent.bytes) w reported new is in
    inl (record { index = index; sent = sent; act_is = ap (Deliver index) (sym so.device_is); there = at; event_is = so.event_is })

taken_kind : (w : World) (produced : List Production) (n : ℕ) (d : Direction) (s : Stream) (queue : List QueueItem) (reported : ReportedEvent) (new : World) → taken n d w s queue ≡ Ok (Some reported, new) → IsOther w produced (NextFrame n d) reported
taken_kind w produced n d s [] reported new is = absurd (let e = is in cc)
taken_kind w produced n d s (i ∷ rest) reported new is =
    let so = event_is_at_device _ _ (without_front n d w) reported new is in
    record { none = λ verdict. refl; event = ap is_datagram so.event_is ∙ item_other n _ i }

taken_at_kind : (w : World) (produced : List Production) (n : ℕ) (d : Direction) (found : Option Stream) (reported : ReportedEvent) (new : World) → taken_at n d w found ≡ Ok (Some reported, new) → IsOther w produced (NextFrame n d) reported
taken_at_kind w produced n d None reported new is = absurd (let e = is in cc)
taken_at_kind w produced n d (Some s) reported new is = taken_kind w produced n d s (side_of d s).queue reported new is

abbrev IsNoEvent : Happened → Type 0
IsNoEvent said = (reported : ReportedEvent) (new : World) → said ≡ Ok (Some reported, new) → ⊥

opened_none : (from to : ℕ) (w : World) (two numbered : Bool) → IsNoEvent (opened_if from to w two numbered)
opened_none from to w false numbered reported new is = absurd (let e = is in cc)
opened_none from to w true false reported new is = absurd (let e = is in cc)
opened_none from to w true true reported new is = absurd (let e : None ≡ Some reported = ap first_event is in cc)

cut_none : (n : ℕ) (w : World) (ended : Bool) → IsNoEvent (cut_if n w ended)
cut_none n w true reported new is = absurd (let e = is in cc)
cut_none n w false reported new is = absurd (let e : None ≡ Some reported = ap first_event is in cc)

cut_at_none : (n : ℕ) (w : World) (found : Option Stream) → IsNoEvent (cut_at n w found)
cut_at_none n w None reported new is = absurd (let e = is in cc)
cut_at_none n w (Some s) reported new is = cut_none n w s.ended reported new is

pub act_kind : (w : World) (produced : List Production) (act : Act) (reported : ReportedEvent) (new : World) → happens w act ≡ Ok (Some reported, new) → Kind w produced act reported
act_kind w produced (Local device c) reported new is =
    let so = event_is_at_device device (event_of_call c) w reported new is in
    inr (record { none = λ verdict. refl; event = ap is_datagram so.event_is ∙ call_other c })
act_kind w produced (Deliver index device) reported new is = deliver_kind w produced index device (slice_get w.tables device) (slice_get w.sent index) reported new refl is
act_kind w produced (NextFrame n d) reported new is = inr (taken_at_kind w produced n d (slice_get w.streams n) reported new is)
act_kind w produced (OpenStream from to) reported new is = absurd (opened_none from to w _ _ reported new is)
act_kind w produced (CutStream n) reported new is = absurd (cut_at_none n w (slice_get w.streams n) reported new is)

-- ---- events that are no datagrams accept nothing

pub rows_accept_none : (n : ℕ) (t : AdapterTable) (e : Event) → is_datagram e ≡ false → rows.accepted_at n t e ≡ []
rows_accept_none n t (event.Datagram peer bytes) none = absurd (let e = none in cc)
rows_accept_none n t other none = refl

pub slots_accept_none : (k r : ℕ) (t : ScannerTable) (e : Event) → is_datagram e ≡ false → slots.accepted_at k r t e ≡ []
slots_accept_none k r t (event.Datagram peer bytes) none = absurd (let e = none in cc)
slots_accept_none k r t other none = refl

-- ---- what the chronicle notes

-- an acceptance is noted, of the named connection, or none
pub record IsNoted (device : ℕ) (p : Production) (number : Option ℕ) (verdict : Verdict) (mine : List Acceptance) : Type 0 where
  pub request : ℕ
  pub named : number ≡ Some request
  pub delivery : Delivery
  pub reported : verdict ≡ Delivered delivery
  pub accepted : is_accepted delivery ≡ true
  pub mine_is : mine ≡ Entry device p request delivery ∷ []

as_noted : (b : Bool) (device : ℕ) (p : Production) (m : ℕ) (delivery : Delivery) → is_accepted delivery ≡ b → (cond b (Entry device p m delivery ∷ []) [] ≡ []) ⊎ IsNoted device p (Some m) (Delivered delivery) (cond b (Entry device p m delivery ∷ []) [])
as_noted true device p m delivery is = inr (record { request = m; named = refl; delivery = delivery; reported = refl; accepted = is; mine_is = refl })
as_noted false device p m delivery is = inl refl

pub verdict_noted : (device : ℕ) (p : Production) (number : Option ℕ) (verdict : Verdict) → (accepted_by_verdict device p number verdict ≡ []) ⊎ IsNoted device p number verdict (accepted_by_verdict device p number verdict)
verdict_noted device p number Done = inl refl
verdict_noted device p number BadFrame = inl refl
verdict_noted device p number Ignored = inl refl
verdict_noted device p number (Value bytes) = inl refl
verdict_noted device p number (Replied pending status additional content) = inl refl
verdict_noted device p number (Asked asks service class instance attribute body) = inl refl
verdict_noted device p None (Delivered delivery) = inl refl
verdict_noted device p (Some m) (Delivered delivery) = as_noted (is_accepted delivery) device p m delivery refl

-- ---- what is accepted is newer

abbrev pub IsNewerThan : ℕ → Option Accepted → Type 0
IsNewerThan sequence None = Unit {0}
IsNewerThan sequence (Some last) = IsNewer sequence last.number

row_newer : (sequence : ℕ) (last : Option Accepted) (x : rows.Acceptance) → x.datagram.number ≡ sequence → rows.HasNewerNumber last x → IsNewerThan sequence last
row_newer sequence None x is newer = tt
row_newer sequence (Some last) x is newer = subst (λ (n : ℕ). IsNewer n last.number) is newer

slot_newer : (sequence : ℕ) (last : Option Accepted) (x : slots.Acceptance) → x.datagram.number ≡ sequence → slots.HasNewerNumber last x → IsNewerThan sequence last
slot_newer sequence None x is newer = tt
slot_newer sequence (Some last) x is newer = subst (λ (n : ℕ). IsNewer n last.number) is newer

row_taken : (b : Bool) (p : Production) (d : DatagramFields) (delivery : Delivery) (last : Option Accepted) → b ≡ true → IsNumbered p → ComesBack p.made.datagram d → rows.EachAfter rows.HasNewerNumber last (cond b (rows.acceptance_of d delivery ∷ []) []) → IsNewerThan p.made.datagram.sequence last
row_taken true p d delivery last is numbered back each = row_newer p.made.datagram.sequence last (rows.acceptance_of d delivery) (sequence_back p d numbered back) each.0
row_taken false p d delivery last is numbered back each = absurd (let e = is in cc)

judged_delivery : (b : Bool) (t u : AdapterTable) (delivery : Delivery) → (cond b (row_delivered delivery u) (row_delivered delivery t)).0.verdict ≡ Delivered delivery
judged_delivery true t u delivery = refl
judged_delivery false t u delivery = refl

pub same_delivery : (a b : Delivery) → Delivered a ≡ Delivered b → a ≡ b
same_delivery a b is = cc

row_found_newer : (p : Production) (t : AdapterTable) (peer : Node) (d : DatagramFields) (found : Option Row) (last : Option Accepted) (m : ℕ) (delivery : Delivery) → IsNumbered p → ComesBack p.made.datagram d → row_number found ≡ Some m → (found_datagram t peer d found).0.verdict ≡ Delivered delivery → is_accepted delivery ≡ true → rows.EachAfter rows.HasNewerNumber last (rows.accepted_found m t.profile t.clock d found) → IsNewerThan p.made.datagram.sequence last
row_found_newer p t peer d None last m delivery numbered back named reported so_accepted each = absurd (let e = named in cc)
row_found_newer p t peer d (Some row) last m delivery numbered back named reported so_accepted each =
    let one : row.opening ≡ m = same_Some row.opening m named in
    let was = row_delivery t.profile t.clock row d in
    let same : was ≡ delivery = same_delivery was delivery (sym (judged_delivery (is_accepted was) t (accepted_table t peer d row was) was) ∙ reported) in
    row_taken ((row.opening == m) && is_accepted was) p d was last (and_from (row.opening == m) (is_accepted was) (eq-eqb row.opening m one) (ap is_accepted same ∙ so_accepted)) numbered back each

row_read_newer : (p : Production) (t : AdapterTable) (peer : Node) (reading : Result DatagramFields DatagramFault) (last : Option Accepted) (m : ℕ) (delivery : Delivery) → datagram_reading (datagram_text p.made.datagram) ≡ reading → IsNumbered p → names_in (Adapter t) peer reading ≡ Some m → (datagram_of t peer reading).0.verdict ≡ Delivered delivery → is_accepted delivery ≡ true → rows.EachAfter rows.HasNewerNumber last (rows.accepted_read m t peer reading) → IsNewerThan p.made.datagram.sequence last
row_read_newer p t peer (Err why) last m delivery is numbered named reported so_accepted each = absurd (let e = named in cc)
row_read_newer p t peer (Ok d) last m delivery is numbered named reported so_accepted each =
    row_found_newer p t peer d (find (is_for peer d.connection) t.rows) last m delivery numbered (read_as p.made.datagram d is) named reported so_accepted each

pub adapter_newer : (p : Production) (t : AdapterTable) (peer : Node) (last : Option Accepted) (m : ℕ) (delivery : Delivery) → IsNumbered p → names (Adapter t) (record { from = peer; bytes = datagram_text p.made.datagram }) ≡ Some m → (received t peer (datagram_text p.made.datagram)).0.verdict ≡ Delivered delivery → is_accepted delivery ≡ true → rows.EachAfter rows.HasNewerNumber last (rows.accepted_at m t (event.Datagram peer (datagram_text p.made.datagram))) → IsNewerThan p.made.datagram.sequence last
unfolding received
adapter_newer p t peer last m delivery numbered named reported so_accepted each = row_read_newer p t peer (datagram_reading (datagram_text p.made.datagram)) last m delivery refl numbered named reported so_accepted each

slot_taken : (b : Bool) (p : Production) (d : DatagramFields) (verdict : Verdict) (last : Option Accepted) → b ≡ true → IsNumbered p → ComesBack p.made.datagram d → slots.EachAfter slots.HasNewerNumber last (cond b (slots.acceptance_of d verdict ∷ []) []) → IsNewerThan p.made.datagram.sequence last
slot_taken true p d verdict last is numbered back each = slot_newer p.made.datagram.sequence last (slots.acceptance_of d verdict) (sequence_back p d numbered back) each.0
slot_taken false p d verdict last is numbered back each = absurd (let e = is in cc)

-- the slot that a datagram names by its opening
pub record SlotNamed (t : ScannerTable) (m : ℕ) : Type 0 where
  pub place : IndexedSlot
  pub test : IndexedSlot → Bool
  pub found : find test (indexed_slots t) ≡ Some place
  pub state : state_number place.slot.state ≡ Some m

slot_found_newer : (p : Production) (t : ScannerTable) (d : DatagramFields) (found : Option IndexedSlot) (k : ℕ) (verdict : Verdict) (last : Option Accepted) (m : ℕ) → IsNumbered p → ComesBack p.made.datagram d → slot_number found ≡ Some m → ((place : IndexedSlot) → found ≡ Some place → place.number ≡ k) → reports_accepted verdict ≡ true → slots.EachAfter slots.HasNewerNumber last (slots.accepted_found k m d verdict found) → IsNewerThan p.made.datagram.sequence last
slot_found_newer p t d None k verdict last m numbered back named here so_accepted each = absurd (let e = named in cc)
slot_found_newer p t d (Some place) k verdict last m numbered back named here so_accepted each =
    slot_taken (((place.number == k) && slots.came_from m place.slot.state) && reports_accepted verdict) p d verdict last
    (and_from ((place.number == k) && slots.came_from m place.slot.state) (reports_accepted verdict) (and_from (place.number == k) (slots.came_from m place.slot.state) (eq-eqb place.number k (here place refl)) (came_state m place.slot.state m named ∙ number_same m)) so_accepted) numbered back each

abbrev number_of_found : Option IndexedSlot → ℕ
number_of_found None = 0
number_of_found (Some place) = place.number

slot_read_newer : (p : Production) (t : ScannerTable) (peer : Node) (reading : Result DatagramFields DatagramFault) (verdict : Verdict) (last : Option Accepted) (m : ℕ) → datagram_reading (datagram_text p.made.datagram) ≡ reading → IsNumbered p → names_in (Scanner t) peer reading ≡ Some m → reports_accepted verdict ≡ true → ((k : ℕ) → slots.EachAfter slots.HasNewerNumber last (slots.accepted_read k m t peer verdict reading)) → IsNewerThan p.made.datagram.sequence last
slot_read_newer p t peer (Err why) verdict last m is numbered named so_accepted each = absurd (let e = named in cc)
slot_read_newer p t peer (Ok d) verdict last m is numbered named so_accepted each =
    slot_found_newer p t d (find (is_for_slot peer d.connection) (indexed_slots t)) (number_of_found (find (is_for_slot peer d.connection) (indexed_slots t))) verdict last m numbered (read_as p.made.datagram d is) named
    (λ place found. ap number_of_found (sym found)) so_accepted (each (number_of_found (find (is_for_slot peer d.connection) (indexed_slots t))))

pub scanner_newer : (p : Production) (t : ScannerTable) (peer : Node) (last : Option Accepted) (m : ℕ) (delivery : Delivery) → IsNumbered p → names (Scanner t) (record { from = peer; bytes = datagram_text p.made.datagram }) ≡ Some m → (slot_received t peer (datagram_text p.made.datagram)).0.verdict ≡ Delivered delivery → is_accepted delivery ≡ true → ((k : ℕ) → slots.EachAfter slots.HasNewerNumber last (slots.accepted_at k m t (event.Datagram peer (datagram_text p.made.datagram)))) → IsNewerThan p.made.datagram.sequence last
scanner_newer p t peer last m delivery numbered named reported so_accepted each =
    slot_read_newer p t peer (datagram_reading (datagram_text p.made.datagram)) (slot_received t peer (datagram_text p.made.datagram)).0.verdict last m refl numbered named (ap reports_accepted reported ∙ so_accepted) each
