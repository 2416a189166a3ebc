-- Each law of order passes its test, at any chronicle.
use Rattle.std.proofs.Common.{◌≡◌, ◌<◌, ℕ, suc, ◌^◌, ◌%◌, ◌==◌, ◌&&◌, ◌||◌, not, nat_lt, Bool, true, false, List, [], ◌∷◌, find, slice_get, Option, Some, None, refl, sym, ◌∙◌, ap}
use Rattle.std.specs.List.{AllByRecursion, Contains, list_all}
use Rattle.std.specs.Str.{bytes_eq}
use Rattle.std.proofs.lemmas.Bool.{and_parts}
use Rattle.cip_events.specs.declared.event.Delivery.{Delivery}
use Rattle.cip_events.specs.declared.event.Delivery.TheVariants.{Applied, Idle, Heartbeat, Duplicate, Old, UnknownId, WrongSize, Malformed}
use Rattle.cip_productions.specs.Kinds.{is_owner}
use Rattle.adapter_table.specs.Connections.{Row}
use Rattle.adapter_table.specs.declared.profile.Profile.{Profile}
use Rattle.adapter_table.specs.declared.table.AdapterTable.{AdapterTable}
use Rattle.adapter_table.specs.Newest.{was_opened_as}
use Rattle.adapter_table.specs.Points.{bytes_at}
use Rattle.adapter_table.specs.Rows.{is_established}
use Rattle.scanner_table.specs.declared.profile.SlotConfig.{SlotConfig}
use Rattle.scanner_table.specs.declared.table.ScannerTable.{ScannerTable}
use Rattle.scanner_table.specs.Slots.{IndexedSlot, slot_at}
use Rattle.cip_tables.specs.declared.table.DeviceTable.{DeviceTable}
use Rattle.cip_tables.specs.declared.table.DeviceTable.TheVariants.{Adapter, Scanner}
use Rattle.device_laws.specs.Productions.{AreInOrder, DataAgree, end_at, is_end, IsNumbered, Production}
use Rattle.device_laws.specs.ProductionRuns.{opening_number}
use Rattle.schedule_laws.specs.Chronicle.{Acceptance, Chronicle, Opened, newest, opens_row, opens_slot}
use Rattle.schedule_laws.specs.Order.{IsScannerAt, Rise}
use Rattle.schedule_laws.specs.Outputs.{AdaptersAccept, IsOfItsOpening, OutputsHold}
use Rattle.schedule_laws.specs.JoinedPoints.{ConnectionsJoinPoints, JoinsPoints}
use Rattle.samples.specs.Oracle.{holds_bytes, is_applied, is_of_opening, later_than, output_holds, rises, row_holds}
use Rattle.samples.specs.Tests.{agree, agrees, are_named, are_numbered, consumes_length, device_joins, entry_joins, has_lengths_of, has_points_of, is_named, is_named_by, is_numbered, is_of_length, joins_points, number_joins, outputs_hold, row_joins, same_delivery, slot_joins, table_holds, table_joins}
use Rattle.samples.proofs.Passing.{all_pass, both, both_pass, bytes_are, end_named, end_passes, found_in, if_passes, is_number, members_pass, number_is, number_is_less, slots_pass, then_passes}

-- ---- rising indexes

later_pass : (a b : Acceptance) → (b.consumer ≡ a.consumer → b.production.index < a.production.index) → later_than a b ≡ true
later_pass a b less =
    then_passes (is_end a.consumer b.consumer) (nat_lt b.production.index a.production.index)
    (λ same. number_is_less b.production.index a.production.index (less (sym (end_named a.consumer b.consumer same))))

pub rise_passes : (accepted : List Acceptance) → Rise accepted → rises accepted ≡ true
rise_passes [] law = refl
rise_passes (a ∷ rest) law =
    both_pass (list_all (later_than a) rest) (rises rest)
    (all_pass (λ (b : Acceptance). b.consumer ≡ a.consumer → b.production.index < a.production.index) (later_than a) (λ b less. later_pass a b less) rest law.0)
    (rise_passes rest law.1)

-- ---- what adapters accept

applied_step : (delivery : Delivery) (run : Bool) → (delivery ≡ Applied → run ≡ true) → (not (is_applied delivery) || run) ≡ true
applied_step Applied run on = on refl
applied_step Idle run on = refl
applied_step Heartbeat run on = refl
applied_step Duplicate run on = refl
applied_step Old run on = refl
applied_step UnknownId run on = refl
applied_step WrongSize run on = refl
applied_step Malformed run on = refl

opening_passes : (c : Chronicle) (a : Acceptance) → IsOfItsOpening c a → is_of_opening a (find (opens_row a.consumer) c.opened) ≡ true
opening_passes c a is =
    ap (is_of_opening a) is.found
    ∙ both_pass (is_end a.production.producer is.opened.slot) (not (is_applied a.delivery) || a.production.made.run)
    (end_passes a.production.producer is.opened.slot is.producer) (applied_step a.delivery a.production.made.run is.run)

named_passes : (c : Chronicle) (a : Acceptance) (found : Option DeviceTable) → slice_get c.story.world.tables a.consumer.device ≡ found → AdaptersAccept c → Contains c.accepted a → is_named_by c a found ≡ true
named_passes c a None at law there = refl
named_passes c a (Some (Adapter t)) at law there = opening_passes c a (law a t there at)
named_passes c a (Some (Scanner t)) at law there = refl

pub accept_passes : (c : Chronicle) → AdaptersAccept c → are_named c ≡ true
accept_passes c law =
    members_pass (is_named c) c.accepted (λ a there. named_passes c a (slice_get c.story.world.tables a.consumer.device) refl law there)

-- ---- what outputs hold

held_step : (run : Bool) (bytes : List ℕ) (kept : Option (List ℕ)) → (run ≡ true → kept ≡ Some bytes) → (not run || holds_bytes bytes kept) ≡ true
held_step false bytes kept on = refl
held_step true bytes kept on = ap (holds_bytes bytes) (on refl) ∙ bytes_are bytes bytes refl

newest_holds : (c : Chronicle) (device : ℕ) (t : AdapterTable) (row : Row) (found : Option Acceptance) → newest (end_at device row.opening) c.accepted ≡ found → OutputsHold c → slice_get c.story.world.tables device ≡ Some (Adapter t) → Contains t.rows row → is_established row ≡ true → is_owner row.kind ≡ true → output_holds t row found ≡ true
newest_holds c device t row None is law at there lives owns = refl
newest_holds c device t row (Some a) is law at there lives owns =
    held_step a.production.made.run a.production.made.value (bytes_at t.values row.consumed) (λ run. law device t row a at there lives owns is run)

row_passes : (c : Chronicle) (device : ℕ) (t : AdapterTable) (row : Row) → OutputsHold c → slice_get c.story.world.tables device ≡ Some (Adapter t) → Contains t.rows row → row_holds c device t row ≡ true
row_passes c device t row law at there =
    if_passes (is_established row && is_owner row.kind) (output_holds t row (newest (end_at device row.opening) c.accepted))
    (λ is. let parts = and_parts (is_established row) (is_owner row.kind) is in newest_holds c device t row (newest (end_at device row.opening) c.accepted) refl law at there parts.0 parts.1)

table_passes : (c : Chronicle) (device : ℕ) (found : Option DeviceTable) → slice_get c.story.world.tables device ≡ found → OutputsHold c → table_holds c device found ≡ true
table_passes c device None at law = refl
table_passes c device (Some (Adapter t)) at law = members_pass (row_holds c device t) t.rows (λ row there. row_passes c device t row law at there)
table_passes c device (Some (Scanner t)) at law = refl

pub hold_passes : (device : ℕ) (c : Chronicle) → OutputsHold c → outputs_hold device c ≡ true
hold_passes device c law = table_passes c device (slice_get c.story.world.tables device) refl law

-- ---- productions

number_passes : (p : Production) → IsNumbered p → is_numbered p ≡ true
number_passes p is =
    both_pass (p.made.datagram.sequence == p.index % 2 ^ 32) (p.made.datagram.count == p.new_data % 2 ^ 16)
    (number_is p.made.datagram.sequence (p.index % 2 ^ 32) is.sequence) (number_is p.made.datagram.count (p.new_data % 2 ^ 16) is.count)

-- an element stands at a place
record IsAt (all : List Production) (p : Production) : Type 0 where
  place : ℕ
  there : slice_get all place ≡ Some p

at_places : (all : List Production) → AllByRecursion (IsAt all) all
at_places [] = tt
at_places (p ∷ rest) = (record { place = 0; there = refl }, further rest (at_places rest)) where
  further : (xs : List Production) → AllByRecursion (IsAt rest) xs → AllByRecursion (IsAt (p ∷ rest)) xs
  further [] all = tt
  further (x ∷ xs) all = let at = all.0 in (record { place = suc at.place; there = at.there }, further xs all.1)

pair_agrees : (all : List Production) (p q : Production) → DataAgree all → IsAt all p → IsAt all q → agree p q ≡ true
pair_agrees all p q law one two =
    then_passes (is_end p.producer q.producer && p.new_data == q.new_data) (bytes_eq p.made.datagram.payload q.made.datagram.payload)
    (λ same. let parts = and_parts (is_end p.producer q.producer) (p.new_data == q.new_data) same in
    bytes_are p.made.datagram.payload q.made.datagram.payload
    (law one.place two.place p q one.there two.there (end_named p.producer q.producer parts.0) (is_number p.new_data q.new_data parts.1)))

pub order_passes : (c : Chronicle) → AreInOrder c.produced → are_numbered c ≡ true
order_passes c law =
    both_pass (list_all is_numbered c.produced) (list_all (agrees c) c.produced)
    (all_pass IsNumbered is_numbered number_passes c.produced law.numbered)
    (all_pass (IsAt c.produced) (agrees c) (λ p one. all_pass (IsAt c.produced) (agree p) (λ q two. pair_agrees c.produced p q law.agree one two) c.produced (at_places c.produced)) c.produced (at_places c.produced))

-- ---- the points of connections

delivery_passes : (a b : Bool) → a ≡ b → same_delivery a b ≡ true
delivery_passes true b is = sym is
delivery_passes false b is = ap not (sym is)

points_pass : (slot : SlotConfig) (profile : Profile) (row : Row) → JoinsPoints slot profile row → has_points_of slot row ≡ true
points_pass slot profile row is =
    both_pass (row.consumed == slot.consumed && row.produced == slot.produced) (same_delivery (is_owner row.kind) (is_owner slot.kind) && same_delivery row.multicast slot.multicast)
    (both_pass (row.consumed == slot.consumed) (row.produced == slot.produced) (number_is row.consumed slot.consumed is.consumed) (number_is row.produced slot.produced is.produced))
    (both_pass (same_delivery (is_owner row.kind) (is_owner slot.kind)) (same_delivery row.multicast slot.multicast) (delivery_passes (is_owner row.kind) (is_owner slot.kind) is.owner) (delivery_passes row.multicast slot.multicast is.multicast))

lengths_pass : (slot : SlotConfig) (profile : Profile) (row : Row) → JoinsPoints slot profile row → has_lengths_of slot profile ≡ true
lengths_pass slot profile row is =
    both (ap (consumes_length slot.out_len) is.consumer ∙ number_is slot.out_len slot.out_len refl) (ap (is_of_length slot.in_len) is.input_is ∙ number_is is.input.len slot.in_len is.input_len)

row_joined : (slot : SlotConfig) (profile : Profile) (rows : List Row) (number : ℕ) (found : Option Row) → find (was_opened_as number) rows ≡ found → ((row : Row) → Contains rows row → row.opening ≡ number → JoinsPoints slot profile row) → row_joins slot profile found ≡ true
row_joined slot profile rows number None is law = refl
row_joined slot profile rows number (Some row) is law =
    let found = found_in (was_opened_as number) rows row is in
    let joins = law row found.there (is_number row.opening number found.is) in
    both (points_pass slot profile row joins) (lengths_pass slot profile row joins)

device_joined : (c : Chronicle) (device : ℕ) (t : ScannerTable) (place : IndexedSlot) (number : ℕ) (entry : Opened) (found : Option DeviceTable) → slice_get c.story.world.tables entry.row.device ≡ found → IsScannerAt c device t → slot_at t place.number ≡ Some place → opening_number place.slot.state ≡ Some number → Contains c.opened entry → entry.slot ≡ end_at device number → ConnectionsJoinPoints c → device_joins place.config entry found ≡ true
device_joined c device t place number entry None is at there has among slot_is law = refl
device_joined c device t place number entry (Some (Scanner u)) is at there has among slot_is law = refl
device_joined c device t place number entry (Some (Adapter u)) is at there has among slot_is law =
    row_joined place.config u.profile u.rows entry.row.number (find (was_opened_as entry.row.number) u.rows) refl
    (λ row in_rows opening_is. law device t place number entry u row at there has among slot_is is in_rows opening_is)

entry_joined : (c : Chronicle) (device : ℕ) (t : ScannerTable) (place : IndexedSlot) (number : ℕ) (found : Option Opened) → find (opens_slot (end_at device number)) c.opened ≡ found → IsScannerAt c device t → slot_at t place.number ≡ Some place → opening_number place.slot.state ≡ Some number → ConnectionsJoinPoints c → entry_joins c place.config found ≡ true
entry_joined c device t place number None is at there has law = refl
entry_joined c device t place number (Some entry) is at there has law =
    device_joined c device t place number entry (slice_get c.story.world.tables entry.row.device) refl at there has (found_in (opens_slot (end_at device number)) c.opened entry is).there
    (sym (end_named (end_at device number) entry.slot (found_in (opens_slot (end_at device number)) c.opened entry is).is)) law

number_joined : (c : Chronicle) (device : ℕ) (t : ScannerTable) (place : IndexedSlot) (found : Option ℕ) → opening_number place.slot.state ≡ found → IsScannerAt c device t → slot_at t place.number ≡ Some place → ConnectionsJoinPoints c → number_joins c device place.config found ≡ true
number_joined c device t place None is at there law = refl
number_joined c device t place (Some number) is at there law = entry_joined c device t place number (find (opens_slot (end_at device number)) c.opened) refl at there is law

slots_joined : (c : Chronicle) (device : ℕ) (found : Option DeviceTable) → slice_get c.story.world.tables device ≡ found → ConnectionsJoinPoints c → table_joins c device found ≡ true
slots_joined c device None at law = refl
slots_joined c device (Some (Adapter t)) at law = refl
slots_joined c device (Some (Scanner t)) at law =
    slots_pass t (slot_joins c device) (λ place stands. number_joined c device t place (opening_number place.slot.state) refl at stands law)

pub join_passes : (device : ℕ) (c : Chronicle) → ConnectionsJoinPoints c → joins_points device c ≡ true
join_passes device c law = slots_joined c device (slice_get c.story.world.tables device) refl law
