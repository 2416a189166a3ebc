-- The laws of connection ids pass their tests, at any chronicle.
use Rattle.std.proofs.Common.{cond, false, ◌∷◌, [], List, ◌≡◌, ◌<◌, ◌≤◌, ℕ, ◌+◌, ◌-◌, ◌==◌, ◌&&◌, ◌||◌, ◌⊎◌, not, nat_le, nat_lt, Bool, true, find, inl, inr, slice_get, Option, Some, None, refl, sym, ◌∙◌, ap, subst, arith}
use Rattle.std.specs.List.{list_any}
use Rattle.std.specs.Str.{bytes_eq}
use Rattle.std.proofs.lemmas.Bool.{and_parts, cases_lt, le-leb, lt-leb}
use Rattle.std.proofs.lemmas.Bool.Decides.{nat_tests}
use Rattle.cip_types.specs.declared.ids.IdBlock.{IdBlock}
use Rattle.cip_types.specs.Ids.{end_number, id_at, ids_in}
use Rattle.cip_types.specs.IdLaws.{has_id}
use Rattle.cip_types.specs.declared.names.ConnId.{ConnId}
use Rattle.cip_types.specs.declared.names.Node.{Node}
use Rattle.adapter_table.specs.Connections.{Row}
use Rattle.adapter_table.specs.declared.table.AdapterTable.{AdapterTable}
use Rattle.adapter_table.specs.Productions.{producer_of}
use Rattle.adapter_table.specs.Rows.{is_established}
use Rattle.scanner_table.specs.declared.slot.SlotState.{SlotState}
use Rattle.scanner_table.specs.declared.slot.SlotState.TheVariants.{Idle, Opening, Established, TimedOut, Closing}
use Rattle.scanner_table.specs.declared.table.ScannerTable.{ScannerTable}
use Rattle.scanner_table.specs.Slots.{IndexedSlot, indexed_slots}
use Rattle.cip_tables.specs.declared.table.DeviceTable.{DeviceTable}
use Rattle.cip_tables.specs.declared.table.DeviceTable.TheVariants.{Adapter, Scanner}
use Rattle.segment_world.specs.World.{node_at}
use Rattle.device_laws.specs.OwnIds.{IsDrawnId}
use Rattle.device_laws.specs.Productions.{End, end_at, is_end, Production}
use Rattle.schedule_laws.specs.Chronicle.{Acceptance, Chronicle, Opened, opens_row}
use Rattle.schedule_laws.specs.Lives.{HasNumber}
use Rattle.schedule_laws.specs.MadeOnce.{IdsAreUsedOnce, IsOfScanner, OneConnectionHasIt, uses}
use Rattle.schedule_laws.specs.Names.{HasEntry, IdsNameOpenings, IsEntry, IsOfGroup, IsOfItsEntry, IsOfItsOpening, IsOpenedAt, IsOwn, IsScannerIn, OneOpeningHasTheId, OneOpeningIsAccepted, ProducerHasEntry, ProductionHasEntry, SlotAcceptsByEntry, SlotHasEntry, StateHasEntry, WasProduced}
use Rattle.schedule_laws.specs.Order.{IsAdapterAt}
use Rattle.schedule_laws.specs.Producers.{OneProducerHasTheId, OneProducerSends}
use Rattle.samples.specs.NameTests.{accept_one_opening, adapters_produce_by_entries, are_entries, device_of, drew, has_entries, has_its_entry, has_t_o, is_adapter, is_entry, is_entry_at, is_entry_of, is_first, is_numbered, is_of_its_connection, is_of_its_producer, is_of_its_slot, is_of_one_opening, is_opened_at, is_opened_by, is_opened_for, is_produced, is_production, is_scanner, is_the_one, is_the_one_of, is_unused, is_used_once, made_by_one, made_by_one_of, number_of, one_has_it, one_makes, one_scanner_made, one_scanner_made_of, one_sends, one_slot_makes, row_has_entry, row_is_of, same_entry, scanners_produce_by_entries, sends_one, sends_one_of, slot_has_entry, slots_accept_by_entries, state_has_entry, table_has_entries, unused_before, used_once, were_produced}
use Rattle.samples.proofs.Passing.{all_pass, both, bytes_are, end_passes, is_number, left_passes, members_pass, number_is, number_is_at_most, number_is_less, one_passes, right_passes, then_passes, ids_same}

-- ---- devices

on_scanner : (c : Chronicle) (device : ℕ) (test : Bool) (found : Option DeviceTable) → slice_get c.story.world.tables device ≡ found → (IsScannerIn c.story.world device → test ≡ true) → (not (is_scanner found) || test) ≡ true
on_scanner c device test None at on = refl
on_scanner c device test (Some (Adapter t)) at on = refl
on_scanner c device test (Some (Scanner t)) at on = on (record { table = t; is = at })

on_adapter : (c : Chronicle) (device : ℕ) (test : Bool) (found : Option DeviceTable) → slice_get c.story.world.tables device ≡ found → ((t : AdapterTable) → IsAdapterAt c device t → test ≡ true) → (not (is_adapter found) || test) ≡ true
on_adapter c device test None at on = refl
on_adapter c device test (Some (Adapter t)) at on = on t at
on_adapter c device test (Some (Scanner t)) at on = refl

-- ---- what was accepted

its_slot : (c : Chronicle) (a : Acceptance) → IsOfItsOpening c.opened a → is_of_its_slot a (find (opens_row a.consumer) c.opened) ≡ true
its_slot c a is =
    ap (is_of_its_slot a) is.found
    ∙ both (end_passes a.production.producer is.entry.slot is.producer) (number_is a.production.made.datagram.connection is.entry.o_t_id.0 is.id)

pub one_opening_passes : (c : Chronicle) → OneOpeningIsAccepted c → accept_one_opening c ≡ true
one_opening_passes c law =
    members_pass (is_of_one_opening c) c.accepted
    (λ a there. on_adapter c a.consumer.device (is_of_its_slot a (find (opens_row a.consumer) c.opened)) (device_of c a.consumer.device) refl (λ t at. its_slot c a (law a t there at)))

its_entry : (c : Chronicle) (a : Acceptance) → IsOfItsEntry c.opened a → list_any (is_entry_of a) c.opened ≡ true
its_entry c a is =
    one_passes (is_entry_of a) c.opened is.entry is.there
    (both (end_passes is.entry.slot a.consumer is.slot_is)
    (both (number_is a.production.producer.device is.entry.row.device is.maker) (number_is a.production.made.datagram.connection is.entry.t_o_id.0 is.id)))

pub accepts_by_entries : (c : Chronicle) → IdsNameOpenings c → slots_accept_by_entries c ≡ true
accepts_by_entries c law =
    all_pass (SlotAcceptsByEntry c.story.world c.opened) (has_its_entry c)
    (λ a is. on_scanner c a.consumer.device (list_any (is_entry_of a) c.opened) (device_of c a.consumer.device) refl (λ at. its_entry c a (is at))) c.accepted law.accepted

production_is : (p : Production) → is_production p p ≡ true
production_is p =
    both (end_passes p.producer p.producer refl)
    (both (number_is p.index p.index refl)
    (both (number_is p.new_data p.new_data refl) (both (bytes_are p.made.value p.made.value refl) (bytes_are p.made.datagram.payload p.made.datagram.payload refl))))

pub were_produced_passes : (c : Chronicle) → IdsNameOpenings c → were_produced c ≡ true
were_produced_passes c law =
    all_pass (WasProduced c.produced) (is_produced c) (λ a there. one_passes (is_production a.production) c.produced a.production there (production_is a.production)) c.accepted law.were_produced

-- ---- what was produced

pub scanners_produce_passes : (c : Chronicle) → IdsNameOpenings c → scanners_produce_by_entries c ≡ true
scanners_produce_passes c law =
    all_pass (ProductionHasEntry c.story.world c.opened) (is_of_its_connection c)
    (λ p is. on_scanner c p.producer.device (list_any (is_opened_for p) c.opened) (device_of c p.producer.device) refl (λ at. let has = is at in
    one_passes (is_opened_for p) c.opened has.entry has.there (both (end_passes has.entry.slot p.producer has.slot_is) (number_is has.entry.o_t_id.0 p.made.datagram.connection has.o_t_is))))
    c.produced law.productions

pub adapters_produce_passes : (c : Chronicle) → IdsNameOpenings c → adapters_produce_by_entries c ≡ true
adapters_produce_passes c law =
    all_pass (ProducerHasEntry c.story.world c.opened) (is_of_its_producer c)
    (λ p is. on_adapter c p.producer.device (list_any (is_opened_by p) c.opened && bytes_eq p.made.datagram.payload p.made.value) (device_of c p.producer.device) refl (λ t at.
    let has = is (record { table = t; is = at }) in
    both
    (one_passes (is_opened_by p) c.opened has.by.entry has.by.there (both (end_passes has.by.entry.producer p.producer has.by.producer_is) (number_is has.by.entry.t_o_id.0 p.made.datagram.connection has.by.t_o_is)))
    (bytes_are p.made.datagram.payload p.made.value has.value)))
    c.produced law.producers

-- ---- connections and slots

row_passes : (c : Chronicle) (device : ℕ) (row : Row) → HasEntry c.story.world c.opened device row → row_has_entry c device row ≡ true
row_passes c device row is =
    ap (row_is_of c device row) is.found
    ∙ both (both (ids_same is.entry.o_t_id row.o_t_id is.o_t) (ids_same is.entry.t_o_id row.t_o_id is.t_o))
    (both (number_is row.peer.0 (node_at c.story.world is.entry.slot.device).0 (ap (λ (node : Node). node.0) is.peer))
    (then_passes (is_established row) (is_end is.entry.producer (end_at device (producer_of row.state))) (λ lives. end_passes is.entry.producer (end_at device (producer_of row.state)) (is.producer lives))))

opened_passes : (c : Chronicle) (place : IndexedSlot) (slot : End) (o_t t_o : ℕ) → IsOpenedAt c.story.world c.opened place.config.target slot o_t t_o → list_any (is_opened_at c place slot o_t t_o) c.opened ≡ true
opened_passes c place slot o_t t_o is =
    let with = is.opening in
    one_passes (is_opened_at c place slot o_t t_o) c.opened with.entry with.there
    (both (number_is place.config.target.0 (node_at c.story.world with.entry.row.device).0 (is.target_is ∙ ap (λ (n : ℕ). (node_at c.story.world n).0) (sym with.adapter_is)))
    (both (end_passes with.entry.slot slot with.slot_is) (both (number_is with.entry.o_t_id.0 o_t with.o_t_is) (number_is with.entry.t_o_id.0 t_o with.t_o_is))))

state_passes : (c : Chronicle) (device : ℕ) (place : IndexedSlot) (state : SlotState) → StateHasEntry c.story.world c.opened device place.config.target state → state_has_entry c device place state ≡ true
state_passes c device place Idle is = refl
state_passes c device place (Opening o) is = refl
state_passes c device place (Established s) is = opened_passes c place (end_at device s.opening) s.link.o_t_id.0 s.link.t_o_id.0 is
state_passes c device place (TimedOut link) is = refl
state_passes c device place (Closing s) is = refl

table_passes : (c : Chronicle) (device : ℕ) (found : Option DeviceTable) → slice_get c.story.world.tables device ≡ found → IdsNameOpenings c → table_has_entries c device found ≡ true
table_passes c device None at law = refl
table_passes c device (Some (Adapter t)) at law = all_pass (HasEntry c.story.world c.opened device) (row_has_entry c device) (row_passes c device) t.rows (law.rows device t at)
table_passes c device (Some (Scanner t)) at law =
    all_pass (SlotHasEntry c.story.world c.opened device) (slot_has_entry c device) (λ place is. state_passes c device place place.slot.state is) (indexed_slots t) (law.slots device t at)

pub entries_pass : (device : ℕ) (c : Chronicle) → IdsNameOpenings c → has_entries device c ≡ true
entries_pass device c law = table_passes c device (device_of c device) refl law

-- ---- entries

entry_is : (e : Opened) → same_entry e e ≡ true
entry_is e =
    both (end_passes e.row e.row refl)
    (both (end_passes e.slot e.slot refl)
    (both (end_passes e.producer e.producer refl) (both (number_is e.o_t_id.0 e.o_t_id.0 refl) (number_is e.t_o_id.0 e.t_o_id.0 refl))))

is_scanner_in : (c : Chronicle) (device : ℕ) → IsScannerIn c.story.world device → is_scanner (device_of c device) ≡ true
is_scanner_in c device is = ap is_scanner is.is

-- a number of the scanner's blocks
has_number_of : (t : ScannerTable) (number : ℕ) → is_numbered t number ≡ true → HasNumber (Scanner t) number
has_number_of t number is =
    let parts = and_parts (nat_le 1 number) (nat_lt number (end_number t.ids)) is in
    record { begins = at_least number parts.0; ends = less number (end_number t.ids) parts.1 }
  where
    at_least : (a : ℕ) → nat_le 1 a ≡ true → 1 ≤ a
    at_least a is = grind (arith, nat_tests)

    less : (a b : ℕ) → nat_lt a b ≡ true → a < b
    less a b is = grind (arith, nat_tests)

-- ids of the first block, and of those behind it
abbrev id_of : ℕ → ConnId
id_of id = record { 0 = id }

near : (block : IdBlock) (blocks : List IdBlock) (number : ℕ) → number ≤ block.count → id_at (block ∷ blocks) number ≡ id_of (block.first + (number - 1))
near block blocks number to = ap (λ (b : Bool). cond b (id_of (block.first + (number - 1))) (id_at blocks (number - block.count))) (le-leb number block.count to)

-- behind the first block
id_behind : (block : IdBlock) (blocks : List IdBlock) (number : ℕ) → block.count < number → (id_at (block ∷ blocks) number).0 ≡ (id_at blocks (number - block.count)).0
id_behind block blocks number from = ap (λ (b : Bool). (cond b (id_of (block.first + (number - 1))) (id_at blocks (number - block.count))).0) (lt-leb number block.count from)

-- the first number of an id is no later than another one, and has the id
pub record IsFirstNumber (ids : List IdBlock) (number id : ℕ) : Type 0 where
  pub begins : 1 ≤ number_of id ids
  pub first : number_of id ids ≤ number
  pub is : (id_at ids (number_of id ids)).0 ≡ id

here : (block : IdBlock) (id number : ℕ) → has_id id block ≡ true → (number ≤ block.count → id ≡ block.first + (number - 1)) → 1 ≤ number → (id - block.first + 1 ≤ number) × (id - block.first + 1 ≤ block.count) × (block.first + (id - block.first + 1 - 1) ≡ id)
here block id number has within from = elim (cases_lt block.count number) [
  | inl more ↦ (let few : id - block.first + 1 ≤ block.count = grind (arith, nat_tests) in omega (arith, few, more), grind (arith, nat_tests), grind (arith, nat_tests))
  | inr near ↦ let is = within near in (omega (arith, is, from), grind (arith, nat_tests), grind (arith, nat_tests))
]

first_step : (b : Bool) (block : IdBlock) (blocks : List IdBlock) (id number : ℕ) → has_id id block ≡ b → (number ≤ block.count → id ≡ block.first + (number - 1)) → (b ≡ false → block.count < number) → 1 ≤ number → (b ≡ false → IsFirstNumber blocks (number - block.count) id) → IsFirstNumber (block ∷ blocks) number id
first_step true block blocks id number has within past from later =
    let k = here block id number has within from in
    let is_k : number_of id (block ∷ blocks) ≡ id - block.first + 1 = ap (λ (b : Bool). cond b (id - block.first + 1) (block.count + number_of id blocks)) has in
    let first = k.0 in
    record {
      begins = omega (arith, is_k);
      first = omega (arith, is_k, first);
      is = ap (λ (n : ℕ). (id_at (block ∷ blocks) n).0) is_k ∙ ap (λ (c : ConnId). c.0) (near block blocks (id - block.first + 1) k.1) ∙ k.2;
    }
first_step false block blocks id number has within past from later =
    let rest = later refl in
    let is_k : number_of id (block ∷ blocks) ≡ block.count + number_of id blocks = ap (λ (b : Bool). cond b (id - block.first + 1) (block.count + number_of id blocks)) has in
    let begins = rest.begins in
    let first = rest.first in
    let more = past refl in
    record {
      begins = omega (arith, is_k, begins);
      first = omega (arith, is_k, first, more);
      is = ap (λ (n : ℕ). (id_at (block ∷ blocks) n).0) is_k ∙ id_behind block blocks (block.count + number_of id blocks) (omega (arith, begins))
          ∙ ap (λ (n : ℕ). (id_at blocks n).0) (back block.count (number_of id blocks)) ∙ rest.is;
    }
  where
    back : (a b : ℕ) → a + b - a ≡ b
    back a b = omega arith

owns : (block : IdBlock) (id number : ℕ) → 1 ≤ number → number ≤ block.count → id ≡ block.first + (number - 1) → has_id id block ≡ true
owns block id number from to is = grind (arith, nat_tests, is)

first_number : (ids : List IdBlock) (number id : ℕ) → 1 ≤ number → number ≤ ids_in ids → (id_at ids number).0 ≡ id → IsFirstNumber ids number id
first_number [] number id from to is = absurd (omega arith)
first_number (block ∷ blocks) number id from to is =
    let within : number ≤ block.count → id ≡ block.first + (number - 1) = λ few. sym is ∙ ap (λ (c : ConnId). c.0) (near block blocks number few) in
    let past : has_id id block ≡ false → block.count < number = λ none. elim (cases_lt block.count number) [
      | inl more ↦ more
      | inr few ↦ absurd (let own = owns block id number from few (within few) in cc)
    ] in
    first_step (has_id id block) block blocks id number refl within past from (λ none.
    let more = past none in
    first_number blocks (number - block.count) id (omega (arith, more)) (omega (arith, to)) (sym (id_behind block blocks number more) ∙ is))

-- an id that the scanner has is of its blocks
numbered : (t : ScannerTable) (id : ℕ) → IsDrawnId t.ids id → (is_numbered t (number_of id t.ids) && (id_at t.ids (number_of id t.ids)).0 == id) ≡ true
numbered t id own =
    let ends = own.ends in
    let first = first_number t.ids own.number id own.begins (omega (arith, ends)) (sym own.is) in
    let no_later = first.first in
    both (both (number_is_at_most 1 (number_of id t.ids) first.begins) (number_is_less (number_of id t.ids) (end_number t.ids) (omega (arith, no_later, ends))))
    (number_is (id_at t.ids (number_of id t.ids)).0 id first.is)

drawn_passes : (c : Chronicle) (device id : ℕ) (t : ScannerTable) → slice_get c.story.world.tables device ≡ Some (Scanner t) → IsDrawnId t.ids id → drew id (device_of c device) ≡ true
drawn_passes c device id t at is = ap (drew id) at ∙ numbered t id is

t_o_passes : (c : Chronicle) (t : AdapterTable) (e : Opened) (at : slice_get c.story.world.tables e.row.device ≡ Some (Adapter t)) (is : IsEntry c.story.world c.opened e) → has_t_o c t e ≡ true
t_o_passes c t e at is = step is.t_o
  where
    same : Adapter is.table ≡ Adapter t
    same = let a = is.there in let b = at in cc

    tables : is.table ≡ t
    tables = let a = same in cc

    group : Bool
    group = e.t_o_id.0 == (id_at t.ids (e.producer.number + 1)).0 && nat_lt (e.producer.number + 1) t.next_id

    own : Bool
    own = drew e.t_o_id.0 (device_of c e.slot.device) && is_end e.producer e.row

    step : IsOfGroup is.table e ⊎ IsOwn c.story.world e → (group || own) ≡ true
    step (inl it) =
        left_passes group own
        (subst (λ (u : AdapterTable). (e.t_o_id.0 == (id_at u.ids (e.producer.number + 1)).0 && nat_lt (e.producer.number + 1) u.next_id) ≡ true) tables
        (both (number_is e.t_o_id.0 (id_at is.table.ids (e.producer.number + 1)).0 (ap (λ (id : ConnId). id.0) it.id)) (number_is_less (e.producer.number + 1) is.table.next_id it.drawn)))
    step (inr it) =
        right_passes group own (both (drawn_passes c e.slot.device e.t_o_id.0 it.scanner.table it.scanner.is it.id) (end_passes e.producer e.row it.producer))

entry_step : (c : Chronicle) (e : Opened) → IsEntry c.story.world c.opened e → is_entry c e ≡ true
entry_step c e is =
    ap (is_entry_at c e) is.there
    ∙ both (both (number_is_less e.row.number is.table.next_id is.drawn) (number_is e.o_t_id.0 (id_at is.table.ids e.row.number).0 (ap (λ (id : ConnId). id.0) is.id)))
    (both (is_scanner_in c e.slot.device is.scanner)
    (both (ap (is_first e) is.first ∙ entry_is e) (both (number_is e.producer.device e.row.device is.maker) (t_o_passes c is.table e is.there is))))

pub are_entries_passes : (c : Chronicle) → IdsNameOpenings c → are_entries c ≡ true
are_entries_passes c law = all_pass (IsEntry c.story.world c.opened) (is_entry c) (entry_step c) c.opened law.entries

-- ---- one producer has an id

one_made : (p q : Production) → (p.made.datagram.connection ≡ q.made.datagram.connection → p.producer ≡ q.producer) → made_by_one p q ≡ true
one_made p q on =
    then_passes (p.made.datagram.connection == q.made.datagram.connection) (is_end p.producer q.producer)
    (λ same. end_passes p.producer q.producer (on (is_number p.made.datagram.connection q.made.datagram.connection same)))

pub one_makes_passes : (c : Chronicle) → OneProducerHasTheId c → one_makes c ≡ true
one_makes_passes c law =
    members_pass (made_by_one_of c.produced) c.produced (λ p one. members_pass (made_by_one p) c.produced (λ q two. one_made p q (law p q one two)))

pub one_slot_passes : (c : Chronicle) → OneOpeningHasTheId c → one_slot_makes c ≡ true
one_slot_passes c law =
    members_pass (one_scanner_made_of c) c.produced (λ p one. members_pass (one_scanner_made c p) c.produced (λ q two.
    on_scanner c p.producer.device (not (is_scanner (device_of c q.producer.device)) || made_by_one p q) (device_of c p.producer.device) refl (λ first.
    on_scanner c q.producer.device (made_by_one p q) (device_of c q.producer.device) refl (λ second. one_made p q (law p q one two first second)))))

pub one_sends_passes : (c : Chronicle) → OneProducerSends c → one_sends c ≡ true
one_sends_passes c law =
    members_pass (sends_one_of c.opened) c.opened (λ e one. members_pass (sends_one e) c.opened (λ f two.
    then_passes (e.t_o_id.0 == f.t_o_id.0) (is_end e.producer f.producer) (λ same. end_passes e.producer f.producer (law e f one two (is_number e.t_o_id.0 f.t_o_id.0 same)))))

-- ---- one connection has an id of a scanner

of_scanner : (c : Chronicle) (device id : ℕ) (found : Option DeviceTable) → slice_get c.story.world.tables device ≡ found → drew id found ≡ true → IsOfScanner c.story.world id
of_scanner c device id None at is = absurd (let e = is in cc)
of_scanner c device id (Some (Adapter t)) at is = absurd (let e = is in cc)
of_scanner c device id (Some (Scanner t)) at is =
    let parts = and_parts (is_numbered t (number_of id t.ids)) ((id_at t.ids (number_of id t.ids)).0 == id) is in
    record { device = device; table = t; there = at; number = number_of id t.ids; has = has_number_of t (number_of id t.ids) parts.0; is = sym (is_number (id_at t.ids (number_of id t.ids)).0 id parts.1) }

pub one_has_it_passes : (device : ℕ) (c : Chronicle) → OneConnectionHasIt c → one_has_it device c ≡ true
one_has_it_passes device c law =
    members_pass (is_the_one_of (device_of c device) c.opened) c.opened (λ e one. members_pass (is_the_one (device_of c device) e) c.opened (λ f two.
    then_passes (drew e.t_o_id.0 (device_of c device)) (not (e.t_o_id.0 == f.t_o_id.0) || same_entry e f) (λ own.
    then_passes (e.t_o_id.0 == f.t_o_id.0) (same_entry e f) (λ same.
    subst (λ (x : Opened). same_entry e x ≡ true) (law e f one two (of_scanner c device e.t_o_id.0 (device_of c device) refl own) (is_number e.t_o_id.0 f.t_o_id.0 same)) (entry_is e)))))

once_step : (number : ℕ) (c : Chronicle) (device : ℕ) (found : Option DeviceTable) → slice_get c.story.world.tables device ≡ found → IdsAreUsedOnce c.story.world c.opened → is_used_once number c found ≡ true
once_step number c device None at law = refl
once_step number c device (Some (Adapter t)) at law = refl
once_step number c device (Some (Scanner t)) at law =
    then_passes (is_numbered t number) (nat_le (uses (id_at t.ids number).0 c.story.world.streams c.opened) 1)
    (λ has. number_is_at_most (uses (id_at t.ids number).0 c.story.world.streams c.opened) 1 (law.once device t number at (has_number_of t number has)))

pub used_once_passes : (device number : ℕ) (c : Chronicle) → IdsAreUsedOnce c.story.world c.opened → used_once device number c ≡ true
used_once_passes device number c law = once_step number c device (device_of c device) refl law

unused_step : (number : ℕ) (c : Chronicle) (device : ℕ) (found : Option DeviceTable) → slice_get c.story.world.tables device ≡ found → IdsAreUsedOnce c.story.world c.opened → is_unused number c found ≡ true
unused_step number c device None at law = refl
unused_step number c device (Some (Adapter t)) at law = refl
unused_step number c device (Some (Scanner t)) at law =
    then_passes (is_numbered t number) (not (nat_le t.next_id number) || uses (id_at t.ids number).0 c.story.world.streams c.opened == 0) (λ has.
    then_passes (nat_le t.next_id number) (uses (id_at t.ids number).0 c.story.world.streams c.opened == 0)
    (λ on. number_is (uses (id_at t.ids number).0 c.story.world.streams c.opened) 0 (law.unused device t number at (at_most t.next_id number on) (has_number_of t number has))))
  where
    at_most : (a b : ℕ) → nat_le a b ≡ true → a ≤ b
    at_most a b is = grind (arith, nat_tests)

pub unused_passes : (device number : ℕ) (c : Chronicle) → IdsAreUsedOnce c.story.world c.opened → unused_before device number c ≡ true
unused_passes device number c law = unused_step number c device (device_of c device) refl law
