-- Due slots whose due times are in the order of their numbers are in the order of their productions.
use Rattle.std.proofs.Common.{◌≡◌, ◌<◌, ◌≤◌, ℕ, zero, suc, ◌+◌, Bool, true, false, cond, nat_lt, List, [], ◌∷◌, ◌++◌, map, filter, drop, get_or, length, min, Option, None, refl, sym, ◌∙◌, ap, arith, append_assoc}
use Rattle.std.specs.List.{filter_map, list_all}
use Rattle.std.specs.Option.{is_some}
use Rattle.std.proofs.lemmas.Bool.Decides.{nat_tests}
use Rattle.std.proofs.lemmas.List.{map-append, append-nil}
use Rattle.std.proofs.lemmas.List.Elements.{filter-append, filter_map-append}
use Rattle.cip_types.specs.Order.{in_order, inserted}
use Rattle.cip_types.specs.declared.names.Ms.{Ms}
use Rattle.cip_events.specs.declared.event.OutgoingDatagram.{OutgoingDatagram}
use Rattle.cip_productions.specs.Productions.{sent}
use Rattle.scanner_table.specs.declared.profile.SlotConfig.{SlotConfig}
use Rattle.scanner_table.specs.declared.slot.Slot.{Slot}
use Rattle.scanner_table.specs.declared.table.ScannerTable.{ScannerTable}
use Rattle.scanner_table.specs.Productions.{state_is_due, is_due, due_of, by_due, slot_production}
use Rattle.scanner_table.specs.Profiles.{has_lengths}
use Rattle.scanner_table.specs.Slots.{IndexedSlot, indexed_from}
use Rattle.scanner_table.specs.WellFormed.{SlotsFit, IsWellFormed}
use Rattle.scanner_data.specs.Turns.{due_in_turn, datagrams_in_turn}
use Rattle.scanner_data.proofs.Facts.{faultless, and_parts, out_len}

-- ---- their order

front_step : (b early : Bool) (x y : IndexedSlot) (rest : List IndexedSlot) (more others : Option ℕ) → (early ≡ false → by_due x y ≡ true) → (is_some others ≡ true → inserted by_due x rest ≡ x ∷ rest) → is_some (cond b (cond early None more) others) ≡ true → inserted by_due x (cond b (y ∷ rest) rest) ≡ x ∷ cond b (y ∷ rest) rest
front_step true true x y rest more others here later is = absurd (let e : false ≡ true = is in cc)
front_step true false x y rest more others here later is = rw (here refl) refl
front_step false early x y rest more others here later is = later is

-- a slot stays in front of the due ones behind it
stays_front : (clock : Ms) (x : IndexedSlot) (count number : ℕ) (configs : List SlotConfig) (slots : List Slot) → x.number < number → is_some (due_in_turn clock count (due_of x.slot.state) slots) ≡ true → inserted by_due x (filter (is_due clock) (indexed_from number configs slots)) ≡ x ∷ filter (is_due clock) (indexed_from number configs slots)
stays_front clock x count number [] slots less is = refl
stays_front clock x count number (config ∷ configs) [] less is = refl
stays_front clock x count number (config ∷ configs) (slot ∷ slots) less is =
    front_step (state_is_due clock slot.state) (nat_lt (due_of slot.state) (due_of x.slot.state)) x (record { number = number; config = config; slot = slot }) (filter (is_due clock) (indexed_from (suc number) configs slots)) (due_in_turn clock (count + 1) (due_of slot.state) slots) (due_in_turn clock count (due_of x.slot.state) slots)
    (λ late. grind (arith, nat_tests))
    (λ rest. stays_front clock x count (suc number) configs slots (omega (arith, less)) rest)
    is

order_step : (b early : Bool) (x : IndexedSlot) (rest : List IndexedSlot) (more others : Option ℕ) → (is_some more ≡ true → inserted by_due x (in_order by_due rest) ≡ x ∷ rest) → (is_some others ≡ true → in_order by_due rest ≡ rest) → is_some (cond b (cond early None more) others) ≡ true → in_order by_due (cond b (x ∷ rest) rest) ≡ cond b (x ∷ rest) rest
order_step true true x rest more others here later is = absurd (let e : false ≡ true = is in cc)
order_step true false x rest more others here later is = here is
order_step false early x rest more others here later is = later is

pub turn_is_order : (clock : Ms) (count last number : ℕ) (configs : List SlotConfig) (slots : List Slot) → is_some (due_in_turn clock count last slots) ≡ true → in_order by_due (filter (is_due clock) (indexed_from number configs slots)) ≡ filter (is_due clock) (indexed_from number configs slots)
turn_is_order clock count last number [] slots is = refl
turn_is_order clock count last number (config ∷ configs) [] is = refl
turn_is_order clock count last number (config ∷ configs) (slot ∷ slots) is =
    let x : IndexedSlot = record { number = number; config = config; slot = slot } in
    let rest = filter (is_due clock) (indexed_from (suc number) configs slots) in
    order_step (state_is_due clock slot.state) (nat_lt (due_of slot.state) last) x rest (due_in_turn clock (count + 1) (due_of slot.state) slots) (due_in_turn clock count last slots)
    (λ more. ap (inserted by_due x) (turn_is_order clock (count + 1) (due_of slot.state) (suc number) configs slots more) ∙ stays_front clock x (count + 1) (suc number) configs slots (omega arith) more)
    (λ others. turn_is_order clock count last (suc number) configs slots others)
    is

-- ---- their datagrams

turn_append : (run : Bool) (clock : Ms) (front back : List IndexedSlot) → datagrams_in_turn run clock (front ++ back) ≡ datagrams_in_turn run clock front ++ datagrams_in_turn run clock back
turn_append run clock front back =
    ap (λ (l : List IndexedSlot). map sent (filter_map (slot_production run) l)) (filter-append (is_due clock) front back)
    ∙ ap (map sent) (filter_map-append (slot_production run) (filter (is_due clock) front) (filter (is_due clock) back))
    ∙ map-append sent (filter_map (slot_production run) (filter (is_due clock) front)) (filter_map (slot_production run) (filter (is_due clock) back))

-- one more slot's datagram is made
pub turn_more : (run : Bool) (clock : Ms) (so_far more all : List OutgoingDatagram) (index next : ℕ) (configs : List SlotConfig) (slots : List Slot) (config : SlotConfig) (slot : Slot) → next ≡ suc index → so_far ++ datagrams_in_turn run clock (indexed_from index (drop index configs) (drop index slots)) ≡ all → indexed_from index (drop index configs) (drop index slots) ≡ record { number = index; config = get_or configs index config; slot = get_or slots index slot } ∷ indexed_from (suc index) (drop (suc index) configs) (drop (suc index) slots) → config ≡ get_or configs index config → slot ≡ get_or slots index slot → more ≡ so_far ++ datagrams_in_turn run clock (record { number = index; config = config; slot = slot } ∷ []) → more ++ datagrams_in_turn run clock (indexed_from next (drop next configs) (drop next slots)) ≡ all
turn_more run clock so_far more all index next configs slots config slot follows is begins same are grown =
    let indexed : IndexedSlot = record { number = index; config = config; slot = slot } in
    let rest = indexed_from (suc index) (drop (suc index) configs) (drop (suc index) slots) in
    let left : indexed_from index (drop index configs) (drop index slots) ≡ indexed ∷ rest =
    begins
    ∙ ap (λ (c : SlotConfig). record { number = index; config = c; slot = get_or slots index slot } ∷ rest) (sym same)
    ∙ ap (λ (s : Slot). record { number = index; config = config; slot = s } ∷ rest) (sym are) in
    ap (λ (n : ℕ). more ++ datagrams_in_turn run clock (indexed_from n (drop n configs) (drop n slots))) follows
    ∙ ap (λ (l : List OutgoingDatagram). l ++ datagrams_in_turn run clock rest) grown
    ∙ append_assoc so_far (datagrams_in_turn run clock (indexed ∷ [])) (datagrams_in_turn run clock rest)
    ∙ ap (λ (l : List OutgoingDatagram). so_far ++ l) (sym (turn_append run clock (indexed ∷ []) rest))
    ∙ ap (λ (l : List IndexedSlot). so_far ++ datagrams_in_turn run clock l) (sym left)
    ∙ is

no_slots : (number : ℕ) (configs : List SlotConfig) → indexed_from number configs [] ≡ []
no_slots number [] = refl
no_slots number (config ∷ configs) = refl

none_left : (number index : ℕ) (configs : List SlotConfig) (slots : List Slot) → min (length configs) (length slots) ≤ index → indexed_from number (drop index configs) (drop index slots) ≡ []
none_left number zero [] slots le = refl
none_left number (suc index) [] slots le = refl
none_left number zero (config ∷ configs) [] le = refl
none_left number (suc index) (config ∷ configs) [] le = no_slots number (drop index configs)
none_left number zero (config ∷ configs) (slot ∷ slots) le = absurd (omega (arith, le))
none_left number (suc index) (config ∷ configs) (slot ∷ slots) le = none_left number index configs slots (omega (arith, le))

-- and then none is left
pub turn_ends : (run : Bool) (clock : Ms) (so_far all : List OutgoingDatagram) (index : ℕ) (configs : List SlotConfig) (slots : List Slot) → min (length configs) (length slots) ≤ index → so_far ++ datagrams_in_turn run clock (indexed_from index (drop index configs) (drop index slots)) ≡ all → so_far ≡ all
turn_ends run clock so_far all index configs slots past is =
    sym (append-nil so_far) ∙ ap (λ (l : List IndexedSlot). so_far ++ datagrams_in_turn run clock l) (sym (none_left index index configs slots past)) ∙ is

-- ---- their outputs

short_from : (r k : ℕ) (configs : List SlotConfig) (slots : List Slot) → SlotsFit r k configs slots → list_all has_lengths configs ≡ true → (i : ℕ) (d : Slot) → i < length slots → length (get_or slots i d).output ≤ 65529
short_from r k [] [] fit is i d less = absurd (omega (arith, less))
short_from r k [] (slot ∷ slots) fit is i d less = absurd fit
short_from r k (config ∷ configs) [] fit is i d less = absurd fit
short_from r k (config ∷ configs) (slot ∷ slots) fit is zero d less =
    omega (arith, fit.0.output, out_len config (and_parts (has_lengths config) (list_all has_lengths configs) is).0)
short_from r k (config ∷ configs) (slot ∷ slots) fit is (suc i) d less =
    short_from r k configs slots fit.1 (and_parts (has_lengths config) (list_all has_lengths configs) is).1 i d (omega (arith, less))

-- the outputs of a whole table are short
pub short_slots : (t : ScannerTable) → IsWellFormed t → (i : ℕ) (d : Slot) → i < length t.slots → length (get_or t.slots i d).output ≤ 65529
short_slots t whole = short_from t.next_request t.clock.0 t.profile.slots t.slots whole.slots (faultless t.profile whole.faultless).lengths
