-- Bounds of slots that change, and slots that a datagram is for.
use Rattle.std.proofs.Common.{◌≡◌, ◌≢◌, ℕ, zero, suc, ◌==◌, ◌&&◌, ◌||◌, Bool, true, false, cond, List, [], ◌∷◌, find, slice_get, slice_set, length, Option, Some, None, Result, Ok, Err, refl, sym, ap, subst, ◌∙◌, arith, eqb-true}
use Rattle.std.specs.List.{list_any}
use Rattle.std.proofs.lemmas.Bool.Decides.{nat_tests}
use Rattle.cip_types.specs.declared.names.Ms.{Ms}
use Rattle.cip_types.specs.declared.names.Node.{Node}
use Rattle.cip_datagram.specs.Datagram.{DatagramFields}
use Rattle.cip_events.specs.declared.event.Answer.{Answer}
use Rattle.cip_events.specs.declared.event.StepFault.{StepFault}
use Rattle.cip_productions.specs.Kinds.{is_owner}
use Rattle.scanner_table.specs.declared.profile.SlotConfig.{SlotConfig}
use Rattle.scanner_table.specs.declared.slot.SlotConnection.{SlotConnection}
use Rattle.scanner_table.specs.declared.slot.Slot.{Slot}
use Rattle.scanner_table.specs.declared.slot.SlotState.{SlotState}
use Rattle.scanner_table.specs.declared.slot.SlotState.TheVariants.{Idle, Opening, Established, TimedOut, Closing}
use Rattle.scanner_table.specs.declared.table.ScannerTable.{ScannerTable}
use Rattle.scanner_table.specs.declared.table.TargetStream.{TargetStream}
use Rattle.scanner_table.specs.Slots.{IndexedSlot, indexed_from, is_with, slot_at, with_slot, needs_request}
use Rattle.scanner_table.specs.Effects.{Next}
use Rattle.scanner_table.specs.Datagrams.{is_for, accepted_connection, accepted_table}
use Rattle.scanner_table.specs.Lemmas.SlotLookups.{Stands, get_other, slot_is, slot_stands}
use Rattle.scanner_table.specs.Points.{output_slot, output_written, write, write_at, write_length}
use Rattle.scanner_table.specs.Replies.{state_consumes}
use Rattle.scanner_table.specs.WellFormed.{states_clash, clashes, IdsDiffer}
use Rattle.cip_tables.specs.Wakes.{has_session}
use Rattle.scanner_slots.specs.declared.bounds.Bounds.{Bounds}
use Rattle.scanner_slots.specs.Bounding.{IsDueFrom, has_target, IsBounded, IsBoundedAt, AreBounded, IsHinted, IsNoLater, with_deadline}
use Rattle.scanner_slots.proofs.Bounded.{earlier_one, earlier_all}
use Rattle.scanner_slots.proofs.Singly.{each_bounded, all_bounded}

some_is : {A : Type 0} (a b : A) → Some a ≡ Some b → a ≡ b
some_is a b is = cc

-- ---- one slot of the list changes

-- the bounds of the old slot lead to the next bounds of the new one
abbrev pub Carries : Bounds → Bounds → List TargetStream → Slot → Slot → Type 0
Carries bounds next streams old new = (number : ℕ) (config : SlotConfig) → IsBounded bounds (has_target streams (record { number = number; config = config; slot = old })) (record { number = number; config = config; slot = old }) → IsBounded next (has_target streams (record { number = number; config = config; slot = new })) (record { number = number; config = config; slot = new })

set_bounded : (bounds next : Bounds) (streams : List TargetStream) (old new : Slot) (index from : ℕ) (configs : List SlotConfig) (slots : List Slot) → IsNoLater next bounds → slice_get slots index ≡ Some old → Carries bounds next streams old new → AreBounded bounds (has_target streams) (indexed_from from configs slots) → AreBounded next (has_target streams) (indexed_from from configs (slice_set slots index new))
set_bounded bounds next streams old new index from [] slots le is carries hold = tt
set_bounded bounds next streams old new zero from (config ∷ configs) [] le is carries hold = tt
set_bounded bounds next streams old new (suc index) from (config ∷ configs) [] le is carries hold = tt
set_bounded bounds next streams old new zero from (config ∷ configs) (slot ∷ slots) le is carries hold =
    let same : slot ≡ old = some_is slot old is in
    (carries from config (subst (λ (s : Slot). IsBounded bounds (has_target streams (record { number = from; config = config; slot = s })) (record { number = from; config = config; slot = s })) same hold.0), earlier_all next bounds (has_target streams) (indexed_from (suc from) configs slots) le hold.1)
set_bounded bounds next streams old new (suc index) from (config ∷ configs) (slot ∷ slots) le is carries hold =
    (earlier_one next bounds (has_target streams (record { number = from; config = config; slot = slot })) (record { number = from; config = config; slot = slot }) le hold.0, set_bounded bounds next streams old new index (suc from) configs slots le is carries hold.1)

-- ---- datagrams

no_retry : (up session : Bool) (A : Type 0) → (up && (false && session)) ≡ true → A
no_retry true session A can = absurd (let e : false ≡ true = can in cc)
no_retry false session A can = absurd (let e : false ≡ true = can in cc)

accepted_carries : (bounds : Bounds) (streams : List TargetStream) (slot : Slot) (clock : Ms) (d : DatagramFields) (c : SlotConnection) (bytes : List ℕ) → slot.state ≡ Established c → Carries bounds (with_deadline bounds (accepted_connection clock d c).deadline) streams slot (record slot { state = Established (accepted_connection clock d c); image = bytes })
accepted_carries bounds streams slot clock d c bytes is number config one =
    let due : IsDueFrom bounds.dues.0 (Established c) = subst (IsDueFrom bounds.dues.0) is one.dues in
    record { deadlines = omega arith; retries = λ can. no_retry (needs_request (record slot { state = Established (accepted_connection clock d c); image = bytes })) (has_session streams config.target) _ can; dues = due }

pub accepted_hints : (bounds : Bounds) (t : ScannerTable) (indexed : IndexedSlot) (d : DatagramFields) (c : SlotConnection) (bytes : List ℕ) → slice_get t.slots indexed.number ≡ Some indexed.slot → indexed.slot.state ≡ Established c → IsHinted bounds t → IsHinted (with_deadline bounds (accepted_connection t.clock d c).deadline) (accepted_table t indexed d c bytes)
accepted_hints bounds t indexed d c bytes at is hinted = record {
  slots = set_bounded bounds (with_deadline bounds (accepted_connection t.clock d c).deadline) t.streams indexed.slot _ indexed.number 0 t.profile.slots t.slots (record { deadlines = omega arith; retries = omega arith; dues = omega arith }) at (accepted_carries bounds t.streams indexed.slot t.clock d c bytes is) hinted.slots;
}

-- ---- writes

different : (a b : ℕ) → (a == b) ≡ false → a ≢ b
different a b is = λ same. absurd (let e : (a == b) ≡ true = grind (arith, nat_tests, same) in let f : true ≡ false = sym e ∙ is in cc)

-- a slot of another number is as it was
other_stands : (t : ScannerTable) (number : ℕ) (slot : Slot) (indexed : IndexedSlot) → indexed.number ≢ number → Stands (with_slot t number slot) indexed → Stands t indexed
other_stands t number slot indexed other stands = record { config = stands.config; slot = sym (get_other number indexed.number t.slots slot other) ∙ stands.slot }

narrowed_step : (b : Bool) (bounds next : Bounds) (t : ScannerTable) (number at : ℕ) (slot : Slot) (indexed : IndexedSlot) → (at == number) ≡ b → IsNoLater next bounds → IsHinted bounds t → IsBoundedAt next (with_slot t number slot) number → slot_at (with_slot t number slot) at ≡ Some indexed → IsBounded next (has_target t.streams indexed) indexed
narrowed_step true bounds next t number at slot indexed is le hinted here found =
    subst (IsBoundedAt next (with_slot t number slot)) (sym (eqb-true at number is)) here indexed found
narrowed_step false bounds next t number at slot indexed is le hinted here found =
    let known = slot_is (with_slot t number slot) at indexed found in
    let other : indexed.number ≢ number = subst (λ (n : ℕ). n ≢ number) (sym known.number_is) (different at number is) in
    earlier_one next bounds (has_target t.streams indexed) indexed le
    (each_bounded bounds t indexed.number hinted indexed (slot_stands t indexed (other_stands t number slot indexed other known.stands)))

-- bounds that are no later, and hold of the one slot that changes, hold of the table
set_narrowed : (bounds next : Bounds) (t : ScannerTable) (number : ℕ) (slot : Slot) → IsNoLater next bounds → IsHinted bounds t → IsBoundedAt next (with_slot t number slot) number → IsHinted next (with_slot t number slot)
set_narrowed bounds next t number slot le hinted here =
    all_bounded next (with_slot t number slot) (λ at indexed found. narrowed_step (at == number) bounds next t number at slot indexed refl le hinted here found)

ok_is : (b : Bool) (next : Next) (why : StepFault) (answer : Answer) (new : ScannerTable) → ◌≡◌ {A = Result Next StepFault} (cond b (Ok next) (Err why)) (Ok (answer, new)) → next ≡ (answer, new)
ok_is true next why answer new is = cc
ok_is false next why answer new is = absurd cc

owner_is : (b : Bool) (said : Result Next StepFault) (why : StepFault) (answer : Answer) (new : ScannerTable) → ◌≡◌ {A = Result Next StepFault} (cond b said (Err why)) (Ok (answer, new)) → said ≡ Ok (answer, new)
owner_is true said why answer new is = is
owner_is false said why answer new is = absurd cc

found_narrowed : (bounds next : Bounds) (t : ScannerTable) (number : ℕ) (bytes : List ℕ) (answer : Answer) (new : ScannerTable) (found : Option IndexedSlot) → slot_at t number ≡ found → write_at t bytes found ≡ Ok (answer, new) → IsNoLater next bounds → IsHinted bounds t → IsBoundedAt next new number → IsHinted next new
found_narrowed bounds next t number bytes answer new None at is le hinted here = absurd cc
found_narrowed bounds next t number bytes answer new (Some indexed) at is le hinted here =
    let same = ok_is (length bytes == indexed.config.out_len) (output_written t indexed bytes) _ answer new (owner_is (is_owner indexed.config.kind) (write_length t indexed bytes) _ answer new is) in
    let changed : with_slot t number (output_slot bytes indexed.slot) ≡ new = ap (λ (n : ℕ). with_slot t n (output_slot bytes indexed.slot)) (sym (slot_is t number indexed at).number_is) ∙ ap (λ (pair : Next). pair.1) same in
    subst (IsHinted next) changed (set_narrowed bounds next t number (output_slot bytes indexed.slot) le hinted (subst (λ (u : ScannerTable). IsBoundedAt next u number) (sym changed) here))

pub write_narrowed : (bounds next : Bounds) (t : ScannerTable) (number : ℕ) (bytes : List ℕ) (answer : Answer) (new : ScannerTable) → write t number bytes ≡ Ok (answer, new) → IsNoLater next bounds → IsHinted bounds t → IsBoundedAt next new number → IsHinted next new
unfolding write
write_narrowed bounds next t number bytes answer new is le hinted here = found_narrowed bounds next t number bytes answer new (slot_at t number) refl is le hinted here

-- ---- the slot that a datagram is for

and_parts : (a b : Bool) → (a && b) ≡ true → (a ≡ true) × (b ≡ true)
and_parts true b is = (refl, is)
and_parts false b is = absurd (let e : false ≡ true = is in cc)

and_true : (a b : Bool) → a ≡ true → b ≡ true → (a && b) ≡ true
and_true a b first second = rw (first, second) refl

or_true : (a b : Bool) → b ≡ true → (a || b) ≡ true
or_true true b is = refl
or_true false b is = is

both_equal : (a b c : ℕ) → (a == c) ≡ true → (b == c) ≡ true → (b == a) ≡ true
both_equal a b c first second = grind (arith, nat_tests)

other_consumes : (id : ℕ) (c : SlotConnection) (other : SlotState) → (c.link.t_o_id.0 == id) ≡ true → state_consumes (record { 0 = id }) other ≡ true → state_consumes c.link.t_o_id other ≡ true
other_consumes id c Idle first second = absurd (let e : false ≡ true = second in cc)
other_consumes id c (Opening o) first second = absurd (let e : false ≡ true = second in cc)
other_consumes id c (Established d) first second = both_equal c.link.t_o_id.0 d.link.t_o_id.0 id first second
other_consumes id c (TimedOut link) first second = absurd (let e : false ≡ true = second in cc)
other_consumes id c (Closing d) first second = absurd (let e : false ≡ true = second in cc)

states_meet : (id : ℕ) (state other : SlotState) → state_consumes (record { 0 = id }) state ≡ true → state_consumes (record { 0 = id }) other ≡ true → states_clash state other ≡ true
states_meet id Idle other first second = absurd (let e : false ≡ true = first in cc)
states_meet id (Opening o) other first second = absurd (let e : false ≡ true = first in cc)
states_meet id (Established c) other first second = other_consumes id c other first second
states_meet id (TimedOut link) other first second = absurd (let e : false ≡ true = first in cc)
states_meet id (Closing c) other first second = absurd (let e : false ≡ true = first in cc)

meet : (peer : Node) (id : ℕ) (indexed other : IndexedSlot) → is_for peer id indexed ≡ true → is_for peer id other ≡ true → clashes indexed other ≡ true
meet peer id indexed other first second =
    let a = and_parts (is_with peer indexed) (state_consumes (record { 0 = id }) indexed.slot.state) first in
    let b = and_parts (is_with peer other) (state_consumes (record { 0 = id }) other.slot.state) second in
    and_true (is_with indexed.config.target other) (states_clash indexed.slot.state other.slot.state) (both_equal indexed.config.target.0 other.config.target.0 peer.0 a.0 b.0) (states_meet id indexed.slot.state other.slot.state a.1 b.1)

any_step : (b : Bool) (q : IndexedSlot → Bool) (first indexed : IndexedSlot) (found : Option IndexedSlot) (any : Bool) → cond b (Some first) found ≡ Some indexed → q indexed ≡ true → (found ≡ Some indexed → any ≡ true) → (q first || any) ≡ true
any_step true q first indexed found any is passes more = let here : q first ≡ true = ap q (some_is first indexed is) ∙ passes in rw here refl
any_step false q first indexed found any is passes more = or_true (q first) any (more is)

found_passes : (p q : IndexedSlot → Bool) (all : List IndexedSlot) (indexed : IndexedSlot) → find p all ≡ Some indexed → q indexed ≡ true → list_any q all ≡ true
found_passes p q [] indexed is passes = absurd cc
found_passes p q (first ∷ rest) indexed is passes = any_step (p first) q first indexed (find p rest) (list_any q rest) is passes (λ later. found_passes p q rest indexed later passes)

first_step : (here passes : Bool) (peer : Node) (id : ℕ) (first indexed : IndexedSlot) (numbered consuming : Option IndexedSlot) (any : Bool) → is_for peer id first ≡ passes → is_for peer id indexed ≡ true → any ≡ false → (numbered ≡ Some indexed → clashes first indexed ≡ true → any ≡ true) → (numbered ≡ Some indexed → consuming ≡ Some indexed) → cond here (Some first) numbered ≡ Some indexed → cond passes (Some first) consuming ≡ Some indexed
first_step true true peer id first indexed numbered consuming any at for none clash more is = is
first_step true false peer id first indexed numbered consuming any at for none clash more is = absurd (let e : is_for peer id first ≡ is_for peer id indexed = ap (is_for peer id) (some_is first indexed is) in let f : false ≡ true = sym at ∙ e ∙ for in cc)
first_step false true peer id first indexed numbered consuming any at for none clash more is = absurd (let e : true ≡ false = sym (clash is (meet peer id first indexed at for)) ∙ none in cc)
first_step false false peer id first indexed numbered consuming any at for none clash more is = more is

pub first_consumer : (p : IndexedSlot → Bool) (peer : Node) (id : ℕ) (all : List IndexedSlot) (indexed : IndexedSlot) → IdsDiffer all → find p all ≡ Some indexed → is_for peer id indexed ≡ true → find (is_for peer id) all ≡ Some indexed
first_consumer p peer id [] indexed differ is for = absurd cc
first_consumer p peer id (first ∷ rest) indexed differ is for =
    first_step (p first) (is_for peer id first) peer id first indexed (find p rest) (find (is_for peer id) rest) (list_any (clashes first) rest) refl for differ.0
    (λ later clash. found_passes p (clashes first) rest indexed later clash)
    (λ later. first_consumer p peer id rest indexed differ.1 later for) is
