-- No two established slots of one target have one T->O id, whichever slot is changed.
use Rattle.std.proofs.Common.{◌≡◌, ◌<◌, ℕ, zero, suc, ◌+◌, Bool, true, false, not, ◌&&◌, ◌==◌, List, [], ◌∷◌, map, slice_get, slice_set, Some, refl, subst, arith}
use Rattle.std.specs.List.{list_any}
use Rattle.std.proofs.lemmas.Bool.{or_parts}
use Rattle.std.proofs.lemmas.Bool.Decides.{nat_tests}
use Rattle.std.proofs.lemmas.Option.{same_Some}
use Rattle.base_lemmas.specs.Numbers.{more_other, other_number}
use Rattle.cip_types.specs.declared.names.ConnId.{ConnId}
use Rattle.cip_types.specs.declared.names.Node.{Node}
use Rattle.scanner_table.specs.declared.profile.SlotConfig.{SlotConfig}
use Rattle.scanner_table.specs.declared.slot.SlotConnection.{SlotConnection}
use Rattle.scanner_table.specs.declared.slot.Slot.{Slot}
use Rattle.scanner_table.specs.declared.slot.SlotState.{SlotState}
use Rattle.scanner_table.specs.declared.slot.SlotState.TheVariants.{Idle, Opening, Established, TimedOut, Closing}
use Rattle.scanner_table.specs.Slots.{IndexedSlot, indexed_from, is_with}
use Rattle.scanner_table.specs.Replies.{state_consumes, uses_id}
use Rattle.scanner_table.specs.WellFormed.{states_clash, clashes, IdsDiffer}

-- ---- states that have no more than they had

-- the new state has no T->O id, or that of the old one
pub record Weaker (old new : SlotState) : Type 0 where
  pub consumes : (id : ConnId) → state_consumes id old ≡ false → state_consumes id new ≡ false
  pub clashes : (other : SlotState) → states_clash old other ≡ false → states_clash new other ≡ false

pub idle_weaker : (old : SlotState) → Weaker old Idle
idle_weaker old = record { consumes = λ id none. refl; clashes = λ other none. refl }

pub opening_weaker : (old : SlotState) (o : _) → Weaker old (Opening o)
opening_weaker old o = record { consumes = λ id none. refl; clashes = λ other none. refl }

pub timed_out_weaker : (old : SlotState) (link : _) → Weaker old (TimedOut link)
timed_out_weaker old link = record { consumes = λ id none. refl; clashes = λ other none. refl }

pub closing_weaker : (old : SlotState) (c : _) → Weaker old (Closing c)
closing_weaker old c = record { consumes = λ id none. refl; clashes = λ other none. refl }

pub same_weaker : (state : SlotState) → Weaker state state
same_weaker state = record { consumes = λ id none. none; clashes = λ other none. none }

pub linked_weaker : (old new : SlotConnection) → new.link ≡ old.link → Weaker (Established old) (Established new)
linked_weaker old new same = record { consumes = λ id none. rw same none; clashes = λ other none. rw same none }

clash_weaker : (old new other next : SlotState) → Weaker old new → Weaker other next → states_clash old other ≡ false → states_clash new next ≡ false
clash_weaker old Idle other next w v none = refl
clash_weaker old (Opening o) other next w v none = refl
clash_weaker old (Established c) other next w v none = v.consumes c.link.t_o_id (w.clashes other none)
clash_weaker old (TimedOut link) other next w v none = refl
clash_weaker old (Closing c) other next w v none = refl

-- each slot has no more than it had
abbrev pub AllWeaker : List Slot → List Slot → Type 0
AllWeaker [] [] = Unit {0}
AllWeaker [] (new ∷ news) = ⊥
AllWeaker (old ∷ olds) [] = ⊥
AllWeaker (old ∷ olds) (new ∷ news) = Weaker old.state new.state × AllWeaker olds news

pub all_same : (slots : List Slot) → AllWeaker slots slots
all_same [] = tt
all_same (slot ∷ slots) = (same_weaker slot.state, all_same slots)

pub all_set : (k : ℕ) (slots : List Slot) (slot : Slot) → ((old : Slot) → slice_get slots k ≡ Some old → Weaker old.state slot.state) → AllWeaker slots (slice_set slots k slot)
all_set k [] slot weaker = tt
all_set zero (old ∷ olds) slot weaker = (weaker old refl, all_same olds)
all_set (suc k) (old ∷ olds) slot weaker = (same_weaker old.state, all_set k olds slot weaker)

pub all_map : (f : Slot → Slot) → ((slot : Slot) → Weaker slot.state (f slot).state) → (slots : List Slot) → AllWeaker slots (map f slots)
all_map f weaker [] = tt
all_map f weaker (slot ∷ slots) = (weaker slot, all_map f weaker slots)

and_step : (b c d : Bool) → (c ≡ false → d ≡ false) → (b && c) ≡ false → (b && d) ≡ false
and_step true c d weaker none = weaker none
and_step false c d weaker none = refl

any_weaker : (n m : ℕ) (config : SlotConfig) (old new : Slot) (configs : List SlotConfig) (olds news : List Slot) → Weaker old.state new.state → AllWeaker olds news → list_any (clashes (record { number = n; config = config; slot = old })) (indexed_from m configs olds) ≡ false → list_any (clashes (record { number = n; config = config; slot = new })) (indexed_from m configs news) ≡ false
any_weaker n m config old new [] olds news w all none = refl
any_weaker n m config old new (c ∷ configs) [] [] w all none = refl
any_weaker n m config old new (c ∷ configs) [] (x ∷ news) w all none = absurd all
any_weaker n m config old new (c ∷ configs) (y ∷ olds) [] w all none = absurd all
any_weaker n m config old new (c ∷ configs) (y ∷ olds) (x ∷ news) w all none =
    let first : IndexedSlot = record { number = n; config = config; slot = old } in
    let head : IndexedSlot = record { number = m; config = c; slot = y } in
    let parts = or_parts (clashes first head) (list_any (clashes first) (indexed_from (suc m) configs olds)) none in
    rw (and_step (c.target.0 == config.target.0) (states_clash old.state y.state) (states_clash new.state x.state) (clash_weaker old.state new.state y.state x.state w all.0) parts.0)
    (any_weaker n (suc m) config old new configs olds news w all.1 parts.1)

pub differ_weaker : (n : ℕ) (configs : List SlotConfig) (olds news : List Slot) → AllWeaker olds news → IdsDiffer (indexed_from n configs olds) → IdsDiffer (indexed_from n configs news)
differ_weaker n [] olds news all differ = tt
differ_weaker n (config ∷ configs) [] [] all differ = tt
differ_weaker n (config ∷ configs) [] (new ∷ news) all differ = absurd all
differ_weaker n (config ∷ configs) (old ∷ olds) [] all differ = absurd all
differ_weaker n (config ∷ configs) (old ∷ olds) (new ∷ news) all differ =
    (any_weaker n (suc n) config old new configs olds news all.0 all.1 differ.0, differ_weaker (suc n) configs olds news all.1 differ.1)

-- ---- a slot that is established with a free id

-- the slot is established with this target and T->O id
abbrev holds_id : Node → ConnId → IndexedSlot → Bool
holds_id target id indexed = is_with target indexed && state_consumes id indexed.slot.state

other_step : (b c : Bool) → b ≡ false → (not b && c) ≡ false → c ≡ false
other_step true c is none = absurd cc
other_step false c is none = none

free_after : (m n : ℕ) (target : Node) (id : ConnId) (configs : List SlotConfig) (slots : List Slot) → m < n → list_any (uses_id m target id) (indexed_from n configs slots) ≡ false → list_any (holds_id target id) (indexed_from n configs slots) ≡ false
free_after m n target id [] slots less none = refl
free_after m n target id (config ∷ configs) [] less none = refl
free_after m n target id (config ∷ configs) (slot ∷ slots) less none =
    let head : IndexedSlot = record { number = n; config = config; slot = slot } in
    let parts = or_parts (uses_id m target id head) (list_any (uses_id m target id) (indexed_from (suc n) configs slots)) none in
    rw (other_step (n == m) (holds_id target id head) (more_other m n less) parts.0) (free_after m (suc n) target id configs slots (omega arith) parts.1)

flip_true : (a b : ℕ) → (a == b) ≡ true → (b == a) ≡ true
flip_true a b is = grind (arith, nat_tests)

flip_step : (x : Bool) (a b : ℕ) → (a == b) ≡ x → (b == a) ≡ x
flip_step true a b is = flip_true a b is
flip_step false a b is = other_number a b is

flipped : (a b : ℕ) → (b == a) ≡ (a == b)
flipped a b = flip_step (a == b) a b refl

before : (n k : ℕ) → (n == (n + suc k)) ≡ false
before n k = grind (arith, nat_tests)

-- a slot does not clash with one that is established so, where it has not its target and id
apart_state : (target : ℕ) (head : ℕ) (c : SlotConnection) (state : SlotState) → ((head == target) && state_consumes c.link.t_o_id state) ≡ false → ((target == head) && states_clash state (Established c)) ≡ false
apart_state target head c Idle none = rw (flipped head target) none
apart_state target head c (Opening o) none = rw (flipped head target) none
apart_state target head c (Established h) none = rw (flipped head target, flipped h.link.t_o_id.0 c.link.t_o_id.0) none
apart_state target head c (TimedOut link) none = rw (flipped head target) none
apart_state target head c (Closing h) none = rw (flipped head target) none

-- the slot is established with the connection
abbrev pub established : Slot → SlotConnection → List ℕ → Slot
established base c image = record base { state = Established c; image = image }

any_established : (n m k : ℕ) (config sought : SlotConfig) (head base : Slot) (c : SlotConnection) (image : List ℕ) (configs : List SlotConfig) (slots : List Slot) → slice_get configs k ≡ Some sought → ((config.target.0 == sought.target.0) && state_consumes c.link.t_o_id head.state) ≡ false → list_any (clashes (record { number = n; config = config; slot = head })) (indexed_from m configs slots) ≡ false → list_any (clashes (record { number = n; config = config; slot = head })) (indexed_from m configs (slice_set slots k (established base c image))) ≡ false
any_established n m k config sought head base c image [] slots at apart none = refl
any_established n m k config sought head base c image (x ∷ configs) [] at apart none = refl
any_established n m zero config sought head base c image (x ∷ configs) (slot ∷ slots) at apart none =
    let same : x ≡ sought = same_Some x sought at in
    let one : IndexedSlot = record { number = n; config = config; slot = head } in
    let old : IndexedSlot = record { number = m; config = x; slot = slot } in
    let parts = or_parts (clashes one old) (list_any (clashes one) (indexed_from (suc m) configs slots)) none in
    let clear : ((x.target.0 == config.target.0) && states_clash head.state (Established c)) ≡ false = rw same (apart_state sought.target.0 config.target.0 c head.state apart) in
    rw clear parts.1
any_established n m (suc k) config sought head base c image (x ∷ configs) (slot ∷ slots) at apart none =
    let one : IndexedSlot = record { number = n; config = config; slot = head } in
    let old : IndexedSlot = record { number = m; config = x; slot = slot } in
    let parts = or_parts (clashes one old) (list_any (clashes one) (indexed_from (suc m) configs slots)) none in
    rw parts.0 (any_established n (suc m) k config sought head base c image configs slots at apart parts.1)

pub differ_established : (n k : ℕ) (sought : SlotConfig) (base : Slot) (c : SlotConnection) (image : List ℕ) (configs : List SlotConfig) (slots : List Slot) → slice_get configs k ≡ Some sought → list_any (uses_id (n + k) sought.target c.link.t_o_id) (indexed_from n configs slots) ≡ false → IdsDiffer (indexed_from n configs slots) → IdsDiffer (indexed_from n configs (slice_set slots k (established base c image)))
differ_established n k sought base c image [] slots at free differ = tt
differ_established n k sought base c image (x ∷ configs) [] at free differ = tt
differ_established n zero sought base c image (x ∷ configs) (slot ∷ slots) at free differ =
    let same : x ≡ sought = same_Some x sought at in
    let id = c.link.t_o_id in
    let head : IndexedSlot = record { number = n; config = x; slot = slot } in
    let parts = or_parts (uses_id (n + 0) sought.target id head) (list_any (uses_id (n + 0) sought.target id) (indexed_from (suc n) configs slots)) free in
    (rw same (free_after (n + 0) (suc n) sought.target id configs slots (omega arith) parts.1), differ.1)
differ_established n (suc k) sought base c image (x ∷ configs) (slot ∷ slots) at free differ =
    let id = c.link.t_o_id in
    let head : IndexedSlot = record { number = n; config = x; slot = slot } in
    let parts = or_parts (uses_id (n + suc k) sought.target id head) (list_any (uses_id (n + suc k) sought.target id) (indexed_from (suc n) configs slots)) free in
    let shifted : n + suc k ≡ suc n + k = omega arith in
    let later : list_any (uses_id (suc n + k) sought.target id) (indexed_from (suc n) configs slots) ≡ false = subst (λ (m : ℕ). list_any (uses_id m sought.target id) (indexed_from (suc n) configs slots) ≡ false) shifted parts.1 in
    let apart = other_step (n == (n + suc k)) (holds_id sought.target id head) (before n k) parts.0 in
    (any_established n (suc n) k x sought slot base c image configs slots at apart differ.0, differ_established (suc n) k sought base c image configs slots at later differ.1)
