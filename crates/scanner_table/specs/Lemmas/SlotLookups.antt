-- The indexed slots of a table, and the slot of a number, before and after one slot changes.
use Rattle.std.proofs.Common.{◌≡◌, ◌≢◌, ◌<◌, ℕ, zero, suc, ◌+◌, Bool, true, false, cond, ◌==◌, List, [], ◌∷◌, filter, find, slice_get, slice_set, Option, Some, refl, sym, ◌∙◌, ap, subst, arith, eqb-true}
use Rattle.std.proofs.lemmas.Bool.Decides.{nat_tests}
use Rattle.std.proofs.lemmas.Option.{same_Some}
use Rattle.base_lemmas.specs.Numbers.{number_same}
use Rattle.base_lemmas.specs.Lists.{found_passes}
use Rattle.cip_types.specs.Order.{inserted, in_order}
use Rattle.scanner_table.specs.declared.profile.SlotConfig.{SlotConfig}
use Rattle.scanner_table.specs.declared.slot.Slot.{Slot}
use Rattle.scanner_table.specs.declared.table.ScannerTable.{ScannerTable}
use Rattle.scanner_table.specs.Slots.{IndexedSlot, indexed_from, indexed_slots, is_numbered, slot_at}

-- ---- lists

pub get_same : {A : Type 0} → (k : ℕ) (xs : List A) (x old : A) → slice_get xs k ≡ Some old → slice_get (slice_set xs k x) k ≡ Some x
get_same k [] x old is = absurd cc
get_same zero (y ∷ xs) x old is = refl
get_same (suc k) (y ∷ xs) x old is = get_same k xs x old is

pub get_other : {A : Type 0} → (k l : ℕ) (xs : List A) (x : A) → l ≢ k → slice_get (slice_set xs k x) l ≡ slice_get xs l
get_other k l [] x other = refl
get_other zero zero (y ∷ xs) x other = absurd (other refl)
get_other zero (suc l) (y ∷ xs) x other = refl
get_other (suc k) zero (y ∷ xs) x other = refl
get_other (suc k) (suc l) (y ∷ xs) x other = get_other k l xs x (λ same. other (ap suc same))

-- ---- each of some slots

-- it holds of each slot
abbrev pub Each : (IndexedSlot → Type 0) → List IndexedSlot → Type 0
Each P [] = Unit {0}
Each P (indexed ∷ rest) = P indexed × Each P rest

-- it holds of each slot and each later one
abbrev pub EachTwo : (IndexedSlot → IndexedSlot → Type 0) → List IndexedSlot → Type 0
EachTwo R [] = Unit {0}
EachTwo R (indexed ∷ rest) = Each (R indexed) rest × EachTwo R rest

-- nothing more need hold
abbrev pub Any : IndexedSlot → Type 0
Any indexed = Unit {0}

pub each_any : (rest : List IndexedSlot) → Each Any rest
each_any [] = tt
each_any (indexed ∷ rest) = (tt, each_any rest)

pub each_more : (P Q : IndexedSlot → Type 0) → ((indexed : IndexedSlot) → P indexed → Q indexed) → (rest : List IndexedSlot) → Each P rest → Each Q rest
each_more P Q more [] all = tt
each_more P Q more (indexed ∷ rest) all = (more indexed all.0, each_more P Q more rest all.1)

pub each_filter : (P : IndexedSlot → Type 0) (p : IndexedSlot → Bool) (rest : List IndexedSlot) → Each P rest → Each P (filter p rest)
each_filter P p [] all = tt
each_filter P p (indexed ∷ rest) all =
    elim (p indexed) as (λ b. Each P (cond b (indexed ∷ filter p rest) (filter p rest))) [
      | true ↦ (all.0, each_filter P p rest all.1)
      | false ↦ each_filter P p rest all.1
    ]

pub two_filter : (R : IndexedSlot → IndexedSlot → Type 0) (p : IndexedSlot → Bool) (rest : List IndexedSlot) → EachTwo R rest → EachTwo R (filter p rest)
two_filter R p [] all = tt
two_filter R p (indexed ∷ rest) all =
    elim (p indexed) as (λ b. EachTwo R (cond b (indexed ∷ filter p rest) (filter p rest))) [
      | true ↦ (each_filter (R indexed) p rest all.0, two_filter R p rest all.1)
      | false ↦ two_filter R p rest all.1
    ]

passes_step : (p : IndexedSlot → Bool) (b : Bool) (indexed : IndexedSlot) (rest : List IndexedSlot) → p indexed ≡ b → Each (λ other. p other ≡ true) rest → Each (λ other. p other ≡ true) (cond b (indexed ∷ rest) rest)
passes_step p true indexed rest is all = (is, all)
passes_step p false indexed rest is all = all

-- the slots that a filter selects pass its test
pub each_passes : (p : IndexedSlot → Bool) (all : List IndexedSlot) → Each (λ indexed. p indexed ≡ true) (filter p all)
each_passes p [] = tt
each_passes p (indexed ∷ rest) = passes_step p (p indexed) indexed (filter p rest) refl (each_passes p rest)

inserted_step : (b : Bool) (P : IndexedSlot → Type 0) (indexed first : IndexedSlot) (rest more : List IndexedSlot) → P indexed → P first → Each P rest → Each P more → Each P (cond b (indexed ∷ first ∷ rest) (first ∷ more))
inserted_step true P indexed first rest more is here all inner = (is, (here, all))
inserted_step false P indexed first rest more is here all inner = (here, inner)

each_inserted : (P : IndexedSlot → Type 0) (before : IndexedSlot → IndexedSlot → Bool) (indexed : IndexedSlot) (rest : List IndexedSlot) → P indexed → Each P rest → Each P (inserted before indexed rest)
each_inserted P before indexed [] is all = (is, tt)
each_inserted P before indexed (first ∷ rest) is all =
    inserted_step (before indexed first) P indexed first rest (inserted before indexed rest) is all.0 all.1 (each_inserted P before indexed rest is all.1)

pub each_in_order : (P : IndexedSlot → Type 0) (before : IndexedSlot → IndexedSlot → Bool) (rest : List IndexedSlot) → Each P rest → Each P (in_order before rest)
each_in_order P before [] all = tt
each_in_order P before (indexed ∷ rest) all = each_inserted P before indexed (in_order before rest) all.0 (each_in_order P before rest all.1)

-- two slots have different numbers
abbrev pub Apart : IndexedSlot → IndexedSlot → Type 0
Apart a b = a.number ≢ b.number

apart_back : (a b : IndexedSlot) → Apart a b → Apart b a
apart_back a b apart = λ same. apart (sym same)

two_step : (b : Bool) (indexed first : IndexedSlot) (rest more : List IndexedSlot) → Each (Apart indexed) (first ∷ rest) → EachTwo Apart (first ∷ rest) → EachTwo Apart more → Each (Apart first) more → EachTwo Apart (cond b (indexed ∷ first ∷ rest) (first ∷ more))
two_step true indexed first rest more apart all inner behind = (apart, all)
two_step false indexed first rest more apart all inner behind = (behind, inner)

two_inserted : (before : IndexedSlot → IndexedSlot → Bool) (indexed : IndexedSlot) (rest : List IndexedSlot) → Each (Apart indexed) rest → EachTwo Apart rest → EachTwo Apart (inserted before indexed rest)
two_inserted before indexed [] apart all = (tt, tt)
two_inserted before indexed (first ∷ rest) apart all =
    two_step (before indexed first) indexed first rest (inserted before indexed rest) apart all
    (two_inserted before indexed rest apart.1 all.1)
    (each_inserted (Apart first) before indexed rest (apart_back indexed first apart.0) all.0)

pub two_in_order : (before : IndexedSlot → IndexedSlot → Bool) (rest : List IndexedSlot) → EachTwo Apart rest → EachTwo Apart (in_order before rest)
two_in_order before [] all = tt
two_in_order before (indexed ∷ rest) all = two_inserted before indexed (in_order before rest) (each_in_order (Apart indexed) before rest all.0) (two_in_order before rest all.1)

found_step : (b : Bool) (P : IndexedSlot → Type 0) (first indexed : IndexedSlot) (rest : Option IndexedSlot) → cond b (Some first) rest ≡ Some indexed → P first → (rest ≡ Some indexed → P indexed) → P indexed
found_step true P first indexed rest is here more = subst P (same_Some first indexed is) here
found_step false P first indexed rest is here more = more is

pub each_found : (P : IndexedSlot → Type 0) (p : IndexedSlot → Bool) (all : List IndexedSlot) (indexed : IndexedSlot) → find p all ≡ Some indexed → Each P all → P indexed
each_found P p [] indexed is all = absurd cc
each_found P p (first ∷ rest) indexed is all = found_step (p first) P first indexed (find p rest) is all.0 (λ later. each_found P p rest indexed later all.1)

-- ---- the slots of a table

-- the indexed slot is one of the table's
pub record Stands (t : ScannerTable) (indexed : IndexedSlot) : Type 0 where
  pub config : slice_get t.profile.slots indexed.number ≡ Some indexed.config
  pub slot : slice_get t.slots indexed.number ≡ Some indexed.slot

-- the slots from a number on are slots of the whole table
abbrev StandsFrom : {A : Type 0} → List A → ℕ → List A → Type 0
StandsFrom {A} all number xs = (k : ℕ) (x : A) → slice_get xs k ≡ Some x → slice_get all (number + k) ≡ Some x

head_stands : {A : Type 0} → (all : List A) (number : ℕ) (x : A) (xs : List A) → StandsFrom all number (x ∷ xs) → slice_get all number ≡ Some x
head_stands all number x xs stands = let same : number + 0 ≡ number = omega arith in subst (λ (n : ℕ). slice_get all n ≡ Some x) same (stands 0 x refl)

tail_stands : {A : Type 0} → (all : List A) (number : ℕ) (x : A) (xs : List A) → StandsFrom all number (x ∷ xs) → StandsFrom all (suc number) xs
tail_stands all number x xs stands = λ k other is.
    let same : number + suc k ≡ suc number + k = omega arith in
    subst (λ (n : ℕ). slice_get all n ≡ Some other) same (stands (suc k) other is)

all_stand : {A : Type 0} → (xs : List A) → StandsFrom xs 0 xs
all_stand xs = λ k x is. let same : k ≡ 0 + k = omega arith in subst (λ (n : ℕ). slice_get xs n ≡ Some x) same is

stand_from : (t : ScannerTable) (number : ℕ) (configs : List SlotConfig) (slots : List Slot) → StandsFrom t.profile.slots number configs → StandsFrom t.slots number slots → Each (Stands t) (indexed_from number configs slots)
stand_from t number [] slots of_configs of_slots = tt
stand_from t number (config ∷ configs) [] of_configs of_slots = tt
stand_from t number (config ∷ configs) (slot ∷ slots) of_configs of_slots = (
  record { config = head_stands t.profile.slots number config configs of_configs; slot = head_stands t.slots number slot slots of_slots },
  stand_from t (suc number) configs slots (tail_stands t.profile.slots number config configs of_configs) (tail_stands t.slots number slot slots of_slots),
)

pub each_stands : (t : ScannerTable) → Each (Stands t) (indexed_slots t)
each_stands t = stand_from t 0 t.profile.slots t.slots (all_stand t.profile.slots) (all_stand t.slots)

later_apart : (n m : ℕ) (configs : List SlotConfig) (slots : List Slot) → n < m → Each (λ indexed. n ≢ indexed.number) (indexed_from m configs slots)
later_apart n m [] slots less = tt
later_apart n m (config ∷ configs) [] less = tt
later_apart n m (config ∷ configs) (slot ∷ slots) less = ((λ same. absurd (omega arith)), later_apart n (suc m) configs slots (omega arith))

apart_from : (number : ℕ) (configs : List SlotConfig) (slots : List Slot) → EachTwo Apart (indexed_from number configs slots)
apart_from number [] slots = tt
apart_from number (config ∷ configs) [] = tt
apart_from number (config ∷ configs) (slot ∷ slots) = (later_apart number (suc number) configs slots (omega arith), apart_from (suc number) configs slots)

pub slots_apart : (t : ScannerTable) → EachTwo Apart (indexed_slots t)
slots_apart t = apart_from 0 t.profile.slots t.slots

-- ---- the slot of a number

abbrev pub indexed_at : ℕ → SlotConfig → Slot → IndexedSlot
indexed_at number config slot = record { number = number; config = config; slot = slot }

number_later : (n k : ℕ) → (n == n + suc k) ≡ false
number_later n k = grind (arith, nat_tests)

find_at : (n k : ℕ) (configs : List SlotConfig) (slots : List Slot) (config : SlotConfig) (slot : Slot) → slice_get configs k ≡ Some config → slice_get slots k ≡ Some slot → find (is_numbered (n + k)) (indexed_from n configs slots) ≡ Some (indexed_at (n + k) config slot)
find_at n k [] slots config slot is stands = absurd cc
find_at n k (c ∷ configs) [] config slot is stands = absurd cc
find_at n zero (c ∷ configs) (s ∷ slots) config slot is stands =
    let same : n ≡ n + 0 = omega arith in
    subst (λ (m : ℕ). find (is_numbered m) (indexed_from n (c ∷ configs) (s ∷ slots)) ≡ Some (indexed_at m config slot)) same
    (rw (number_same n, same_Some c config is, same_Some s slot stands) refl)
find_at n (suc k) (c ∷ configs) (s ∷ slots) config slot is stands =
    let same : suc n + k ≡ n + suc k = omega arith in
    rw (number_later n k) (subst (λ (m : ℕ). find (is_numbered m) (indexed_from (suc n) configs slots) ≡ Some (indexed_at m config slot)) same (find_at (suc n) k configs slots config slot is stands))

pub slot_stands : (t : ScannerTable) (indexed : IndexedSlot) → Stands t indexed → slot_at t indexed.number ≡ Some indexed
slot_stands t indexed stands =
    let same : 0 + indexed.number ≡ indexed.number = omega arith in
    subst (λ (m : ℕ). slot_at t m ≡ Some (indexed_at m indexed.config indexed.slot)) same (find_at 0 indexed.number t.profile.slots t.slots indexed.config indexed.slot stands.config stands.slot)

-- the slot that the lookup found is the table's, and has the number
pub record IsIndexed (t : ScannerTable) (number : ℕ) (indexed : IndexedSlot) : Type 0 where
  pub number_is : indexed.number ≡ number
  pub stands : Stands t indexed

pub slot_is : (t : ScannerTable) (number : ℕ) (indexed : IndexedSlot) → slot_at t number ≡ Some indexed → IsIndexed t number indexed
slot_is t number indexed is = record {
  number_is = eqb-true indexed.number number (found_passes (is_numbered number) (indexed_slots t) indexed is);
  stands = each_found (Stands t) (is_numbered number) (indexed_slots t) indexed is (each_stands t);
}

same_parts : (n : ℕ) (c d : SlotConfig) (r s : Slot) → c ≡ d → r ≡ s → indexed_at n c r ≡ indexed_at n d s
same_parts n c d r s config slot = cc

-- a table has one slot of a number
pub same_slot : (t : ScannerTable) (a b : IndexedSlot) → a.number ≡ b.number → Stands t a → Stands t b → a ≡ b
same_slot t a b same first second =
    let config : slice_get t.profile.slots a.number ≡ Some b.config = subst (λ (n : ℕ). slice_get t.profile.slots n ≡ Some b.config) (sym same) second.config in
    let slot : slice_get t.slots a.number ≡ Some b.slot = subst (λ (n : ℕ). slice_get t.slots n ≡ Some b.slot) (sym same) second.slot in
    same_parts a.number a.config b.config a.slot b.slot (same_Some a.config b.config (sym first.config ∙ config)) (same_Some a.slot b.slot (sym first.slot ∙ slot))
    ∙ ap (λ (n : ℕ). indexed_at n b.config b.slot) same
