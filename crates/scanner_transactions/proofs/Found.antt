-- The indexed slot of a number: the configuration and the slot of that index.
use Rattle.std.proofs.Common.{◌≡◌, ◌<◌, ℕ, zero, suc, ◌+◌, ◌==◌, true, false, List, [], ◌∷◌, find, slice_get, slice_set, length, Option, Some, None, refl, sym, ◌∙◌, ap, arith}
use Rattle.std.proofs.lemmas.Bool.Decides.{nat_tests}
use Rattle.std.proofs.lemmas.Option.{slice_get_within}
use Rattle.scanner_table.specs.declared.profile.SlotConfig.{SlotConfig}
use Rattle.scanner_table.specs.declared.slot.Slot.{Slot}
use Rattle.scanner_table.specs.Slots.{IndexedSlot, indexed_from, is_numbered}

-- the indexed slot of a configuration and a slot, if both are there
abbrev pub indexed_at : ℕ → Option SlotConfig → Option Slot → Option IndexedSlot
indexed_at number None slot = None
indexed_at number (Some config) None = None
indexed_at number (Some config) (Some slot) = Some (record { number = number; config = config; slot = slot })

found_from : (number index from : ℕ) (configs : List SlotConfig) (slots : List Slot) → number ≡ from + index → find (is_numbered number) (indexed_from from configs slots) ≡ indexed_at number (slice_get configs index) (slice_get slots index)
found_from number index from [] slots is = refl
found_from number zero from (config ∷ configs) [] is = refl
found_from number (suc index) from (config ∷ configs) [] is = elim (slice_get configs index) as (λ o. None ≡ indexed_at number o None) [ None ↦ refl | Some c ↦ refl ]
found_from number zero from (config ∷ configs) (slot ∷ slots) is =
    let same : from ≡ number = omega (arith, is) in
    let here : (number == number) ≡ true = grind (arith, nat_tests) in
    rw (same, here) refl
found_from number (suc index) from (config ∷ configs) (slot ∷ slots) is =
    let other : (from == number) ≡ false = grind (arith, nat_tests, is) in
    rw other (found_from number index (suc from) configs slots (omega (arith, is)))

pub found_at : (number : ℕ) (configs : List SlotConfig) (slots : List Slot) → find (is_numbered number) (indexed_from 0 configs slots) ≡ indexed_at number (slice_get configs number) (slice_get slots number)
found_at number configs slots = found_from number number 0 configs slots (omega arith)

-- the properties of the slot that the lookup found
pub record Found (number : ℕ) (configs : List SlotConfig) (slots : List Slot) (indexed : IndexedSlot) : Type 0 where
  pub numbered : indexed.number ≡ number
  pub config : slice_get configs number ≡ Some indexed.config
  pub slot : slice_get slots number ≡ Some indexed.slot
  pub config_in : number < length configs
  pub slot_in : number < length slots

known : (number : ℕ) (configs : List SlotConfig) (slots : List Slot) (indexed : IndexedSlot) (c : Option SlotConfig) (s : Option Slot) → slice_get configs number ≡ c → slice_get slots number ≡ s → Some indexed ≡ indexed_at number c s → Found number configs slots indexed
known number configs slots indexed None s ci si is = absurd (cc)
known number configs slots indexed (Some config) None ci si is = absurd (cc)
known number configs slots indexed (Some config) (Some slot) ci si is =
    let same : indexed ≡ record { number = number; config = config; slot = slot } = cc in
    record {
      numbered = ap (λ (p : IndexedSlot). p.number) same;
      config = ci ∙ ap (λ (p : IndexedSlot). Some p.config) (sym same);
      slot = si ∙ ap (λ (p : IndexedSlot). Some p.slot) (sym same);
      config_in = slice_get_within configs number config ci;
      slot_in = slice_get_within slots number slot si;
    }

pub found : (number : ℕ) (configs : List SlotConfig) (slots : List Slot) (indexed : IndexedSlot) → Some indexed ≡ find (is_numbered number) (indexed_from 0 configs slots) → Found number configs slots indexed
found number configs slots indexed is = known number configs slots indexed _ _ refl refl (is ∙ found_at number configs slots)

pub at_index : (number : ℕ) (configs : List SlotConfig) (slots : List Slot) (config : SlotConfig) (slot : Slot) → slice_get configs number ≡ Some config → slice_get slots number ≡ Some slot → Some (record { number = number; config = config; slot = slot }) ≡ find (is_numbered number) (indexed_from 0 configs slots)
at_index number configs slots config slot is there =
    sym (found_at number configs slots ∙ ap (λ (o : Option SlotConfig). indexed_at number o (slice_get slots number)) is ∙ ap (indexed_at number (Some config)) there)

pub read_back : {A : Type 0} (xs : List A) (i : ℕ) (x : A) → i < length xs → slice_get (slice_set xs i x) i ≡ Some x
read_back [] i x lt = absurd (omega arith)
read_back (y ∷ ys) zero x lt = refl
read_back (y ∷ ys) (suc i) x lt = read_back ys i x (omega arith)

-- the indexed slot of a number, after its slot was replaced
pub refound : (number : ℕ) (configs : List SlotConfig) (slots : List Slot) (indexed : IndexedSlot) (slot : Slot) → Some indexed ≡ find (is_numbered number) (indexed_from 0 configs slots) → Some (record indexed { slot = slot }) ≡ find (is_numbered number) (indexed_from 0 configs (slice_set slots number slot))
refound number configs slots indexed slot is =
    let known = found number configs slots indexed is in
    ap (λ (n : ℕ). Some (record { number = n; config = indexed.config; slot = slot })) known.numbered
    ∙ at_index number configs (slice_set slots number slot) indexed.config slot known.config (read_back slots number slot known.slot_in)
