-- How many slots of a list wait for the reply to their Forward_Open.
use Rattle.std.proofs.Common.{◌≡◌, ◌≤◌, ◌+◌, ℕ, suc, min, Bool, true, false, cond, List, ◌∷◌, length, drop, filter, sym, ap, ◌∙◌, arith}
use Rattle.cip_types.specs.declared.names.Node.{Node}
use Rattle.scanner_table.specs.declared.profile.SlotConfig.{SlotConfig}
use Rattle.scanner_table.specs.declared.slot.Slot.{Slot}
use Rattle.scanner_table.specs.Slots.{IndexedSlot, indexed_from}
use Rattle.scanner_table.specs.Opening.{opens_at}
use Rattle.scanner_slots.proofs.Bounded.{ends_from}

-- the openings so far, and those of the slots from a place on, are all of them
abbrev pub IsCounted : ℕ → Node → List SlotConfig → List Slot → ℕ → Type 0
IsCounted count target configs slots index = count + length (filter (opens_at target) (indexed_from index (drop index configs) (drop index slots))) ≡ length (filter (opens_at target) (indexed_from 0 configs slots))

one_counted : (b : Bool) (count all : ℕ) (indexed : IndexedSlot) (rest : List IndexedSlot) → count + length (cond b (indexed ∷ rest) rest) ≡ all → cond b (count + 1) count + length rest ≡ all
one_counted true count all indexed rest is = omega (arith, is)
one_counted false count all indexed rest is = is

pub counted_more : (count next : ℕ) (target : Node) (configs : List SlotConfig) (slots : List Slot) (index : ℕ) (indexed : IndexedSlot) → indexed_from index (drop index configs) (drop index slots) ≡ indexed ∷ indexed_from (suc index) (drop (suc index) configs) (drop (suc index) slots) → next ≡ cond (opens_at target indexed) (count + 1) count → IsCounted count target configs slots index → (more : ℕ) → more ≡ suc index → IsCounted next target configs slots more
counted_more count next target configs slots index indexed begins is so_far more same =
    let rest = indexed_from (suc index) (drop (suc index) configs) (drop (suc index) slots) in
    let all = length (filter (opens_at target) (indexed_from 0 configs slots)) in
    let here : count + length (filter (opens_at target) (indexed ∷ rest)) ≡ all = ap (λ l. count + length (filter (opens_at target) l)) (sym begins) ∙ so_far in
    rw (same, is) (one_counted (opens_at target indexed) count all indexed (filter (opens_at target) rest) here)

pub next_within : (b : Bool) (count next index : ℕ) → next ≡ cond b (count + 1) count → count ≤ index → next ≤ index + 1
next_within true count next index is le = omega (arith, is, le)
next_within false count next index is le = omega (arith, is, le)

none_left : (count none all : ℕ) → none ≡ 0 → count + none ≡ all → count ≡ all
none_left count none all is so_far = omega (arith, is, so_far)

pub counted_all : (count : ℕ) (target : Node) (configs : List SlotConfig) (slots : List Slot) (index : ℕ) → min (length configs) (length slots) ≤ index → IsCounted count target configs slots index → count ≡ length (filter (opens_at target) (indexed_from 0 configs slots))
counted_all count target configs slots index le so_far =
    none_left count (length (filter (opens_at target) (indexed_from index (drop index configs) (drop index slots)))) (length (filter (opens_at target) (indexed_from 0 configs slots)))
    (ap (λ l. length (filter (opens_at target) l)) (ends_from index index configs slots le)) so_far
