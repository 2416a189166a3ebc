-- Slots that expire, in the order of their deadlines.
use Rattle.std.proofs.Common.{◌≡◌, ◌<◌, ◌≤◌, ℕ, zero, suc, ◌+◌, List, [], ◌∷◌, map, drop, get_or, length, filter, refl, sym, ◌∙◌, ap, subst, arith}
use Rattle.std.proofs.lemmas.List.{length-map}
use Rattle.std.proofs.lemmas.List.{drop_all}
use Rattle.scanner_table.specs.declared.table.ScannerTable.{ScannerTable}
use Rattle.scanner_table.specs.Slots.{IndexedSlot, indexed_slots}
use Rattle.scanner_table.specs.Ticks.{by_deadline, has_expired, expired_slots, all_expired, expired}
use Rattle.scanner_transactions.specs.Transactions.{Progress, followed, after_at}
use Rattle.scanner_slots.specs.Views.{slot_number}
use Rattle.scanner_transactions.proofs.Tame.{expiries_are_tame}
use Rattle.scanner_transactions.proofs.SlotNumbers.{one_more, none_left, slots_stand, stand_filter, stand_in_order, Remains}

-- ---- the slots that expire

-- at first all of them remain
pub all_remain : (d : Progress) → Remains expired (followed d (all_expired d.table)) d (expired_slots d.table)
unfolding all_expired
all_remain d = record {
  adds = refl;
  stand = stand_in_order d.table by_deadline (filter (has_expired d.table.clock) (indexed_slots d.table)) (stand_filter d.table (has_expired d.table.clock) (indexed_slots d.table) (slots_stand d.table));
}

-- the next slot, by its number
record Next (all : List IndexedSlot) (index number : ℕ) : Type 0 where
  pub indexed : IndexedSlot
  pub rest : drop index all ≡ indexed ∷ drop (suc index) all
  pub is : number ≡ indexed.number

next_of : (all : List IndexedSlot) (index number d : ℕ) → index < length all → number ≡ get_or (map slot_number all) index d → Next all index number
next_of [] index number d less is = absurd (omega (arith, less))
next_of (indexed ∷ all) zero number d less is = record { indexed = indexed; rest = refl; is = is }
next_of (indexed ∷ all) (suc index) number d less is =
    let next = next_of all index number d (omega (arith, less)) is in
    record { indexed = next.indexed; rest = next.rest; is = next.is }

next_is : (all : List IndexedSlot) (numbers : List ℕ) (index number d : ℕ) → numbers ≡ map slot_number all → index < length numbers → number ≡ get_or numbers index d → Next all index number
next_is all numbers index number d are less is =
    let within : index < length all = omega (arith, less, ap length are, length-map {B = ℕ} all) in
    next_of all index number d within (is ∙ ap (λ (ns : List ℕ). get_or ns index d) are)

-- one more connection times out
pub one_expires : (all now next : Progress) (t : ScannerTable) (numbers : List ℕ) (index number d : ℕ) → numbers ≡ map slot_number (expired_slots t) → index < length numbers → number ≡ get_or numbers index d → Remains expired all now (drop index (expired_slots t)) → next ≡ after_at expired number now → Remains expired all next (drop (index + 1) (expired_slots t))
one_expires all now next t numbers index number d are less is remains made =
    let first = next_is (expired_slots t) numbers index number d are less is in
    let up : index + 1 ≡ suc index = omega arith in
    let named : next ≡ after_at expired first.indexed.number now = made ∙ ap (λ (n : ℕ). after_at expired n now) first.is in
    rw up (one_more expired all now next first.indexed (drop (suc index) (expired_slots t)) expiries_are_tame (subst (Remains expired all now) first.rest remains) named)

-- and then none is left
pub all_expire : (all now : Progress) (t : ScannerTable) (numbers : List ℕ) (index : ℕ) → numbers ≡ map slot_number (expired_slots t) → length numbers ≤ index → Remains expired all now (drop index (expired_slots t)) → now ≡ all
all_expire all now t numbers index are past remains =
    let behind : length (expired_slots t) ≤ index = omega (arith, past, ap length are, length-map {B = ℕ} (expired_slots t)) in
    sym (none_left expired all now (subst (Remains expired all now) (drop_all index (expired_slots t) behind) remains))
