-- A walk over items of any type.
use Rattle.std.proofs.Common.{◌≡◌, ℕ, ◌+◌, ◌-◌, ◌<◌, ◌≤◌, false, eqb, List, length, Some, None, suc, ◌∙◌, ap, arith}
use Rattle.cip_encap.specs.PacketReading.{passes}
use Rattle.cip_encap.specs.AnyItems.{behind_item, are_items}

next_count : (n i : ℕ) → i < n → n - i ≡ suc (n - (i + 1))
next_count n i lt = omega (arith, lt)

pub items_more : (n i : ℕ) (bs after : List ℕ) → i < n → behind_item bs ≡ Some after → are_items (n - i) bs ≡ are_items (n - (i + 1)) after
unfolding are_items
items_more n i bs after lt e = ap (λ (k : ℕ). are_items k bs) (next_count n i lt) ∙ ap (passes (are_items (n - (i + 1)))) e

pub items_stop : (n i : ℕ) (bs : List ℕ) → i < n → behind_item bs ≡ None → are_items (n - i) bs ≡ false
unfolding are_items
items_stop n i bs lt e = ap (λ (k : ℕ). are_items k bs) (next_count n i lt) ∙ ap (passes (are_items (n - (i + 1)))) e

pub items_end : (n i : ℕ) (bs : List ℕ) → n ≤ i → are_items (n - i) bs ≡ eqb (length bs) 0
unfolding are_items
items_end n i bs le = let none : n - i ≡ 0 = omega (arith, le) in ap (λ (k : ℕ). are_items k bs) none
