-- Connections of different triads: what holds of the first that passes a test holds of all of its triad.
use Rattle.std.proofs.Common.{◌≡◌, ℕ, Bool, true, false, cond, ◌==◌, List, [], ◌∷◌, map, find, Some, refl, sym, ap, subst, ◌∙◌, true≢false, arith}
use Rattle.std.specs.List.{list_any}
pub use Rattle.std.proofs.lemmas.Bool.{and_parts as both_hold, or_parts as neither}
use Rattle.std.proofs.lemmas.Bool.Decides.{Decides-eqb}
use Rattle.cip_types.specs.declared.names.Triad.{Triad}
use Rattle.adapter_table.specs.Connections.{Row}
use Rattle.adapter_table.specs.Rows.{same_triad, has_triad}
use Rattle.adapter_table.specs.Sound.{TriadsDiffer}

pub some_is : {X : Type 0} {a b : X} → Some a ≡ Some b → a ≡ b
some_is e = cc

itself : (a : ℕ) → a == a ≡ true
itself a = grind arith

pub triad_itself : (triad : Triad) → same_triad triad triad ≡ true
triad_itself triad = rw (itself triad.serial, itself triad.vendor, itself triad.originator) refl

pub triad_only : (a b : Triad) → same_triad a b ≡ true → a ≡ b
triad_only a b is =
    let s = both_hold _ _ is in
    let t = both_hold _ _ s.1 in
    let serial : a.serial ≡ b.serial = (Decides-eqb a.serial b.serial).0 s.0 in
    let vendor : a.vendor ≡ b.vendor = (Decides-eqb a.vendor b.vendor).0 t.0 in
    let originator : a.originator ≡ b.originator = (Decides-eqb a.originator b.originator).0 t.1 in
    λ i. record { serial = serial i; vendor = vendor i; originator = originator i }

-- one that is found among others of another triad has another triad
pub found_other : (triad : Triad) (test : Row → Bool) (rows : List Row) (row : Row) → list_any (has_triad triad) rows ≡ false → find test rows ≡ Some row → has_triad triad row ≡ false
found_other triad test [] row none is = absurd cc
found_other triad test (x ∷ rows) row none is =
    let parts = neither (has_triad triad x) (list_any (has_triad triad) rows) none in
    split (test x) refl parts (found_other triad test rows row parts.1)
  where
    split : (b : Bool) → test x ≡ b → (has_triad triad x ≡ false) × (list_any (has_triad triad) rows ≡ false) → (find test rows ≡ Some row → has_triad triad row ≡ false) → has_triad triad row ≡ false
    split true passes parts rest = subst (λ (r : Row). has_triad triad r ≡ false) (some_is (sym (ap (λ b. cond b (Some x) (find test rows)) passes) ∙ is)) parts.0
    split false fails parts rest = rest (sym (ap (λ b. cond b (Some x) (find test rows)) fails) ∙ is)

-- of two different triads neither is the other
pub other_way : (a b : Triad) → same_triad a b ≡ false → same_triad b a ≡ false
other_way a b is = split (same_triad b a) refl
  where
    split : (c : Bool) → same_triad b a ≡ c → same_triad b a ≡ false
    split true same = absurd (true≢false (sym (ap (λ t. same_triad a t) (triad_only b a same) ∙ triad_itself a) ∙ is))
    split false differs = differs

-- ---- triads still differ

any_mapped : (f : Row → Row) → ((row : Row) → (f row).triad ≡ row.triad) → (triad : Triad) (rows : List Row) → list_any (has_triad triad) (map f rows) ≡ list_any (has_triad triad) rows
any_mapped f keeps triad [] = refl
any_mapped f keeps triad (row ∷ rows) = rw (keeps row, any_mapped f keeps triad rows) refl

pub differ_mapped : (f : Row → Row) → ((row : Row) → (f row).triad ≡ row.triad) → (rows : List Row) → TriadsDiffer rows → TriadsDiffer (map f rows)
differ_mapped f keeps [] differ = tt
differ_mapped f keeps (row ∷ rows) differ = (rw (keeps row, any_mapped f keeps row.triad rows) differ.0, differ_mapped f keeps rows differ.1)
