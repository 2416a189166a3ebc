-- The first deadline of explicit requests.
use Rattle.std.proofs.Common.{◌≡◌, ◌<◌, ◌≤◌, ℕ, min, List, [], ◌∷◌, drop, drop-cons, get_or, length, zero, suc, refl, ap, arith}
use Rattle.cip_tables.specs.Wakes.{never, explicit_due}
use Rattle.scanner_table.specs.declared.explicit.PendingExplicit.{PendingExplicit}

due_within : (pending : List PendingExplicit) → explicit_due pending ≤ never
due_within [] = omega arith
due_within (explicit ∷ rest) = let le = due_within rest in omega (arith, le)

pub due_of_none : (pending : List PendingExplicit) → min never (explicit_due pending) ≡ explicit_due pending
due_of_none pending = let le = due_within pending in omega (arith, le)

pub due_more : (first next index : ℕ) (pending : List PendingExplicit) (d : PendingExplicit) → index < length pending → next ≡ min first (get_or pending index d).deadline.0 → min first (explicit_due (drop index pending)) ≡ explicit_due pending → (more : ℕ) → more ≡ suc index → min next (explicit_due (drop more pending)) ≡ explicit_due pending
due_more first next index pending d within is so_far more same =
    let begins : explicit_due (drop index pending) ≡ min (get_or pending index d).deadline.0 (explicit_due (drop (suc index) pending)) = ap explicit_due (drop-cons pending index d within) in
    rw same (omega (arith, is, begins, so_far))

no_more : (index : ℕ) (pending : List PendingExplicit) → length pending ≤ index → drop index pending ≡ []
no_more zero [] le = refl
no_more (suc index) [] le = refl
no_more zero (explicit ∷ rest) le = absurd (omega (arith, le))
no_more (suc index) (explicit ∷ rest) le = no_more index rest (omega (arith, le))

least : (first all none : ℕ) → none ≡ never → all ≤ never → min first none ≡ all → first ≤ never → first ≡ all
least first all none is within so_far le = omega (arith, is, within, so_far, le)

pub due_of_all : (first index : ℕ) (pending : List PendingExplicit) → length pending ≤ index → min first (explicit_due (drop index pending)) ≡ explicit_due pending → first ≤ never → first ≡ explicit_due pending
due_of_all first index pending le so_far within =
    least first (explicit_due pending) (explicit_due (drop index pending)) (ap explicit_due (no_more index pending le)) (due_within pending) so_far within
