-- The first connection that passes a test is changed at its place.
use Rattle.std.proofs.Common.{◌≡◌, ◌<◌, ◌≤◌, ℕ, Bool, true, false, cond, zero, suc, List, [], ◌∷◌, length, find, get_or, set, Some, None, nat_lt, refl, sym, ◌∙◌, ap, arith}
use Rattle.std.specs.List.{position, position_or_len}
use Rattle.std.proofs.lemmas.List.Quantifiers.{position-Some}
use Rattle.std.proofs.lemmas.Bool.Decides.{nat_tests}
use Rattle.cip_types.specs.Indices.{find_none}
use Rattle.messaging.specs.declared.class3.Class3Connection.{Class3Connection}
use Rattle.messaging.specs.Class3Connections.{first_changed}

changed_there : (p : Class3Connection → Bool) (f : Class3Connection → Class3Connection) (ds : List Class3Connection) (i : ℕ) (d : Class3Connection) → i < length ds → p (get_or ds i d) ≡ true → ((k : ℕ) → k < i → p (get_or ds k d) ≡ false) → set ds i (f (get_or ds i d)) ≡ first_changed p f ds
changed_there p f [] i d lt has before = absurd (omega arith)
changed_there p f (x ∷ ds) zero d lt has before = rw has refl
changed_there p f (x ∷ ds) (suc i) d lt has before =
    rw (before zero (omega arith)) (ap (λ (l : List Class3Connection). x ∷ l) (changed_there p f ds i d (omega arith) has (λ k below. before (suc k) (omega arith))))

-- the place of the first that passes
pub changed_at : (p : Class3Connection → Bool) (f : Class3Connection → Class3Connection) (ds : List Class3Connection) (i : ℕ) (d : Class3Connection) → position p ds ≡ Some i → set ds i (f (get_or ds i d)) ≡ first_changed p f ds
changed_at p f ds i d is =
    let there = position-Some p ds i d is in
    changed_there p f ds i d there.0 there.1 there.2

none_found : (p : Class3Connection → Bool) (f : Class3Connection → Class3Connection) (ds : List Class3Connection) → find p ds ≡ None → first_changed p f ds ≡ ds
none_found p f [] none = refl
none_found p f (x ∷ ds) none = split (p x) refl (none_found p f ds)
  where
    split : (b : Bool) → p x ≡ b → (find p ds ≡ None → first_changed p f ds ≡ ds) → first_changed p f (x ∷ ds) ≡ x ∷ ds
    split true here rest = let some : find p (x ∷ ds) ≡ Some x = ap (λ b. cond b (Some x) (find p ds)) here in absurd cc
    split false fails rest = rw fails (ap (λ (l : List Class3Connection). x ∷ l) (rest (sym (ap (λ b. cond b (Some x) (find p ds)) fails) ∙ none)))

-- without a place none is changed
pub none_changed : (p : Class3Connection → Bool) (f : Class3Connection → Class3Connection) (ds : List Class3Connection) → position p ds ≡ None → ds ≡ first_changed p f ds
none_changed p f ds none =
    sym (none_found p f ds (find_none p ds (position_or_len p ds) refl (past (nat_lt (position_or_len p ds) (length ds)) refl none)))
  where
    past : (b : Bool) → nat_lt (position_or_len p ds) (length ds) ≡ b → cond b (Some (position_or_len p ds)) None ≡ None → length ds ≤ position_or_len p ds
    past true is h = absurd cc
    past false is h = grind (arith, nat_tests)
