-- For callers: what fires is determined.
use Rattle.std.proofs.Common.{◌≡◌, ◌⊎◌, zero, suc, List, [], ◌∷◌, inl, inr, arith, refl, sym, ap₂, ◌∙◌, subst, Contains, AllPairs}

module _ {X : Type 0} (R : X → X → Type 0) where
  in_tail : (x : X) (xs : List X) (y : X) → Contains (x ∷ xs) y → (x ≡ y) ⊎ Contains xs y
  in_tail x xs y (zero, below, is) = inl is
  in_tail x xs y (suc k, below, is) = inr (k, omega arith, is)

  after_head : (x : X) (xs : List X) (y : X) → AllPairs R (x ∷ xs) → Contains xs y → R x y
  after_head x xs y pairs found = subst (R x) found.2 (pairs 0 (suc found.0) y (omega arith) (omega (arith, found.1)))

  tail_pairs : (x : X) (xs : List X) → AllPairs R (x ∷ xs) → AllPairs R xs
  tail_pairs x xs pairs i j d below within = pairs (suc i) (suc j) d (omega arith) (omega arith)

  -- two lists with the same elements, each in one strict order, are equal
  pub same_ordered : ((x : X) → ¬ R x x) → ((x y : X) → R x y → ¬ R y x) → (xs ys : List X) → AllPairs R xs → AllPairs R ys → ((x : X) → Contains xs x → Contains ys x) → ((x : X) → Contains ys x → Contains xs x) → xs ≡ ys
  same_ordered irr asym [] [] up vp there back = refl
  same_ordered irr asym [] (y ∷ ys) up vp there back = absurd (omega (arith, (back y (0, omega arith, refl)).1))
  same_ordered irr asym (x ∷ xs) [] up vp there back = absurd (omega (arith, (there x (0, omega arith, refl)).1))
  same_ordered irr asym (x ∷ xs) (y ∷ ys) up vp there back =
      let head : x ≡ y =
      elim (in_tail y ys x (there x (0, omega arith, refl))) [
        | inl same ↦ sym same
        | inr in_ys ↦
            elim (in_tail x xs y (back y (0, omega arith, refl))) [
              | inl same ↦ same
              | inr in_xs ↦ absurd (asym x y (after_head x xs y up in_xs) (after_head y ys x vp in_ys))
            ]
      ] in
      let forth : (z : X) → Contains xs z → Contains ys z =
      λ z in_xs. elim (in_tail y ys z (there z (suc in_xs.0, omega (arith, in_xs.1), in_xs.2))) [
        | inl same ↦ absurd (irr z (subst (λ w. R w z) (head ∙ same) (after_head x xs z up in_xs)))
        | inr in_ys ↦ in_ys
      ] in
      let again : (z : X) → Contains ys z → Contains xs z =
      λ z in_ys. elim (in_tail x xs z (back z (suc in_ys.0, omega (arith, in_ys.1), in_ys.2))) [
        | inl same ↦ absurd (irr z (subst (λ w. R w z) (sym head ∙ same) (after_head y ys z vp in_ys)))
        | inr in_xs ↦ in_xs
      ] in
      ap₂ (λ a l. a ∷ l) head (same_ordered irr asym xs ys (tail_pairs x xs up) (tail_pairs y ys vp) forth again)
