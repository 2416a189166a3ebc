-- Two entries of the chronicle with one T->O id of a scanner are one entry, since the id is used once at most.
use Rattle.std.proofs.Common.{◌≡◌, ◌≤◌, ◌⊎◌, inl, inr, ℕ, ◌+◌, Bool, true, cond, List, [], ◌∷◌, sym, ◌∙◌, ap, arith, eq-eqb}
use Rattle.std.specs.List.{Contains, count_by}
use Rattle.std.proofs.lemmas.List.Elements.{Contains-append_cases, Contains-push_cases}
use Rattle.base_lemmas.specs.Lists.{count_cons}
use Rattle.cip_types.specs.Ids.{id_at}
use Rattle.schedule_laws.specs.Chronicle.{Chronicle}
use Rattle.schedule_laws.specs.MadeOnce.{has_id, uses, SchedulesUseIdsOnce, AnIdOpensOneConnection}

-- ---- a list in which one element at most passes a test

pub none_in : {X Y : Type 0} (x : X) → Contains [] x → Y
none_in x there = absurd (let below = there.1 in omega (arith, below))

pub first_or_rest : {X : Type 0} (z x : X) (xs : List X) → Contains (z ∷ xs) x → (z ≡ x) ⊎ Contains xs x
first_or_rest z x xs there = split (Contains-append_cases (z ∷ []) xs x there) where
  first : Contains [] x ⊎ (z ≡ x) → (z ≡ x) ⊎ Contains xs x
  first (inl none) = none_in x none
  first (inr is) = inl is

  split : Contains (z ∷ []) x ⊎ Contains xs x → (z ≡ x) ⊎ Contains xs x
  split (inl one) = first (Contains-push_cases [] z x one)
  split (inr rest) = inr rest

abbrev one_if : Bool → ℕ
one_if b = cond b 1 0

passing_one : {X : Type 0} (p : X → Bool) (z x : X) (xs : List X) → z ≡ x → p x ≡ true → count_by p (z ∷ xs) ≡ 1 + count_by p xs
passing_one p z x xs is passes =
    let one : ◌≡◌ {A = ℕ} (one_if (p z)) 1 = ap (λ y. one_if (p y)) is ∙ ap one_if passes in
    let both = count_cons p z xs in
    omega (arith, one, both)

pub counted : {X : Type 0} (p : X → Bool) (xs : List X) (x : X) → Contains xs x → p x ≡ true → 1 ≤ count_by p xs
counted p [] x there passes = none_in x there
counted p (z ∷ xs) x there passes = by_case (first_or_rest z x xs there) (λ rest. counted p xs x rest passes) where
  by_case : (z ≡ x) ⊎ Contains xs x → (Contains xs x → 1 ≤ count_by p xs) → 1 ≤ count_by p (z ∷ xs)
  by_case (inl is) on = let one = passing_one p z x xs is passes in omega (arith, one)
  by_case (inr rest) on = let some = on rest in let both = count_cons p z xs in omega (arith, some, both)

only_one : {X : Type 0} (p : X → Bool) (xs : List X) (x y : X) → Contains xs x → Contains xs y → p x ≡ true → p y ≡ true → count_by p xs ≤ 1 → x ≡ y
only_one p [] x y there other passes also one = none_in x there
only_one p (z ∷ xs) x y there other passes also one =
    by_case (first_or_rest z x xs there) (first_or_rest z y xs other)
    (λ rest more. only_one p xs x y rest more passes also (let both = count_cons p z xs in omega (arith, one, both)))
  where
    by_case : (z ≡ x) ⊎ Contains xs x → (z ≡ y) ⊎ Contains xs y → (Contains xs x → Contains xs y → x ≡ y) → x ≡ y
    by_case (inl is) (inl so) on = sym is ∙ so
    by_case (inl is) (inr more) on = absurd (let first = passing_one p z x xs is passes in let some = counted p xs y more also in omega (arith, one, first, some))
    by_case (inr rest) (inl so) on = absurd (let first = passing_one p z y xs so also in let some = counted p xs x rest passes in omega (arith, one, first, some))
    by_case (inr rest) (inr more) on = on rest more

-- ---- the law

pub opened_at_most : (id n : ℕ) (w : Chronicle) → uses id w.story.world.streams w.opened ≤ n → count_by (has_id id) w.opened ≤ n
unfolding uses
opened_at_most id n w is = omega (arith, is)

pub one_connection : SchedulesUseIdsOnce → AnIdOpensOneConnection
one_connection once configs acts c is e f there other scanner same =
    let used = once configs acts c is in
    let few = opened_at_most (id_at scanner.table.ids scanner.number).0 1 c (used.once scanner.device scanner.table scanner.number scanner.there scanner.has) in
    only_one (has_id (id_at scanner.table.ids scanner.number).0) c.opened e f there other
    (eq-eqb e.t_o_id.0 (id_at scanner.table.ids scanner.number).0 scanner.is)
    (eq-eqb f.t_o_id.0 (id_at scanner.table.ids scanner.number).0 (sym same ∙ scanner.is)) few
