-- Numbers, each once.
use Rattle.std.proofs.Common.{◌≡◌, ℕ, ◌==◌, ◌||◌, not, Bool, true, false, cond, List, [], ◌∷◌, ◌++◌, Option, Some, None, refl, sym, ◌∙◌, ap, subst, arith, append_assoc, append-nil}
use Rattle.std.specs.Prelude.{filter}
use Rattle.std.proofs.lemmas.Bool.Decides.{nat_tests}
use Rattle.std.proofs.lemmas.List.Folds.{list_any-append}
use Rattle.base_lemmas.specs.Booleans.{or_false}
use Rattle.line_threads.specs.Openings.{distinct, has, other_than, without}

equal : (n m : ℕ) → (n == m) ≡ true → n ≡ m
equal n m is = grind (arith, nat_tests)

-- NUMBERS THAT WERE SEEN

pub without_none : (ns : List ℕ) → without [] ns ≡ ns
without_none [] = refl
without_none (n ∷ ns) = ap (λ (l : List ℕ). n ∷ l) (without_none ns)

-- a number that is not kept, of which `l` is the rest
not_kept : (seen : List ℕ) (n : ℕ) (l : List ℕ) → has n seen ≡ true → without seen (n ∷ l) ≡ without seen l
not_kept seen n l is = ap (λ t. cond (not t) (n ∷ without seen l) (without seen l)) is

kept : (seen : List ℕ) (n : ℕ) (l : List ℕ) → has n seen ≡ false → without seen (n ∷ l) ≡ n ∷ without seen l
kept seen n l is = ap (λ t. cond (not t) (n ∷ without seen l) (without seen l)) is

more_step : (seen : List ℕ) (n : ℕ) (a b : Bool) (l others : List ℕ) → has n seen ≡ a → l ≡ without seen others → cond (not (a || b)) (n ∷ l) l ≡ without seen (cond (not b) (n ∷ others) others)
more_step seen n true true l others is so = so
more_step seen n true false l others is so = so ∙ sym (not_kept seen n others is)
more_step seen n false true l others is so = so
more_step seen n false false l others is so = ap (λ (r : List ℕ). n ∷ r) so ∙ sym (kept seen n others is)

without_more : (seen : List ℕ) (x : ℕ) (ns : List ℕ) → without (seen ++ x ∷ []) ns ≡ without seen (filter (λ m. not (x == m)) ns)
without_more seen x [] = refl
without_more seen x (n ∷ ns) =
    ap (λ t. cond (not t) (n ∷ without (seen ++ x ∷ []) ns) (without (seen ++ x ∷ []) ns)) (list_any-append (λ m. m == n) seen (x ∷ []) ∙ ap (λ t. has n seen || t) (or_false (x == n)))
    ∙ more_step seen n (has n seen) (x == n) (without (seen ++ x ∷ []) ns) (filter (λ m. not (x == m)) ns) refl (without_more seen x ns)

known_step : (seen : List ℕ) (n : ℕ) (same : Bool) (others ns : List ℕ) → (same ≡ true → has n seen ≡ true) → without seen others ≡ without seen ns → without seen (cond (not same) (n ∷ others) others) ≡ without seen (n ∷ ns)
known_step seen n true others ns is so = so ∙ sym (not_kept seen n ns (is refl))
known_step seen n false others ns is so = ap (λ (l : List ℕ). cond (not (has n seen)) (n ∷ l) l) so

without_known : (seen : List ℕ) (x : ℕ) (ns : List ℕ) → has x seen ≡ true → without seen (filter (λ m. not (x == m)) ns) ≡ without seen ns
without_known seen x [] is = refl
without_known seen x (n ∷ ns) is =
    known_step seen n (x == n) (filter (λ m. not (x == m)) ns) ns (λ same. subst (λ (m : ℕ). has m seen ≡ true) (equal x n same) is) (without_known seen x ns is)

-- ONE NUMBER MORE

-- the list after these numbers, and what comes with the rest
abbrev after : List ℕ → List ℕ → List ℕ → List ℕ
after seen more rest = (seen ++ more) ++ without (seen ++ more) (distinct rest)

adds_none : (seen rest : List ℕ) → after seen [] rest ≡ seen ++ without seen (distinct rest)
adds_none seen rest = ap (λ (l : List ℕ). l ++ without l (distinct rest)) (append-nil seen)

adds_one : (n : ℕ) (seen rest : List ℕ) (b : Bool) → has n seen ≡ b → after seen (without seen (n ∷ [])) rest ≡ seen ++ without seen (distinct (n ∷ rest))
adds_one n seen rest true is =
    ap (λ (more : List ℕ). after seen more rest) (not_kept seen n [] is)
    ∙ adds_none seen rest
    ∙ ap (λ (l : List ℕ). seen ++ l) (sym (without_known seen n (distinct rest) is) ∙ sym (not_kept seen n (filter (λ m. not (n == m)) (distinct rest)) is))
adds_one n seen rest false is =
    ap (λ (more : List ℕ). after seen more rest) (kept seen n [] is)
    ∙ append_assoc seen (n ∷ []) (without (seen ++ n ∷ []) (distinct rest))
    ∙ ap (λ (l : List ℕ). seen ++ n ∷ l) (without_more seen n (distinct rest))
    ∙ ap (λ (l : List ℕ). seen ++ l) (sym (kept seen n (filter (λ m. not (n == m)) (distinct rest)) is))

adds_if : (t : Bool) (n : ℕ) (seen rest : List ℕ) → after seen (without seen (cond t [] (n ∷ []))) rest ≡ seen ++ without seen (distinct (cond t [] (n ∷ []) ++ rest))
adds_if true n seen rest = adds_none seen rest
adds_if false n seen rest = adds_one n seen rest (has n seen) refl

pub adds : (own : ℕ) (place : Option ℕ) (seen rest : List ℕ) → after seen (without seen (other_than own place)) rest ≡ seen ++ without seen (distinct (other_than own place ++ rest))
adds own None seen rest = adds_none seen rest
adds own (Some place) seen rest = adds_if (place == own) place seen rest
