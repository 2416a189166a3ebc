-- Results, options and numbers by cases.
use Rattle.std.proofs.Common.{◌≡◌, ◌≢◌, ℕ, zero, suc, ◌==◌, true, false, Option, Some, None, Result, Ok, Err, refl, ap, arith}
use Rattle.std.proofs.lemmas.Bool.Decides.{nat_tests}

pub ok_is : {X E : Type 0} (x y : X) → ◌≡◌ {A = Result X E} (Ok x) (Ok y) → x ≡ y
ok_is x y h = cc

pub some_is : {X : Type 0} (x y : X) → Some x ≡ Some y → x ≡ y
some_is x y h = cc

pub none_some : {X A : Type 0} (x : X) → ◌≡◌ {A = Option X} None (Some x) → A
none_some x h = absurd (let e = h in cc)

pub err_ok : {X E A : Type 0} (f : E) (x : X) → ◌≡◌ {A = Result X E} (Err f) (Ok x) → A
err_ok f x h = absurd (let e = h in cc)

pub eq_true : (a b : ℕ) → a ≡ b → (a == b) ≡ true
eq_true a b h = grind (arith, nat_tests)

pub eq_false : (a b : ℕ) → a ≢ b → (a == b) ≡ false
eq_false a b h = grind (arith, nat_tests)

pub same_or_not : (P : Type 0) (a b : ℕ) → (a ≡ b → P) → (a ≢ b → P) → P
same_or_not P zero zero f g = f refl
same_or_not P zero (suc b) f g = g (λ e. omega (arith, e))
same_or_not P (suc a) zero f g = g (λ e. omega (arith, e))
same_or_not P (suc a) (suc b) f g = same_or_not P a b (λ e. f (ap suc e)) (λ ne. g (λ e. ne (omega (arith, e))))
