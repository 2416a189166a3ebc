-- The multiples of a number, and the times at which a line is due.
use Rattle.std.proofs.Common.{zero, suc, ◌≡◌, ℕ, ◌+◌, ◌-◌, ◌*◌, ◌/◌, ◌%◌, ◌<◌, ◌≤◌, ◌^◌, Bool, true, false, eqb, ltb, leb, Some, None, refl, ap, ◌∙◌, arith, cond, add-one}
use Rattle.std.specs.Prelude.{◌||◌}
use Rattle.std.proofs.Math.Nat.{div-add-mod, mul-mod_right, lt_of_mul-lt-mul_left, mul-suc, mul-zero, mod-lt}
use Rattle.std.proofs.lemmas.Bool.Decides.{nat_tests}
use Rattle.station.specs.declared.script.lines.DueTime.{DueTime}
use Rattle.station.specs.declared.script.lines.DueTime.TheVariants.{At, Every}
use Rattle.station.specs.Script.Due.{IsLast, IsNext, is_due, last_time, next_time, round_within}

next_times : (ms q : ℕ) → ms * (q + 1) ≡ ms * q + ms
next_times ms q = ap (λ n. ms * n) (add-one q) ∙ mul-suc ms q

-- there is no multiple between one and the next one
no_round : (ms q time : ℕ) → ms * q < time → time < ms * q + ms → time % ms ≡ 0 → ⊥
no_round ms q time behind before none =
    let times : time ≡ ms * (time / ms) = omega (arith, div-add-mod time ms) in
    let above : q < time / ms = lt_of_mul-lt-mul_left ms (omega (arith, times, behind)) in
    let below : time / ms < q + 1 = lt_of_mul-lt-mul_left ms (omega (arith, times, before, next_times ms q)) in
    omega (arith, above, below)

not_due : (ms time : ℕ) → (time % ms ≡ 0 → ⊥) → is_due (Every ms) time ≡ false
not_due ms time none = go (eqb (time % ms) 0) refl
  where
    go : (b : Bool) → eqb (time % ms) 0 ≡ b → is_due (Every ms) time ≡ false
    go true is = absurd (none (grind (arith, nat_tests, is)))
    go false is = grind (arith, nat_tests, is)

due_at : (ms time : ℕ) → 0 < ms → 0 < time → time % ms ≡ 0 → is_due (Every ms) time ≡ true
due_at ms time some later none = grind (arith, nat_tests)

-- a time below the number itself is none of its multiples
no_early : (ms time : ℕ) → time < ms → is_due (Every ms) time ≡ false
no_early ms zero less = grind (arith, nat_tests)
no_early ms (suc n) less = not_due ms (suc n) (λ none. no_round ms 0 (suc n) (omega (arith, mul-zero ms)) (omega (arith, mul-zero ms, less)) none)

never : (time : ℕ) → is_due (Every 0) time ≡ false
never time = refl

is_zero : (ms : ℕ) → eqb ms 0 ≡ true → ms ≡ 0
is_zero ms is = grind (arith, nat_tests, is)

last_every : (ms now : ℕ) (none early : Bool) → eqb ms 0 ≡ none → ltb now ms ≡ early → IsLast now (Every ms) (cond (none || early) None (Some (now - now % ms)))
last_every ms now true early is less = λ time below. ap (λ n. is_due (Every n) time) (is_zero ms is)
last_every ms now false true is less = λ time below. no_early ms time (grind (arith, nat_tests, less))
last_every ms now false false is less =
    let some : 0 < ms = grind (arith, nat_tests, is) in
    let late : ms ≤ now = grind (arith, nat_tests, less) in
    let sum : ms * (now / ms) + now % ms ≡ now = div-add-mod now ms in
    let last_is : now - now % ms ≡ ms * (now / ms) = omega (arith, sum) in
    let rest : now % ms < ms = mod-lt now some in (
      omega (arith, sum),
      (
        due_at ms (now - now % ms) some (omega (arith, sum, rest)) (ap (λ n. n % ms) last_is ∙ mul-mod_right ms (now / ms)),
        λ later behind before. not_due ms later (no_round ms (now / ms) later (omega (arith, last_is, behind)) (omega (arith, sum, rest, before))),
      ),
    )

last_once : (ms now : ℕ) (b : Bool) → leb ms now ≡ b → IsLast now (At ms) (cond b (Some ms) None)
last_once ms now true is = (grind (arith, nat_tests, is), (grind (arith, nat_tests), λ later behind before. grind (arith, nat_tests)))
last_once ms now false is = λ time below. grind (arith, nat_tests, is)

pub last : (now : ℕ) (due : DueTime) → IsLast now due (last_time now due)
last now (At ms) = last_once ms now _ refl
last now (Every ms) = last_every ms now _ _ refl refl

next_within : (ms now : ℕ) (b : Bool) → 0 < ms → ltb (now + (ms - now % ms)) (2 ^ 64) ≡ b → IsNext now (Every ms) (cond b (Some (now + (ms - now % ms))) None)
next_within ms now true some is =
    let sum : ms * (now / ms) + now % ms ≡ now = div-add-mod now ms in
    let rest : now % ms < ms = mod-lt now some in
    let next_is : now + (ms - now % ms) ≡ ms * (now / ms + 1) = omega (arith, sum, rest, next_times ms (now / ms)) in (
      omega (arith, rest),
      (
        due_at ms (now + (ms - now % ms)) some (omega (arith, rest)) (ap (λ n. n % ms) next_is ∙ mul-mod_right ms (now / ms + 1)),
        λ sooner behind before. not_due ms sooner (no_round ms (now / ms) sooner (omega (arith, sum, behind)) (omega (arith, sum, rest, before))),
      ),
    )
next_within ms now false some is =
    let sum : ms * (now / ms) + now % ms ≡ now = div-add-mod now ms in
    let rest : now % ms < ms = mod-lt now some in
    let past : 2 ^ 64 ≤ now + (ms - now % ms) = grind (arith, nat_tests, is) in
    λ time behind before. not_due ms time (no_round ms (now / ms) time (omega (arith, sum, behind)) (omega (arith, sum, rest, past, before)))

next_every : (ms now : ℕ) (none : Bool) → eqb ms 0 ≡ none → IsNext now (Every ms) (cond none None (round_within (now + (ms - now % ms))))
next_every ms now true is = λ time behind before. ap (λ n. is_due (Every n) time) (is_zero ms is)
next_every ms now false is = next_within ms now _ (grind (arith, nat_tests, is)) refl

next_once : (ms now : ℕ) (b : Bool) → ltb now ms ≡ b → IsNext now (At ms) (cond b (Some ms) None)
next_once ms now true is = (grind (arith, nat_tests, is), (grind (arith, nat_tests), λ sooner behind before. grind (arith, nat_tests)))
next_once ms now false is = λ time behind before. grind (arith, nat_tests, is)

pub next : (now : ℕ) (due : DueTime) → IsNext now due (next_time now due)
next now (At ms) = next_once ms now _ refl
next now (Every ms) = next_every ms now _ refl
