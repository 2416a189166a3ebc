-- While a run waits nothing is due, and then something is.
use Rattle.std.proofs.Common.{◌≡◌, ◌≢◌, ℕ, ◌+◌, ◌-◌, ◌<◌, ◌≤◌, ◌^◌, Bool, true, false, ltb, leb, List, [], ◌∷◌, Option, Some, None, refl, sym, ap, ◌∙◌, subst, arith, cond, inl, inr, ◌⊎◌}
use Rattle.std.specs.Prelude.{min, nat_le, ◌==◌, ◌&&◌, ◌||◌, option_and_then}
use Rattle.std.proofs.lemmas.Bool.Decides.{nat_tests}
use Rattle.station.specs.declared.script.run.DueLine.{DueLine}
use Rattle.station.specs.declared.script.run.ScriptRun.{ScriptRun}
use Rattle.station.specs.declared.script.lines.DueTime.{DueTime}
use Rattle.station.specs.declared.script.lines.ScriptLine.{ScriptLine}
use Rattle.station.specs.Script.Due.{IsLast, IsNext, earlier, is_due, last_time, next_due, next_time}
use Rattle.station.specs.Script.Runs.{IsExactWait, first_from, left_at, open_time, sooner, taken, wait_for, wait_of}
use Rattle.station.proofs.Rounds.{last, next}

both : {A : Type 0} (b : Bool) → b ≡ true → b ≡ false → A
both true is not = absurd (cc)
both false is not = absurd (cc)

-- THE LAST TIME IS ONE ALONE

-- (the greater one of two last times would be due behind the other)
one_last : (now : ℕ) (due : DueTime) (one other : ℕ) → IsLast now due (Some one) → IsLast now due (Some other) → one < other → ⊥
one_last now due one other is too less = both (is_due due other) too.1.0 (is.1.1 other less too.0)

same_time : (now : ℕ) (due : DueTime) (one other : ℕ) → IsLast now due (Some one) → IsLast now due (Some other) → (below above : Bool) → ltb one other ≡ below → ltb other one ≡ above → one ≡ other
same_time now due one other is too true above less more = absurd (one_last now due one other is too (grind (arith, nat_tests, less)))
same_time now due one other is too false true less more = absurd (one_last now due other one too is (grind (arith, nat_tests, more)))
same_time now due one other is too false false less more = grind (arith, nat_tests, less, more)

last_alone : (now : ℕ) (due : DueTime) (one other : Option ℕ) → IsLast now due one → IsLast now due other → one ≡ other
last_alone now due None None is too = refl
last_alone now due None (Some other) is too = both (is_due due other) too.1.0 (is other too.0)
last_alone now due (Some one) None is too = both (is_due due one) is.1.0 (too one is.0)
last_alone now due (Some one) (Some other) is too = ap Some (same_time now due one other is too _ _ refl refl)

-- no line is due from one time to another one
abbrev Quiet : DueTime → ℕ → ℕ → Type 0
Quiet due now time = (later : ℕ) → now < later → later ≤ time → is_due due later ≡ false

later_quiet : (due : DueTime) (now time later : ℕ) (b : Bool) → Quiet due now time → leb later now ≡ b → (later ≤ now → is_due due later ≡ false) → later ≤ time → is_due due later ≡ false
later_quiet due now time later true quiet is early below = early (grind (arith, nat_tests, is))
later_quiet due now time later false quiet is early below = quiet later (grind (arith, nat_tests, is)) below

stays_last : (due : DueTime) (now time : ℕ) (r : Option ℕ) → now ≤ time → Quiet due now time → IsLast now due r → IsLast time due r
stays_last due now time None le quiet is = λ later below. later_quiet due now time later _ quiet refl (is later) below
stays_last due now time (Some one) le quiet is = (omega (arith, is.0), (is.1.0, λ later behind below. later_quiet due now time later _ quiet refl (is.1.1 later behind) below))

same_last : (due : DueTime) (now time : ℕ) → now ≤ time → Quiet due now time → last_time time due ≡ last_time now due
same_last due now time le quiet = last_alone time due _ _ (last time due) (stays_last due now time _ le quiet (last now due))

-- NOTHING IS TAKEN BEFORE THE NEXT TIME

abbrev pub Before : ℕ → Option ℕ → Type 0
Before time None = Unit {0}
Before time (Some next) = time < next

quiet_before : (due : DueTime) (now time : ℕ) (r : Option ℕ) → time < 2 ^ 64 → IsNext now due r → Before time r → Quiet due now time
quiet_before due now time None fits is before = λ later behind below. is later behind (omega (arith, fits))
quiet_before due now time (Some next) fits is before = λ later behind below. is.1.1 later behind (omega (arith, before, below))

pub before_both : (time : ℕ) (one other : Option ℕ) → Before time (earlier one other) → Before time one × Before time other
before_both time (Some one) (Some other) before = (omega (arith, before), omega (arith, before))
before_both time (Some one) None before = (before, tt)
before_both time None (Some other) before = (tt, before)
before_both time None None before = (tt, tt)

none_of : (one other : Option DueLine) → sooner one other ≡ None → (one ≡ None) × (other ≡ None)
none_of (Some one) (Some other) none = absurd (cc)
none_of (Some one) None none = absurd (cc)
none_of None other none = (refl, none)

nothing : (run : ScriptRun) (now time number : ℕ) (lines : List ScriptLine) → now ≤ time → time < 2 ^ 64 → first_from run now number lines ≡ None → Before time (next_due now lines) → first_from run time number lines ≡ None
nothing run now time number [] le fits none before = refl
nothing run now time number (line ∷ lines) le fits none before =
    let parts : (open_time run now number line.due ≡ None) × (first_from run now (number + 1) lines ≡ None) = none_of (open_time run now number line.due) (first_from run now (number + 1) lines) none in
    let times : Before time (next_time now line.due) × Before time (next_due now lines) = before_both time (next_time now line.due) (next_due now lines) before in
    let here : open_time run time number line.due ≡ None = ap (option_and_then (left_at run number)) (same_last line.due now time le (quiet_before line.due now time _ fits (next now line.due) times.0)) ∙ parts.0 in
    let rest : first_from run time (number + 1) lines ≡ None = nothing run now time (number + 1) lines le fits parts.1 times.1 in
    ap (λ one. sooner one (first_from run time (number + 1) lines)) here ∙ rest

-- AT THE NEXT TIME SOMETHING IS

some_first : (one : DueLine) (other : Option DueLine) → sooner (Some one) other ≢ None
some_first one None = λ none. absurd (cc)
some_first one (Some other) = λ none. absurd (cc)

some_other : (one other : Option DueLine) → other ≢ None → sooner one other ≢ None
some_other None other some = some
some_other (Some one) other some = some_first one other

last_then : (due : DueTime) (now time : ℕ) → IsNext now due (Some time) → last_time time due ≡ Some time
last_then due now time is = last_alone time due _ (Some time) (last time due) (omega arith, (is.1.0, λ later behind below. absurd (omega (arith, behind, below))))

left_then : (run : ScriptRun) (time number : ℕ) → run.ms < time → left_at run number time ≡ Some (record { ms = time; line = number })
left_then run time number behind =
    let is : ltb run.ms time ≡ true = grind (arith, nat_tests, behind) in
    ap (λ b. cond (b || ((time == run.ms) && nat_le run.line number)) (Some (record { ms = time; line = number })) None) is

-- one of two times is the earlier one
pub earlier_is : (one other : Option ℕ) (time : ℕ) → earlier one other ≡ Some time → (one ≡ Some time) ⊎ (other ≡ Some time)
earlier_is None other time is = inr is
earlier_is (Some one) None time is = inl is
earlier_is (Some one) (Some other) time is = go (leb one other) refl
  where
    go : (b : Bool) → leb one other ≡ b → (Some one ≡ Some time) ⊎ (Some other ≡ Some time)
    go true le = let same : min one other ≡ one = grind (arith, nat_tests, le) in inl (ap Some (sym same) ∙ is)
    go false le = let same : min one other ≡ other = grind (arith, nat_tests, le) in inr (ap Some (sym same) ∙ is)

something : (run : ScriptRun) (now time number : ℕ) (lines : List ScriptLine) → run.ms ≤ now → next_due now lines ≡ Some time → first_from run time number lines ≢ None
something run now time number [] le is = absurd (cc)
something run now time number (line ∷ lines) le is =
    elim (earlier_is (next_time now line.due) (next_due now lines) time is) [
      | inl here ↦
          let next_is : IsNext now line.due (Some time) = subst (IsNext now line.due) here (next now line.due) in
          let opens : open_time run time number line.due ≡ Some (record { ms = time; line = number }) = ap (option_and_then (left_at run number)) (last_then line.due now time next_is) ∙ left_then run time number (omega (arith, le, next_is.0)) in
          λ none. some_first (record { ms = time; line = number }) (first_from run time (number + 1) lines) (ap (λ one. sooner one (first_from run time (number + 1) lines)) (sym opens) ∙ none)
      | inr rest ↦ some_other (open_time run time number line.due) (first_from run time (number + 1) lines) (something run now time (number + 1) lines le rest)
    ]

-- WAITS

next_behind : (now : ℕ) (lines : List ScriptLine) (time : ℕ) → next_due now lines ≡ Some time → now < time
next_behind now [] time is = absurd (cc)
next_behind now (line ∷ lines) time is =
    elim (earlier_is (next_time now line.due) (next_due now lines) time is) [
      | inl here ↦ let next_is : IsNext now line.due (Some time) = subst (IsNext now line.due) here (next now line.due) in next_is.0
      | inr rest ↦ next_behind now lines time rest
    ]

ready : (run : ScriptRun) (now most : ℕ) (script : List ScriptLine) (due : DueLine) → taken run now script ≡ Some due → IsExactWait run now most script 0
ready run now most script due found =
    let at : now + 0 ≡ now = omega arith in (
      omega arith,
      (
        λ time le before fits. absurd (omega (arith, le, before)),
        λ shorter none. (let some : Some due ≡ None = sym found ∙ ap (λ t. taken run t script) (sym at) ∙ none in absurd (cc)),
      ),
    )

endless : (run : ScriptRun) (now most : ℕ) (script : List ScriptLine) → taken run now script ≡ None → next_due now script ≡ None → IsExactWait run now most script most
endless run now most script none no_next = (
  omega arith,
  (
    λ time le before fits. nothing run now time 0 script le fits none (subst (Before time) (sym no_next) tt),
    λ shorter. absurd (omega (arith, shorter)),
  ),
)

waiting : (run : ScriptRun) (now most next : ℕ) (script : List ScriptLine) → run.ms ≤ now → taken run now script ≡ None → next_due now script ≡ Some next → IsExactWait run now most script (min most (next - now))
waiting run now most next script old none found =
    let behind : now < next = next_behind now script next found in (
      omega arith,
      (
        λ time le before fits. nothing run now time 0 script le fits none (subst (Before time) (sym found) (omega (arith, before, behind))),
        λ shorter. (let at : next ≡ now + min most (next - now) = omega (arith, shorter, behind) in
            subst (λ t. taken run t script ≢ None) at (something run now next 0 script old found)),
      ),
    )

wait_free : (run : ScriptRun) (now most : ℕ) (script : List ScriptLine) (due : Option DueLine) (next : Option ℕ) → run.ms ≤ now → taken run now script ≡ due → next_due now script ≡ next → IsExactWait run now most script (wait_for now most due next)
wait_free run now most script (Some due) next old found then = ready run now most script due found
wait_free run now most script None None old found then = endless run now most script found then
wait_free run now most script None (Some next) old found then = waiting run now most next script old found then

pub exact : (run : ScriptRun) (now most : ℕ) (script : List ScriptLine) → run.ms ≤ now → IsExactWait run now most script (wait_of run now most script)
exact run now most script old = wait_free run now most script _ _ old refl refl
