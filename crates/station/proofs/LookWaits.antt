-- While a turn waits nothing is decided about a device that stays as it is, and then something is.
use Rattle.std.proofs.Common.{zero, suc, ◌≡◌, ◌≢◌, ℕ, ◌+◌, ◌-◌, ◌<◌, ◌≤◌, ◌^◌, Bool, true, false, ltb, List, [], ◌∷◌, Option, Some, None, refl, sym, ap, ◌∙◌, subst, arith, cond, inl, inr}
use Rattle.std.specs.Prelude.{length, min, slice_get}
use Rattle.std.proofs.lemmas.Bool.Decides.{nat_tests}
use Rattle.cip_tables.specs.declared.table.DeviceTable.{DeviceTable}
use Rattle.script_checks.specs.declared.judging.ExpectationState.TheVariants.{Failed}
use Rattle.script_checks.specs.Judging.{in_time}
use Rattle.station.specs.declared.script.checks.DecidedLine.{DecidedLine}
use Rattle.station.specs.declared.script.checks.Decision.TheVariants.{Fails}
use Rattle.station.specs.declared.script.checks.LineCheck.{LineCheck}
use Rattle.station.specs.declared.script.checks.LineWait.{LineWait}
use Rattle.station.specs.declared.script.checks.LineWait.TheVariants as wait
use Rattle.station.specs.declared.script.lines.ScriptLine.{ScriptLine}
use Rattle.station.specs.declared.script.state.ScriptState.{ScriptState}
use Rattle.station.specs.Script.Checks.{decided_at, decided_in, decided_of, decided_so, earlier_or, expects, expiry_of, first_decided, first_expiry, first_expiry_in, first_to, holds_if, line_decision}
use Rattle.station.specs.Script.Looks.{IsExactLookWait, LookWaitsAreExact, NothingComes, least_wait}
use Rattle.station.specs.Script.Runs.{IsExactWait, taken, wait_of}
use Rattle.station.proofs.Waits.{Before, before_both, earlier_is, exact}

-- NOTHING IS DECIDED BEFORE A LINE CAN FAIL

line_stays : (table : DeviceTable) (now time number : ℕ) (line : ScriptLine) (waited : LineWait) → now ≤ time → Before time (expiry_of waited) → decided_of number (line_decision table now line waited) ≡ None → decided_of number (line_decision table time line waited) ≡ None
line_stays table now time number line wait.Nothing le before none = refl
line_stays table now time number line wait.When le before none = none
line_stays table now time number line (wait.Expected since until) le before none =
    let then : ltb until time ≡ false = grind (arith, nat_tests, before) in
    let now_too : ltb until now ≡ false = grind (arith, nat_tests, before, le) in
    ap (λ late. decided_of number (decided_so (cond late Failed (in_time (holds_if table (expects line.act)))))) (then ∙ sym now_too) ∙ none

check_before : (time number : ℕ) (checks : List LineCheck) (check : LineCheck) → slice_get checks number ≡ Some check → Before time (first_expiry_in checks) → Before time (expiry_of check.wait)
check_before time number [] check found before = absurd (cc)
check_before time zero (one ∷ checks) check found before =
    let same : one ≡ check = cc in subst (λ (c : LineCheck). Before time (expiry_of c.wait)) same (before_both time (expiry_of one.wait) (first_expiry_in checks) before).0
check_before time (suc number) (one ∷ checks) check found before = check_before time number checks check found (before_both time (expiry_of one.wait) (first_expiry_in checks) before).1

in_stays : (table : DeviceTable) (now time number : ℕ) (line : Option ScriptLine) (check : Option LineCheck) (checks : List LineCheck) → slice_get checks number ≡ check → now ≤ time → Before time (first_expiry_in checks) → decided_in table now number line check ≡ None → decided_in table time number line check ≡ None
in_stays table now time number None check checks found le before none = refl
in_stays table now time number (Some line) None checks found le before none = refl
in_stays table now time number (Some line) (Some check) checks found le before none = line_stays table now time number line check.wait le (check_before time number checks check found before) none

none_either : (one other : Option DecidedLine) → earlier_or one other ≡ None → (one ≡ None) × (other ≡ None)
none_either (Some one) other none = absurd (cc)
none_either None other none = (refl, none)

stays_to : (table : DeviceTable) (now time : ℕ) (script : List ScriptLine) (checks : List LineCheck) (lines : ℕ) → now ≤ time → Before time (first_expiry_in checks) → first_to table now script checks lines ≡ None → first_to table time script checks lines ≡ None
stays_to table now time script checks zero le before none = refl
stays_to table now time script checks (suc line) le before none =
    let parts : (first_to table now script checks line ≡ None) × (decided_at table now script checks line ≡ None) = none_either (first_to table now script checks line) (decided_at table now script checks line) none in
    ap (λ one. earlier_or one (decided_at table time script checks line)) (stays_to table now time script checks line le before parts.0)
    ∙ in_stays table now time line (slice_get script line) (slice_get checks line) checks refl le before parts.1

stays_so : (table : DeviceTable) (now time : ℕ) (script : List ScriptLine) (lines : List LineCheck) (decided : Bool) → now ≤ time → Before time (cond decided None (first_expiry_in lines)) → cond decided None (first_to table now script lines (length script)) ≡ None → cond decided None (first_to table time script lines (length script)) ≡ None
stays_so table now time script lines true le before none = refl
stays_so table now time script lines false le before none = stays_to table now time script lines (length script) le before none

-- WHERE A LINE CAN FAIL SOMETHING IS DECIDED

line_fails : (table : DeviceTable) (time number end : ℕ) (line : ScriptLine) (waited : LineWait) → expiry_of waited ≡ Some end → end ≤ time → time < 2 ^ 64 - 1 → decided_of number (line_decision table time line waited) ≢ None
line_fails table time number end line wait.Nothing is le fits none = absurd (cc)
line_fails table time number end line wait.When is le fits none = absurd (cc)
line_fails table time number end line (wait.Expected since until) is le fits none =
    let ends : min (until + 1) (2 ^ 64 - 1) ≡ end = cc in
    let late : ltb until time ≡ true = grind (arith, nat_tests, ends, le, fits) in
    let some : Some (record { line = number; decision = Fails }) ≡ None = ap (λ b. decided_of number (decided_so (cond b Failed (in_time (holds_if table (expects line.act)))))) (sym late) ∙ none in
    absurd (cc)

in_fails : (table : DeviceTable) (time number end : ℕ) (line : Option ScriptLine) (found : Option LineCheck) (check : LineCheck) → line ≢ None → found ≡ Some check → expiry_of check.wait ≡ Some end → end ≤ time → time < 2 ^ 64 - 1 → decided_in table time number line found ≢ None
in_fails table time number end None found check there is expires le fits none = there refl
in_fails table time number end (Some line) None check there is expires le fits none = absurd (cc)
in_fails table time number end (Some line) (Some one) check there is expires le fits none =
    let same : check ≡ one = cc in
    line_fails table time number end line one.wait (subst (λ (c : LineCheck). expiry_of c.wait ≡ Some end) same expires) le fits none

has_line : (script : List ScriptLine) (number : ℕ) → number < length script → slice_get script number ≢ None
has_line [] number less none = omega (arith, less)
has_line (line ∷ script) zero less none = absurd (cc)
has_line (line ∷ script) (suc number) less none = has_line script number (omega (arith, less)) none

none_at : (table : DeviceTable) (time : ℕ) (script : List ScriptLine) (checks : List LineCheck) (line number : ℕ) (b : Bool) → ltb number line ≡ b → number < suc line → (number < line → decided_at table time script checks number ≡ None) → decided_at table time script checks line ≡ None → decided_at table time script checks number ≡ None
none_at table time script checks line number true is less below here = below (grind (arith, nat_tests, is))
none_at table time script checks line number false is less below here =
    let same : line ≡ number = grind (arith, nat_tests, is, less) in subst (λ n. decided_at table time script checks n ≡ None) same here

none_below : (table : DeviceTable) (time : ℕ) (script : List ScriptLine) (checks : List LineCheck) (lines number : ℕ) → number < lines → first_to table time script checks lines ≡ None → decided_at table time script checks number ≡ None
none_below table time script checks zero number less none = absurd (omega (arith, less))
none_below table time script checks (suc line) number less none =
    let parts : (first_to table time script checks line ≡ None) × (decided_at table time script checks line ≡ None) = none_either (first_to table time script checks line) (decided_at table time script checks line) none in
    none_at table time script checks line number (ltb number line) refl less (λ below. none_below table time script checks line number below parts.0) parts.1

-- one of the checks has the first expiry
expires_some : (checks : List LineCheck) (end : ℕ) → first_expiry_in checks ≡ Some end → ((number : ℕ) (check : LineCheck) → number < length checks → slice_get checks number ≡ Some check → expiry_of check.wait ≢ Some end) → ⊥
expires_some [] end is none = absurd (cc)
expires_some (one ∷ checks) end is none =
    elim (earlier_is (expiry_of one.wait) (first_expiry_in checks) end is) [
      | inl here ↦ none 0 one (omega arith) refl here
      | inr rest ↦ expires_some checks end rest (λ number check less found. none (suc number) check (omega (arith, less)) found)
    ]

fails_to : (table : DeviceTable) (time end : ℕ) (script : List ScriptLine) (checks : List LineCheck) → length checks ≡ length script → first_expiry_in checks ≡ Some end → end ≤ time → time < 2 ^ 64 - 1 → first_to table time script checks (length script) ≡ None → ⊥
fails_to table time end script checks long is le fits none =
    expires_some checks end is (λ number check less found expires.
    (let within : number < length script = omega (arith, less, long) in
    in_fails table time number end (slice_get script number) (slice_get checks number) check (has_line script number within) found expires le fits
    (none_below table time script checks (length script) number within none)))

fails_so : (table : DeviceTable) (time end : ℕ) (script : List ScriptLine) (lines : List LineCheck) (decided : Bool) → length lines ≡ length script → cond decided None (first_expiry_in lines) ≡ Some end → end ≤ time → time < 2 ^ 64 - 1 → cond decided None (first_to table time script lines (length script)) ≡ None → ⊥
fails_so table time end script lines true long is le fits none = absurd (cc)
fails_so table time end script lines false long is le fits none = fails_to table time end script lines long is le fits none

-- WAITS

endless : (table : DeviceTable) (state : ScriptState) (now most : ℕ) (script : List ScriptLine) → first_decided table now script state.checks ≡ None → first_expiry state.checks ≡ None → IsExactWait state.run now most script (wait_of state.run now most script) → IsExactLookWait table state now most script (wait_of state.run now most script)
endless table state now most script none no_end is = (
  is.0,
  (
    λ time le before fits. (stays_so table now time script state.checks.lines state.checks.decided le (subst (Before time) (sym no_end) tt) none, is.1.0 time le before fits),
    λ shorter fits nothing. is.1.1 shorter nothing.1,
  ),
)

ending : (table : DeviceTable) (state : ScriptState) (now most wait end : ℕ) (script : List ScriptLine) → length state.checks.lines ≡ length script → first_decided table now script state.checks ≡ None → first_expiry state.checks ≡ Some end → IsExactWait state.run now most script wait → IsExactLookWait table state now most script (min wait (end - now))
ending table state now most wait end script long none is_end is = (
  omega (arith, is.0),
  (
    λ time le before fits. (
      stays_so table now time script state.checks.lines state.checks.decided le (subst (Before time) (sym is_end) (omega (arith, le, before))) none,
      is.1.0 time le (omega (arith, before)) fits,
    ),
    λ shorter fits nothing. go shorter fits nothing (ltb (end - now) wait) refl,
  ),
)
  where
    go : min wait (end - now) < most → now + min wait (end - now) < 2 ^ 64 - 1 → NothingComes table state script (now + min wait (end - now)) → (b : Bool) → ltb (end - now) wait ≡ b → ⊥
    go shorter fits nothing true less =
        let first : min wait (end - now) ≡ end - now = grind (arith, nat_tests, less) in
        fails_so table (now + min wait (end - now)) end script state.checks.lines state.checks.decided long is_end (omega (arith, first)) fits nothing.0
    go shorter fits nothing false less =
        let first : min wait (end - now) ≡ wait = grind (arith, nat_tests, less) in
        is.1.1 (omega (arith, shorter, first)) (subst (λ n. taken state.run (now + n) script ≡ None) first nothing.1)

wait_so : (table : DeviceTable) (state : ScriptState) (now most : ℕ) (script : List ScriptLine) (end : Option ℕ) → state.run.ms ≤ now → length state.checks.lines ≡ length script → first_decided table now script state.checks ≡ None → first_expiry state.checks ≡ end → IsExactLookWait table state now most script (least_wait now (wait_of state.run now most script) end)
wait_so table state now most script None old long none is = endless table state now most script none is (exact state.run now most script old)
wait_so table state now most script (Some end) old long none is = ending table state now most (wait_of state.run now most script) end script long none is (exact state.run now most script old)

pub look_waits : LookWaitsAreExact
look_waits table state now most script old long none = wait_so table state now most script _ old long none refl
