-- The deadlines of a list of timers.
use Rattle.std.proofs.Common.{◌≡◌, ◌≢◌, ℕ, zero, suc, ◌+◌, ◌<◌, ◌≤◌, true, false, List, [], ◌∷◌, length, set, Option, Some, None, is_some, cond, inl, inr, arith, eq-eqb, ne_eqb, refl, sym, ap, ◌∙◌}
use Rattle.std.proofs.lemmas.Bool.{cases_eq, cond-true, cond-false}
use Rattle.std.proofs.lemmas.Option.{none-some, same_Some}
use Rattle.std.proofs.lemmas.List.Sums.{sum_by-cons}
use Rattle.std.specs.Ordering.{nat_cmp, eq_by_cmp}
use Rattle.std.specs.Cmp.{nat_cmp_total, unsigned_tied}
use Rattle.std.specs.FinMap.{get, insert, remove, len, same_map, nat_cmp-IsAntisymmetric, get-insert, get-remove, get-empty, len-insert, len-empty}
use Rattle.timer_wheel.specs.declared.timer.Timer.{Timer}
use Rattle.timer_wheel.specs.Timers.{Deadlines}
use Rattle.timer_wheel.specs.Layout.{timer_at, timer_count, armed_of, IsUnique}

test_same : (q k : ℕ) → q ≡ k → eq_by_cmp nat_cmp q k ≡ true
test_same q k same = unsigned_tied q k ∙ eq-eqb q k same

test_other : (q k : ℕ) → q ≢ k → eq_by_cmp nat_cmp q k ≡ false
test_other q k other = unsigned_tied q k ∙ ne_eqb q k other

-- what a map answers at a key that was put or removed, and at another one
pub get-insert_same : (m : Deadlines) (k v q : ℕ) → q ≡ k → get (insert m k v) q ≡ Some v
get-insert_same m k v q same = get-insert nat_cmp_total m k v q ∙ cond-true _ _ _ (test_same q k same)

pub get-insert_other : (m : Deadlines) (k v q : ℕ) → q ≢ k → get (insert m k v) q ≡ get m q
get-insert_other m k v q other = get-insert nat_cmp_total m k v q ∙ cond-false _ _ _ (test_other q k other)

pub get-remove_same : (m : Deadlines) (k q : ℕ) → q ≡ k → get (remove m k) q ≡ None
get-remove_same m k q same = get-remove nat_cmp_total m k q ∙ cond-true _ _ _ (test_same q k same)

pub get-remove_other : (m : Deadlines) (k q : ℕ) → q ≢ k → get (remove m k) q ≡ get m q
get-remove_other m k q other = get-remove nat_cmp_total m k q ∙ cond-false _ _ _ (test_other q k other)

same_by_get : (m n : Deadlines) → ((q : ℕ) → get m q ≡ get n q) → m ≡ n
same_by_get m n is = same_map nat_cmp_total nat_cmp-IsAntisymmetric m n is

insert_swap : (m : Deadlines) (j v k w : ℕ) → j ≢ k → insert (insert m j v) k w ≡ insert (insert m k w) j v
insert_swap m j v k w apart =
    same_by_get _ _ (λ q.
    elim (cases_eq q k) [
      | inl same ↦
          let other : q ≢ j = λ e. apart (sym e ∙ same) in
          get-insert_same _ k w q same ∙ sym (get-insert_other _ j v q other ∙ get-insert_same m k w q same)
      | inr differs ↦
          get-insert_other _ k w q differs ∙ elim (cases_eq q j) [
            | inl same ↦ get-insert_same m j v q same ∙ sym (get-insert_same _ j v q same)
            | inr other ↦ get-insert_other m j v q other ∙ sym (get-insert_other _ j v q other ∙ get-insert_other m k w q differs)
          ]
    ])

remove-insert_other : (m : Deadlines) (j v k : ℕ) → j ≢ k → insert (remove m k) j v ≡ remove (insert m j v) k
remove-insert_other m j v k apart =
    same_by_get _ _ (λ q.
    elim (cases_eq q k) [
      | inl same ↦
          let other : q ≢ j = λ e. apart (sym e ∙ same) in
          get-insert_other _ j v q other ∙ get-remove_same m k q same ∙ sym (get-remove_same _ k q same)
      | inr differs ↦
          sym (get-remove_other (insert m j v) k q differs ∙ elim (cases_eq q j) [
            | inl same ↦ get-insert_same m j v q same ∙ sym (get-insert_same _ j v q same)
            | inr other ↦ get-insert_other m j v q other ∙ sym (get-insert_other _ j v q other ∙ get-remove_other m k q differs)
          ])
    ])

-- to remove a key that isn't there changes nothing
pub remove_absent : (m : Deadlines) (k : ℕ) → get m k ≡ None → m ≡ remove m k
remove_absent m k absent =
    same_by_get _ _ (λ q.
    elim (cases_eq q k) [
      | inl same ↦ ap (get m) same ∙ absent ∙ sym (get-remove_same m k q same)
      | inr differs ↦ sym (get-remove_other m k q differs)
    ])

remove-insert_fresh : (m : Deadlines) (k v : ℕ) → get m k ≡ None → m ≡ remove (insert m k v) k
remove-insert_fresh m k v absent =
    same_by_get _ _ (λ q.
    elim (cases_eq q k) [
      | inl same ↦ ap (get m) same ∙ absent ∙ sym (get-remove_same _ k q same)
      | inr differs ↦ sym (get-remove_other _ k q differs ∙ get-insert_other m k v q differs)
    ])

-- two keys at which a map answers differently
pub apart_by_get : (m : Deadlines) (j k v : ℕ) → get m j ≡ None → get m k ≡ Some v → j ≢ k
apart_by_get m j k v absent there same = none-some v (sym absent ∙ ap (get m) same ∙ there)

-- a timer is armed
pub get-armed_of : (ts : List (Option Timer)) (key : ℕ) (t : Timer) → IsUnique ts → timer_at ts key ≡ Some t → get (armed_of ts) t.token.0 ≡ Some t.deadline
get-armed_of [] key t unique is = absurd (none-some t is)
get-armed_of (None ∷ ts) zero t unique is = absurd (none-some t is)
get-armed_of (None ∷ ts) (suc key) t unique is = get-armed_of ts key t unique is
get-armed_of (Some s ∷ ts) zero t unique is =
    let same : s ≡ t = same_Some s t is in
    get-insert_same (armed_of ts) s.token.0 s.deadline t.token.0 (ap (λ (x : Timer). x.token.0) (sym same)) ∙ ap (λ (x : Timer). Some x.deadline) same
get-armed_of (Some s ∷ ts) (suc key) t unique is =
    let there = get-armed_of ts key t unique.1 is in
    get-insert_other (armed_of ts) s.token.0 s.deadline t.token.0 (λ e. apart_by_get (armed_of ts) s.token.0 t.token.0 t.deadline unique.0 there (sym e)) ∙ there

-- a token that no timer has isn't armed
pub get-armed_of_none : (ts : List (Option Timer)) (q : ℕ) → ((key : ℕ) (t : Timer) → timer_at ts key ≡ Some t → t.token.0 ≢ q) → get (armed_of ts) q ≡ None
get-armed_of_none [] q none = get-empty nat_cmp q
get-armed_of_none (None ∷ ts) q none = get-armed_of_none ts q (λ key t is. none (suc key) t is)
get-armed_of_none (Some s ∷ ts) q none =
    get-insert_other (armed_of ts) s.token.0 s.deadline q (λ e. none 0 s refl (sym e)) ∙ get-armed_of_none ts q (λ key t is. none (suc key) t is)

-- an armed token has a timer
pub armed_of_timer : (ts : List (Option Timer)) (q d : ℕ) → get (armed_of ts) q ≡ Some d → (key : ℕ) × (t : Timer) × (key < length ts) × (timer_at ts key ≡ Some t) × (t.token.0 ≡ q) × (t.deadline ≡ d)
armed_of_timer [] q d is = absurd (none-some d (sym (get-empty nat_cmp q) ∙ is))
armed_of_timer (None ∷ ts) q d is =
    let found = armed_of_timer ts q d is in
    (suc found.0, found.1, omega (arith, found.2), found.3, found.4, found.5)
armed_of_timer (Some s ∷ ts) q d is =
    elim (cases_eq q s.token.0) [
      | inl same ↦ (0, s, omega arith, refl, sym same, same_Some s.deadline d (sym (get-insert_same (armed_of ts) s.token.0 s.deadline q same) ∙ is))
      | inr differs ↦
          let found = armed_of_timer ts q d (sym (get-insert_other (armed_of ts) s.token.0 s.deadline q differs) ∙ is) in
          (suc found.0, found.1, omega (arith, found.2), found.3, found.4, found.5)
    ]

-- to take a timer out is to remove its token
pub armed_of-clear : (ts : List (Option Timer)) (key : ℕ) (t : Timer) → IsUnique ts → timer_at ts key ≡ Some t → armed_of (set ts key None) ≡ remove (armed_of ts) t.token.0
armed_of-clear [] key t unique is = absurd (none-some t is)
armed_of-clear (None ∷ ts) zero t unique is = absurd (none-some t is)
armed_of-clear (None ∷ ts) (suc key) t unique is = armed_of-clear ts key t unique is
armed_of-clear (Some s ∷ ts) zero t unique is =
    remove-insert_fresh (armed_of ts) s.token.0 s.deadline unique.0 ∙ ap (λ (x : Timer). remove (insert (armed_of ts) s.token.0 s.deadline) x.token.0) (same_Some s t is)
armed_of-clear (Some s ∷ ts) (suc key) t unique is =
    let there = get-armed_of ts key t unique.1 is in
    ap (λ m. insert m s.token.0 s.deadline) (armed_of-clear ts key t unique.1 is)
    ∙ remove-insert_other (armed_of ts) s.token.0 s.deadline t.token.0 (apart_by_get (armed_of ts) s.token.0 t.token.0 t.deadline unique.0 there)

pub IsUnique-clear : (ts : List (Option Timer)) (key : ℕ) (t : Timer) → IsUnique ts → timer_at ts key ≡ Some t → IsUnique (set ts key None)
IsUnique-clear [] key t unique is = unique
IsUnique-clear (None ∷ ts) zero t unique is = unique
IsUnique-clear (None ∷ ts) (suc key) t unique is = IsUnique-clear ts key t unique is
IsUnique-clear (Some s ∷ ts) zero t unique is = unique.1
IsUnique-clear (Some s ∷ ts) (suc key) t unique is =
    let there = get-armed_of ts key t unique.1 is in (
      ap (λ m. get m s.token.0) (armed_of-clear ts key t unique.1 is)
          ∙ get-remove_other (armed_of ts) t.token.0 s.token.0 (apart_by_get (armed_of ts) s.token.0 t.token.0 t.deadline unique.0 there) ∙ unique.0,
      IsUnique-clear ts key t unique.1 is,
    )

other_token : (m : Deadlines) (k v q : ℕ) → get (insert m k v) q ≡ None → q ≢ k
other_token m k v q absent same = none-some v (sym absent ∙ get-insert_same m k v q same)

-- to put a timer in is to insert its token
pub armed_of-put : (ts : List (Option Timer)) (key : ℕ) (t : Timer) → timer_at ts key ≡ None → key < length ts → get (armed_of ts) t.token.0 ≡ None → armed_of (set ts key (Some t)) ≡ insert (armed_of ts) t.token.0 t.deadline
armed_of-put [] key t is within absent = absurd (omega arith)
armed_of-put (None ∷ ts) zero t is within absent = refl
armed_of-put (Some s ∷ ts) zero t is within absent = absurd (none-some s (sym is))
armed_of-put (None ∷ ts) (suc key) t is within absent = armed_of-put ts key t is (omega arith) absent
armed_of-put (Some s ∷ ts) (suc key) t is within absent =
    let other = other_token (armed_of ts) s.token.0 s.deadline t.token.0 absent in
    let before = sym (get-insert_other (armed_of ts) s.token.0 s.deadline t.token.0 other) ∙ absent in
    ap (λ m. insert m s.token.0 s.deadline) (armed_of-put ts key t is (omega arith) before)
    ∙ insert_swap (armed_of ts) t.token.0 t.deadline s.token.0 s.deadline other

pub IsUnique-put : (ts : List (Option Timer)) (key : ℕ) (t : Timer) → IsUnique ts → timer_at ts key ≡ None → key < length ts → get (armed_of ts) t.token.0 ≡ None → IsUnique (set ts key (Some t))
IsUnique-put [] key t unique is within absent = tt
IsUnique-put (None ∷ ts) zero t unique is within absent = (absent, unique)
IsUnique-put (Some s ∷ ts) zero t unique is within absent = absurd (none-some s (sym is))
IsUnique-put (None ∷ ts) (suc key) t unique is within absent = IsUnique-put ts key t unique is (omega arith) absent
IsUnique-put (Some s ∷ ts) (suc key) t unique is within absent =
    let other = other_token (armed_of ts) s.token.0 s.deadline t.token.0 absent in
    let before = sym (get-insert_other (armed_of ts) s.token.0 s.deadline t.token.0 other) ∙ absent in (
      ap (λ m. get m s.token.0) (armed_of-put ts key t is (omega arith) before)
          ∙ get-insert_other (armed_of ts) t.token.0 t.deadline s.token.0 (λ e. other (sym e)) ∙ unique.0,
      IsUnique-put ts key t unique.1 is (omega arith) before,
    )

timer_count-some : (s : Timer) (ts : List (Option Timer)) → timer_count (Some s ∷ ts) ≡ 1 + timer_count ts
timer_count-some s ts = sum_by-cons (λ x. cond (is_some x) 1 0) (Some s) ts

-- as many tokens are armed as there are timers
pub len-armed_of : (ts : List (Option Timer)) → IsUnique ts → len (armed_of ts) ≡ timer_count ts
len-armed_of [] unique = len-empty nat_cmp ℕ
len-armed_of (None ∷ ts) unique = omega (arith, len-armed_of ts unique)
len-armed_of (Some s ∷ ts) unique =
    let more : len (insert (armed_of ts) s.token.0 s.deadline) ≡ len (armed_of ts) + 1 =
    len-insert nat_cmp_total (armed_of ts) s.token.0 s.deadline ∙ cond-false _ _ _ (ap is_some unique.0) in
    omega (arith, more, len-armed_of ts unique.1, timer_count-some s ts)

pub timer_count-bound : (ts : List (Option Timer)) → timer_count ts ≤ length ts
timer_count-bound [] = omega arith
timer_count-bound (None ∷ ts) = omega (arith, timer_count-bound ts)
timer_count-bound (Some s ∷ ts) = omega (arith, timer_count-bound ts, timer_count-some s ts)

pub timer_count-free : (ts : List (Option Timer)) (key : ℕ) → key < length ts → timer_at ts key ≡ None → timer_count ts < length ts
timer_count-free [] key within is = absurd (omega arith)
timer_count-free (None ∷ ts) zero within is = omega (arith, timer_count-bound ts)
timer_count-free (Some s ∷ ts) zero within is = absurd (none-some s (sym is))
timer_count-free (None ∷ ts) (suc key) within is = omega (arith, timer_count-free ts key (omega arith) is)
timer_count-free (Some s ∷ ts) (suc key) within is = omega (arith, timer_count-some s ts, timer_count-free ts key (omega arith) is)

-- with fewer timers than keys, some key has none
pub free_key : (ts : List (Option Timer)) → timer_count ts < length ts → (key : ℕ) × (key < length ts) × (timer_at ts key ≡ None)
free_key [] fewer = absurd (omega arith)
free_key (None ∷ ts) fewer = (0, omega arith, refl)
free_key (Some s ∷ ts) fewer =
    let found = free_key ts (omega (arith, timer_count-some s ts)) in
    (suc found.0, omega (arith, found.1), found.2)

pub timer_count-clear : (ts : List (Option Timer)) (key : ℕ) (t : Timer) → timer_at ts key ≡ Some t → timer_count (set ts key None) + 1 ≡ timer_count ts
timer_count-clear [] key t is = absurd (none-some t is)
timer_count-clear (None ∷ ts) zero t is = absurd (none-some t is)
timer_count-clear (None ∷ ts) (suc key) t is = omega (arith, timer_count-clear ts key t is)
timer_count-clear (Some s ∷ ts) zero t is = omega (arith, timer_count-some s ts)
timer_count-clear (Some s ∷ ts) (suc key) t is = omega (arith, timer_count-clear ts key t is, timer_count-some s ts, timer_count-some s (set ts key None))

-- a key with a timer is within
pub timer_within : (ts : List (Option Timer)) (key : ℕ) (t : Timer) → timer_at ts key ≡ Some t → key < length ts
timer_within [] key t is = absurd (none-some t is)
timer_within (s ∷ ts) zero t is = omega arith
timer_within (s ∷ ts) (suc key) t is = omega (arith, timer_within ts key t is)
