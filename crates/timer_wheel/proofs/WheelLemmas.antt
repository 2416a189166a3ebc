-- From the fields of a `Wheel` to what a contract sees.
use Rattle.std.proofs.Common.{◌≡◌, ℕ, zero, suc, ◌<◌, ◌≤◌, ◌^◌, List, [], length, set, get_or, replicate, Option, Some, None, IfNone, IfSome, IsSome, IsSomeAnd, not, Bool, le_antisymm, ◌↔◌, IsTrue, true≢false, is_some, true, false, inl, inr, arith, refl, sym, ap, ◌∙◌, subst, length-set, get_or-set_same, get_or-set_other}
use Rattle.std.proofs.lemmas.Bool.{cases_eq, cases_lt}
use Rattle.std.proofs.lemmas.Option.{none-some, same_Some}
use Rattle.std.specs.FinMap.{get, contains_key, len, insert, empty}
use Rattle.futures.specs.LinkedLists.{LinkedLists, list_of, Moves, IsEmpty}
use Rattle.timer_wheel.specs.declared.Token.{Token}
use Rattle.timer_wheel.specs.Marks.{AllFree}
use Rattle.timer_wheel.specs.declared.timer.Timer.{Timer}
use Rattle.timer_wheel.specs.Timers.{Timers}
use Rattle.timer_wheel.specs.Layout.{timer_at, armed_of, IsUnique, Agree, IsPlaced, IsLaidOut, IsSound, HasToken, Mirrors, Clears}
use Rattle.timer_wheel.specs.Laws.MapLemmas.{get-armed_of, armed_of-put, IsUnique-put, get-armed_of_none, IsUnique-clear, len-armed_of, timer_count-bound, timer_count-free, timer_count-clear, free_key, timer_within}
use Rattle.timer_wheel.specs.Laws.LevelLemmas.{slot_of-bound}
use Rattle.timer_wheel.specs.Laws.SweepLemmas.{key_within, IsLaidOut-move, Clears-one}

pub same_timers : (a b : Timers) → a.time ≡ b.time → a.capacity ≡ b.capacity → a.armed ≡ b.armed → a ≡ b
same_timers a b p q r = λ i. record { time = p i; capacity = q i; armed = r i }

-- a key with no timer is in the list of the free ones
Agree-none : (R : Timer → ℕ → Type 0) (o : Option Timer) (p : Option ℕ) → Agree R o p → o ≡ None → p ≡ Some 768
Agree-none R None p agree is = agree
Agree-none R (Some t) p agree is = absurd (none-some t (sym is))

-- and only there
Agree-free : (now : ℕ) (o : Option Timer) (p : Option ℕ) → Agree (IsPlaced now) o p → p ≡ Some 768 → o ≡ None
Agree-free now None p agree is = refl
Agree-free now (Some t) None agree is = absurd agree
Agree-free now (Some t) (Some list) agree is =
    absurd (omega (arith, agree.slot, same_Some list 768 is, slot_of-bound t.deadline now))

pub some_unless_empty : (slots : LinkedLists) (o : Option ℕ) (key : ℕ) → IfNone o (IsEmpty slots 768) → list_of slots key ≡ Some 768 → IsSome o
some_unless_empty slots None key none is = absurd (none key is)
some_unless_empty slots (Some k) key none is = refl

-- with fewer tokens armed than there are keys, some key is free
pub some_free : (now : ℕ) (slots : LinkedLists) (ts : List (Option Timer)) (o : Option ℕ) → IsLaidOut (IsPlaced now) slots ts → len (armed_of ts) < length ts → IfNone o (IsEmpty slots 768) → IsSome o
some_free now slots ts o laid room none =
    let found = free_key ts (omega (arith, len-armed_of ts laid.unique)) in
    some_unless_empty slots o found.0 none (Agree-none (IsPlaced now) _ _ (laid.agree found.0 found.1) found.2)

pub free_timer : (now : ℕ) (slots : LinkedLists) (ts : List (Option Timer)) (key : ℕ) → IsLaidOut (IsPlaced now) slots ts → list_of slots key ≡ Some 768 → timer_at ts key ≡ None
free_timer now slots ts key laid is = Agree-free now _ _ (laid.agree key (key_within (IsPlaced now) slots ts key 768 laid is)) is

-- a token is written beside its timer
Mirrors-put : (tokens : List Token) (ts : List (Option Timer)) (key : ℕ) (t : Timer) → key < length ts → Mirrors tokens ts → Mirrors (set tokens key t.token) (set ts key (Some t))
Mirrors-put tokens ts key t within mirrors =
    record {
      size = length-set tokens key t.token ∙ mirrors.size ∙ sym (length-set ts key (Some t));
      same = λ other x d is.
          elim (cases_eq other key) [
            | inl here ↦
                let there : timer_at (set ts key (Some t)) key ≡ Some x = ap (timer_at (set ts key (Some t))) (sym here) ∙ is in
                ap (λ k. get_or (set tokens key t.token) k d) here
                ∙ get_or-set_same tokens key t.token d (omega (arith, mirrors.size))
                ∙ ap (λ (y : Timer). y.token) (same_Some t x (sym (get_or-set_same ts key (Some t) None within) ∙ there))
            | inr differs ↦
                get_or-set_other tokens key other t.token d differs
                ∙ mirrors.same other x d (sym (get_or-set_other ts key other (Some t) None differs) ∙ is)
          ];
    }

-- tokens are left where timers are taken out
pub Mirrors-clear : (tokens : List Token) (ts ts' : List (Option Timer)) → Clears ts ts' → length ts' ≡ length ts → Mirrors tokens ts → Mirrors tokens ts'
Mirrors-clear tokens ts ts' clears size mirrors =
    record {
      size = mirrors.size ∙ sym size;
      same = λ key t d is. mirrors.same key t d (clears key t is);
    }

-- a timer is put at a free key
pub IsSound-arm : (now : ℕ) (s s' : LinkedLists) (ts : List (Option Timer)) (tokens : List Token) (due : List Timer) (room key list : ℕ) (t : Timer) → IsSound now s ts tokens due room → list_of s key ≡ Some 768 → Moves s s' key (Some list) → IsPlaced now t list → get (armed_of ts) t.token.0 ≡ None → IsSound now s' (set ts key (Some t)) (set tokens key t.token) due room
IsSound-arm now s s' ts tokens due room key list t sound is moves placed absent =
    let laid = sound.laid_out in
    let within = key_within (IsPlaced now) s ts key 768 laid is in
    record {
      laid_out = IsLaidOut-move (IsPlaced now) s s' ts key list (Some t) laid within moves placed (IsUnique-put ts key t laid.unique (free_timer now s ts key laid is) within absent);
      mirrored = Mirrors-put tokens ts key t within sound.mirrored;
      now_fits = sound.now_fits;
      nothing_due = sound.nothing_due;
      room = omega (arith, length-set ts key (Some t), sound.room);
    }

pub armed_of-arm : (now : ℕ) (s : LinkedLists) (ts : List (Option Timer)) (key : ℕ) (t : Timer) → IsLaidOut (IsPlaced now) s ts → list_of s key ≡ Some 768 → get (armed_of ts) t.token.0 ≡ None → armed_of (set ts key (Some t)) ≡ insert (armed_of ts) t.token.0 t.deadline
armed_of-arm now s ts key t laid is absent = armed_of-put ts key t (free_timer now s ts key laid is) (key_within (IsPlaced now) s ts key 768 laid is) absent

-- a timer is taken from its key
pub IsSound-disarm : (now : ℕ) (s s' : LinkedLists) (ts : List (Option Timer)) (tokens : List Token) (due : List Timer) (room key : ℕ) (t : Timer) → IsSound now s ts tokens due room → timer_at ts key ≡ Some t → Moves s s' key (Some 768) → IsSound now s' (set ts key None) tokens due room
IsSound-disarm now s s' ts tokens due room key t sound is moves =
    let laid = sound.laid_out in
    let size = length-set ts key None in
    record {
      laid_out = IsLaidOut-move (IsPlaced now) s s' ts key 768 None laid (timer_within ts key t is) moves refl (IsUnique-clear ts key t laid.unique is);
      mirrored = Mirrors-clear tokens ts (set ts key None) (Clears-one ts key) size sound.mirrored;
      now_fits = sound.now_fits;
      nothing_due = sound.nothing_due;
      room = omega (arith, size, sound.room);
    }

-- after a sweep
pub IsSound-swept : (before now : ℕ) (s s' : LinkedLists) (ts read left whole : List (Option Timer)) (tokens : List Token) (due due' : List Timer) (room room' : ℕ) → IsSound before s ts tokens due room → IsLaidOut (IsPlaced now) s' left → Clears read left → length left ≡ length read → read ≡ ts → whole ≡ left → now ≤ 2 ^ 48 → due' ≡ [] → room' ≡ room → IsSound now s' whole tokens due' room'
IsSound-swept before now s s' ts read left whole tokens due due' room room' sound laid clears size same all fits empty kept =
    let long : length left ≡ length ts = size ∙ ap length same in
    let from : Clears ts left = λ key t is. ap (λ l. timer_at l key) (sym same) ∙ clears key t is in
    record {
      laid_out = subst (IsLaidOut (IsPlaced now) s') (sym all) laid;
      mirrored = subst (Mirrors tokens) (sym all) (Mirrors-clear tokens ts left from long sound.mirrored);
      now_fits = fits;
      nothing_due = empty;
      room = omega (arith, ap length all, long, sound.room);
    }

-- with no timer nothing is armed
pub armed_of-replicate : (n : ℕ) → armed_of (replicate n None) ≡ empty
armed_of-replicate zero = refl
armed_of-replicate (suc n) = armed_of-replicate n

pub IsUnique-replicate : (n : ℕ) → IsUnique (replicate n None)
IsUnique-replicate zero = tt
IsUnique-replicate (suc n) = IsUnique-replicate n

pub timer_at-replicate : (n key : ℕ) → timer_at (replicate n None) key ≡ None
timer_at-replicate zero key = refl
timer_at-replicate (suc n) zero = refl
timer_at-replicate (suc n) (suc key) = timer_at-replicate n key

length-replicate : {A : Type 0} → (n : ℕ) (x : A) → length (replicate n x) ≡ n
length-replicate zero x = refl
length-replicate (suc n) x = ap suc (length-replicate n x)

-- a wheel with no timer
pub IsSound-fresh : (count : ℕ) (slots : LinkedLists) (ts : List (Option Timer)) (tokens : List Token) (due : List Timer) (room : ℕ) (some : Token) → AllFree count slots → ts ≡ replicate count None → tokens ≡ replicate count some → due ≡ [] → count ≤ room → IsSound 0 slots ts tokens due room
IsSound-fresh count slots ts tokens due room some free none held empty enough =
    let size : length ts ≡ count = ap length none ∙ length-replicate count None in
    let absent : (key : ℕ) → timer_at ts key ≡ None = λ key. ap (λ l. timer_at l key) none ∙ timer_at-replicate count key in
    record {
      laid_out = record {
        room = omega (arith, free.room);
        agree = λ key within. subst (λ o. Agree (IsPlaced 0) o (list_of slots key)) (sym (absent key)) (free.free key (omega arith));
        beyond = λ key past. free.beyond key (omega arith);
        unique = subst IsUnique (sym none) (IsUnique-replicate count);
      };
      mirrored = record {
        size = ap length held ∙ length-replicate count some ∙ sym size;
        same = λ key t d is. absurd (none-some t (sym (absent key) ∙ is));
      };
      now_fits = omega arith;
      nothing_due = empty;
      room = omega arith;
    }

pub length-fresh : (count : ℕ) (ts : List (Option Timer)) → ts ≡ replicate count None → length ts ≡ count
length-fresh count ts none = ap length none ∙ length-replicate count None

-- the timer of a token's key
pub token_timer : (ts : List (Option Timer)) (token key : ℕ) → HasToken ts token key → (t : Timer) × (timer_at ts key ≡ Some t) × (t.token.0 ≡ token)
token_timer ts token key has =
    elim (timer_at ts key) as (λ o. IsSomeAnd o (λ (t : Timer). t.token.0 ≡ token) → (t : Timer) × (o ≡ Some t) × (t.token.0 ≡ token)) [
      | None ↦ λ h. absurd h
      | Some t ↦ λ h. (t, refl, h)
    ] has

token_of : (ts : List (Option Timer)) (token key : ℕ) (t : Timer) → timer_at ts key ≡ Some t → t.token.0 ≡ token → HasToken ts token key
token_of ts token key t is same = subst (λ o. IsSomeAnd o (λ (x : Timer). x.token.0 ≡ token)) (sym is) same

pub token_armed : (ts : List (Option Timer)) (token key : ℕ) → IsUnique ts → HasToken ts token key → contains_key (armed_of ts) token ≡ true
token_armed ts token key unique has =
    let found = token_timer ts token key has in
    ap is_some (ap (get (armed_of ts)) (sym found.2) ∙ get-armed_of ts key found.0 unique found.1)

pub token_absent : (ts : List (Option Timer)) (token : ℕ) → ((key : ℕ) → ¬ HasToken ts token key) → get (armed_of ts) token ≡ None
token_absent ts token absent = get-armed_of_none ts token (λ key t is same. absent key (token_of ts token key t is same))

pub len-bound : (ts : List (Option Timer)) → IsUnique ts → len (armed_of ts) ≤ length ts
len-bound ts unique = omega (arith, len-armed_of ts unique, timer_count-bound ts)

-- the list of the free keys is empty exactly where all keys have timers
pub full_by_front : (time : ℕ) (slots : LinkedLists) (ts : List (Option Timer)) (o : Option ℕ) (b : Bool) → is_some o ≡ not b → IsLaidOut (IsPlaced time) slots ts → IfNone o (IsEmpty slots 768) → IfSome o (λ key. list_of slots key ≡ Some 768) → IsTrue b ↔ (len (armed_of ts) ≡ length ts)
full_by_front time slots ts None true is laid none some = (
  λ _. elim (cases_lt (len (armed_of ts)) (length ts)) [
    | inl fewer ↦ absurd (true≢false (sym (some_free time slots ts None laid fewer none)))
    | inr past ↦ le_antisymm (len-bound ts laid.unique) past
  ],
  λ _. refl,
)
full_by_front time slots ts None false is laid none some = absurd (true≢false (sym is))
full_by_front time slots ts (Some key) true is laid none some = absurd (true≢false is)
full_by_front time slots ts (Some key) false is laid none some = (
  λ wrong. absurd (true≢false (sym wrong)),
  λ full. absurd (omega (arith, full, len-armed_of ts laid.unique, timer_count-free ts key (key_within (IsPlaced time) slots ts key 768 laid some) (free_timer time slots ts key laid some))),
)

-- a key that lost its timer is free
pub len-clear : (ts : List (Option Timer)) (key : ℕ) (t : Timer) → IsUnique ts → timer_at ts key ≡ Some t → len (armed_of (set ts key None)) < length (set ts key None)
len-clear ts key t unique is =
    omega (arith, len-armed_of (set ts key None) (IsUnique-clear ts key t unique is), timer_count-clear ts key t is, timer_count-bound ts, length-set ts key None)
