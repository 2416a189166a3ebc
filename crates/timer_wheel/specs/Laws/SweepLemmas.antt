-- What holds while slots are emptied.
use Rattle.std.proofs.Common.{◌≡◌, ◌≢◌, ℕ, zero, suc, ◌+◌, ◌<◌, ◌≤◌, List, [], ◌∷◌, ◌++◌, length, set, get_or, Option, Some, None, inl, inr, arith, refl, sym, ap, ◌∙◌, subst, Contains, length-set, get_or-set_same, get_or-set_other}
use Rattle.std.proofs.lemmas.Bool.{cases_eq, cases_lt}
use Rattle.std.proofs.lemmas.Option.{none-some, same_Some}
use Rattle.std.proofs.lemmas.List.Elements.{Contains-get_or, Contains-append_left, Contains-push, Contains-push_cases}
use Rattle.std.proofs.lemmas.List.Quantifiers.{all_pairs_push}
use Rattle.std.specs.FinMap.{get}
use Rattle.futures.specs.LinkedLists.{LinkedLists, list_of, Moves}
use Rattle.timer_wheel.specs.Marks.{AllEmpty}
use Rattle.timer_wheel.specs.declared.timer.Timer.{Timer}
use Rattle.timer_wheel.specs.Levels.{slot_of}
use Rattle.timer_wheel.specs.Layout.{timer_at, timer_count, armed_of, IsUnique, Agree, IsPlaced, IsAt, IsLaidOut, IsSplit, TakesDue, Clears}
use Rattle.timer_wheel.specs.Laws.MapLemmas.{get-remove_same, get-remove_other, get-armed_of, armed_of-clear, IsUnique-clear, timer_count-clear, timer_within}
use Rattle.timer_wheel.specs.Laws.LevelLemmas.{slot_of-bound, Stays}

-- so far, what was taken out is due, and each timer stands where it belongs or waits in a slot from this one on
pub record Emptying (before now from : ℕ) (slots : LinkedLists) (timers timers' : List (Option Timer)) (due due' : List Timer) (len len' cap cap' : ℕ) : Type 0 where
  pub laid_out : IsLaidOut (IsAt before now from) slots timers'
  pub taken : TakesDue now due due' timers timers'
  pub cleared : Clears timers timers'
  pub count : len' + timer_count timers' ≡ len + timer_count timers
  pub capacity : cap' ≡ cap

-- the list of a key with a timer
pub list_of_timer : (R : Timer → ℕ → Type 0) (o : Option Timer) (p : Option ℕ) (t : Timer) → Agree R o p → o ≡ Some t → (list : ℕ) × (p ≡ Some list) × R t list
list_of_timer R None p t agree is = absurd (none-some t is)
list_of_timer R (Some s) None t agree is = absurd agree
list_of_timer R (Some s) (Some list) t agree is = (list, refl, subst (λ x. R x list) (same_Some s t is) agree)

Agree-weaker : (R R' : Timer → ℕ → Type 0) → ((t : Timer) (list : ℕ) → R t list → R' t list) → (o : Option Timer) (p : Option ℕ) → Agree R o p → Agree R' o p
Agree-weaker R R' weaker None p agree = agree
Agree-weaker R R' weaker (Some t) None agree = agree
Agree-weaker R R' weaker (Some t) (Some list) agree = weaker t list agree

pub IsLaidOut-weaker : (R R' : Timer → ℕ → Type 0) (slots : LinkedLists) (timers : List (Option Timer)) → ((t : Timer) (list : ℕ) → R t list → R' t list) → IsLaidOut R slots timers → IsLaidOut R' slots timers
IsLaidOut-weaker R R' slots timers weaker laid =
    record {
      room = laid.room;
      agree = λ key within. Agree-weaker R R' weaker _ _ (laid.agree key within);
      beyond = laid.beyond;
      unique = laid.unique;
    }

-- what is left after one timer was taken out
pub Clears-one : (ts : List (Option Timer)) (key : ℕ) → Clears ts (set ts key None)
Clears-one ts key other t is =
    elim (cases_eq other key) [
      | inl same ↦ absurd (cleared-none ts key t (ap (timer_at (set ts key None)) (sym same) ∙ is))
      | inr differs ↦ sym (get_or-set_other ts key other None None differs) ∙ is
    ]
  where
    cleared-none : (l : List (Option Timer)) (at : ℕ) (x : Timer) → timer_at (set l at None) at ≡ Some x → ⊥
    cleared-none [] at x there = none-some x there
    cleared-none (o ∷ l) zero x there = none-some x there
    cleared-none (o ∷ l) (suc at) x there = cleared-none l at x there

-- a key with a list is within
pub key_within : (R : Timer → ℕ → Type 0) (slots : LinkedLists) (timers : List (Option Timer)) (key list : ℕ) → IsLaidOut R slots timers → list_of slots key ≡ Some list → key < length timers
key_within R slots timers key list laid is =
    elim (cases_lt key (length timers)) [
      | inl within ↦ within
      | inr past ↦ absurd (none-some list (sym (laid.beyond key past) ∙ is))
    ]

-- one key moves to another list, and its timer changes with it
pub IsLaidOut-move : (R : Timer → ℕ → Type 0) (s s' : LinkedLists) (timers : List (Option Timer)) (key list : ℕ) (o : Option Timer) → IsLaidOut R s timers → key < length timers → Moves s s' key (Some list) → Agree R o (Some list) → IsUnique (set timers key o) → IsLaidOut R s' (set timers key o)
IsLaidOut-move R s s' timers key list o laid within moves agree unique =
    let size = length-set timers key o in
    record {
      room = omega (arith, size, moves.limit, laid.room);
      agree = λ other other_within.
          elim (cases_eq other key) [
            | inl same ↦
                subst (λ k. Agree R (timer_at (set timers key o) k) (list_of s' k)) (sym same)
                (subst (Agree R (timer_at (set timers key o) key)) (sym moves.moved) (subst (λ x. Agree R x (Some list)) (sym (get_or-set_same timers key o None within)) agree))
            | inr differs ↦
                subst (Agree R (timer_at (set timers key o) other)) (sym (moves.others other differs))
                (subst (λ x. Agree R x (list_of s other)) (sym (get_or-set_other timers key other o None differs)) (laid.agree other (omega (arith, size))))
          ];
      beyond = λ other past.
          let differs : other ≢ key = λ e. absurd (omega (arith, size)) in
          moves.others other differs ∙ laid.beyond other (omega (arith, size));
      unique = unique;
    }

-- to take a due timer out
pub TakesDue-one : (now : ℕ) (due : List Timer) (ts : List (Option Timer)) (key : ℕ) (t : Timer) → IsUnique ts → timer_at ts key ≡ Some t → t.deadline ≤ now → TakesDue now due (due ++ t ∷ []) ts (set ts key None)
TakesDue-one now due ts key t unique is late armed split =
    let there = get-armed_of ts key t unique is in
    let clear = armed_of-clear ts key t unique is in
    let removed : (q : ℕ) → q ≡ t.token.0 → get (armed_of (set ts key None)) q ≡ None =
    λ q same. ap (λ m. get m q) clear ∙ get-remove_same (armed_of ts) t.token.0 q same in
    let kept : (q : ℕ) → q ≢ t.token.0 → get (armed_of (set ts key None)) q ≡ get (armed_of ts) q =
    λ q differs. ap (λ m. get m q) clear ∙ get-remove_other (armed_of ts) t.token.0 q differs in
    let apart : (x : Timer) → Contains due x → x.token.0 ≢ t.token.0 =
    λ x in_due same. none-some t.deadline (sym (split.taken x in_due).2 ∙ ap (get (armed_of ts)) same ∙ there) in
    record {
      taken = λ x in_new.
          elim (Contains-push_cases due t x in_new) [
            | inl in_due ↦
                let old = split.taken x in_due in
                (old.0, old.1, kept x.token.0 (apart x in_due) ∙ old.2)
            | inr same ↦
                let armed_there : get armed t.token.0 ≡ Some t.deadline =
                elim (split.others t.token.0) [
                  | inl e ↦ sym e ∙ there
                  | inr found ↦ absurd (apart found.0 found.1 found.2)
                ] in
                subst (λ (y : Timer). (get armed y.token.0 ≡ Some y.deadline) × (y.deadline ≤ now) × (get (armed_of (set ts key None)) y.token.0 ≡ None)) same
                (armed_there, late, removed t.token.0 refl)
          ];
      others = λ q.
          elim (cases_eq q t.token.0) [
            | inl same ↦ inr (t, Contains-push due t, sym same)
            | inr differs ↦
                elim (split.others q) [
                  | inl e ↦ inl (kept q differs ∙ e)
                  | inr found ↦ inr (found.0, Contains-append_left due (t ∷ []) found.0 found.1, found.2)
                ]
          ];
      apart = all_pairs_push (λ (x y : Timer). x.token.0 ≢ y.token.0) due t split.apart (λ k d below. apart (get_or due k d) (Contains-get_or due k d below));
    }

-- empty slots are done
pub IsLaidOut-done : (before now from to : ℕ) (slots : LinkedLists) (timers : List (Option Timer)) → from ≤ to → IsLaidOut (IsAt before now from) slots timers → AllEmpty slots from to → IsLaidOut (IsAt before now to) slots timers
IsLaidOut-done before now from to slots timers order laid empty =
    record {
      room = laid.room;
      agree = λ key within. done key _ _ refl (laid.agree key within);
      beyond = laid.beyond;
      unique = laid.unique;
    }
  where
    done : (key : ℕ) (o : Option Timer) (p : Option ℕ) → list_of slots key ≡ p → Agree (IsAt before now from) o p → Agree (IsAt before now to) o p
    done key None p is agree = agree
    done key (Some t) None is agree = agree
    done key (Some t) (Some list) is at =
        record {
          ahead = at.ahead;
          in_reach = at.in_reach;
          stands = elim at.stands [
            | inl settled ↦ inl (settled.0, settled.1, omega (arith, settled.2))
            | inr waits ↦ inr (
              waits.0,
              elim (cases_lt list to) [
                | inl below ↦ absurd (empty list waits.1 below key is)
                | inr past ↦ past
              ],
            )
          ];
        }

-- slots in which all stays are done as they are
pub IsAt-stays : (before now from to : ℕ) (t : Timer) (list : ℕ) → from ≤ to → Stays before now from to → IsAt before now from t list → IsAt before now to t list
IsAt-stays before now from to t list order stays at =
    record {
      ahead = at.ahead;
      in_reach = at.in_reach;
      stands = elim at.stands [
        | inl settled ↦ inl (settled.0, settled.1, omega (arith, settled.2))
        | inr waits ↦
            elim (cases_lt list to) [
              | inl below ↦
                  let here = stays t.deadline at.ahead at.in_reach (omega (arith, waits.0, waits.1)) (omega (arith, waits.0)) in
                  inl (here.0, waits.0 ∙ sym here.1, below)
              | inr past ↦ inr (waits.0, past)
            ]
      ];
    }

pub IsLaidOut-stays : (before now from to : ℕ) (slots : LinkedLists) (timers : List (Option Timer)) → from ≤ to → Stays before now from to → IsLaidOut (IsAt before now from) slots timers → IsLaidOut (IsAt before now to) slots timers
IsLaidOut-stays before now from to slots timers order stays laid =
    IsLaidOut-weaker (IsAt before now from) (IsAt before now to) slots timers (λ t list at. IsAt-stays before now from to t list order stays at) laid

-- where time begins to move on, and where it has
pub IsLaidOut-begin : (before now : ℕ) (slots : LinkedLists) (timers : List (Option Timer)) → IsLaidOut (IsPlaced before) slots timers → IsLaidOut (IsAt before now 0) slots timers
IsLaidOut-begin before now slots timers laid =
    IsLaidOut-weaker (IsPlaced before) (IsAt before now 0) slots timers (λ t list placed. record { ahead = placed.ahead; in_reach = placed.in_reach; stands = inr (placed.slot, omega arith) }) laid

pub later_at_end : (before now : ℕ) (t : Timer) (list : ℕ) → IsAt before now 768 t list → (now < t.deadline) × (list ≡ slot_of t.deadline now)
later_at_end before now t list at =
    elim at.stands [
      | inl settled ↦ (settled.0, settled.1)
      | inr waits ↦ absurd (omega (arith, waits.0, waits.1, slot_of-bound t.deadline before))
    ]

pub IsLaidOut-end : (before now : ℕ) (slots : LinkedLists) (timers : List (Option Timer)) → before ≤ now → IsLaidOut (IsAt before now 768) slots timers → IsLaidOut (IsPlaced now) slots timers
IsLaidOut-end before now slots timers forward laid =
    IsLaidOut-weaker (IsAt before now 768) (IsPlaced now) slots timers
    (λ t list at. let end = later_at_end before now t list at in record { ahead = omega (arith, end.0); in_reach = omega (arith, at.in_reach); slot = end.1 })
    laid

-- one more timer was taken out
pub Emptying-take : (before now slot : ℕ) (s s' : LinkedLists) (timers ts : List (Option Timer)) (due0 due due' : List Timer) (len0 len len' cap0 cap cap' key : ℕ) (t : Timer) → Emptying before now slot s timers ts due0 due len0 len cap0 cap → list_of s key ≡ Some slot → timer_at ts key ≡ Some t → t.deadline ≤ now → Moves s s' key (Some 768) → due' ≡ due ++ t ∷ [] → len' ≡ len + 1 → cap' ≡ cap → Emptying before now slot s' timers (set ts key None) due0 due' len0 len' cap0 cap'
Emptying-take before now slot s s' timers ts due0 due due' len0 len len' cap0 cap cap' key t inv owned is late moves pushed longer same_cap =
    record {
      laid_out = IsLaidOut-move (IsAt before now slot) s s' ts key 768 None inv.laid_out (timer_within ts key t is) moves refl (IsUnique-clear ts key t inv.laid_out.unique is);
      taken = λ armed split. subst (λ ds. IsSplit now armed ds (armed_of (set ts key None))) (sym pushed) (TakesDue-one now due ts key t inv.laid_out.unique is late armed (inv.taken armed split));
      cleared = λ other x held. inv.cleared other x (Clears-one ts key other x held);
      count = omega (arith, timer_count-clear ts key t is, inv.count);
      capacity = same_cap ∙ inv.capacity;
    }
