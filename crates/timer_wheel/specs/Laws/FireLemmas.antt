-- What `advance` takes out, in its order.
use Rattle.std.proofs.Common.{◌≡◌, ◌≢◌, ◌⊎◌, ℕ, ◌<◌, ◌≤◌, List, [], ◌++◌, map, length, set, get_or, swap, Option, Some, None, unwrap_or, Bool, true, false, not, cond, nat_le, inl, inr, arith, refl, sym, ap, ◌∙◌, subst, Contains, AllPairs, IsPermutation, is_lt, nat_cmp, Less, Equal, get_or-set_same, get_or-set_other, length-set, true≢false, lt-ltb, le-leb, eq-eqb}
use borrow.Author.Tests.{lt-leb, le-ltb}
use Rattle.std.proofs.lemmas.Bool.{cases_eq, cases_order, cond-true, cond-false}
use Rattle.std.proofs.lemmas.List.{length-map, get_or-map}
use Rattle.std.proofs.lemmas.List.Edits.{swap_is}
use Rattle.std.proofs.lemmas.List.Elements.{Contains-get_or}
use Rattle.std.proofs.lemmas.List.Sorted.{IsPermutation-keeps, IsPermutation-sym, Contains-permutation, sorted_far, ranks_by}
use Rattle.std.specs.List.Sorted.{IsSortedBy}
use Rattle.std.specs.Cmp.{IsStrictWeakOrder}
use Rattle.std.proofs.lemmas.Cmp.{then_total, on_total}
use Rattle.std.specs.Ordering.{ordering_then}
use Rattle.std.specs.FinMap.{get, same_map, nat_cmp-IsAntisymmetric, get-retain_keys}
use Rattle.std.specs.Cmp.{nat_cmp_total}
use Rattle.futures.specs.LinkedLists.{LinkedLists}
use Rattle.timer_wheel.specs.declared.timer.Timer.{Timer}
use Rattle.timer_wheel.specs.declared.Token.{Token}
use Rattle.timer_wheel.specs.Timers.{Deadlines, IsDue, later_than, ComesBefore, Fires}
use Rattle.timer_wheel.specs.Layout.{armed_of, IsAt, IsLaidOut, IsSplit, TakesDue}
use Rattle.timer_wheel.specs.Laws.MapLemmas.{armed_of_timer}
use Rattle.timer_wheel.specs.Laws.SweepLemmas.{list_of_timer, later_at_end}

-- before anything was taken out
pub IsSplit-none : (now : ℕ) (armed : Deadlines) → IsSplit now armed [] armed
IsSplit-none now armed =
    record {
      taken = λ t nowhere. absurd (omega (arith, nowhere.1));
      others = λ q. inl refl;
      apart = λ i j d below within. absurd (omega arith);
    }

-- what is left once every slot is done is later
pub left_later : (before now : ℕ) (slots : LinkedLists) (ts : List (Option Timer)) (q d : ℕ) → IsLaidOut (IsAt before now 768) slots ts → get (armed_of ts) q ≡ Some d → now < d
left_later before now slots ts q d laid is =
    let found = armed_of_timer ts q d is in
    let listed = list_of_timer (IsAt before now 768) _ _ found.1 (laid.agree found.0 found.2) found.3 in
    omega (arith, (later_at_end before now found.1 listed.0 listed.2).0, found.5)

cond_same : (b : Bool) → ◌≡◌ {A = Option ℕ} (cond b None None) None
cond_same true = refl
cond_same false = refl

-- the token's deadline, if it is later
pub later_of : ℕ → Deadlines → ℕ → Option ℕ
later_of now armed q = cond (not (nat_le (unwrap_or (get armed q) 0) now)) (get armed q) None

pub get-later_than : (now : ℕ) (armed : Deadlines) (q : ℕ) → get (later_than now armed) q ≡ later_of now armed q
unfolding later_of
get-later_than now armed q = get-retain_keys armed (λ token. not (nat_le (unwrap_or (get armed token) 0) now)) q (λ x tied. ap (λ k. not (nat_le (unwrap_or (get armed k) 0) now)) (sym (nat_cmp-IsAntisymmetric q x tied)))

later_of-none : (now : ℕ) (armed : Deadlines) (q : ℕ) → get armed q ≡ None → later_of now armed q ≡ None
unfolding later_of
later_of-none now armed q is = ap (λ o. cond (not (nat_le (unwrap_or o 0) now)) o None) is ∙ cond_same _

later_of-later : (now : ℕ) (armed : Deadlines) (q d : ℕ) → get armed q ≡ Some d → now < d → later_of now armed q ≡ Some d
unfolding later_of
later_of-later now armed q d is later = ap (λ o. cond (not (nat_le (unwrap_or o 0) now)) o None) is ∙ ap (λ b. cond (not b) (Some d) None) (lt-leb d now later)

pub later_of-due : (now : ℕ) (armed : Deadlines) (q d : ℕ) → get armed q ≡ Some d → d ≤ now → later_of now armed q ≡ None
unfolding later_of
later_of-due now armed q d is due = ap (λ o. cond (not (nat_le (unwrap_or o 0) now)) o None) is ∙ ap (λ b. cond (not b) (Some d) None) (le-leb d now due)

module _ (before now : ℕ) (slots : LinkedLists) (ts : List (Option Timer)) (armed : Deadlines) (due : List Timer) (laid : IsLaidOut (IsAt before now 768) slots ts) (split : IsSplit now armed due (armed_of ts)) where
  left : (q : ℕ) (o : Option ℕ) → get (armed_of ts) q ≡ o → get (armed_of ts) q ≡ get armed q → o ≡ later_of now armed q
  left q None is same = sym (later_of-none now armed q (sym same ∙ is))
  left q (Some d) is same = sym (later_of-later now armed q d (sym same ∙ is) (left_later before now slots ts q d laid is))

  removed : (q : ℕ) (t : Timer) → Contains due t → t.token.0 ≡ q → get (armed_of ts) q ≡ later_of now armed q
  removed q t in_due same =
      let old = split.taken t in_due in
      ap (get (armed_of ts)) (sym same) ∙ old.2 ∙ sym (ap (later_of now armed) (sym same) ∙ later_of-due now armed t.token.0 t.deadline old.0 old.1)

  -- the map without what was taken out
  pub armed_of-later : armed_of ts ≡ later_than now armed
  armed_of-later =
      same_map nat_cmp_total nat_cmp-IsAntisymmetric _ _ (λ q.
      elim (split.others q) [
        | inl same ↦ left q (get (armed_of ts) q) refl same
        | inr found ↦ removed q found.0 found.1 found.2
      ] ∙ sym (get-later_than now armed q))

  -- each token that is due was taken out
  pub due_taken : (q : ℕ) → IsDue armed now q → (t : Timer) × Contains due t × (t.token.0 ≡ q)
  due_taken q is =
      elim (split.others q) [
        | inl same ↦ absurd (omega (arith, left_later before now slots ts q is.0 laid (same ∙ is.1), is.2))
        | inr found ↦ found
      ]

-- no two of these timers have one token
Apart : List Timer → Type 0
Apart ts = (i j : ℕ) (d : Timer) → i < length ts → j < length ts → i ≢ j → (get_or ts i d).token.0 ≢ (get_or ts j d).token.0

Apart-from_pairs : (ts : List Timer) → AllPairs (λ (s t : Timer). s.token.0 ≢ t.token.0) ts → Apart ts
unfolding Apart
Apart-from_pairs ts pairs i j d below within differs =
    elim (cases_order i j) [
      | inl same ↦ absurd (differs same)
      | inr (inl less) ↦ pairs i j d less within
      | inr (inr more) ↦ λ e. pairs j i d more below (sym e)
    ]

-- what a swapped list reads
data Reads (l : List Timer) (a b k : ℕ) (d x : Timer) : Type 0 where
  second : k ≡ b → x ≡ get_or l a d → Reads l a b k d x
  first : k ≢ b → k ≡ a → x ≡ get_or l b d → Reads l a b k d x
  other : k ≢ b → k ≢ a → x ≡ get_or l k d → Reads l a b k d x

reads-swap : (l : List Timer) (a b k : ℕ) (d : Timer) → a < length l → b < length l → Reads l a b k d (get_or (swap l a b) k d)
reads-swap l a b k d a_in b_in =
    let size = length-set l a (get_or l b d) in
    let written = ap (λ (w : List Timer). get_or w k d) (sym (swap_is l a b d a_in b_in)) in
    elim (cases_eq k b) [
      | inl same ↦ second same (written ∙ ap (λ n. get_or (set (set l a (get_or l b d)) b (get_or l a d)) n d) same ∙ get_or-set_same (set l a (get_or l b d)) b (get_or l a d) d (omega (arith, size)))
      | inr differs ↦
          let unwritten = written ∙ get_or-set_other (set l a (get_or l b d)) b k (get_or l a d) d differs in
          elim (cases_eq k a) [
            | inl same ↦ first differs same (unwritten ∙ ap (λ n. get_or (set l a (get_or l b d)) n d) same ∙ get_or-set_same l a (get_or l b d) d a_in)
            | inr apart ↦ other differs apart (unwritten ∙ get_or-set_other l a k (get_or l b d) d apart)
          ]
    ]

Apart-swap : (l : List Timer) (a b : ℕ) → a < length l → b < length l → Apart l → Apart (swap l a b)
unfolding Apart
Apart-swap l a b a_in b_in apart i j d i_in j_in differs =
    let size : length (swap l a b) ≡ length l = ap length (sym (swap_is l a b d a_in b_in)) ∙ length-set (set l a (get_or l b d)) b (get_or l a d) ∙ length-set l a (get_or l b d) in
    let at : (m n : ℕ) → m < length l → n < length l → m ≢ n → get_or (swap l a b) i d ≡ get_or l m d → get_or (swap l a b) j d ≡ get_or l n d → (get_or (swap l a b) i d).token.0 ≢ (get_or (swap l a b) j d).token.0 =
    λ m n m_in n_in mn em en e. apart m n d m_in n_in mn (ap (λ (t : Timer). t.token.0) (sym em) ∙ e ∙ ap (λ (t : Timer). t.token.0) en) in
    elim (reads-swap l a b i d a_in b_in) [
      | second ib ei ↦
          elim (reads-swap l a b j d a_in b_in) [
            | second jb ej ↦ absurd (differs (ib ∙ sym jb))
            | first jb ja ej ↦ at a b a_in b_in (λ e. jb (ja ∙ e)) ei ej
            | other jb ja ej ↦ at a j a_in (omega (arith, size)) (λ e. ja (sym e)) ei ej
          ]
      | first ib ia ei ↦
          elim (reads-swap l a b j d a_in b_in) [
            | second jb ej ↦ at b a b_in a_in (λ e. ib (ia ∙ sym e)) ei ej
            | first jb ja ej ↦ absurd (differs (ia ∙ sym ja))
            | other jb ja ej ↦ at b j b_in (omega (arith, size)) (λ e. jb (sym e)) ei ej
          ]
      | other ib ia ei ↦
          elim (reads-swap l a b j d a_in b_in) [
            | second jb ej ↦ at i a (omega (arith, size)) a_in ia ei ej
            | first jb ja ej ↦ at i b (omega (arith, size)) b_in ib ei ej
            | other jb ja ej ↦ at i j (omega (arith, size)) (omega (arith, size)) differs ei ej
          ]
    ]

Apart-permutation : (xs ys : List Timer) → IsPermutation xs ys → Apart xs → Apart ys
Apart-permutation xs ys moves apart = IsPermutation-keeps xs Apart apart (λ l i j i_in j_in p. Apart-swap l i j i_in j_in p) ys moves

-- the order by deadline and then by token
abbrev pub is_before : Timer → Timer → Bool
is_before s t = is_lt (ordering_then (nat_cmp s.deadline t.deadline) (nat_cmp s.token.0 t.token.0))

is_before-weak : IsStrictWeakOrder is_before
is_before-weak = ranks_by (then_total (on_total (λ (t : Timer). t.deadline) nat_cmp_total) (on_total (λ (t : Timer). t.token.0) nat_cmp_total)) (λ (t : Timer). t)

cmp-less : (a b : ℕ) → a < b → nat_cmp a b ≡ Less
cmp-less a b less = cond-true _ _ _ (lt-ltb a b less)

cmp-equal : (a b : ℕ) → a ≡ b → nat_cmp a b ≡ Equal
cmp-equal a b same = cond-false _ _ _ (le-ltb a b (omega arith)) ∙ cond-true _ _ _ (eq-eqb a b same)

comes_first : (a b s t : ℕ) → is_lt (ordering_then (nat_cmp b a) (nat_cmp t s)) ≡ false → s ≢ t → (a < b) ⊎ ((a ≡ b) × (s < t))
comes_first a b s t not_less apart =
    elim (cases_order a b) [
      | inl same ↦
          elim (cases_order s t) [
            | inl e ↦ absurd (apart e)
            | inr (inl less) ↦ inr (same, less)
            | inr (inr more) ↦ absurd (true≢false (sym (ap (λ o. is_lt (ordering_then o (nat_cmp t s))) (cmp-equal b a (sym same)) ∙ ap is_lt (cmp-less t s more)) ∙ not_less))
          ]
      | inr (inl less) ↦ inl less
      | inr (inr more) ↦ absurd (true≢false (sym (ap (λ o. is_lt (ordering_then o (nat_cmp t s))) (cmp-less b a more)) ∙ not_less))
    ]

token_is : (s t : Token) → s.0 ≡ t.0 → s ≡ t
token_is s t same = λ i. record { 0 = same i }

-- what was taken out, in order, is what fires
module _ (before now : ℕ) (slots : LinkedLists) (ts : List (Option Timer)) (armed : Deadlines) (due sorted : List Timer) (laid : IsLaidOut (IsAt before now 768) slots ts) (split : IsSplit now armed due (armed_of ts)) (moves : IsPermutation due sorted) (up : IsSortedBy is_before sorted) where
  tokens : List Token
  tokens = map (λ (t : Timer). t.token) sorted

  taken : (t : Timer) → Contains sorted t → (get armed t.token.0 ≡ Some t.deadline) × (t.deadline ≤ now)
  taken t found =
      let old = split.taken t (Contains-permutation sorted due t (IsPermutation-sym due sorted moves) found) in
      (old.0, old.1)

  is_due : (token : Token) → Contains tokens token → IsDue armed now token.0
  unfolding tokens
  is_due token found =
      let none : Timer = record { deadline = 0; token = token } in
      let within : found.0 < length sorted = omega (arith, found.1, length-map sorted (λ (t : Timer). t.token)) in
      let old = taken (get_or sorted found.0 none) (Contains-get_or sorted found.0 none within) in
      let same : (get_or sorted found.0 none).token ≡ token = sym (get_or-map (λ (t : Timer). t.token) sorted found.0 none token within) ∙ found.2 in
      ((get_or sorted found.0 none).deadline, ap (λ (k : Token). get armed k.0) (sym same) ∙ old.0, old.1)

  fires : (token : Token) → IsDue armed now token.0 → Contains tokens token
  unfolding tokens
  fires token is =
      let found = due_taken before now slots ts armed due laid split token.0 is in
      let sorted_too = Contains-permutation due sorted found.0 moves found.1 in
      let at = sorted_too.0 in (
        at,
        omega (arith, sorted_too.1, length-map sorted (λ (t : Timer). t.token)),
        get_or-map (λ (t : Timer). t.token) sorted at found.0 token sorted_too.1 ∙ ap (λ (t : Timer). t.token) sorted_too.2 ∙ token_is found.0.token token found.2,
      )

  in_order : AllPairs (ComesBefore armed) tokens
  unfolding tokens Apart
  in_order i j d below within =
      let none : Timer = record { deadline = 0; token = d } in
      let j_in : j < length sorted = omega (arith, within, length-map sorted (λ (t : Timer). t.token)) in
      let i_in : i < length sorted = omega arith in
      let s = get_or sorted i none in
      let t = get_or sorted j none in
      let s_taken = taken s (Contains-get_or sorted i none i_in) in
      let t_taken = taken t (Contains-get_or sorted j none j_in) in
      let apart = Apart-permutation due sorted moves (Apart-from_pairs due split.apart) i j none i_in j_in (λ e. absurd (omega arith)) in
      let first = comes_first s.deadline t.deadline s.token.0 t.token.0 (sorted_far is_before is_before-weak sorted up i j none (omega arith) j_in) apart in
      subst (λ (x : Token). ComesBefore armed x (get_or (map (λ (t : Timer). t.token) sorted) j d)) (sym (get_or-map (λ (t : Timer). t.token) sorted i none d i_in))
      (subst (ComesBefore armed s.token) (sym (get_or-map (λ (t : Timer). t.token) sorted j none d j_in))
      (subst (λ o. (unwrap_or o 0 < unwrap_or (get armed t.token.0) 0) ⊎ ((unwrap_or o 0 ≡ unwrap_or (get armed t.token.0) 0) × (s.token.0 < t.token.0))) (sym s_taken.0)
      (subst (λ o. (s.deadline < unwrap_or o 0) ⊎ ((s.deadline ≡ unwrap_or o 0) × (s.token.0 < t.token.0))) (sym t_taken.0) first)))

  pub Fires-sorted : (old new : List Token) → new ≡ old ++ map (λ (t : Timer). t.token) sorted → Fires armed now old new
  unfolding tokens
  Fires-sorted old new appended =
      record {
        fired = tokens;
        appended = appended;
        due = λ token. (is_due token, fires token);
        ordered = in_order;
      }

-- what a whole sweep took out
pub IsSplit-swept : (now : ℕ) (ts read left : List (Option Timer)) (none due : List Timer) → TakesDue now none due read left → none ≡ [] → read ≡ ts → IsSplit now (armed_of ts) due (armed_of left)
IsSplit-swept now ts read left none due takes empty same =
    takes (armed_of ts) (subst (λ l. IsSplit now (armed_of ts) l (armed_of read)) (sym empty) (subst (λ l. IsSplit now (armed_of ts) [] (armed_of l)) (sym same) (IsSplit-none now (armed_of ts))))
