-- The connections of one multicast producer share it, whatever is taken out or appended.
use Rattle.std.proofs.Common.{◌≡◌, ℕ, ◌==◌, Bool, true, false, cond, ◌&&◌, List, [], ◌∷◌, ◌++◌, filter, find, Option, Some, None, refl, sym, ◌∙◌, subst, eqb-true}
use Rattle.std.proofs.lemmas.Bool.{and_parts}
use Rattle.adapter_table.specs.Connections.{Row}
use Rattle.adapter_table.specs.Rows.{is_established, is_member}
use Rattle.adapter_table.specs.Sound.{SharesProducer, Agree, AllAgree, GroupsAgree}

agree_filter : (p : Row → Bool) (row : Row) (rows : List Row) → AllAgree row rows → AllAgree row (filter p rows)
agree_filter p row [] agree = tt
agree_filter p row (other ∷ rows) agree =
    elim (p other) as (λ b. AllAgree row (cond b (other ∷ filter p rows) (filter p rows))) [
      | true ↦ (agree.0, agree_filter p row rows agree.1)
      | false ↦ agree_filter p row rows agree.1
    ]

pub groups_filter : (p : Row → Bool) (rows : List Row) → GroupsAgree rows → GroupsAgree (filter p rows)
groups_filter p [] agree = tt
groups_filter p (row ∷ rows) agree =
    elim (p row) as (λ b. GroupsAgree (cond b (row ∷ filter p rows) (filter p rows))) [
      | true ↦ (agree_filter p row rows agree.0, groups_filter p rows agree.1)
      | false ↦ groups_filter p rows agree.1
    ]

-- ---- one is appended

-- each agrees with the new one
AllFit : List Row → Row → Type 0
AllFit [] new = Unit {0}
AllFit (row ∷ rows) new = Agree row new × AllFit rows new

agree_append : (row : Row) (rows : List Row) (new : Row) → AllAgree row rows → Agree row new → AllAgree row (rows ++ new ∷ [])
agree_append row [] new agree fits = (fits, tt)
agree_append row (other ∷ rows) new agree fits = (agree.0, agree_append row rows new agree.1 fits)

groups_append : (rows : List Row) (new : Row) → GroupsAgree rows → AllFit rows new → GroupsAgree (rows ++ new ∷ [])
unfolding AllFit
groups_append [] new agree fits = (tt, tt)
groups_append (row ∷ rows) new agree fits = (agree_append row rows new agree.0 fits.0, groups_append rows new agree.1 fits.1)

fit_filter : (p : Row → Bool) (rows : List Row) (new : Row) → AllFit rows new → AllFit (filter p rows) new
unfolding AllFit
fit_filter p [] new fits = tt
fit_filter p (row ∷ rows) new fits =
    elim (p row) as (λ b. AllFit (cond b (row ∷ filter p rows) (filter p rows)) new) [
      | true ↦ (fits.0, fit_filter p rows new fits.1)
      | false ↦ fit_filter p rows new fits.1
    ]

-- a member of an input's group shares the producer of m
MembersShare : ℕ → Row → List Row → Type 0
MembersShare point m [] = Unit {0}
MembersShare point m (row ∷ rows) = (is_member point row ≡ true → SharesProducer row m) × MembersShare point m rows

shares_back : (a b : Row) → SharesProducer a b → SharesProducer b a
shares_back a b s = record { id = sym s.id; api = sym s.api; state = sym s.state }

pub produced_is : (point : ℕ) (row : Row) → is_member point row ≡ true → row.produced ≡ point
produced_is point row is =
    let a = and_parts (is_established row) (row.multicast && row.produced == point) is in
    let b = and_parts row.multicast (row.produced == point) a.1 in
    eqb-true _ _ b.1

-- a member lives, and is multicast
pub member_parts : (point : ℕ) (row : Row) → is_member point row ≡ true → (is_established row ≡ true) × (row.multicast ≡ true)
member_parts point row is =
    let a = and_parts (is_established row) (row.multicast && row.produced == point) is in
    (a.0, (and_parts row.multicast (row.produced == point) a.1).0)

-- the others agree with a member
later_share : (point : ℕ) (m : Row) (rows : List Row) → is_member point m ≡ true → AllAgree m rows → MembersShare point m rows
unfolding MembersShare
later_share point m [] is agree = tt
later_share point m (row ∷ rows) is agree =
    let here = produced_is point m is in
    (λ member. shares_back m row (agree.0 (subst (λ (n : ℕ). is_member n m ≡ true) (sym here) is) (subst (λ (n : ℕ). is_member n row ≡ true) (sym here) member)), later_share point m rows is agree.1)

share_step : (b : Bool) (point : ℕ) (m row : Row) (rows : List Row) → is_member point row ≡ b → cond b (Some row) (find (is_member point) rows) ≡ Some m → AllAgree row rows → (find (is_member point) rows ≡ Some m → MembersShare point m rows) → MembersShare point m (row ∷ rows)
unfolding MembersShare
share_step true point m row rows is found agree rest =
    let same : row ≡ m = cc in
    (λ member. subst (SharesProducer row) same (record { id = refl; api = refl; state = refl }), subst (λ (r : Row). MembersShare point r rows) same (later_share point row rows is agree))
share_step false point m row rows is found agree rest = (λ member. absurd cc, rest found)

found_share : (point : ℕ) (m : Row) (rows : List Row) → find (is_member point) rows ≡ Some m → GroupsAgree rows → MembersShare point m rows
unfolding MembersShare
found_share point m [] found agree = tt
found_share point m (row ∷ rows) found agree = share_step (is_member point row) point m row rows refl found agree.0 (λ later. found_share point m rows later agree.1)

-- what the new connection is: no member of a group, the first of its group, or like the one that it joins
pub data Joins (rows : List Row) (new : Row) : Type 0 where
  is_single : new.multicast ≡ false → Joins rows new
  is_first : find (is_member new.produced) rows ≡ None → Joins rows new
  is_joiner : (m : Row) → find (is_member new.produced) rows ≡ Some m → SharesProducer new m → Joins rows new

single_fits : (rows : List Row) (new : Row) → new.multicast ≡ false → AllFit rows new
unfolding AllFit
single_fits [] new single = tt
single_fits (row ∷ rows) new single = (
  λ here there.
      let a = and_parts (is_established new) (new.multicast && new.produced == row.produced) there in
      let b = and_parts new.multicast (new.produced == row.produced) a.1 in
      absurd (let e = b.0 in cc),
  single_fits rows new single,
)

none_step : (b : Bool) (rest : Option Row) (row : Row) → cond b (Some row) rest ≡ None → (b ≡ false) × (rest ≡ None)
none_step true rest row none = absurd cc
none_step false rest row none = (refl, none)

first_fits : (rows : List Row) (new : Row) → find (is_member new.produced) rows ≡ None → AllFit rows new
unfolding AllFit
first_fits [] new none = tt
first_fits (row ∷ rows) new none =
    let parts = none_step (is_member new.produced row) (find (is_member new.produced) rows) row none in (
      λ here there.
          let point = produced_is row.produced new there in
          let e : is_member new.produced row ≡ true = rw point here in
          absurd cc,
      first_fits rows new parts.1,
    )

shares_with : (a b m : Row) → SharesProducer a m → SharesProducer b m → SharesProducer a b
shares_with a b m p q = record { id = p.id ∙ sym q.id; api = p.api ∙ sym q.api; state = p.state ∙ sym q.state }

joiner_fits : (rows : List Row) (new m : Row) → SharesProducer new m → MembersShare new.produced m rows → AllFit rows new
unfolding AllFit MembersShare
joiner_fits [] new m shares all = tt
joiner_fits (row ∷ rows) new m shares all = (
  λ here there.
      let point = produced_is row.produced new there in
      let member : is_member new.produced row ≡ true = rw point here in
      shares_with row new m (all.0 member) shares,
  joiner_fits rows new m shares all.1,
)

all_fit : (rows : List Row) (new : Row) → Joins rows new → GroupsAgree rows → AllFit rows new
all_fit rows new (is_single single) agree = single_fits rows new single
all_fit rows new (is_first none) agree = first_fits rows new none
all_fit rows new (is_joiner m found shares) agree = joiner_fits rows new m shares (found_share new.produced m rows found agree)

pub groups_opened : (p : Row → Bool) (rows : List Row) (new : Row) → Joins rows new → GroupsAgree rows → GroupsAgree (filter p rows ++ new ∷ [])
groups_opened p rows new joins agree = groups_append (filter p rows) new (groups_filter p rows agree) (fit_filter p rows new (all_fit rows new joins agree))
