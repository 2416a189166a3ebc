-- The connection that is replaced is removed by its triad.
use Rattle.std.proofs.Common.{◌≡◌, ◌≤◌, ◌<◌, ℕ, ◌==◌, ◌||◌, Bool, true, false, cond, nat_le, List, [], ◌∷◌, find, length, Option, Some, None, is_some, refl, sym, ap, subst, ◌∙◌, true≢false, arith}
use Rattle.std.specs.Option.{option_map}
use Rattle.std.specs.List.{list_any}
use Rattle.std.proofs.lemmas.Bool.Decides.{nat_tests, Decides-eqb}
use Rattle.cip_types.specs.declared.names.Triad.{Triad}
use Rattle.adapter_table.specs.Connections.{Row}
use Rattle.adapter_table.specs.Rows.{most_rows, Each, has_triad, same_triad, is_timed_out, others}
use Rattle.adapter_table.specs.Opening.{is_opened_as, is_replaced_by, is_replaced, replaced_triad, triad_of}
use Rattle.adapter_table.specs.Sound.{TriadsDiffer, OpeningsRise}
use Rattle.adapter_table.specs.Closing.{without_triad}
use Rattle.indexed_connections.specs.List.Lone.{some_is, neither, triad_itself, triad_only, found_other, other_way}

-- the connection has this opening number
abbrev pub is_opened_at : ℕ → Row → Bool
is_opened_at opening row = row.opening == opening

-- the connections without the one that is replaced, if one is
abbrev pub left_by : Option Triad → List Row → List Row
left_by None rows = rows
left_by (Some triad) rows = without_triad triad rows

same_of : (a b : ℕ) → a == b ≡ true → a ≡ b
same_of a b is = (Decides-eqb a b).0 is

pub any_found : (test : Row → Bool) (rows : List Row) → list_any test rows ≡ is_some (find test rows)
any_found test [] = refl
any_found test (row ∷ rows) = split (test row) (any_found test rows)
  where
    split : (b : Bool) → list_any test rows ≡ is_some (find test rows) → (b || list_any test rows) ≡ is_some (cond b (Some row) (find test rows))
    split true rest = refl
    split false rest = rest

none_pass : (rows : List Row) → find (λ _. false) rows ≡ None
none_pass [] = refl
none_pass (row ∷ rows) = none_pass rows

all_others : (rows : List Row) → others (λ _. false) rows ≡ rows
all_others [] = refl
all_others (row ∷ rows) = ap (λ (l : List Row). row ∷ l) (all_others rows)

passes : (test : Row → Bool) (rows : List Row) (row : Row) → find test rows ≡ Some row → test row ≡ true
passes test [] row is = absurd cc
passes test (x ∷ rows) row is = split (test x) refl (passes test rows row)
  where
    split : (b : Bool) → test x ≡ b → (find test rows ≡ Some row → test row ≡ true) → test row ≡ true
    split true here rest = let same : x ≡ row = some_is (sym (ap (λ b. cond b (Some x) (find test rows)) here) ∙ is) in ap test (sym same) ∙ here
    split false fails rest = rest (sym (ap (λ b. cond b (Some x) (find test rows)) fails) ∙ is)

-- ---- one of an opening is one of a triad

risen : (opening : ℕ) (rows : List Row) → Each (λ x. opening < x.opening) rows → Each (λ x. is_opened_at opening x ≡ false) rows
risen opening [] all = tt
risen opening (row ∷ rows) all = (grind (arith, nat_tests), risen opening rows all.1)

same_tests : (p q : Row → Bool) (rows : List Row) → Each (λ x. p x ≡ false) rows → list_any q rows ≡ false → Each (λ x. p x ≡ q x) rows
same_tests p q [] first second = tt
same_tests p q (row ∷ rows) first second =
    let parts = neither (q row) (list_any q rows) second in
    (first.0 ∙ sym parts.0, same_tests p q rows first.1 parts.1)

by_triad : (opening : ℕ) (rows : List Row) (found : Row) → OpeningsRise rows → TriadsDiffer rows → find (is_opened_at opening) rows ≡ Some found → Each (λ x. is_opened_at opening x ≡ has_triad found.triad x) rows
by_triad opening [] found rise differ is = tt
by_triad opening (row ∷ rows) found rise differ is = split (is_opened_at opening row) refl (by_triad opening rows found rise.1 differ.1)
  where
    split : (b : Bool) → is_opened_at opening row ≡ b → (find (is_opened_at opening) rows ≡ Some found → Each (λ x. is_opened_at opening x ≡ has_triad found.triad x) rows) → Each (λ x. is_opened_at opening x ≡ has_triad found.triad x) (row ∷ rows)
    split true here rest =
        let same : row ≡ found = some_is (sym (ap (λ b. cond b (Some row) (find (is_opened_at opening) rows)) here) ∙ is) in
        let later : Each (λ x. is_opened_at opening x ≡ false) rows = risen opening rows (subst (λ (n : ℕ). Each (λ x. n < x.opening) rows) (same_of row.opening opening here) rise.0) in (
          here ∙ sym (ap (λ (r : Row). same_triad row.triad r.triad) (sym same) ∙ triad_itself row.triad),
          same_tests (is_opened_at opening) (has_triad found.triad) rows later (subst (λ (r : Row). list_any (has_triad r.triad) rows ≡ false) same differ.0),
        )
    split false fails rest =
        let is_later = sym (ap (λ b. cond b (Some row) (find (is_opened_at opening) rows)) fails) ∙ is in
        (fails ∙ sym (other_way found.triad row.triad (found_other row.triad (is_opened_at opening) rows found differ.0 is_later)), rest is_later)

others_same : (p q : Row → Bool) (rows : List Row) → Each (λ x. p x ≡ q x) rows → others p rows ≡ others q rows
others_same p q [] all = refl
others_same p q (row ∷ rows) all = rw (all.0, others_same p q rows all.1) refl

-- ---- which one goes

-- the others are those without the triad of the one that is found
abbrev GoesBy : (Row → Bool) → List Row → Option Row → Type 0
GoesBy test rows found = others test rows ≡ left_by (option_map triad_of found) rows

goes_triad : (triad : Triad) (rows : List Row) (o : Option Row) → find (has_triad triad) rows ≡ o → list_any (has_triad triad) rows ≡ true → GoesBy (has_triad triad) rows o
goes_triad triad rows None is any = absurd (true≢false (sym any ∙ any_found (has_triad triad) rows ∙ ap (λ (o : Option Row). is_some o) is))
goes_triad triad rows (Some row) is any =
    ap (λ (t : Triad). others (has_triad t) rows) (sym (triad_only row.triad triad (passes (has_triad triad) rows row is)))

goes_opening : (opening : ℕ) (rows : List Row) (o : Option Row) → find (is_opened_at opening) rows ≡ o → OpeningsRise rows → TriadsDiffer rows → GoesBy (is_opened_at opening) rows o
goes_opening opening rows None is rise differ = none rows is
  where
    none : (l : List Row) → find (is_opened_at opening) l ≡ None → others (is_opened_at opening) l ≡ l
    none [] removed = refl
    none (row ∷ l) removed = split (is_opened_at opening row) refl (none l)
      where
        split : (b : Bool) → is_opened_at opening row ≡ b → (find (is_opened_at opening) l ≡ None → others (is_opened_at opening) l ≡ l) → others (is_opened_at opening) (row ∷ l) ≡ row ∷ l
        split true here rest = let some : find (is_opened_at opening) (row ∷ l) ≡ Some row = ap (λ b. cond b (Some row) (find (is_opened_at opening) l)) here in absurd cc
        split false fails rest = rw fails (ap (λ (l : List Row). row ∷ l) (rest (sym (ap (λ b. cond b (Some row) (find (is_opened_at opening) l)) fails) ∙ removed)))
goes_opening opening rows (Some row) is rise differ = others_same (is_opened_at opening) (has_triad row.triad) rows (by_triad opening rows row rise differ is)

goes_first : (first : Option Row) (rows : List Row) → OpeningsRise rows → TriadsDiffer rows → GoesBy (is_opened_as first) rows (find (is_opened_as first) rows)
goes_first None rows rise differ = all_others rows ∙ ap (λ (o : Option Row). left_by (option_map triad_of o) rows) (sym (none_pass rows))
goes_first (Some first) rows rise differ = goes_opening first.opening rows (find (is_opened_at first.opening) rows) refl rise differ

goes_by : (known full : Bool) (first : Option Row) (triad : Triad) (rows : List Row) → list_any (has_triad triad) rows ≡ known → OpeningsRise rows → TriadsDiffer rows → GoesBy (is_replaced_by known full first triad) rows (find (is_replaced_by known full first triad) rows)
goes_by true full first triad rows known rise differ = goes_triad triad rows (find (has_triad triad) rows) refl known
goes_by false true first triad rows known rise differ = goes_first first rows rise differ
goes_by false false first triad rows known rise differ = all_others rows ∙ ap (λ (o : Option Row). left_by (option_map triad_of o) rows) (sym (none_pass rows))

pub goes_by_triad : (triad : Triad) (rows : List Row) → OpeningsRise rows → TriadsDiffer rows → others (is_replaced rows triad) rows ≡ left_by (replaced_triad rows triad) rows
goes_by_triad triad rows rise differ =
    goes_by (list_any (has_triad triad) rows) (nat_le most_rows (length rows)) (find is_timed_out rows) triad rows refl rise differ

-- ---- how it is found

leaves_by : (known full : Bool) (first : Option Row) (rows : List Row) (triad : Triad) → list_any (has_triad triad) rows ≡ known → nat_le most_rows (length rows) ≡ full → find is_timed_out rows ≡ first → find (is_replaced rows triad) rows ≡ find (is_replaced_by known full first triad) rows
leaves_by known full first rows triad is long found =
    ap (λ (k : Bool). find (is_replaced_by k (nat_le most_rows (length rows)) (find is_timed_out rows) triad) rows) is
    ∙ ap (λ (f : Bool). find (is_replaced_by known f (find is_timed_out rows) triad) rows) long
    ∙ ap (λ (o : Option Row). find (is_replaced_by known full o triad) rows) found

pub leaves_found : (rows : List Row) (triad : Triad) (row : Row) → Some row ≡ find (has_triad triad) rows → find (is_replaced rows triad) rows ≡ Some row
leaves_found rows triad row is =
    leaves_by true (nat_le most_rows (length rows)) (find is_timed_out rows) rows triad (any_found (has_triad triad) rows ∙ ap (λ (o : Option Row). is_some o) (sym is)) refl refl ∙ sym is

unknown : (rows : List Row) (triad : Triad) → None ≡ find (has_triad triad) rows → list_any (has_triad triad) rows ≡ false
unknown rows triad is = any_found (has_triad triad) rows ∙ ap (λ (o : Option Row). is_some o) (sym is)

pub leaves_replaced : (rows : List Row) (triad : Triad) → None ≡ find (has_triad triad) rows → length rows < 64 → find (is_replaced rows triad) rows ≡ None
leaves_replaced rows triad is few =
    leaves_by false false (find is_timed_out rows) rows triad (unknown rows triad is) (grind (arith, nat_tests)) refl ∙ none_pass rows

full_is : (n : ℕ) → 64 ≤ n → nat_le 64 n ≡ true
full_is n le = grind (arith, nat_tests)

pub leaves_none : (rows : List Row) (triad : Triad) → None ≡ find (has_triad triad) rows → 64 ≤ length rows → find is_timed_out rows ≡ None → find (is_replaced rows triad) rows ≡ None
leaves_none rows triad is many none =
    leaves_by false true None rows triad (unknown rows triad is) (full_is (length rows) many) none ∙ none_pass rows

pub leaves_first : (rows : List Row) (triad : Triad) (first : Row) → None ≡ find (has_triad triad) rows → 64 ≤ length rows → find is_timed_out rows ≡ Some first → find (is_replaced rows triad) rows ≡ find (is_opened_at first.opening) rows
leaves_first rows triad first is many found =
    leaves_by false true (Some first) rows triad (unknown rows triad is) (full_is (length rows) many) found
