-- Lists of connections of which one alone passes a test.
use Rattle.std.proofs.Common.{◌≡◌, ◌≤◌, Bool, true, false, cond, ◌||◌, List, [], ◌∷◌, ◌++◌, length, map, filter, find, Some, refl, ◌∙◌, ap, subst, arith}
use Rattle.std.specs.List.{list_any}
use Rattle.std.proofs.lemmas.Bool.{or_parts}
use Rattle.std.proofs.lemmas.List.Elements.{filter-append}
use Rattle.cip_types.specs.Order.{inserted, in_order}
use Rattle.adapter_table.specs.Connections.{Row}
use Rattle.adapter_table.specs.Rows.{Each}
use Rattle.adapter_table.specs.EachLemmas.{each_filter}

-- ---- two filters

turned_step : (b c : Bool) (p q : Row → Bool) (row : Row) (rows : List Row) → p row ≡ b → q row ≡ c → filter q (filter p rows) ≡ filter p (filter q rows) → filter q (cond b (row ∷ filter p rows) (filter p rows)) ≡ filter p (cond c (row ∷ filter q rows) (filter q rows))
turned_step true true p q row rows first second rest = rw (first, second, rest) refl
turned_step true false p q row rows first second rest = rw (second, rest) refl
turned_step false true p q row rows first second rest = rw (first, rest) refl
turned_step false false p q row rows first second rest = rest

-- one filter and another come to the same in either order
filters_turned : (p q : Row → Bool) (rows : List Row) → filter q (filter p rows) ≡ filter p (filter q rows)
filters_turned p q [] = refl
filters_turned p q (row ∷ rows) = turned_step (p row) (q row) p q row rows refl refl (filters_turned p q rows)

kept_one : (b : Bool) (row : Row) → b ≡ true → cond b (row ∷ []) [] ≡ row ∷ []
kept_one true row is = refl
kept_one false row is = absurd cc

-- the only one that passes a test is the only one among those that remain, if it remains
pub left_alone : (p q : Row → Bool) (rows : List Row) (row : Row) → filter q rows ≡ row ∷ [] → p row ≡ true → filter q (filter p rows) ≡ row ∷ []
left_alone p q rows row alone stays = filters_turned p q rows ∙ ap (filter p) alone ∙ kept_one (p row) row stays

-- ---- the one that passes

-- what holds of each holds of it
pub alone_holds : (P : Row → Type 0) (q : Row → Bool) (rows : List Row) (row : Row) → filter q rows ≡ row ∷ [] → Each P rows → P row
alone_holds P q rows row alone all = let kept : Each P (row ∷ []) = subst (Each P) alone (each_filter P q rows all) in kept.0

each_fails : (s : Row → Bool) (rows : List Row) → list_any s rows ≡ false → Each (λ row. s row ≡ false) rows
each_fails s [] none = tt
each_fails s (row ∷ rows) none =
    let parts = or_parts (s row) (list_any s rows) none in
    (parts.0, each_fails s rows parts.1)

-- it fails a test that none passes
pub alone_fails : (q s : Row → Bool) (rows : List Row) (row : Row) → filter q rows ≡ row ∷ [] → list_any s rows ≡ false → s row ≡ false
alone_fails q s rows row alone none = alone_holds (λ r. s r ≡ false) q rows row alone (each_fails s rows none)

passes_step : (b : Bool) (q : Row → Bool) (row : Row) (kept : List Row) → q row ≡ b → Each (λ r. q r ≡ true) kept → Each (λ r. q r ≡ true) (cond b (row ∷ kept) kept)
passes_step true q row kept is rest = (is, rest)
passes_step false q row kept is rest = rest

each_passes : (q : Row → Bool) (rows : List Row) → Each (λ r. q r ≡ true) (filter q rows)
each_passes q [] = tt
each_passes q (row ∷ rows) = passes_step (q row) q row (filter q rows) refl (each_passes q rows)

-- it passes the test
pub alone_passes : (q : Row → Bool) (rows : List Row) (row : Row) → filter q rows ≡ row ∷ [] → q row ≡ true
alone_passes q rows row alone = let kept : Each (λ r. q r ≡ true) (row ∷ []) = subst (Each (λ r. q r ≡ true)) alone (each_passes q rows) in kept.0

-- ---- one that is found

none_left : (rows : List Row) → length rows ≤ 0 → rows ≡ []
none_left [] few = refl
none_left (row ∷ rows) few = absurd (omega arith)

one_or_none : (row : Row) (rows : List Row) → length (row ∷ rows) ≤ 1 → row ∷ rows ≡ row ∷ []
one_or_none row rows few = ap (λ (rest : List Row). row ∷ rest) (none_left rows (omega arith))

found_step : (b c : Bool) (p q : Row → Bool) (first row : Row) (rows : List Row) → q first ≡ c → cond b (Some first) (find p rows) ≡ Some row → q row ≡ true → length (cond c (first ∷ filter q rows) (filter q rows)) ≤ 1 → (find p rows ≡ Some row → length (filter q rows) ≤ 1 → filter q rows ≡ row ∷ []) → cond c (first ∷ filter q rows) (filter q rows) ≡ row ∷ []
found_step true true p q first row rows here is passes few more =
    let same : first ≡ row = cc in
    one_or_none first (filter q rows) few ∙ ap (λ (r : Row). r ∷ []) same
found_step true false p q first row rows here is passes few more = let same : first ≡ row = cc in absurd cc
found_step false true p q first row rows here is passes few more =
    let none = none_left (filter q rows) (omega arith) in
    let other = more is (omega arith) in
    absurd cc
found_step false false p q first row rows here is passes few more = more is few

-- one that is found and passes another test is alone to pass it, where at most one does
pub found_alone : (p q : Row → Bool) (rows : List Row) (row : Row) → find p rows ≡ Some row → q row ≡ true → length (filter q rows) ≤ 1 → filter q rows ≡ row ∷ []
found_alone p q [] row is passes few = absurd cc
found_alone p q (first ∷ rows) row is passes few =
    found_step (p first) (q first) p q first row rows refl is passes few (λ later fewer. found_alone p q rows row later passes fewer)

-- ---- one more at the end

-- it stays alone where one more comes, where at most one passes then
pub alone_before : (q : Row → Bool) (rows : List Row) (new row : Row) → filter q rows ≡ row ∷ [] → length (filter q (rows ++ new ∷ [])) ≤ 1 → filter q (rows ++ new ∷ []) ≡ row ∷ []
alone_before q rows new row alone few =
    let joined : filter q (rows ++ new ∷ []) ≡ row ∷ filter q (new ∷ []) = filter-append q rows (new ∷ []) ∙ ap (λ (xs : List Row). xs ++ filter q (new ∷ [])) alone in
    joined ∙ one_or_none row (filter q (new ∷ [])) (subst (λ (xs : List Row). length xs ≤ 1) joined few)

-- ---- lists in an order

or_turned : (a b c : Bool) → (a || (b || c)) ≡ (b || (a || c))
or_turned true true c = refl
or_turned true false c = refl
or_turned false b c = refl

inserted_step : (b : Bool) (s : Row → Bool) (x y : Row) (ys with_x : List Row) → list_any s with_x ≡ (s x || list_any s ys) → list_any s (cond b (x ∷ y ∷ ys) (y ∷ with_x)) ≡ (s x || (s y || list_any s ys))
inserted_step true s x y ys with_x rest = refl
inserted_step false s x y ys with_x rest = ap (λ (b : Bool). s y || b) rest ∙ or_turned (s y) (s x) (list_any s ys)

any_inserted : (before : Row → Row → Bool) (s : Row → Bool) (x : Row) (ys : List Row) → list_any s (inserted before x ys) ≡ (s x || list_any s ys)
any_inserted before s x [] = refl
any_inserted before s x (y ∷ ys) = inserted_step (before x y) s x y ys (inserted before x ys) (any_inserted before s x ys)

-- a list in another order has one that passes where the list has
pub any_in_order : (before : Row → Row → Bool) (s : Row → Bool) (rows : List Row) → list_any s (in_order before rows) ≡ list_any s rows
any_in_order before s [] = refl
any_in_order before s (row ∷ rows) = any_inserted before s row (in_order before rows) ∙ ap (λ (b : Bool). s row || b) (any_in_order before s rows)

pub any_mapped : {A : Type 0} (s : A → Bool) (f : Row → A) (rows : List Row) → list_any s (map f rows) ≡ list_any (λ row. s (f row)) rows
any_mapped s f [] = refl
any_mapped s f (row ∷ rows) = ap (λ (b : Bool). s (f row) || b) (any_mapped s f rows)
