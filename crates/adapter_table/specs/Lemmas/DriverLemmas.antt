-- Which changes of the connections take its owner from an output.
use Rattle.std.proofs.Common.{◌≡◌, ◌≤◌, ℕ, ◌+◌, ◌==◌, nat_lt, Bool, true, false, cond, not, ◌||◌, ◌&&◌, List, [], ◌∷◌, ◌++◌, length, filter, find, Option, Some, refl, sym, ◌∙◌, ap, subst, arith}
use Rattle.std.specs.List.{list_any}
use Rattle.std.proofs.lemmas.Bool.{eqb-true, and_parts, or_parts, or_left, or_right}
use Rattle.std.proofs.lemmas.Bool.Decides.{nat_tests}
use Rattle.std.proofs.lemmas.List.Folds.{list_any-append}
use Rattle.std.proofs.lemmas.Map.Views.{any-filter_same}
use Rattle.base_lemmas.specs.Lists.{found_passes}
use Rattle.base_lemmas.specs.Booleans.{not_alone}
use Rattle.cip_types.specs.declared.names.Triad.{Triad}
use Rattle.adapter_table.specs.Connections.{Row}
use Rattle.cip_productions.specs.declared.kind.Kind.{Kind}
use Rattle.cip_productions.specs.declared.kind.Kind.TheVariants.{ExclusiveOwner, InputOnly, ListenOnly}
use Rattle.cip_productions.specs.Kinds.{is_owner, is_listener}
use Rattle.adapter_table.specs.Rows.{is_established, is_timed_out, is_supported, same_triad, has_triad, holds_triad, drives, drivers, others, Each, EachTwo}
use Rattle.adapter_table.specs.Closing.{without_triad, stays, staying}
use Rattle.adapter_table.specs.Scratch.{is_lost}
use Rattle.adapter_table.specs.Opening.{is_replaced_by}
use Rattle.adapter_table.specs.Sound.{TriadsDiffer, OpeningsRise}
use Rattle.adapter_table.specs.Lemmas.SoundLemmas.{count_filter}
use Rattle.adapter_table.specs.EachLemmas.{each_weak, two_found}
use Rattle.adapter_table.specs.Lemmas.SupportLemmas.{removed_replaced, any_kept}

-- ---- an owner that stays

-- where an output that had an owner has one, it is not lost
pub kept_owner : (point : ℕ) (old new : List Row) → (list_any (drives point) old ≡ true → list_any (drives point) new ≡ true) → is_lost point old new ≡ false
kept_owner point old new more = not_alone (list_any (drives point) old) (list_any (drives point) new) more

same_lost : (a b : Bool) → b ≡ a → (a && not b) ≡ false
same_lost true b same = rw same refl
same_lost false b same = refl

pub same_owner : (point : ℕ) (old new : List Row) → list_any (drives point) new ≡ list_any (drives point) old → is_lost point old new ≡ false
same_owner point old new same = same_lost (list_any (drives point) old) (list_any (drives point) new) same

driver_lives : (point : ℕ) (row : Row) → drives point row ≡ true → is_established row ≡ true
driver_lives point row is = (and_parts (is_established row) _ is).0

-- an opening takes no owner from an output
pub owner_opened : (b c : Bool) (triad : Triad) (rows : List Row) (new : Row) (point : ℕ) → list_any (holds_triad triad) rows ≡ false → OpeningsRise rows → is_lost point rows (others (is_replaced_by b c (find is_timed_out rows) triad) rows ++ new ∷ []) ≡ false
owner_opened b c triad rows new point free rise =
    let kept = any_kept (is_replaced_by b c (find is_timed_out rows) triad) (drives point) rows (driver_lives point) (removed_replaced b c triad rows free rise) in
    kept_owner point rows (others (is_replaced_by b c (find is_timed_out rows) triad) rows ++ new ∷ []) (λ is. list_any-append (drives point) (others (is_replaced_by b c (find is_timed_out rows) triad) rows) (new ∷ []) ∙ or_left _ _ (kept ∙ is))

-- ---- what is closed is found by its triad

triad_is : (a b : Triad) → same_triad a b ≡ true → a ≡ b
triad_is a b same =
    let first = and_parts (a.serial == b.serial) _ same in
    let rest = and_parts (a.vendor == b.vendor) (a.originator == b.originator) first.1 in
    triad_parts a.serial b.serial a.vendor b.vendor a.originator b.originator (eqb-true _ _ first.0) (eqb-true _ _ rest.0) (eqb-true _ _ rest.1) where
      triad_parts : (s s' v v' o o' : ℕ) → s ≡ s' → v ≡ v' → o ≡ o' → ◌≡◌ {A = Triad} (record { serial = s; vendor = v; originator = o }) (record { serial = s'; vendor = v'; originator = o' })
      triad_parts s s' v v' o o' p q r = cc

found_again : (triad : Triad) (rows : List Row) (row : Row) → find (has_triad triad) rows ≡ Some row → find (has_triad row.triad) rows ≡ Some row
found_again triad rows row is = subst (λ (other : Triad). find (has_triad other) rows ≡ Some row) (sym (triad_is row.triad triad (found_passes (has_triad triad) rows row is))) is

-- ---- one that is found is taken out

taken_step : (b c : Bool) (q : Row → Bool) (first : Row) (left rows : List Row) → q first ≡ c → length (filter q left) ≤ length (filter q rows) → (b ≡ true → c ≡ true) → (b ≡ false → length (filter q left) + 1 ≤ length (filter q rows)) → length (filter q (cond (not b) (first ∷ left) left)) + 1 ≤ length (cond c (first ∷ filter q rows) (filter q rows))
taken_step true true q first left rows here fewer passes more = omega arith
taken_step true false q first left rows here fewer passes more = let is = passes refl in absurd cc
taken_step false true q first left rows here fewer passes more = let rest = more refl in rw here (omega arith)
taken_step false false q first left rows here fewer passes more = rw here (more refl)

first_is : (b : Bool) (q : Row → Bool) (first row : Row) (rest : Option Row) → b ≡ true → cond b (Some first) rest ≡ Some row → q row ≡ true → q first ≡ true
first_is true q first row rest is found passes = let same : first ≡ row = cc in rw same passes
first_is false q first row rest is found passes = absurd cc

later_is : (b : Bool) (first row : Row) (rest : Option Row) → b ≡ false → cond b (Some first) rest ≡ Some row → rest ≡ Some row
later_is true first row rest is found = absurd cc
later_is false first row rest is found = found

count_taken : (p q : Row → Bool) (rows : List Row) (row : Row) → find p rows ≡ Some row → q row ≡ true → length (filter q (others p rows)) + 1 ≤ length (filter q rows)
count_taken p q [] row is passes = absurd cc
count_taken p q (first ∷ rows) row is passes =
    taken_step (p first) (q first) q first (others p rows) rows refl (count_filter (λ r. not (p r)) q rows)
    (λ here. first_is (p first) q first row (find p rows) here is passes)
    (λ other. count_taken p q rows row (later_is (p first) first row (find p rows) other is) passes)

any_step : (b any : Bool) (first : Row) (kept : List Row) → any ≡ nat_lt 0 (length kept) → (b || any) ≡ nat_lt 0 (length (cond b (first ∷ kept) kept))
any_step true any first kept rest = grind (arith, nat_tests)
any_step false any first kept rest = rest

-- one passes a test where one at least is counted
pub any_counted : (q : Row → Bool) (rows : List Row) → list_any q rows ≡ nat_lt 0 (length (filter q rows))
any_counted q [] = refl
any_counted q (row ∷ rows) = any_step (q row) (list_any q rows) row (filter q rows) (any_counted q rows)

pub none_counted : (q : Row → Bool) (rows : List Row) → length (filter q rows) ≤ 0 → list_any q rows ≡ false
none_counted q rows few = any_counted q rows ∙ grind (arith, nat_tests)

-- where those that are taken out fail another test, as many pass that as before
other_step : (b : Bool) (q : Row → Bool) (first : Row) (left rows : List Row) → (b ≡ true → q first ≡ false) → list_any q left ≡ list_any q rows → list_any q (cond (not b) (first ∷ left) left) ≡ (q first || list_any q rows)
other_step true q first left rows fails rest = rw (fails refl) rest
other_step false q first left rows fails rest = ap (λ (b : Bool). q first || b) rest

any_taken : (p q : Row → Bool) (rows : List Row) → Each (λ row. p row ≡ true → q row ≡ false) rows → list_any q (others p rows) ≡ list_any q rows
any_taken p q [] fails = refl
any_taken p q (first ∷ rows) fails = other_step (p first) q first (others p rows) rows fails.0 (any_taken p q rows fails.1)

-- the connections of one triad are one
abbrev SameTriad : Row → Row → Type 0
SameTriad a b = same_triad b.triad a.triad ≡ true → a ≡ b

triad_back : (a b : Row) → SameTriad a b → SameTriad b a
triad_back a b is = λ same. sym (is (rw (triad_is a.triad b.triad same) (same_itself b.triad))) where
  same_itself : (triad : Triad) → same_triad triad triad ≡ true
  same_itself triad = grind (arith, nat_tests)

each_apart : (row : Row) (rows : List Row) → list_any (has_triad row.triad) rows ≡ false → Each (SameTriad row) rows
each_apart row [] none = tt
each_apart row (other ∷ rows) none =
    let parts = or_parts (has_triad row.triad other) (list_any (has_triad row.triad) rows) none in
    ((λ same. absurd (let differs = parts.0 in cc)), each_apart row rows parts.1)

all_apart : (rows : List Row) → TriadsDiffer rows → EachTwo SameTriad rows
all_apart [] differ = tt
all_apart (row ∷ rows) differ = (each_apart row rows differ.0, all_apart rows differ.1)

there_step : (b : Bool) (p q : Row → Bool) (first row : Row) (rows : List Row) → cond b (Some first) (find p rows) ≡ Some row → q row ≡ true → (find p rows ≡ Some row → list_any q rows ≡ true) → (q first || list_any q rows) ≡ true
there_step true p q first row rows is passes more = let same : first ≡ row = cc in rw (same, passes) refl
there_step false p q first row rows is passes more = or_right (q first) _ (more is)

any_there : (p q : Row → Bool) (rows : List Row) (row : Row) → find p rows ≡ Some row → q row ≡ true → list_any q rows ≡ true
any_there p q [] row is passes = absurd cc
any_there p q (first ∷ rows) row is passes = there_step (p first) p q first row rows is passes (λ later. any_there p q rows row later passes)

-- ---- a close

pub owner_listens_not : (kind : Kind) → is_owner kind ≡ true → is_listener kind ≡ false
owner_listens_not ExclusiveOwner is = refl
owner_listens_not InputOnly is = refl
owner_listens_not ListenOnly is = absurd cc

-- the listeners that go drive nothing
driver_stays : (rows : List Row) (point : ℕ) (row : Row) → drives point row ≡ true → stays rows row ≡ true
driver_stays rows point row is =
    let owns = (and_parts (is_owner row.kind) _ (and_parts (is_established row) _ is).1).0 in
    stays_step (is_established row) (is_listener row.kind) (not (is_supported rows row.kind row.produced)) (owner_listens_not row.kind owns) where
      stays_step : (a b c : Bool) → b ≡ false → not (a && (b && c)) ≡ true
      stays_step true true c h = absurd cc
      stays_step true false c h = refl
      stays_step false b c h = refl

pub any_staying : (rows : List Row) (point : ℕ) → list_any (drives point) (staying rows) ≡ list_any (drives point) rows
any_staying rows point = any-filter_same (drives point) (stays rows) true (driver_stays rows point) rows

-- a close of what does not drive the output takes no owner from it
pub owner_stays : (triad : Triad) (rows : List Row) (row : Row) (point : ℕ) → TriadsDiffer rows → find (has_triad triad) rows ≡ Some row → drives point row ≡ false → is_lost point rows (staying (without_triad row.triad rows)) ≡ false
owner_stays triad rows row point differ is other =
    let found = found_again triad rows row is in
    let alone = two_found SameTriad triad_back (has_triad row.triad) rows row found (λ _. refl) (all_apart rows differ) in
    let fails = each_weak (λ r. SameTriad r row) (λ r. has_triad row.triad r ≡ true → drives point r ≡ false) (λ r only same. rw (only (triad_turned r.triad row.triad same)) other) rows alone in
    same_owner point rows (staying (without_triad row.triad rows))
    (any_staying (without_triad row.triad rows) point ∙ any_taken (has_triad row.triad) (drives point) rows fails) where
      triad_turned : (a b : Triad) → same_triad a b ≡ true → same_triad b a ≡ true
      triad_turned a b same = grind (arith, nat_tests)

both : (a b : Bool) → a ≡ true → b ≡ false → (a && not b) ≡ true
both true true there removed = absurd cc
both true false there removed = refl
both false b there removed = absurd cc

-- a close of its only driver does
pub owner_closed : (triad : Triad) (rows : List Row) (row : Row) (point : ℕ) → find (has_triad triad) rows ≡ Some row → drives point row ≡ true → length (drivers point rows) ≤ 1 → is_lost point rows (staying (without_triad row.triad rows)) ≡ true
owner_closed triad rows row point is drives_it one =
    let found = found_again triad rows row is in
    let fewer = count_taken (has_triad row.triad) (drives point) rows row found drives_it in
    let few : length (filter (drives point) (without_triad row.triad rows)) ≤ 0 = omega arith in
    both (list_any (drives point) rows) (list_any (drives point) (staying (without_triad row.triad rows)))
    (any_there (has_triad row.triad) (drives point) rows row found drives_it)
    (any_staying (without_triad row.triad rows) point ∙ none_counted (drives point) (without_triad row.triad rows) few)
