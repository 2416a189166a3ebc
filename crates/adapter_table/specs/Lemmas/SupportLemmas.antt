-- No listener is left without support, whichever connection is replaced, appended or closed.
use Rattle.std.proofs.Common.{◌≡◌, ◌<◌, ◌==◌, ℕ, Bool, true, false, cond, not, ◌||◌, ◌&&◌, List, [], ◌∷◌, ◌++◌, filter, find, Option, Some, None, arith, refl, ◌∙◌, ap, inl, inr}
use Rattle.std.specs.List.{list_any}
use Rattle.std.proofs.lemmas.Bool.{cases_Bool, or_parts, and_parts, not-true, or_right, or_left}
use Rattle.std.proofs.lemmas.Bool.Decides.{nat_tests}
use Rattle.std.proofs.lemmas.List.Folds.{list_any-append}
use Rattle.cip_types.specs.declared.names.Triad.{Triad}
use Rattle.adapter_table.specs.Connections.{Row}
use Rattle.cip_productions.specs.declared.kind.Kind.{Kind}
use Rattle.cip_productions.specs.declared.kind.Kind.TheVariants.{ExclusiveOwner, InputOnly, ListenOnly}
use Rattle.cip_productions.specs.Kinds.{is_listener, same_kind}
use Rattle.adapter_table.specs.Rows.{is_established, is_timed_out, has_triad, holds_triad, is_member, supports, is_supported, is_unsupported, others, Each}
use Rattle.adapter_table.specs.Closing.{stays, staying}
use Rattle.adapter_table.specs.Sound.{ListenersAreSupported, OpensBefore, OpeningsRise}
use Rattle.adapter_table.specs.Opening.{is_opened_as, is_replaced_by}
use Rattle.adapter_table.specs.Lemmas.SoundLemmas.{any_filter}
use Rattle.adapter_table.specs.EachLemmas.{each_found}

-- ---- a timed-out one is replaced

-- what passes the test does not live
abbrev pub AreRemoved : (Row → Bool) → List Row → Type 0
AreRemoved p rows = Each (λ row. p row ≡ true → is_established row ≡ false) rows

removed_triad : (triad : Triad) (rows : List Row) → list_any (holds_triad triad) rows ≡ false → AreRemoved (has_triad triad) rows
removed_triad triad [] none = tt
removed_triad triad (row ∷ rows) none =
    let parts = or_parts (holds_triad triad row) (list_any (holds_triad triad) rows) none in
    (λ has. bytes_not (is_established row) (has_triad triad row) parts.0 has, removed_triad triad rows parts.1) where
      bytes_not : (a b : Bool) → (a && b) ≡ false → b ≡ true → a ≡ false
      bytes_not true b h has = absurd cc
      bytes_not false b h has = refl

-- none of an opening number that is earlier than all
removed_later : (found row : Row) (rows : List Row) → found ≡ row → Each (OpensBefore row) rows → AreRemoved (is_opened_as (Some found)) rows
removed_later found row [] is later = tt
removed_later found row (other ∷ rows) is later =
    let before : row.opening < other.opening = later.0 in
    ((λ same. absurd (earlier row.opening other.opening found.opening before (ap (λ (r : Row). r.opening) is) same)), removed_later found row rows is later.1) where
      earlier : (a b c : ℕ) → a < b → c ≡ a → (b == c) ≡ true → ⊥
      earlier a b c less same is = grind (arith, nat_tests)

removed_step : (b : Bool) (row : Row) (found : Option Row) (rows : List Row) → is_timed_out row ≡ b → Each (OpensBefore row) rows → ((other : Row) → found ≡ Some other → row.opening < other.opening) → AreRemoved (is_opened_as found) rows → AreRemoved (is_opened_as (cond b (Some row) found)) (row ∷ rows)
removed_step true row found rows out later after rest = ((λ _. not-true (is_established row) out), removed_later row row rows refl later)
removed_step false row None rows out later after rest = ((λ same. absurd cc), rest)
removed_step false row (Some other) rows out later after rest =
    let before = after other refl in
    ((λ same. absurd (earlier row.opening other.opening before same)), rest) where
      earlier : (a b : ℕ) → a < b → (a == b) ≡ true → ⊥
      earlier a b less same = grind (arith, nat_tests)

-- of the first timed-out one's opening number there is no other
removed_timed_out : (rows : List Row) → OpeningsRise rows → AreRemoved (is_opened_as (find is_timed_out rows)) rows
removed_timed_out [] rise = tt
removed_timed_out (row ∷ rows) rise =
    removed_step (is_timed_out row) row (find is_timed_out rows) rows refl rise.0 (λ other is. each_found (OpensBefore row) is_timed_out rows other is rise.0) (removed_timed_out rows rise.1)

removed_none : (rows : List Row) → AreRemoved (λ _. false) rows
removed_none [] = tt
removed_none (row ∷ rows) = (λ out. absurd cc, removed_none rows)

pub removed_replaced : (b c : Bool) (triad : Triad) (rows : List Row) → list_any (holds_triad triad) rows ≡ false → OpeningsRise rows → AreRemoved (is_replaced_by b c (find is_timed_out rows) triad) rows
removed_replaced true c triad rows none rise = removed_triad triad rows none
removed_replaced false true triad rows none rise = removed_timed_out rows rise
removed_replaced false false triad rows none rise = removed_none rows

-- what lives is still there
kept_step : (b : Bool) (q : Row → Bool) (row : Row) (rows left : List Row) → ((r : Row) → q r ≡ true → is_established r ≡ true) → (b ≡ true → is_established row ≡ false) → list_any q left ≡ list_any q rows → list_any q (cond (not b) (row ∷ left) left) ≡ list_any q (row ∷ rows)
kept_step true q row rows left lives removed rest =
    let dead = removed refl in
    elim (cases_Bool (q row)) [
      | inl t ↦ absurd (let e = lives row t in cc)
      | inr f ↦ rw f rest
    ]
kept_step false q row rows left lives removed rest = ap (λ (x : Bool). q row || x) rest

pub any_kept : (p q : Row → Bool) (rows : List Row) → ((r : Row) → q r ≡ true → is_established r ≡ true) → AreRemoved p rows → list_any q (others p rows) ≡ list_any q rows
any_kept p q [] lives removed = refl
any_kept p q (row ∷ rows) lives removed = kept_step (p row) q row rows (others p rows) lives removed.0 (any_kept p q rows lives removed.1)

supporter_lives : (kind : Kind) (point : ℕ) (row : Row) → supports kind point row ≡ true → is_established row ≡ true
supporter_lives kind point row is = (and_parts (is_established row) _ (and_parts (is_member point row) _ is).0).0

-- ---- a test that holds of each

-- where the rows that fail one test fail another
any_less : (p q : Row → Bool) (rows : List Row) → ((r : Row) → p r ≡ false → q r ≡ false) → list_any p rows ≡ false → list_any q rows ≡ false
any_less p q [] less none = refl
any_less p q (row ∷ rows) less none =
    let parts = or_parts (p row) (list_any p rows) none in
    rw (less row parts.0) (any_less p q rows less parts.1)

-- more rows to support leave no more without support
less_unsupported : (rows more : List Row) → ((kind : Kind) (point : ℕ) → is_supported rows kind point ≡ true → is_supported more kind point ≡ true) → (row : Row) → is_unsupported rows row ≡ false → is_unsupported more row ≡ false
less_unsupported rows more all row none = less_step (is_established row) (is_listener row.kind) (is_supported rows row.kind row.produced) (is_supported more row.kind row.produced) (all row.kind row.produced) none where
  less_step : (a b c d : Bool) → (c ≡ true → d ≡ true) → (a && (b && not c)) ≡ false → (a && (b && not d)) ≡ false
  less_step true true true d more none = rw (more refl) refl
  less_step true true false d more none = absurd cc
  less_step true false c d more none = refl
  less_step false b c d more none = refl

supported_opened : (b c : Bool) (triad : Triad) (rows : List Row) (new : Row) → list_any (holds_triad triad) rows ≡ false → OpeningsRise rows → (kind : Kind) (point : ℕ) → is_supported rows kind point ≡ true → is_supported (others (is_replaced_by b c (find is_timed_out rows) triad) rows ++ new ∷ []) kind point ≡ true
supported_opened b c triad rows new free rise kind point is =
    let kept = any_kept (is_replaced_by b c (find is_timed_out rows) triad) (supports kind point) rows (supporter_lives kind point) (removed_replaced b c triad rows free rise) in
    list_any-append (supports kind point) (others (is_replaced_by b c (find is_timed_out rows) triad) rows) (new ∷ []) ∙ or_left _ _ (kept ∙ is)

-- a listener that is opened is supported
new_supported : (rows more : List Row) (new : Row) → (is_listener new.kind && not (is_supported rows new.kind new.produced)) ≡ false → ((kind : Kind) (point : ℕ) → is_supported rows kind point ≡ true → is_supported more kind point ≡ true) → is_unsupported more new ≡ false
new_supported rows more new alone all = less_unsupported rows more all new (and_less (is_established new) _ alone) where
  and_less : (a b : Bool) → b ≡ false → (a && b) ≡ false
  and_less true b h = h
  and_less false b h = refl

pub listeners_opened : (b c : Bool) (triad : Triad) (rows : List Row) (new : Row) → list_any (holds_triad triad) rows ≡ false → OpeningsRise rows → (is_listener new.kind && not (is_supported rows new.kind new.produced)) ≡ false → ListenersAreSupported rows → ListenersAreSupported (others (is_replaced_by b c (find is_timed_out rows) triad) rows ++ new ∷ [])
listeners_opened b c triad rows new free rise alone supported =
    let all = others (is_replaced_by b c (find is_timed_out rows) triad) rows ++ new ∷ [] in
    let more = supported_opened b c triad rows new free rise in
    let old = any_filter (λ row. not (is_replaced_by b c (find is_timed_out rows) triad row)) (is_unsupported all) rows (any_less (is_unsupported rows) (is_unsupported all) rows (less_unsupported rows all more) supported) in
    let fresh = new_supported rows (others (is_replaced_by b c (find is_timed_out rows) triad) rows ++ new ∷ []) new alone more in
    rw (list_any-append (is_unsupported (others (is_replaced_by b c (find is_timed_out rows) triad) rows ++ new ∷ [])) (others (is_replaced_by b c (find is_timed_out rows) triad) rows) (new ∷ []), old, fresh) refl

-- ---- the listeners that are left alone go

-- who supports a listener is none
supporter_stays : (a b : Kind) → is_listener b ≡ true → not (same_kind a b) ≡ true → is_listener a ≡ false
supporter_stays ExclusiveOwner b is other = refl
supporter_stays InputOnly b is other = refl
supporter_stays ListenOnly ExclusiveOwner is other = absurd cc
supporter_stays ListenOnly InputOnly is other = absurd cc
supporter_stays ListenOnly ListenOnly is other = absurd cc

stays_there : (all : List Row) (kind : Kind) (point : ℕ) (row : Row) → is_listener kind ≡ true → supports kind point row ≡ true → stays all row ≡ true
stays_there all kind point row listens is =
    let other = (and_parts (is_member point row) _ is).1 in
    let not_listener = supporter_stays row.kind kind listens other in
    stays_step (is_established row) (is_listener row.kind) (not (is_supported all row.kind row.produced)) not_listener where
      stays_step : (a b c : Bool) → b ≡ false → not (a && (b && c)) ≡ true
      stays_step true true c h = absurd cc
      stays_step true false c h = refl
      stays_step false b c h = refl

filtered_step : (b : Bool) (q : Row → Bool) (row : Row) (rows kept : List Row) → (q row ≡ true → b ≡ true) → (list_any q rows ≡ true → list_any q kept ≡ true) → list_any q (row ∷ rows) ≡ true → list_any q (cond b (row ∷ kept) kept) ≡ true
filtered_step true q row rows kept is rest any =
    elim (cases_Bool (q row)) [
      | inl t ↦ rw t refl
      | inr f ↦ let later : list_any q rows ≡ true = rw f at any in or_right (q row) _ (rest later)
    ]
filtered_step false q row rows kept is rest any =
    elim (cases_Bool (q row)) [
      | inl t ↦ absurd (let e = is t in cc)
      | inr f ↦ let later : list_any q rows ≡ true = rw f at any in rest later
    ]

supported_left : (all rows : List Row) (kind : Kind) (point : ℕ) → is_listener kind ≡ true → is_supported rows kind point ≡ true → is_supported (filter (stays all) rows) kind point ≡ true
supported_left all [] kind point listens is = absurd cc
supported_left all (row ∷ rows) kind point listens is =
    filtered_step (stays all row) (supports kind point) row rows (filter (stays all) rows) (stays_there all kind point row listens) (supported_left all rows kind point listens) is

left_not_unsupported : (rows : List Row) (row : Row) → is_unsupported rows row ≡ false → is_unsupported (staying rows) row ≡ false
left_not_unsupported rows row none = left_step (is_established row) (is_listener row.kind) (is_supported rows row.kind row.produced) (is_supported (staying rows) row.kind row.produced) (supported_left rows rows row.kind row.produced) none where
  left_step : (a b c d : Bool) → (b ≡ true → c ≡ true → d ≡ true) → (a && (b && not c)) ≡ false → (a && (b && not d)) ≡ false
  left_step true true true d more none = rw (more refl refl) refl
  left_step true true false d more none = absurd cc
  left_step true false c d more none = refl
  left_step false b c d more none = refl

staying_step : (b : Bool) (all : List Row) (row : Row) (kept : List Row) → stays all row ≡ b → list_any (is_unsupported (staying all)) kept ≡ false → list_any (is_unsupported (staying all)) (cond b (row ∷ kept) kept) ≡ false
staying_step true all row kept is rest = rw (left_not_unsupported all row (not_not (is_unsupported all row) is)) rest where
  not_not : (b : Bool) → not b ≡ true → b ≡ false
  not_not true h = absurd cc
  not_not false h = refl
staying_step false all row kept is rest = rest

staying_supported : (all rows : List Row) → list_any (is_unsupported (staying all)) (filter (stays all) rows) ≡ false
staying_supported all [] = refl
staying_supported all (row ∷ rows) = staying_step (stays all row) all row (filter (stays all) rows) refl (staying_supported all rows)

pub listeners_staying : (rows : List Row) → ListenersAreSupported (staying rows)
listeners_staying rows = staying_supported rows rows
