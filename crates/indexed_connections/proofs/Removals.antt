-- Running counts as connections are removed, time out and change.
use Rattle.std.proofs.Common.{◌≡◌, ◌≤◌, ◌<◌, ℕ, ◌+◌, ◌==◌, ◌&&◌, ◌||◌, Bool, true, false, cond, not, List, [], ◌∷◌, ◌++◌, map, filter, find, length, Option, Some, None, refl, sym, ap, subst, ◌∙◌, arith}
use Rattle.std.specs.List.{list_any}
use Rattle.std.proofs.lemmas.Bool.Decides.{nat_tests}
use Rattle.cip_types.specs.declared.names.Triad.{Triad}
use Rattle.cip_productions.specs.declared.kind.Kind.{Kind}
use Rattle.cip_productions.specs.declared.kind.Kind.TheVariants.{ListenOnly}
use Rattle.cip_productions.specs.Kinds.{is_owner, same_kind}
use Rattle.adapter_table.specs.Connections.{Row}
use Rattle.adapter_table.specs.Rows.{is_established, has_triad, drives, supports}
use Rattle.adapter_table.specs.Closing.{without_triad}
use Rattle.adapter_table.specs.Sound.{TriadsDiffer}
use Rattle.conn_slab.specs.Connections.{without, timed_out, timed_out_if}
use Rattle.app_rules.specs.Counts.{Counts, total, is_driver, is_supporter, AreCounted, HasJoined}
use Rattle.indexed_connections.specs.CountChanges.{named, HaveJoined, AreLess}
use Rattle.indexed_connections.specs.List.Lone.{some_is, neither, triad_only}
use Rattle.indexed_connections.specs.List.Removals.{all_stay}

-- ---- a connection that is found is among others

not_found : (b : Bool) (test : Row → Bool) (x : Row) (rows : List Row) → test x ≡ b → find test (x ∷ rows) ≡ cond b (Some x) (find test rows)
not_found b test x rows is = ap (λ c. cond c (Some x) (find test rows)) is

pub not_out : (b c : Bool) (row : Row) → c ≡ false → cond (b && c) (timed_out row) row ≡ row
not_out true c row is = rw is refl
not_out false c row is = refl

pub none_out : (triad : Triad) (rows : List Row) → list_any (has_triad triad) rows ≡ false → map (timed_out_if triad) rows ≡ rows
none_out triad [] none = refl
none_out triad (row ∷ rows) none =
    let parts = neither (has_triad triad row) (list_any (has_triad triad) rows) none in
    rw (not_out (is_established row) (has_triad triad row) row parts.0) (ap (λ (l : List Row). row ∷ l) (none_out triad rows parts.1))

-- the connection of a triad, and those before and behind it
pub record IsAmong (triad : Triad) (rows : List Row) (row : Row) : Type 0 where
  pub front : List Row
  pub back : List Row
  pub has : has_triad triad row ≡ true
  pub whole : rows ≡ front ++ row ∷ back
  pub rest : without_triad triad rows ≡ front ++ back
  pub out : map (timed_out_if triad) rows ≡ front ++ timed_out_if triad row ∷ back

among_first : (triad : Triad) (x row : Row) (rows : List Row) → has_triad triad x ≡ true → list_any (has_triad x.triad) rows ≡ false → x ≡ row → IsAmong triad (x ∷ rows) row
among_first triad x row rows has none same =
    let is : x.triad ≡ triad = triad_only x.triad triad has in
    let others : list_any (has_triad triad) rows ≡ false = subst (λ (t : Triad). list_any (has_triad t) rows ≡ false) is none in
    record {
      front = [];
      back = rows;
      has = subst (λ (r : Row). has_triad triad r ≡ true) same has;
      whole = ap (λ (r : Row). r ∷ rows) same;
      rest = rw has (all_stay (has_triad triad) rows others);
      out = ap (λ (l : List Row). timed_out_if triad x ∷ l) (none_out triad rows others) ∙ ap (λ (r : Row). timed_out_if triad r ∷ rows) same;
    }

among_later : (triad : Triad) (x row : Row) (rows : List Row) → has_triad triad x ≡ false → IsAmong triad rows row → IsAmong triad (x ∷ rows) row
among_later triad x row rows has_not among = record {
  front = x ∷ among.front;
  back = among.back;
  has = among.has;
  whole = ap (λ (l : List Row). x ∷ l) among.whole;
  rest = rw has_not (ap (λ (l : List Row). x ∷ l) among.rest);
  out = rw (not_out (is_established x) (has_triad triad x) x has_not) (ap (λ (l : List Row). x ∷ l) among.out);
}

pub among : (triad : Triad) (rows : List Row) (row : Row) → TriadsDiffer rows → find (has_triad triad) rows ≡ Some row → IsAmong triad rows row
among triad [] row differ is = absurd cc
among triad (x ∷ rows) row differ is = split (has_triad triad x) refl (among triad rows row differ.1)
  where
    split : (b : Bool) → has_triad triad x ≡ b → (find (has_triad triad) rows ≡ Some row → IsAmong triad rows row) → IsAmong triad (x ∷ rows) row
    split true has rest = among_first triad x row rows has differ.0 (some_is (sym (not_found true (has_triad triad) x rows has) ∙ is))
    split false has_not rest = among_later triad x row rows has_not (rest (sym (not_found false (has_triad triad) x rows has_not) ∙ is))

none_any : (test : Row → Bool) (rows : List Row) → find test rows ≡ None → list_any test rows ≡ false
none_any test [] none = refl
none_any test (row ∷ rows) none = split (test row) refl (none_any test rows)
  where
    split : (b : Bool) → test row ≡ b → (find test rows ≡ None → list_any test rows ≡ false) → (test row || list_any test rows) ≡ false
    split true here rest = let some : find test (row ∷ rows) ≡ Some row = not_found true test row rows here in absurd cc
    split false fails rest = rw fails (rest (sym (not_found false test row rows fails) ∙ none))

-- ---- counts of some, and of others

some_passes : (test : Row → Bool) (front : List Row) (row : Row) (back : List Row) → test row ≡ true → 1 ≤ length (filter test (front ++ row ∷ back))
some_passes test [] row back is = rw is (omega arith)
some_passes test (x ∷ front) row back is = split (test x) (some_passes test front row back is)
  where
    split : (b : Bool) → 1 ≤ length (filter test (front ++ row ∷ back)) → 1 ≤ length (cond b (x ∷ filter test (front ++ row ∷ back)) (filter test (front ++ row ∷ back)))
    split true rest = omega arith
    split false rest = rest

uncounted : (test : Row → Bool) (front : List Row) (row : Row) (back : List Row) → test row ≡ false → filter test (front ++ row ∷ back) ≡ filter test (front ++ back)
uncounted test [] row back is = rw is refl
uncounted test (x ∷ front) row back is = rw (uncounted test front row back is) refl

pub no_longer : (test : Row → Bool) (rows : List Row) → length (filter test rows) ≤ length rows
no_longer test [] = omega arith
no_longer test (row ∷ rows) = split (test row) (no_longer test rows)
  where
    split : (b : Bool) → length (filter test rows) ≤ length rows → length (cond b (row ∷ filter test rows) (filter test rows)) ≤ length (row ∷ rows)
    split true rest = omega arith
    split false rest = omega arith

joined_among : (counts : Counts) (front : List Row) (row : Row) (back : List Row) → AreCounted counts (front ++ row ∷ back) → HasJoined row counts
joined_among counts front row back counted = record {
  owner = λ is. let some = some_passes (drives row.consumed) front row back is in let same = counted.owners row.consumed in omega arith;
  supporter = λ is. let some = some_passes (supports ListenOnly row.produced) front row back is in let same = counted.supporters row.produced in omega arith;
}

idle_drives : (b : Bool) (kind : Kind) (own point : ℕ) → b ≡ false → (b && (is_owner kind && own == point)) ≡ false
idle_drives b kind own point is = rw is refl

idle_supports : (b m s : Bool) (own point : ℕ) → b ≡ false → ((b && (m && own == point)) && s) ≡ false
idle_supports b m s own point is = rw is refl

-- one that has timed out is not counted
pub idle_joined : (counts : Counts) (front : List Row) (row : Row) (back : List Row) → is_established row ≡ false → AreCounted counts (front ++ back) → AreCounted counts (front ++ row ∷ back)
idle_joined counts front row back idle counted =
    let drives_not : (point : ℕ) → drives point row ≡ false = λ point. idle_drives (is_established row) row.kind row.consumed point idle in
    let supports_not : (point : ℕ) → supports ListenOnly point row ≡ false = λ point. idle_supports (is_established row) row.multicast (not (same_kind row.kind ListenOnly)) row.produced point idle in
    record {
      owners = λ point. counted.owners point ∙ ap (λ (l : List Row). length l) (sym (uncounted (drives point) front row back (drives_not point)));
      supporters = λ point. counted.supporters point ∙ ap (λ (l : List Row). length l) (sym (uncounted (supports ListenOnly point) front row back (supports_not point)));
      all_owners = counted.all_owners ∙ ap (λ (l : List Row). length l) (sym (uncounted is_driver front row back (drives_not row.consumed)));
      all_supporters = counted.all_supporters ∙ ap (λ (l : List Row). length l) (sym (uncounted is_supporter front row back (supports_not row.produced)));
    }

-- ---- one goes

pub have_joined : (counts : Counts) (removed : Option Triad) (rows : List Row) (row : Option Row) → TriadsDiffer rows → row ≡ named removed rows → AreCounted counts rows → HaveJoined row counts
have_joined counts removed rows None differ is counted = tt
have_joined counts None rows (Some row) differ is counted = absurd cc
have_joined counts (Some triad) rows (Some row) differ is counted =
    let a = among triad rows row differ (sym is) in
    joined_among counts a.front row a.back (subst (AreCounted counts) a.whole counted)

pub less : (old new : Counts) (removed : Option Triad) (rows : List Row) (row : Option Row) → TriadsDiffer rows → row ≡ named removed rows → AreLess row old new → AreCounted old rows → AreCounted new (without removed rows)
less old new None rows None differ is are counted = subst (λ (c : Counts). AreCounted c rows) (sym are) counted
less old new None rows (Some row) differ is are counted = absurd cc
less old new (Some triad) rows None differ is are counted =
    subst (AreCounted new) (sym (all_stay (has_triad triad) rows (none_any (has_triad triad) rows (sym is)))) (subst (λ (c : Counts). AreCounted c rows) (sym are) counted)
less old new (Some triad) rows (Some row) differ is are counted =
    let a = among triad rows row differ (sym is) in
    subst (AreCounted new) (sym a.rest) (are a.front a.back (subst (AreCounted old) a.whole counted))

-- ---- one times out

out_idle : (b : Bool) (triad : Triad) (row : Row) → has_triad triad row ≡ true → is_established row ≡ b → is_established (timed_out_if triad row) ≡ false
out_idle true triad row has is = rw (is, has) refl
out_idle false triad row has is = rw is is

pub less_out : (old new : Counts) (triad : Triad) (rows : List Row) (row : Option Row) → TriadsDiffer rows → row ≡ find (has_triad triad) rows → AreLess row old new → AreCounted old rows → AreCounted new (map (timed_out_if triad) rows)
less_out old new triad rows None differ is are counted =
    subst (AreCounted new) (sym (none_out triad rows (none_any (has_triad triad) rows (sym is)))) (subst (λ (c : Counts). AreCounted c rows) (sym are) counted)
less_out old new triad rows (Some row) differ is are counted =
    let a = among triad rows row differ (sym is) in
    let left : AreCounted new (a.front ++ a.back) = are a.front a.back (subst (AreCounted old) a.whole counted) in
    subst (AreCounted new) (sym a.out) (idle_joined new a.front (timed_out_if triad row) a.back (out_idle (is_established row) triad row a.has refl) left)

-- ---- what follows from counts

-- where there are few, few are counted
pub few_counted : (counts : Counts) (rows : List Row) → length rows < 64 → AreCounted counts rows → (total counts.owners < 64) × (total counts.supporters < 64)
few_counted counts rows few counted = (
  let some = no_longer is_driver rows in let same = counted.all_owners in omega arith,
  let some = no_longer is_supporter rows in let same = counted.all_supporters in omega arith,
)

positive : (n m : ℕ) → n ≡ m + 1 → not (n == 0) ≡ true
positive n m is = grind (arith, nat_tests)

pub any_counted : (test : Row → Bool) (rows : List Row) (n : ℕ) → n ≡ length (filter test rows) → not (n == 0) ≡ list_any test rows
any_counted test [] n is = rw is refl
any_counted test (row ∷ rows) n is = split (test row) is (any_counted test rows n)
  where
    split : (b : Bool) → n ≡ length (cond b (row ∷ filter test rows) (filter test rows)) → (n ≡ length (filter test rows) → not (n == 0) ≡ list_any test rows) → not (n == 0) ≡ (b || list_any test rows)
    split true is rest = positive n (length (filter test rows)) (omega arith)
    split false is rest = rest is
