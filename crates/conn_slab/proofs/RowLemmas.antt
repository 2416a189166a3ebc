-- Records and the connections that they are, one for one.
use Rattle.std.proofs.Common.{◌≡◌, ◌≤◌, ℕ, ◌+◌, ◌==◌, ◌&&◌, ◌||◌, Bool, true, false, cond, if◌then◌else◌, not, List, [], ◌∷◌, ◌++◌, map, find, filter, length, Option, Some, None, is_some, refl, sym, ap, subst, ◌∙◌, true≢false, suc, arith}
use Rattle.std.specs.List.{AllByRecursion, IsDistinct, list_any}
use Rattle.std.specs.Option.{option_map}
use Rattle.std.proofs.lemmas.Map.Keys.{IsDistinct-head, IsDistinct-tail}
use Rattle.cip_types.specs.declared.names.Triad.{Triad}
use Rattle.cip_types.specs.declared.names.Ms.{Ms}
use Rattle.cip_productions.specs.declared.acceptance.Accepted.{Accepted}
use Rattle.adapter_table.specs.Connections.{Row}
use Rattle.adapter_table.specs.Rows.{Each, has_triad, lives}
use Rattle.adapter_table.specs.Closing.{without_triad}
use Rattle.adapter_table.specs.Sound.{TriadsDiffer, IdsDiffer, GroupsAgree, AllAgree, GroupsAloneShare, Agree, ShareInGroup, has_o_t_id}
use Rattle.adapter_table.specs.Whole.{FitsRow, RowsFit}
use Rattle.mcast_pool.specs.declared.group.Group.{Group}
use Rattle.mcast_pool.specs.Groups.{numbered, left, AreGroups}
use Rattle.conn_slab.specs.declared.record.TriadKey.{TriadKey}
use Rattle.conn_slab.specs.Records.{Record, row_of, record_of, state_of, key_of, key_for, same_key, is_of, source_of, same_source, left_by}
use Rattle.conn_slab.specs.Layout.{IsServed, SharesBy, SharesFound, IsLive, is_number, members, established, IsBalanced}
use Rattle.conn_slab.proofs.Lookups.{exact_keys}
use Rattle.conn_slab.proofs.Numbers.{same_of, itself, other_way}
use Rattle.conn_slab.proofs.Balance.{balanced_left, balanced_same}

-- ---- tests of connections are tests of records

pub back : (a b : ℕ) → a == b ≡ b == a
back a b = split (a == b) refl
  where
    split : (c : Bool) → a == b ≡ c → a == b ≡ b == a
    split true is = is ∙ sym (ap (λ n. b == n) (same_of a b is) ∙ itself b)
    split false is = is ∙ sym (other_way a b is)

pub triad_is : (pool : List Group) (triad : Triad) (r : Record) → has_triad triad (row_of pool r) ≡ is_of (key_for triad) r
triad_is pool triad r = rw (back r.triad.serial triad.serial, back r.triad.vendor triad.vendor, back r.triad.originator triad.originator) refl

pub lives_is : (pool : List Group) (n : Option ℕ) → lives (state_of pool n) ≡ is_some n
lives_is pool None = refl
lives_is pool (Some n) = refl

pub find_rows : (f : Record → Row) (p : Row → Bool) (q : Record → Bool) → ((r : Record) → p (f r) ≡ q r) → (rs : List Record) → find p (map f rs) ≡ option_map f (find q rs)
find_rows f p q same [] = refl
find_rows f p q same (r ∷ rs) = rw (same r) (split (q r) (find_rows f p q same rs))
  where
    split : (b : Bool) → find p (map f rs) ≡ option_map f (find q rs) → cond b (Some (f r)) (find p (map f rs)) ≡ option_map f (cond b (Some r) (find q rs))
    split true rest = refl
    split false rest = rest

pub filter_rows : (f : Record → Row) (p : Row → Bool) (q : Record → Bool) → ((r : Record) → p (f r) ≡ q r) → (rs : List Record) → filter p (map f rs) ≡ map f (filter q rs)
filter_rows f p q same [] = refl
filter_rows f p q same (r ∷ rs) = rw (same r) (split (q r) (filter_rows f p q same rs))
  where
    split : (b : Bool) → filter p (map f rs) ≡ map f (filter q rs) → cond b (f r ∷ filter p (map f rs)) (filter p (map f rs)) ≡ map f (cond b (r ∷ filter q rs) (filter q rs))
    split true rest = ap (λ xs. f r ∷ xs) rest
    split false rest = rest

pub any_rows : (f : Record → Row) (p : Row → Bool) (q : Record → Bool) → ((r : Record) → p (f r) ≡ q r) → (rs : List Record) → list_any p (map f rs) ≡ list_any q rs
any_rows f p q same [] = refl
any_rows f p q same (r ∷ rs) = rw (same r, any_rows f p q same rs) refl

pub without_rows : (pool : List Group) (triad : Triad) (rs : List Record) → without_triad triad (map (row_of pool) rs) ≡ map (row_of pool) (filter (λ r. not (is_of (key_for triad) r)) rs)
without_rows pool triad rs = filter_rows (row_of pool) (λ row. not (has_triad triad row)) (λ r. not (is_of (key_for triad) r)) (λ r. ap not (triad_is pool triad r)) rs

-- ---- one record that passes

-- at most one passes
abbrev pub Lone : (Record → Bool) → List Record → Type 0
Lone test [] = Unit {0}
Lone test (r ∷ rs) = (test r ≡ true → list_any test rs ≡ false) × Lone test rs

none_like : (name : TriadKey) (rs : List Record) → AllByRecursion (λ other. same_key name other ≡ false) (map key_of rs) → list_any (is_of name) rs ≡ false
none_like name [] all = refl
none_like name (r ∷ rs) all = rw all.0 (none_like name rs all.1)

pub lone_name : (name : TriadKey) (rs : List Record) → IsDistinct same_key (map key_of rs) → Lone (is_of name) rs
lone_name name [] distinct = tt
lone_name name (r ∷ rs) distinct = (
  λ is. none_like name rs (subst (λ (n : TriadKey). AllByRecursion (λ other. same_key n other ≡ false) (map key_of rs)) (sym (exact_keys.only name (key_of r) is)) (IsDistinct-head same_key (key_of r) (map key_of rs) distinct)),
  lone_name name rs (IsDistinct-tail same_key (key_of r) (map key_of rs) distinct),
)

-- and fewer pass a test that asks for more
pub lone_less : (test other : Record → Bool) → ((r : Record) → other r ≡ true → test r ≡ true) → (rs : List Record) → Lone test rs → Lone other rs
lone_less test other more [] lone = tt
lone_less test other more (r ∷ rs) lone = (λ is. less rs (lone.0 (more r is)), lone_less test other more rs lone.1)
  where
    less_one : (b c : Bool) (x : Record) (xs : List Record) → test x ≡ b → other x ≡ c → b || list_any test xs ≡ false → (list_any test xs ≡ false → list_any other xs ≡ false) → c || list_any other xs ≡ false
    less_one true c x xs t o none rest = absurd (true≢false none)
    less_one false true x xs t o none rest = absurd (true≢false (sym (more x o) ∙ t))
    less_one false false x xs t o none rest = rest none

    less : (xs : List Record) → list_any test xs ≡ false → list_any other xs ≡ false
    less [] none = refl
    less (x ∷ xs) none = less_one (test x) (other x) x xs refl refl none (less xs)

filter_all : (test : Record → Bool) (rs : List Record) → list_any test rs ≡ false → filter (λ r. not (test r)) rs ≡ rs
filter_all test [] none = refl
filter_all test (r ∷ rs) none = split (test r) refl none (filter_all test rs)
  where
    split : (b : Bool) → test r ≡ b → b || list_any test rs ≡ false → (list_any test rs ≡ false → filter (λ x. not (test x)) rs ≡ rs) → cond (not (test r)) (r ∷ filter (λ x. not (test x)) rs) (filter (λ x. not (test x)) rs) ≡ r ∷ rs
    split true is h rest = absurd (true≢false h)
    split false is h rest = rw is (ap (λ xs. r ∷ xs) (rest h))

some_is : {X : Type 0} {a b : X} → Some a ≡ Some b → a ≡ b
some_is e = cc

pub found_all : (P : Record → Type 0) (test : Record → Bool) (rs : List Record) (r : Record) → find test rs ≡ Some r → AllByRecursion P rs → P r
found_all P test [] r is all = absurd cc
found_all P test (x ∷ rs) r is all = split (test x) refl (λ found. found_all P test rs r found all.1)
  where
    split : (b : Bool) → test x ≡ b → (find test rs ≡ Some r → P r) → P r
    split true passes rest = subst P (some_is (sym (ap (λ b. cond b (Some x) (find test rs)) passes) ∙ is)) all.0
    split false fails rest = rest (sym (ap (λ b. cond b (Some x) (find test rs)) fails) ∙ is)

pub each_filtered : (P : Record → Type 0) (test : Record → Bool) (rs : List Record) → AllByRecursion P rs → AllByRecursion P (filter test rs)
each_filtered P test [] all = tt
each_filtered P test (r ∷ rs) all = split (test r) (each_filtered P test rs all.1)
  where
    split : (b : Bool) → AllByRecursion P (filter test rs) → AllByRecursion P (cond b (r ∷ filter test rs) (filter test rs))
    split true rest = (all.0, rest)
    split false rest = rest

-- a count over the records, each by its producer
sum_by : (Option ℕ → ℕ) → List Record → ℕ
sum_by weigh [] = 0
sum_by weigh (r ∷ rs) = weigh r.state + sum_by weigh rs

members_sum : (n : ℕ) (rs : List Record) → members n rs ≡ sum_by (λ o. if is_number n o then 1 else 0) rs
unfolding sum_by
members_sum n [] = refl
members_sum n (r ∷ rs) = ap (λ m. (if is_number n r.state then 1 else 0) + m) (members_sum n rs)

established_sum : (rs : List Record) → established rs ≡ sum_by (λ o. if is_some o then 1 else 0) rs
unfolding sum_by
established_sum [] = refl
established_sum (r ∷ rs) = ap (λ m. (if is_some r.state then 1 else 0) + m) (established_sum rs)

-- the records without the one that passes
sum_without : (weigh : Option ℕ → ℕ) (test : Record → Bool) (rs : List Record) (r : Record) → Lone test rs → find test rs ≡ Some r → sum_by weigh rs ≡ weigh r.state + sum_by weigh (filter (λ x. not (test x)) rs)
unfolding sum_by
sum_without weigh test [] r lone is = absurd cc
sum_without weigh test (x ∷ rs) r lone is = split (test x) refl (λ found. sum_without weigh test rs r lone.1 found)
  where
    split : (b : Bool) → test x ≡ b → (find test rs ≡ Some r → sum_by weigh rs ≡ weigh r.state + sum_by weigh (filter (λ y. not (test y)) rs))
        → weigh x.state + sum_by weigh rs ≡ weigh r.state + sum_by weigh (cond (not (test x)) (x ∷ filter (λ y. not (test y)) rs) (filter (λ y. not (test y)) rs))
    split true passes rest =
        let same : x ≡ r = some_is (sym (ap (λ b. cond b (Some x) (find test rs)) passes) ∙ is) in
        rw (passes, filter_all test rs (lone.0 passes), same) refl
    split false fails rest =
        let more = rest (sym (ap (λ b. cond b (Some x) (find test rs)) fails) ∙ is) in
        rw fails (omega arith)

abbrev pub stop : Record → Record
stop r = record r { state = None }

pub fewer : (test : Record → Bool) (rs : List Record) → length (filter test rs) ≤ length rs
fewer test [] = omega arith
fewer test (r ∷ rs) = split (test r) (fewer test rs)
  where
    split : (b : Bool) → length (filter test rs) ≤ length rs → length (cond b (r ∷ filter test rs) (filter test rs)) ≤ suc (length rs)
    split true rest = omega arith
    split false rest = omega arith

pub live : (pool : List Group) (r : Record) (n : Option ℕ) → SharesBy pool r n → IsLive pool n
live pool r None shares = tt
live pool r (Some n) shares = found (numbered n pool) shares
  where
    found : (o : Option Group) → SharesFound r o → is_some o ≡ true
    found None never = absurd never
    found (Some group) shared = refl

-- the record of a triad is taken out, and leaves its producer
pub out_of : (pool : List Group) (rs : List Record) (test : Record → Bool) (r : Record) → AreGroups pool → IsBalanced pool rs → Lone test rs → find test rs ≡ Some r
    → IsBalanced (left_by r.state pool) (filter (λ x. not (test x)) rs) × (map (row_of (left_by r.state pool)) (filter (λ x. not (test x)) rs) ≡ map (row_of pool) (filter (λ x. not (test x)) rs))
out_of pool rs test r each balanced lone found = by_producer r.state refl
  where
    rest : List Record
    rest = filter (λ x. not (test x)) rs

    members_are : (n : ℕ) (o : Option ℕ) → r.state ≡ o → members n rs ≡ (if is_number n o then 1 else 0) + members n (filter (λ x. not (test x)) rs)
    members_are n o is =
        members_sum n rs ∙ sum_without (λ o. if is_number n o then 1 else 0) test rs r lone found
        ∙ ap (λ q. (if is_number n q then 1 else 0) + sum_by (λ o. if is_number n o then 1 else 0) (filter (λ x. not (test x)) rs)) is
        ∙ ap (λ m. (if is_number n o then 1 else 0) + m) (sym (members_sum n (filter (λ x. not (test x)) rs)))

    established_are : (o : Option ℕ) → r.state ≡ o → established rs ≡ (if is_some o then 1 else 0) + established (filter (λ x. not (test x)) rs)
    established_are o is =
        established_sum rs ∙ sum_without (λ o. if is_some o then 1 else 0) test rs r lone found
        ∙ ap (λ q. (if is_some q then 1 else 0) + sum_by (λ o. if is_some o then 1 else 0) (filter (λ x. not (test x)) rs)) is
        ∙ ap (λ m. (if is_some o then 1 else 0) + m) (sym (established_sum (filter (λ x. not (test x)) rs)))

    served : AllByRecursion (IsServed pool) (filter (λ x. not (test x)) rs)
    served = each_filtered (IsServed pool) (λ x. not (test x)) rs balanced.served

    by_producer : (o : Option ℕ) → r.state ≡ o → IsBalanced (left_by o pool) (filter (λ x. not (test x)) rs) × (map (row_of (left_by o pool)) (filter (λ x. not (test x)) rs) ≡ map (row_of pool) (filter (λ x. not (test x)) rs))
    by_producer None is = (balanced_same pool rs (filter (λ x. not (test x)) rs) balanced (λ n. members_are n None is) (established_are None is) served, refl)
    by_producer (Some n) is = balanced_left n pool rs (filter (λ x. not (test x)) rs) each balanced (record { members_are = λ m. members_are m (Some n) is; established_are = established_are (Some n) is }) served

-- ---- a connection that fits behind the others

any_last : (p : Row → Bool) (rows : List Row) (row : Row) → list_any p (rows ++ row ∷ []) ≡ false → p row ≡ false
any_last p [] row none = split (p row) none
  where
    split : (b : Bool) → b || false ≡ false → b ≡ false
    split true h = h
    split false h = refl
any_last p (x ∷ rows) row none = split (p x) none (any_last p rows row)
  where
    split : (b : Bool) → b || list_any p (rows ++ row ∷ []) ≡ false → (list_any p (rows ++ row ∷ []) ≡ false → p row ≡ false) → p row ≡ false
    split true h rest = absurd (true≢false h)
    split false h rest = rest h

pub fit_last : (rows : List Row) (row : Row) → RowsFit (rows ++ row ∷ []) → FitsRow row
fit_last [] row fit = fit.0
fit_last (x ∷ rows) row fit = fit_last rows row fit.1

agree_with : (x : Row) (rows : List Row) (row : Row) → AllAgree x (rows ++ row ∷ []) → Agree x row
agree_with x [] row all = all.0
agree_with x (y ∷ rows) row all = agree_with x rows row all.1

pub agree_last : (rows : List Row) (row : Row) → GroupsAgree (rows ++ row ∷ []) → Each (λ x. Agree x row) rows
agree_last [] row all = tt
agree_last (x ∷ rows) row all = (agree_with x rows row all.0, agree_last rows row all.1)

share_with : (x : Row) (rows : List Row) (row : Row) → Each (ShareInGroup x) (rows ++ row ∷ []) → ShareInGroup x row
share_with x [] row all = all.0
share_with x (y ∷ rows) row all = share_with x rows row all.1

pub share_last : (rows : List Row) (row : Row) → GroupsAloneShare (rows ++ row ∷ []) → Each (λ x. ShareInGroup x row) rows
share_last [] row all = tt
share_last (x ∷ rows) row all = (share_with x rows row all.0, share_last rows row all.1)

pub triad_last : (pool : List Group) (rs : List Record) (row : Row) → TriadsDiffer (map (row_of pool) rs ++ row ∷ []) → find (is_of (key_for row.triad)) rs ≡ None
triad_last pool [] row all = refl
triad_last pool (r ∷ rs) row all =
    let apart : has_triad r.triad row ≡ false = any_last (has_triad r.triad) (map (row_of pool) rs) row all.0 in
    rw apart (triad_last pool rs row all.1)

source_apart : (a b c d : ℕ) → b == d ≡ false → c == a && b == d ≡ false
source_apart a b c d is = split (c == a)
  where
    split : (e : Bool) → e && b == d ≡ false
    split true = is
    split false = refl

pub source_last : (pool : List Group) (rs : List Record) (row : Row) → IdsDiffer (map (row_of pool) rs ++ row ∷ []) → find (λ r. same_source (source_of (record_of row)) (source_of r)) rs ≡ None
source_last pool [] row all = refl
source_last pool (r ∷ rs) row all =
    let apart : row.o_t_id.0 == r.o_t_id.0 ≡ false = any_last (has_o_t_id r.o_t_id) (map (row_of pool) rs) row all.0 in
    rw (source_apart r.peer.0 row.o_t_id.0 row.peer.0 r.o_t_id.0 apart) (source_last pool rs row all.1)

pub few_established : (rs : List Record) → established rs ≤ length rs
few_established [] = omega arith
few_established (r ∷ rs) = split (is_some r.state) (few_established rs)
  where
    split : (b : Bool) → established rs ≤ length rs → (if b then 1 else 0) + established rs ≤ suc (length rs)
    split true rest = omega arith
    split false rest = omega arith

pub long_last : (pool : List Group) (rs : List Record) (row : Row) → length (map (row_of pool) rs ++ row ∷ []) ≡ length rs + 1
long_last pool [] row = refl
long_last pool (r ∷ rs) row = let rest = long_last pool rs row in omega arith

-- THE WHOLE

pub lone_items : (name : TriadKey) (rs : List Record) (names : List TriadKey) → map key_of rs ≡ names → IsDistinct same_key names → Lone (is_of name) rs
lone_items name rs names are distinct = lone_name name rs (subst (IsDistinct same_key) (sym are) distinct)

pub length_last : (rs : List Record) (r : Record) → length (rs ++ r ∷ []) ≡ length rs + 1
length_last [] r = refl
length_last (x ∷ rs) r = let rest = length_last rs r in omega arith

-- ---- one record that times out, and one that accepts

map_all : (test : Record → Bool) (rs : List Record) → list_any test rs ≡ false → map (λ r. if test r then stop r else r) rs ≡ rs
map_all test [] none = refl
map_all test (r ∷ rs) none = split (test r) refl none (map_all test rs)
  where
    split : (b : Bool) → test r ≡ b → b || list_any test rs ≡ false → (list_any test rs ≡ false → map (λ x. if test x then stop x else x) rs ≡ rs) → (if test r then stop r else r) ∷ map (λ x. if test x then stop x else x) rs ≡ r ∷ rs
    split true is h rest = absurd (true≢false h)
    split false is h rest = rw is (ap (λ xs. r ∷ xs) (rest h))

sum_stopped : (weigh : Option ℕ → ℕ) → weigh None ≡ 0 → (test : Record → Bool) (rs : List Record) (r : Record) → Lone test rs → find test rs ≡ Some r → sum_by weigh rs ≡ weigh r.state + sum_by weigh (map (λ x. if test x then stop x else x) rs)
unfolding sum_by
sum_stopped weigh none test [] r lone is = absurd cc
sum_stopped weigh none test (x ∷ rs) r lone is = split (test x) refl (λ found. sum_stopped weigh none test rs r lone.1 found)
  where
    split : (b : Bool) → test x ≡ b → (find test rs ≡ Some r → sum_by weigh rs ≡ weigh r.state + sum_by weigh (map (λ y. if test y then stop y else y) rs))
        → weigh x.state + sum_by weigh rs ≡ weigh r.state + sum_by weigh ((if test x then stop x else x) ∷ map (λ y. if test y then stop y else y) rs)
    split true passes rest =
        let same : x ≡ r = some_is (sym (ap (λ b. cond b (Some x) (find test rs)) passes) ∙ is) in
        rw (passes, map_all test rs (lone.0 passes), same) (omega arith)
    split false fails rest =
        let more = rest (sym (ap (λ b. cond b (Some x) (find test rs)) fails) ∙ is) in
        rw fails (omega arith)

served_stopped : (pool : List Group) (test : Record → Bool) (rs : List Record) → AllByRecursion (IsServed pool) rs → AllByRecursion (IsServed pool) (map (λ x. if test x then stop x else x) rs)
served_stopped pool test [] served = tt
served_stopped pool test (r ∷ rs) served = (split (test r), served_stopped pool test rs served.1)
  where
    split : (b : Bool) → IsServed pool (if b then stop r else r)
    split true = tt
    split false = served.0

-- the record that passes has left its producer
pub stopped : (pool : List Group) (rs : List Record) (test : Record → Bool) (r : Record) (number : ℕ) → AreGroups pool → IsBalanced pool rs → Lone test rs → find test rs ≡ Some r → r.state ≡ Some number
    → IsBalanced (left number pool) (map (λ x. if test x then stop x else x) rs) × (map (row_of (left number pool)) (map (λ x. if test x then stop x else x) rs) ≡ map (row_of pool) (map (λ x. if test x then stop x else x) rs))
stopped pool rs test r number each balanced lone found has =
    balanced_left number pool rs (map (λ x. if test x then stop x else x) rs) each balanced
    (record {
      members_are = λ n.
          members_sum n rs ∙ sum_stopped (λ o. if is_number n o then 1 else 0) refl test rs r lone found
          ∙ ap (λ q. (if is_number n q then 1 else 0) + sum_by (λ o. if is_number n o then 1 else 0) (map (λ x. if test x then stop x else x) rs)) has
          ∙ ap (λ m. (if number == n then 1 else 0) + m) (sym (members_sum n (map (λ x. if test x then stop x else x) rs)));
      established_are =
          established_sum rs ∙ sum_stopped (λ o. if is_some o then 1 else 0) refl test rs r lone found
          ∙ ap (λ q. (if is_some q then 1 else 0) + sum_by (λ o. if is_some o then 1 else 0) (map (λ x. if test x then stop x else x) rs)) has
          ∙ ap (λ m. 1 + m) (sym (established_sum (map (λ x. if test x then stop x else x) rs)));
    })
    (served_stopped pool test rs balanced.served)

pub shares_accepted : (pool : List Group) (r : Record) (last : Option Accepted) (deadline : Ms) (n : Option ℕ) → SharesBy pool r n → SharesBy pool (record r { last = last; deadline = deadline }) n
shares_accepted pool r last deadline None shares = tt
shares_accepted pool r last deadline (Some n) shares = found (numbered n pool) shares
  where
    found : (o : Option Group) → SharesFound r o → SharesFound (record r { last = last; deadline = deadline }) o
    found None never = never
    found (Some group) s = record { api = s.api; point = s.point; id = s.id; shared = s.shared }

-- the records that accept stay with their producers
pub accepted_balance : (pool : List Group) (rs : List Record) (test : Record → Bool) (last : Option Accepted) (deadline : Ms) → IsBalanced pool rs → IsBalanced pool (map (λ x. if test x then record x { last = last; deadline = deadline } else x) rs)
accepted_balance pool rs test last deadline balanced = record {
  served = served rs balanced.served;
  counted = λ n. balanced.counted n ∙ sym (counts n rs);
  sum = balanced.sum ∙ sym (sums rs);
}
  where
    served_one : (b : Bool) (r : Record) → IsServed pool r → IsServed pool (if b then record r { last = last; deadline = deadline } else r)
    served_one true r s = shares_accepted pool r last deadline r.state s
    served_one false r s = s

    served : (l : List Record) → AllByRecursion (IsServed pool) l → AllByRecursion (IsServed pool) (map (λ x. if test x then record x { last = last; deadline = deadline } else x) l)
    served [] all = tt
    served (r ∷ l) all = (served_one (test r) r all.0, served l all.1)

    count_one : (b : Bool) (n : ℕ) (r : Record) → ◌≡◌ {A = ℕ} (if is_number n (if b then record r { last = last; deadline = deadline } else r).state then 1 else 0) (if is_number n r.state then 1 else 0)
    count_one true n r = refl
    count_one false n r = refl

    counts : (n : ℕ) (l : List Record) → members n (map (λ x. if test x then record x { last = last; deadline = deadline } else x) l) ≡ members n l
    counts n [] = refl
    counts n (r ∷ l) = rw (count_one (test r) n r, counts n l) refl

    sum_one : (b : Bool) (r : Record) → ◌≡◌ {A = ℕ} (if is_some (if b then record r { last = last; deadline = deadline } else r).state then 1 else 0) (if is_some r.state then 1 else 0)
    sum_one true r = refl
    sum_one false r = refl

    sums : (l : List Record) → established (map (λ x. if test x then record x { last = last; deadline = deadline } else x) l) ≡ established l
    sums [] = refl
    sums (r ∷ l) = rw (sum_one (test r) r, sums l) refl
