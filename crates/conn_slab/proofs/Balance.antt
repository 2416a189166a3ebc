-- Records and the pool of their producers, as a connection joins its producer or leaves it.
use Rattle.std.proofs.Common.{◌≡◌, ◌≤◌, ℕ, ◌+◌, ◌-◌, ◌^◌, ◌==◌, Bool, true, false, cond, if◌then◌else◌, List, [], ◌∷◌, ◌++◌, map, find, Option, Some, None, is_some, refl, sym, ap, subst, ◌∙◌, true≢false, arith}
use Rattle.std.specs.List.{AllByRecursion}
use Rattle.std.specs.Option.{option_map}
use Rattle.cip_productions.specs.declared.production.Production.{Production}
use Rattle.cip_productions.specs.declared.production.Producer.{Producer}
use Rattle.adapter_table.specs.Connections.{Row}
use Rattle.adapter_table.specs.declared.row.State.{State}
use Rattle.adapter_table.specs.declared.row.State.TheVariants.{Established, TimedOut}
use Rattle.adapter_table.specs.Rows.{Each, lives, is_established, is_member}
use Rattle.adapter_table.specs.Productions.{state_producer, producer_of, producer_number, due_of}
use Rattle.adapter_table.specs.Sound.{Agree, ShareInGroup}
use Rattle.adapter_table.specs.Whole.{FitsRow}
use Rattle.mcast_pool.specs.declared.group.Group.{Group}
use Rattle.mcast_pool.specs.Groups.{has_number, number_of, numbered, serves, begun, one_more, one_less, change_first, joined_group, joined, left, subscribers, AreGroups}
use Rattle.conn_slab.specs.Records.{Record, row_of, record_of, state_of, production_in, entered, entered_with}
use Rattle.conn_slab.specs.Layout.{IsServed, SharesBy, SharesFound, Shares, is_number, members, established, count_in, IsBalanced, MayEnter, MayEnterWith, MayJoin}
use Rattle.conn_slab.proofs.Numbers.{same_of, itself, other_way, both_hold, found_passes, found_too, found_by_number, numbered_more, sum_more, or_else, numbered_begun, sum_begun, left_one, numbered_left, numbered_other, sum_left, some_served}

-- ---- counts

members_last : (n : ℕ) (rs : List Record) (r : Record) → members n (rs ++ r ∷ []) ≡ members n rs + (if is_number n r.state then 1 else 0)
members_last n [] r = omega arith
members_last n (x ∷ rs) r = let rest = members_last n rs r in omega arith

established_last : (rs : List Record) (r : Record) → established (rs ++ r ∷ []) ≡ established rs + (if is_some r.state then 1 else 0)
established_last [] r = omega arith
established_last (x ∷ rs) r = let rest = established_last rs r in omega arith

all_last : (P : Record → Type 0) (rs : List Record) (r : Record) → AllByRecursion P rs → P r → AllByRecursion P (rs ++ r ∷ [])
all_last P [] r all is = (is, tt)
all_last P (x ∷ rs) r all is = (all.0, all_last P rs r all.1 is)

map_last : {A B : Type 0} (f : A → B) (xs : List A) (x : A) → map f (xs ++ x ∷ []) ≡ map f xs ++ f x ∷ []
map_last f [] x = refl
map_last f (y ∷ xs) x = ap (λ ys. f y ∷ ys) (map_last f xs x)

numbered_by : (n : ℕ) (o : Option ℕ) → is_number n o ≡ true → o ≡ Some n
numbered_by n None is = absurd (true≢false (sym is))
numbered_by n (Some m) is = ap (λ k. Some k) (same_of m n is)

-- a record of a group that has some, with what holds of its connection
pub record Witness (n : ℕ) (pool : List Group) (P : Row → Type 0) : Type 0 where
  pub r : Record
  pub has : r.state ≡ Some n
  pub shares : SharesFound r (numbered n pool)
  pub holds : P (row_of pool r)

pub witness : (n : ℕ) (pool : List Group) (P : Row → Type 0) (rs : List Record) → 1 ≤ members n rs → AllByRecursion (IsServed pool) rs → Each P (map (row_of pool) rs) → Witness n pool P
witness n pool P [] some served all = absurd (omega arith)
witness n pool P (r ∷ rs) some served all = split (is_number n r.state) refl some (λ rest. witness n pool P rs rest served.1 all.1)
  where
    split : (b : Bool) → is_number n r.state ≡ b → 1 ≤ (if b then 1 else 0) + members n rs → (1 ≤ members n rs → Witness n pool P) → Witness n pool P
    split true is le rest =
        let has = numbered_by n r.state is in
        record { r = r; has = has; shares = subst (SharesBy pool r) has served.0; holds = all.0 }
    split false is le rest = rest (omega arith)

-- ---- producers that stay

-- the same producer, interval and sharing
pub record IsSame (group other : Group) : Type 0 where
  pub producer : other.producer ≡ group.producer
  pub api : other.api ≡ group.api
  pub shared : other.shared ≡ group.shared

abbrev pub Stays : Option Group → Option Group → Type 0
Stays None new = Unit {0}
Stays (Some group) None = ⊥
Stays (Some group) (Some other) = IsSame group other

stays_itself : (o : Option Group) → Stays o o
stays_itself None = tt
stays_itself (Some group) = record { producer = refl; api = refl; shared = refl }

shares_still : (r : Record) (old new : Option Group) → Stays old new → SharesFound r old → SharesFound r new × (production_in new ≡ production_in old)
shares_still r None new stays shares = absurd shares
shares_still r (Some group) None stays shares = absurd stays
shares_still r (Some group) (Some other) stays shares = (
  record {
    api = stays.api ∙ shares.api;
    point = ap (λ (p : Producer). p.point) stays.producer ∙ shares.point;
    id = ap (λ (p : Producer). p.id) stays.producer ∙ shares.id;
    shared = stays.shared ∙ shares.shared;
  },
  ap (λ (p : Producer). p.production) stays.producer,
)

served_still : (old new : List Group) (r : Record) (n : Option ℕ) → SharesBy old r n → ((m : ℕ) → is_number m n ≡ true → Stays (numbered m old) (numbered m new)) → SharesBy new r n × (state_of new n ≡ state_of old n)
served_still old new r None shares stays = (tt, refl)
served_still old new r (Some n) shares stays =
    let still = shares_still r (numbered n old) (numbered n new) (stays n (itself n)) shares in
    (still.0, ap (λ p. Established p) still.1)

pub rows_still : (old new : List Group) (rs : List Record) → AllByRecursion (IsServed old) rs → ((n : ℕ) → 1 ≤ members n rs → Stays (numbered n old) (numbered n new)) → AllByRecursion (IsServed new) rs × (map (row_of new) rs ≡ map (row_of old) rs)
rows_still old new [] served stays = (tt, refl)
rows_still old new (r ∷ rs) served stays =
    let here = served_still old new r r.state served.0 (λ m is. stays m (first m is)) in
    let rest = rows_still old new rs served.1 (λ m some. stays m (later m (is_number m r.state) some)) in
    let same : row_of new r ≡ row_of old r = ap (λ s. record (row_of old r) { state = s }) here.1 in
    ((here.0, rest.0), rw (same, rest.1) refl)
  where
    first : (m : ℕ) → is_number m r.state ≡ true → 1 ≤ (if is_number m r.state then 1 else 0) + members m rs
    first m is = rw is (omega arith)

    later : (m : ℕ) (b : Bool) → 1 ≤ members m rs → 1 ≤ (if b then 1 else 0) + members m rs
    later m true some = omega arith
    later m false some = omega arith

-- ONE THAT LEAVES

count_left : (o : Option Group) → count_in (left_one o) ≡ count_in o - 1
count_left None = refl
count_left (Some group) = split (group.subscribers == 1) refl
  where
    split : (b : Bool) → group.subscribers == 1 ≡ b → count_in (cond b None (Some (one_less group))) ≡ group.subscribers - 1
    split true is = let one = same_of group.subscribers 1 is in omega arith
    split false is = refl

stays_left : (o : Option Group) → 2 ≤ count_in o → Stays o (left_one o)
stays_left None more = tt
stays_left (Some group) more = split (group.subscribers == 1) refl
  where
    split : (b : Bool) → group.subscribers == 1 ≡ b → Stays (Some group) (cond b None (Some (one_less group)))
    split true is = let one = same_of group.subscribers 1 is in absurd (omega arith)
    split false is = record { producer = refl; api = refl; shared = refl }

in_use : (o : Option Group) → 1 ≤ count_in o → is_some o ≡ true
in_use None some = absurd (omega arith)
in_use (Some group) some = refl

-- the records without one that has left its producer
pub record IsLess (number : ℕ) (before after : List Record) : Type 0 where
  pub members_are : (n : ℕ) → members n before ≡ (if number == n then 1 else 0) + members n after
  pub established_are : established before ≡ 1 + established after

one_less_of : {number : ℕ} {before after : List Record} → IsLess number before after → members number before ≡ 1 + members number after
one_less_of {number} {before} {after} less = less.members_are number ∙ ap (λ b. (if b then 1 else 0) + members number after) (itself number)

pub balanced_left : (number : ℕ) (pool : List Group) (before after : List Record) → AreGroups pool → IsBalanced pool before → IsLess number before after → AllByRecursion (IsServed pool) after
    → IsBalanced (left number pool) after × (map (row_of (left number pool)) after ≡ map (row_of pool) after)
balanced_left number pool before after each balanced less served =
    let still = rows_still pool (left number pool) after served (λ n some. stays n (number == n) refl some) in
    (record { served = still.0; counted = λ n. counts n (number == n) refl; sum = sums }, still.1)
  where
    stays : (n : ℕ) (b : Bool) → number == n ≡ b → 1 ≤ members n after → Stays (numbered n pool) (numbered n (left number pool))
    stays n true is some =
        let same = same_of number n is in
        let count = balanced.counted number in
        let was = one_less_of less in
        let left_over : 1 ≤ members number after = subst (λ (m : ℕ). 1 ≤ members m after) (sym same) some in
        let more : 2 ≤ count_in (numbered number pool) = omega arith in
        subst (λ (m : ℕ). Stays (numbered m pool) (numbered m (left number pool))) same (rw (numbered_left number pool each) (stays_left (numbered number pool) more))
    stays n false is some = rw (numbered_other number n pool (other_way number n is)) (stays_itself (numbered n pool))

    counts : (n : ℕ) (b : Bool) → number == n ≡ b → count_in (numbered n (left number pool)) ≡ members n after
    counts n true is =
        let same = same_of number n is in
        let count = balanced.counted number in
        let was = one_less_of less in
        let now : count_in (numbered number (left number pool)) ≡ count_in (numbered number pool) - 1 = ap count_in (numbered_left number pool each) ∙ count_left (numbered number pool) in
        subst (λ (m : ℕ). count_in (numbered m (left number pool)) ≡ members m after) same (omega arith)
    counts n false is =
        let count = balanced.counted n in
        let was : members n before ≡ 0 + members n after = less.members_are n ∙ ap (λ b. (if b then 1 else 0) + members n after) is in
        let now : count_in (numbered n (left number pool)) ≡ count_in (numbered n pool) = ap count_in (numbered_other number n pool (other_way number n is)) in
        omega arith

    sums : subscribers (left number pool) ≡ established after
    sums =
        let count = balanced.counted number in
        let was = one_less_of less in
        let sum = sum_left number pool each (in_use (numbered number pool) (omega arith)) in
        let all = balanced.sum in
        let less_all = less.established_are in
        omega arith

-- where none has left a producer
pub balanced_same : (pool : List Group) (before after : List Record) → IsBalanced pool before → ((n : ℕ) → members n before ≡ 0 + members n after) → established before ≡ 0 + established after → AllByRecursion (IsServed pool) after → IsBalanced pool after
balanced_same pool before after balanced counts sum served =
    record { served = served; counted = λ n. let a = balanced.counted n in let b = counts n in omega arith; sum = let a = balanced.sum in omega arith }

-- ONE THAT JOINS

-- a pool that has one connection more for the producer of a number
record HasMore (number : ℕ) (old new : List Group) (r : Record) (production : Production) : Type 0 where
  stays : (n : ℕ) → Stays (numbered n old) (numbered n new)
  counts : (n : ℕ) → count_in (numbered n new) ≡ count_in (numbered n old) + (if number == n then 1 else 0)
  sum : subscribers new ≡ subscribers old + 1
  shares : SharesFound r (numbered number new)
  same : production_in (numbered number new) ≡ production

-- what a connection that is put last makes of the records and the pool
abbrev Joins : Row → State → List Group → List Group → List Record → Type 0
Joins row s pool new rs =
    IsBalanced new (rs ++ record (record_of row) { state = producer_number s } ∷ [])
    × (map (row_of new) (rs ++ record (record_of row) { state = producer_number s } ∷ []) ≡ map (row_of pool) rs ++ record row { state = s } ∷ [])

joins : (row : Row) (p : Production) (pool new : List Group) (rs : List Record) → IsBalanced pool rs → HasMore p.producer pool new (record (record_of row) { state = Some p.producer }) p → Joins row (Established p) pool new rs
joins row p pool new rs balanced more =
    let opened : Record = record (record_of row) { state = Some p.producer } in
    let still = rows_still pool new rs balanced.served (λ n some. more.stays n) in (
      record {
        served = all_last (IsServed new) rs opened still.0 more.shares;
        counted = λ n. let a = more.counts n in let b = balanced.counted n in let c = members_last n rs opened in omega arith;
        sum = let a = more.sum in let b = balanced.sum in let c = established_last rs opened in omega arith;
      },
      map_last (row_of new) rs opened ∙ ap (λ rows. rows ++ row_of new opened ∷ []) still.1 ∙ ap (λ q. map (row_of pool) rs ++ record row { state = Established q } ∷ []) more.same,
    )

stays_or : (o x : Option Group) → Stays o (or_else o x)
stays_or None x = tt
stays_or (Some group) x = record { producer = refl; api = refl; shared = refl }

stays_more : (b : Bool) (o : Option Group) → Stays o (if b then option_map one_more o else o)
stays_more true None = tt
stays_more true (Some group) = record { producer = refl; api = refl; shared = refl }
stays_more false o = stays_itself o

count_more : (b : Bool) (o : Option Group) → (b ≡ true → is_some o ≡ true) → count_in (if b then option_map one_more o else o) ≡ count_in o + (if b then 1 else 0)
count_more true None some = absurd (true≢false (sym (some refl)))
count_more true (Some group) some = refl
count_more false o some = omega arith

member_of : (x : Row) (point : ℕ) → is_established x ≡ true → x.multicast ≡ true → x.produced ≡ point → is_member point x ≡ true
member_of x point lives shared is = rw (lives, shared, is) (itself point)

module _ (row : Row) (p : Production) (pool : List Group) (rs : List Record) (each : AreGroups pool) (balanced : IsBalanced pool rs) (is : row.state ≡ Established p)
    (agree : Each (λ x. Agree x row) (map (row_of pool) rs)) (share : Each (λ x. ShareInGroup x row) (map (row_of pool) rs)) where
  abbrev new : Group
  new = begun (record { point = row.produced; id = row.t_o_id; production = p }) row.multicast row.t_o_api_ms

  abbrev opened : Record
  opened = record (record_of row) { state = Some p.producer }

  lives_row : is_established row ≡ true
  lives_row = ap lives is

  state_there : (r : Record) (n : ℕ) (group : Group) → r.state ≡ Some n → numbered n pool ≡ Some group → (row_of pool r).state ≡ Established group.producer.production
  state_there r n group has found = ap (state_of pool) has ∙ ap (λ o. Established (production_in o)) found

  -- another connection has the number, and so they share the producer of an input
  unused_by : (found : Option Group) → numbered p.producer pool ≡ found → joined_group row.multicast row.produced pool ≡ None → found ≡ None
  unused_by None at none = refl
  unused_by (Some group) at none =
      let count = balanced.counted p.producer in
      let served = some_served p.producer pool group each at in
      let here : count_in (numbered p.producer pool) ≡ group.subscribers = ap count_in at in
      let w = witness p.producer pool (λ x. ShareInGroup x row) rs (omega arith) balanced.served share in
      let state = state_there w.r p.producer group w.has at in
      let number : number_of group ≡ p.producer = same_of (number_of group) p.producer (found_passes (has_number p.producer) pool group at) in
      let one = w.holds (ap lives state) lives_row (ap producer_of state ∙ number ∙ sym (ap producer_of is)) in
      let shares : Shares w.r group = subst (SharesFound w.r) at w.shares in
      let open_to : serves row.produced group ≡ true = rw (shares.shared ∙ one.first, shares.point ∙ one.input) (itself row.produced) in
      let none' : find (serves row.produced) pool ≡ None = ap (λ b. joined_group b row.produced pool) (sym one.second) ∙ none in
      absurd (found_too (has_number p.producer) (serves row.produced) pool group at open_to none')

  unused : joined_group row.multicast row.produced pool ≡ None → numbered p.producer pool ≡ None
  unused none = unused_by (numbered p.producer pool) refl none

  begins : joined_group row.multicast row.produced pool ≡ None → HasMore p.producer pool (pool ++ new ∷ []) opened p
  begins none =
      let at : numbered p.producer (pool ++ new ∷ []) ≡ Some new = numbered_begun pool new p.producer ∙ ap (λ o. or_else o (if p.producer == p.producer then Some new else None)) (unused none) ∙ ap (λ b. if b then Some new else None) (itself p.producer) in
      record {
        stays = λ n. subst (Stays (numbered n pool)) (sym (numbered_begun pool new n)) (stays_or (numbered n pool) (if p.producer == n then Some new else None));
        counts = λ n. ap count_in (numbered_begun pool new n) ∙ counts n (p.producer == n) refl;
        sum = sum_begun pool new;
        shares = subst (SharesFound opened) (sym at) (record { api = refl; point = refl; id = refl; shared = refl });
        same = ap production_in at;
      }
    where
      counts : (n : ℕ) (b : Bool) → p.producer == n ≡ b → count_in (or_else (numbered n pool) (if p.producer == n then Some new else None)) ≡ count_in (numbered n pool) + (if p.producer == n then 1 else 0)
      counts n true same =
          let removed : numbered n pool ≡ None = ap (λ m. numbered m pool) (sym (same_of p.producer n same)) ∙ unused none in
          rw (same, removed) refl
      counts n false same = rw same (stay (numbered n pool))
        where
          stay : (o : Option Group) → count_in (or_else o None) ≡ count_in o + 0
          stay None = refl
          stay (Some group) = omega arith

  joins_group : (group : Group) → row.multicast ≡ true → find (serves row.produced) pool ≡ Some group → HasMore p.producer pool (change_first (serves row.produced) one_more pool) opened p
  joins_group group shared found =
      let at = found_by_number (serves row.produced) pool group each found in
      let count = balanced.counted (number_of group) in
      let served = some_served (number_of group) pool group each at in
      let here : count_in (numbered (number_of group) pool) ≡ group.subscribers = ap count_in at in
      let w = witness (number_of group) pool (λ x. Agree x row) rs (omega arith) balanced.served agree in
      let shares : Shares w.r group = subst (SharesFound w.r) at w.shares in
      let state = state_there w.r (number_of group) group w.has at in
      let serving = both_hold group.shared (group.producer.point == row.produced) (found_passes (serves row.produced) pool group found) in
      let point : w.r.produced ≡ row.produced = sym shares.point ∙ same_of group.producer.point row.produced serving.1 in
      let joined_there = w.holds (member_of (row_of pool w.r) w.r.produced (ap lives state) (sym shares.shared ∙ serving.0) refl) (member_of row w.r.produced lives_row shared (sym point)) in
      let productions : Established group.producer.production ≡ Established p = sym state ∙ joined_there.state ∙ is in
      let production : group.producer.production ≡ p = same_production productions in
      let number : p.producer ≡ number_of group = ap (λ (q : Production). q.producer) (sym production) in
      let there : numbered p.producer (change_first (serves row.produced) one_more pool) ≡ Some (one_more group) =
      numbered_more (serves row.produced) pool group each found p.producer
      ∙ ap (λ b. if b then option_map one_more (numbered p.producer pool) else numbered p.producer pool) (ap (λ n. number_of group == n) number ∙ itself (number_of group))
      ∙ ap (option_map one_more) (ap (λ n. numbered n pool) number ∙ at) in
      record {
        stays = λ n. subst (Stays (numbered n pool)) (sym (numbered_more (serves row.produced) pool group each found n)) (stays_more (number_of group == n) (numbered n pool));
        counts = λ n. ap count_in (numbered_more (serves row.produced) pool group each found n)
            ∙ count_more (number_of group == n) (numbered n pool) (λ same. ap is_some (ap (λ m. numbered m pool) (sym (same_of (number_of group) n same)) ∙ at))
            ∙ ap (λ m. count_in (numbered n pool) + (if m == n then 1 else 0)) (sym number);
        sum = sum_more (serves row.produced) pool group found;
        shares = subst (SharesFound opened) (sym there) (record {
          api = shares.api ∙ joined_there.api;
          point = shares.point ∙ point;
          id = shares.id ∙ joined_there.id;
          shared = serving.0 ∙ sym shared;
        });
        same = ap production_in there ∙ production;
      }
    where
      same_production : {q r : Production} → Established q ≡ Established r → q ≡ r
      same_production e = cc

  opens : FitsRow row → MayJoin (record { point = row.produced; id = row.t_o_id; production = p }) row.multicast row.t_o_api_ms pool × Joins row (Established p) pool (joined new pool) rs
  opens fits =
      let due : p.due.0 ≤ 2 ^ 48 + 10000 = subst (λ (n : ℕ). n ≤ 2 ^ 48 + 10000) (ap due_of is) fits.due in (
        record { fits = record { api = fits.t_o_api_ms; due = due }; unused = unused },
        joins row p pool (joined new pool) rs balanced (split (joined_group row.multicast row.produced pool) refl),
      )
    where
      by_sharing : (b : Bool) (group : Group) → row.multicast ≡ b → joined_group b row.produced pool ≡ Some group → (row.multicast ≡ true) × (find (serves row.produced) pool ≡ Some group)
      by_sharing false group shared found = absurd cc
      by_sharing true group shared found = (shared, found)

      split : (found : Option Group) → joined_group row.multicast row.produced pool ≡ found → HasMore p.producer pool (joined new pool) opened p
      split None none = rw none (begins none)
      split (Some group) found = let by = by_sharing row.multicast group refl found in rw found (joins_group group by.0 by.1)

timed : (row : Row) (pool : List Group) (rs : List Record) → IsBalanced pool rs → Joins row TimedOut pool pool rs
timed row pool rs balanced =
    let opened : Record = record (record_of row) { state = None } in (
      record {
        served = all_last (IsServed pool) rs opened balanced.served tt;
        counted = λ n. let a = balanced.counted n in let b = members_last n rs opened in omega arith;
        sum = let a = balanced.sum in let b = established_last rs opened in omega arith;
      },
      map_last (row_of pool) rs opened,
    )

-- a connection that fits is put last
pub enters : (row : Row) (pool : List Group) (rs : List Record) → AreGroups pool → IsBalanced pool rs → FitsRow row → Each (λ x. Agree x row) (map (row_of pool) rs) → Each (λ x. ShareInGroup x row) (map (row_of pool) rs)
    → MayEnter row pool × IsBalanced (entered row pool) (rs ++ record_of row ∷ []) × (map (row_of (entered row pool)) (rs ++ record_of row ∷ []) ≡ map (row_of pool) rs ++ row ∷ [])
enters row pool rs each balanced fits agree share = let all = by_state row.state refl in (all.0, all.1.0, all.1.1)
  where
    by_state : (s : State) → row.state ≡ s → MayEnterWith row (state_producer row s) pool × Joins row s pool (entered_with row (state_producer row s) pool) rs
    by_state TimedOut is = (tt, timed row pool rs balanced)
    by_state (Established p) is = opens row p pool rs each balanced is agree share fits
