-- A producer of a pool passes a test where the producer of a connection does: it is due, or produces at a change of state.
use Rattle.std.proofs.Common.{◌≡◌, ℕ, Bool, true, false, cond, ◌||◌, ◌&&◌, ◌==◌, List, [], ◌∷◌, map, find, Option, Some, None, refl, sym, ap, subst, ◌∙◌, true≢false, arith}
use Rattle.std.specs.List.{list_any, AllByRecursion}
use Rattle.std.proofs.lemmas.Bool.{or_left, or_right}
use Rattle.cip_types.specs.declared.names.Ms.{Ms}
use Rattle.adapter_table.specs.Connections.{Row}
use Rattle.adapter_table.specs.Connections.{with_state}
use Rattle.adapter_table.specs.declared.row.State.{State}
use Rattle.adapter_table.specs.declared.row.State.TheVariants.{Established, TimedOut}
use Rattle.adapter_table.specs.Rows.{Each}
use Rattle.adapter_table.specs.Productions.{produces_on_change}
use Rattle.adapter_table.specs.Productions as rows
use Rattle.cip_productions.specs.Productions.{is_produced_on_change}
use Rattle.mcast_pool.specs.declared.group.Group.{Group}
use Rattle.mcast_pool.specs.Groups.{has_number, number_of, numbered, is_due, is_at_once, AreGroups}
use Rattle.conn_slab.specs.Records.{Record, row_of, state_of, production_in}
use Rattle.conn_slab.specs.Layout.{IsServed, Shares, SharesBy, SharesFound, count_in, IsBalanced}
use Rattle.conn_slab.specs.Connections.{is_changing}
use Rattle.conn_slab.specs.Producing.{group_changes}
use Rattle.conn_slab.proofs.Numbers.{found_passes, found_by_number, some_served}
use Rattle.conn_slab.proofs.Balance.{witness}

-- ---- a connection's is one of the pool

any_of : (p test : Group → Bool) (pool : List Group) (g : Group) → find p pool ≡ Some g → test g ≡ true → list_any test pool ≡ true
any_of p test [] g is passes = absurd cc
any_of p test (x ∷ pool) g is passes = split (p x) refl (any_of p test pool g)
  where
    split : (b : Bool) → p x ≡ b → (find p pool ≡ Some g → test g ≡ true → list_any test pool ≡ true) → (test x || list_any test pool) ≡ true
    split true here rest =
        let found : Some x ≡ Some g = sym (ap (λ b. cond b (Some x) (find p pool)) here) ∙ is in
        let same : x ≡ g = cc in
        or_left (test x) (list_any test pool) (ap test same ∙ passes)
    split false fails rest = or_right (test x) (list_any test pool) (rest (sym (ap (λ b. cond b (Some x) (find p pool)) fails) ∙ is) passes)

-- a test of groups says of each what a test of connections says of those that share its producer
pub record Alike (test : Group → Bool) (row_test : Row → Bool) : Type 0 where
  pub same : (r : Record) (g : Group) → Shares r g → row_test (with_state (Established g.producer.production) r) ≡ test g
  pub none : (r : Record) → row_test (with_state TimedOut r) ≡ false

by_group : (test : Group → Bool) (row_test : Row → Bool) → Alike test row_test → (pool : List Group) (r : Record) (n : ℕ) (o : Option Group) → numbered n pool ≡ o → SharesFound r o → row_test (with_state (Established (production_in o)) r) ≡ true → list_any test pool ≡ true
by_group test row_test alike pool r n None at shares passes = absurd shares
by_group test row_test alike pool r n (Some g) at shares passes = any_of (has_number n) test pool g at (sym (alike.same r g shares) ∙ passes)

by_number : (test : Group → Bool) (row_test : Row → Bool) → Alike test row_test → (pool : List Group) (r : Record) (o : Option ℕ) → SharesBy pool r o → row_test (with_state (state_of pool o) r) ≡ true → list_any test pool ≡ true
by_number test row_test alike pool r None shares passes = absurd (true≢false (sym passes ∙ alike.none r))
by_number test row_test alike pool r (Some n) shares passes = by_group test row_test alike pool r n (numbered n pool) refl shares passes

in_pool : (test : Group → Bool) (row_test : Row → Bool) → Alike test row_test → (pool : List Group) (rs : List Record) → AllByRecursion (IsServed pool) rs → list_any row_test (map (row_of pool) rs) ≡ true → list_any test pool ≡ true
in_pool test row_test alike pool [] served any = absurd (true≢false (sym any))
in_pool test row_test alike pool (r ∷ rs) served any = split (row_test (row_of pool r)) refl any (in_pool test row_test alike pool rs served.1)
  where
    split : (b : Bool) → row_test (row_of pool r) ≡ b → (b || list_any row_test (map (row_of pool) rs)) ≡ true → (list_any row_test (map (row_of pool) rs) ≡ true → list_any test pool ≡ true) → list_any test pool ≡ true
    split true passes any rest = by_number test row_test alike pool r r.state served.0 passes
    split false passes any rest = rest any

-- ---- and one of the pool is a connection's

none_is : (test : Row → Bool) (l : List Row) → list_any test l ≡ false → Each (λ row. test row ≡ false) l
none_is test [] none = tt
none_is test (row ∷ l) none = split (test row) refl none (none_is test l)
  where
    split : (b : Bool) → test row ≡ b → (b || list_any test l) ≡ false → (list_any test l ≡ false → Each (λ row. test row ≡ false) l) → (test row ≡ false) × Each (λ row. test row ≡ false) l
    split true is none rest = absurd (true≢false none)
    split false is none rest = (is, rest none)

none_found : (test : Group → Bool) (pool : List Group) → find test pool ≡ None → list_any test pool ≡ false
none_found test [] none = refl
none_found test (x ∷ pool) none = split (test x) refl (none_found test pool)
  where
    split : (b : Bool) → test x ≡ b → (find test pool ≡ None → list_any test pool ≡ false) → (test x || list_any test pool) ≡ false
    split true here rest = let some : find test (x ∷ pool) ≡ Some x = ap (λ b. cond b (Some x) (find test pool)) here in absurd cc
    split false fails rest = rw fails (rest (sym (ap (λ b. cond b (Some x) (find test pool)) fails) ∙ none))

not_in_pool : (test : Group → Bool) (row_test : Row → Bool) → Alike test row_test → (pool : List Group) (rs : List Record) (o : Option Group) → find test pool ≡ o → AreGroups pool → IsBalanced pool rs → list_any row_test (map (row_of pool) rs) ≡ false → list_any test pool ≡ false
not_in_pool test row_test alike pool rs None at each balanced none = none_found test pool at
not_in_pool test row_test alike pool rs (Some g) at each balanced none =
    let n = number_of g in
    let there : numbered n pool ≡ Some g = found_by_number test pool g each at in
    let some = some_served n pool g each there in
    let count = balanced.counted n in
    let here : count_in (numbered n pool) ≡ g.subscribers = ap count_in there in
    let w = witness n pool (λ row. row_test row ≡ false) rs (omega arith) balanced.served (none_is row_test (map (row_of pool) rs) none) in
    let shares : Shares w.r g = subst (SharesFound w.r) there w.shares in
    let state : state_of pool w.r.state ≡ Established g.producer.production = ap (state_of pool) w.has ∙ ap (λ (o : Option Group). Established (production_in o)) there in
    absurd (true≢false (sym (found_passes test pool g at) ∙ sym (alike.same w.r g shares) ∙ sym (ap (λ (s : State). row_test (with_state s w.r)) state) ∙ w.holds))

both_ways : (a b : Bool) → (a ≡ true → b ≡ true) → (a ≡ false → b ≡ false) → b ≡ a
both_ways true b yes_ no_ = yes_ refl
both_ways false b yes_ no_ = no_ refl

any_alike : (test : Group → Bool) (row_test : Row → Bool) → Alike test row_test → (pool : List Group) (rs : List Record) → AreGroups pool → IsBalanced pool rs → list_any test pool ≡ list_any row_test (map (row_of pool) rs)
any_alike test row_test alike pool rs each balanced =
    both_ways (list_any row_test (map (row_of pool) rs)) (list_any test pool) (in_pool test row_test alike pool rs balanced.served) (not_in_pool test row_test alike pool rs (find test pool) refl each balanced)

-- ---- both tests

pub any_due : (clock : Ms) (pool : List Group) (rs : List Record) → AreGroups pool → IsBalanced pool rs → list_any (is_due clock) pool ≡ list_any (rows.is_due clock) (map (row_of pool) rs)
any_due clock pool rs each balanced =
    any_alike (is_due clock) (rows.is_due clock) (record { same = λ r g shares. refl; none = λ r. refl }) pool rs each balanced

neither : (b : Bool) → (b && false) ≡ false
neither true = refl
neither false = refl

pub any_at_once : (clock : Ms) (point : ℕ) (pool : List Group) (rs : List Record) → AreGroups pool → IsBalanced pool rs → list_any (is_at_once clock point) pool ≡ list_any (produces_on_change clock point) (map (row_of pool) rs)
any_at_once clock point pool rs each balanced =
    any_alike (is_at_once clock point) (produces_on_change clock point) (record {
      same = λ r g shares. ap (λ (p : ℕ). p == point && is_produced_on_change clock g.producer.production) (sym shares.point);
      none = λ r. neither (r.produced == point);
    }) pool rs each balanced

pub any_changing : (pool : List Group) (rs : List Record) → AreGroups pool → IsBalanced pool rs → list_any group_changes pool ≡ list_any is_changing (map (row_of pool) rs)
any_changing pool rs each balanced =
    any_alike group_changes is_changing (record { same = λ r g shares. refl; none = λ r. refl }) pool rs each balanced
