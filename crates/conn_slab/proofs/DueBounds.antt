-- No connection's producer is due before the first producer is.
use Rattle.std.proofs.Common.{◌≤◌, ℕ, Bool, true, false, cond, List, [], ◌∷◌, map, Option, Some, None, arith}
use Rattle.std.specs.List.{AllByRecursion}
use Rattle.adapter_table.specs.declared.row.State.TheVariants.{Established}
use Rattle.mcast_pool.specs.declared.group.Group.{Group}
use Rattle.mcast_pool.specs.Groups.{has_number, numbered, first_due}
use Rattle.conn_slab.specs.Records.{Record, row_of, state_of, production_in}
use Rattle.conn_slab.specs.Layout.{IsServed, SharesBy, SharesFound}
use Rattle.conn_slab.specs.Bounds.{StateNotDueBefore, AllNotDueBefore}

-- the production of a number is none that is due before the first
abbrev FoundNotDueBefore : ℕ → Option Group → Type 0
FoundNotDueBefore bound None = Unit {0}
FoundNotDueBefore bound (Some g) = bound ≤ g.producer.production.due.0

less_found : (low high : ℕ) (o : Option Group) → low ≤ high → FoundNotDueBefore high o → FoundNotDueBefore low o
less_found low high None le rests = tt
less_found low high (Some g) le rests = omega arith

found_rests : (number : ℕ) (pool : List Group) → FoundNotDueBefore (first_due pool) (numbered number pool)
found_rests number [] = tt
found_rests number (g ∷ pool) =
    split (has_number number g) (less_found (first_due (g ∷ pool)) (first_due pool) (numbered number pool) (omega arith) (found_rests number pool))
  where
    split : (b : Bool) → FoundNotDueBefore (first_due (g ∷ pool)) (numbered number pool) → FoundNotDueBefore (first_due (g ∷ pool)) (cond b (Some g) (numbered number pool))
    split true rest = omega arith
    split false rest = rest

by_group : (bound : ℕ) (r : Record) (o : Option Group) → SharesFound r o → FoundNotDueBefore bound o → StateNotDueBefore bound (Established (production_in o))
by_group bound r None shares rests = absurd shares
by_group bound r (Some g) shares rests = rests

by_number : (pool : List Group) (r : Record) (n : Option ℕ) → SharesBy pool r n → StateNotDueBefore (first_due pool) (state_of pool n)
by_number pool r None shares = tt
by_number pool r (Some n) shares = by_group (first_due pool) r (numbered n pool) shares (found_rests n pool)

pub rows_rest : (pool : List Group) (rs : List Record) → AllByRecursion (IsServed pool) rs → AllNotDueBefore (first_due pool) (map (row_of pool) rs)
rows_rest pool [] served = tt
rows_rest pool (r ∷ rs) served = (by_number pool r r.state served.0, rows_rest pool rs served.1)
