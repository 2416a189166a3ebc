-- The first connections of some that an adapter can have are such.
use Rattle.std.proofs.Common.{◌≡◌, ◌≤◌, ◌<◌, ℕ, ◌+◌, Bool, false, List, [], ◌∷◌, ◌++◌, take, drop, length, get_or, refl, sym, subst, arith}
use Rattle.std.specs.List.{list_any}
use Rattle.std.proofs.lemmas.Grind.{common_steps}
use Rattle.adapter_table.specs.Connections.{Row}
use Rattle.adapter_table.specs.Rows.{Each, EachTwo, has_triad}
use Rattle.adapter_table.specs.Sound.{TriadsDiffer, IdsDiffer, GroupsAgree, AllAgree, has_o_t_id}
use Rattle.adapter_table.specs.Whole.{FitsRow}
use Rattle.conn_slab.specs.Connections.{AreConnections}
use Rattle.indexed_connections.specs.List.Lone.{neither}

long_before : (front back : List Row) → length front ≤ length (front ++ back)
long_before [] back = omega arith
long_before (row ∷ front) back = let rest = long_before front back in omega arith

each_before : (P : Row → Type 0) (front back : List Row) → Each P (front ++ back) → Each P front
each_before P [] back all = tt
each_before P (row ∷ front) back all = (all.0, each_before P front back all.1)

two_before : (R : Row → Row → Type 0) (front back : List Row) → EachTwo R (front ++ back) → EachTwo R front
two_before R [] back all = tt
two_before R (row ∷ front) back all = (each_before (R row) front back all.0, two_before R front back all.1)

none_before : (test : Row → Bool) (front back : List Row) → list_any test (front ++ back) ≡ false → list_any test front ≡ false
none_before test [] back none = refl
none_before test (row ∷ front) back none =
    let parts = neither (test row) (list_any test (front ++ back)) none in
    rw (parts.0, none_before test front back parts.1) refl

triads_before : (front back : List Row) → TriadsDiffer (front ++ back) → TriadsDiffer front
triads_before [] back all = tt
triads_before (row ∷ front) back all = (none_before (has_triad row.triad) front back all.0, triads_before front back all.1)

ids_before : (front back : List Row) → IdsDiffer (front ++ back) → IdsDiffer front
ids_before [] back all = tt
ids_before (row ∷ front) back all = (none_before (has_o_t_id row.o_t_id) front back all.0, ids_before front back all.1)

all_agree_before : (row : Row) (front back : List Row) → AllAgree row (front ++ back) → AllAgree row front
all_agree_before row [] back all = tt
all_agree_before row (other ∷ front) back all = (all.0, all_agree_before row front back all.1)

agree_before : (front back : List Row) → GroupsAgree (front ++ back) → GroupsAgree front
agree_before [] back all = tt
agree_before (row ∷ front) back all = (all_agree_before row front back all.0, agree_before front back all.1)

before : (front back : List Row) → AreConnections (front ++ back) → AreConnections front
before front back all = record {
  few = let few = all.few in let long = long_before front back in omega arith;
  triads = triads_before front back all.triads;
  ids = ids_before front back all.ids;
  fit = each_before FitsRow front back all.fit;
  agree = agree_before front back all.agree;
  share = two_before _ front back all.share;
}

-- the first of them, with one more
pub one_more : (rows : List Row) (at : ℕ) (d : Row) → at < length rows → take (at + 1) rows ≡ take at rows ++ get_or rows at d ∷ []
one_more rows at d lt = grind (arith, common_steps)

pub first_ones : (rows : List Row) (at : ℕ) (d : Row) → at < length rows → AreConnections rows → AreConnections (take at rows ++ get_or rows at d ∷ [])
first_ones rows at d lt all =
    let whole : take (at + 1) rows ++ drop (at + 1) rows ≡ rows = grind (arith, common_steps) in
    subst AreConnections (one_more rows at d lt) (before (take (at + 1) rows) (drop (at + 1) rows) (subst AreConnections (sym whole) all))
