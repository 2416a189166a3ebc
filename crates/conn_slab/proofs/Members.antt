-- The connections of a producer are as many as its group in the pool counts, and their peers are those of the records.
use Rattle.std.proofs.Common.{◌≡◌, ℕ, ◌+◌, ◌==◌, Bool, true, false, cond, List, [], ◌∷◌, length, map, Option, Some, None, refl, sym, ◌∙◌, ap, arith}
use Rattle.std.specs.List.{AllByRecursion}
use Rattle.std.proofs.lemmas.Bool.{eqb-true}
use Rattle.adapter_table.specs.Connections.{Row}
use Rattle.adapter_table.specs.Productions.{group, producer_number, has_number as made_by}
use Rattle.mcast_pool.specs.declared.group.Group.{Group}
use Rattle.mcast_pool.specs.Groups.{number_of, numbered}
use Rattle.conn_slab.specs.declared.peers.Peer.{Peer}
use Rattle.conn_slab.specs.Producing.{peer_in, peer_by}
use Rattle.conn_slab.specs.Records.{Record, row_of, state_of, production_in}
use Rattle.conn_slab.specs.Layout.{IsServed, SharesBy, SharesFound, IsBalanced, is_number, members, count_in}
use Rattle.conn_slab.proofs.Producing.{found_passes}

made_found : (number m : ℕ) (pool : List Group) (r : Record) (found : Option Group) → numbered m pool ≡ found → SharesFound r found → (production_in found).producer == number ≡ m == number
made_found number m pool r None is shares = absurd shares
made_found number m pool r (Some g) is shares = ap (λ n. n == number) (eqb-true (number_of g) m (found_passes m pool g is))

made : (number : ℕ) (pool : List Group) (r : Record) (n : Option ℕ) → SharesBy pool r n → made_by number (state_of pool n) ≡ is_number number n
made number pool r None shares = refl
made number pool r (Some m) shares = made_found number m pool r (numbered m pool) refl shares

count_step : (b : Bool) (row : Row) (rest : List Row) (count : ℕ) → count ≡ length rest → cond b 1 0 + count ≡ length (cond b (row ∷ rest) rest)
count_step true row rest count is = omega arith
count_step false row rest count is = omega arith

members_are : (number : ℕ) (pool : List Group) (rs : List Record) → AllByRecursion (IsServed pool) rs → members number rs ≡ length (group number (map (row_of pool) rs))
members_are number pool [] served = refl
members_are number pool (r ∷ rs) served =
    count_step (is_number number r.state) (row_of pool r) (group number (map (row_of pool) rs)) (members number rs) (members_are number pool rs served.1)
    ∙ ap (λ (b : Bool). length (cond b (row_of pool r ∷ group number (map (row_of pool) rs)) (group number (map (row_of pool) rs)))) (sym (made number pool r r.state served.0))

pub members_of : (number : ℕ) (pool : List Group) (rs : List Record) → IsBalanced pool rs → length (group number (map (row_of pool) rs)) ≡ count_in (numbered number pool)
members_of number pool rs balanced = sym (balanced.counted number ∙ members_are number pool rs balanced.served)

numbered_found : (m : ℕ) (pool : List Group) (r : Record) (found : Option Group) → numbered m pool ≡ found → SharesFound r found → (production_in found).producer ≡ m
numbered_found m pool r None is shares = absurd shares
numbered_found m pool r (Some g) is shares = eqb-true (number_of g) m (found_passes m pool g is)

number_kept : (pool : List Group) (r : Record) (n : Option ℕ) → SharesBy pool r n → n ≡ producer_number (state_of pool n)
number_kept pool r None shares = refl
number_kept pool r (Some m) shares = ap (λ k. Some k) (sym (numbered_found m pool r (numbered m pool) refl shares))

pub peers_are : (pool : List Group) (rs : List Record) → AllByRecursion (IsServed pool) rs → map peer_by rs ≡ map peer_in (map (row_of pool) rs)
peers_are pool [] served = refl
peers_are pool (r ∷ rs) served =
    ap (λ (n : Option ℕ). let it : Peer = record { node = r.peer; producer = n; deadline = r.deadline } in it ∷ map peer_by rs) (number_kept pool r r.state served.0)
    ∙ ap (λ (l : List Peer). peer_in (row_of pool r) ∷ l) (peers_are pool rs served.1)
