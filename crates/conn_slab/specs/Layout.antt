-- The invariant of `Connections`. No public clause cites this module.
use Rattle.std.specs.Prelude.{ℕ, ◌≡◌, ◌≤◌, ◌+◌, ◌==◌, Bool, true, false, if◌then◌else◌, List, [], ◌∷◌, length, Option, Some, None, is_some}
use Rattle.std.specs.List.{AllByRecursion}
use Rattle.slab.specs.Slab.{Slab, get}
use Rattle.cip_productions.specs.declared.production.Producer.{Producer}
use Rattle.adapter_table.specs.Connections.{Row}
use Rattle.adapter_table.specs.Productions.{producer_in}
use Rattle.mcast_pool.specs.declared.group.Group.{Group}
use Rattle.mcast_pool.specs.Groups.{numbered, IsInUse, subscribers, joined_group, begun, FitsGroup}
use Rattle.conn_slab.specs.declared.record.TriadKey.{TriadKey}
use Rattle.conn_slab.specs.declared.record.Source.{Source}
use Rattle.conn_slab.specs.Index.{IsIndexed, items_of}
use Rattle.conn_slab.specs.Records.{Record, key_of, same_key, source_of, same_source}

-- the records under their keys, the keys by triad in opening order, and the keys by place
abbrev pub AreFiled : Slab Record → List (TriadKey × ℕ) → List (Source × ℕ) → Type 0
AreFiled records triads sources = IsIndexed key_of same_key source_of same_source records triads sources

-- ---- records and the pool

-- the producer is that of the record's input, id and interval
pub record Shares (r : Record) (group : Group) : Type 0 where
  pub api : group.api ≡ r.t_o_api_ms
  pub point : group.producer.point ≡ r.produced
  pub id : group.producer.id ≡ r.t_o_id
  pub shared : group.shared ≡ r.multicast

abbrev pub SharesFound : Record → Option Group → Type 0
SharesFound r None = ⊥
SharesFound r (Some group) = Shares r group

abbrev pub SharesBy : List Group → Record → Option ℕ → Type 0
SharesBy pool r None = Unit {0}
SharesBy pool r (Some number) = SharesFound r (numbered number pool)

-- the producer of an established record is in the pool
abbrev pub IsServed : List Group → Record → Type 0
IsServed pool r = SharesBy pool r r.state

abbrev pub is_number : ℕ → Option ℕ → Bool
is_number number None = false
is_number number (Some other) = other == number

-- how many records are of a producer's group, and how many have a producer
abbrev pub members : ℕ → List Record → ℕ
members number [] = 0
members number (r ∷ rs) = (if is_number number r.state then 1 else 0) + members number rs

abbrev pub established : List Record → ℕ
established [] = 0
established (r ∷ rs) = (if is_some r.state then 1 else 0) + established rs

abbrev pub count_in : Option Group → ℕ
count_in None = 0
count_in (Some group) = group.subscribers

-- the subscribers of each producer are the records of its group
pub record IsBalanced (pool : List Group) (rs : List Record) : Type 0 where
  pub served : AllByRecursion (IsServed pool) rs
  pub counted : (number : ℕ) → count_in (numbered number pool) ≡ members number rs
  pub sum : subscribers pool ≡ established rs

pub record IsConsistent (records : Slab Record) (triads : List (TriadKey × ℕ)) (sources : List (Source × ℕ)) (pool : List Group) : Type 0 where
  pub filed : AreFiled records triads sources
  pub balanced : IsBalanced pool (items_of records triads)
  pub few : length (items_of records triads) ≤ 64

-- ---- single steps

-- a producer's number, if there is one, is in the pool
abbrev pub IsLive : List Group → Option ℕ → Type 0
IsLive pool None = Unit {0}
IsLive pool (Some number) = IsInUse number pool

abbrev pub LeadsTo : List Group → Option Record → Type 0
LeadsTo pool None = ⊥
LeadsTo pool (Some r) = IsLive pool r.state

-- the key is of a record whose producer, if it has one, is in the pool
abbrev pub Leads : Slab Record → List Group → ℕ → Type 0
Leads records pool key = LeadsTo pool (get records key)

-- there is a record under the key
abbrev pub IsStored : Slab Record → ℕ → Type 0
IsStored records key = is_some (get records key) ≡ true

-- what a pool requires of a joining connection
pub record MayJoin (producer : Producer) (shared : Bool) (api : ℕ) (pool : List Group) : Type 0 where
  pub fits : FitsGroup (begun producer shared api)
  pub unused : joined_group shared producer.point pool ≡ None → numbered producer.production.producer pool ≡ None

abbrev pub MayEnterWith : Row → Option Producer → List Group → Type 0
MayEnterWith row None pool = Unit {0}
MayEnterWith row (Some producer) pool = MayJoin producer row.multicast row.t_o_api_ms pool

abbrev pub MayEnter : Row → List Group → Type 0
MayEnter row pool = MayEnterWith row (producer_in row) pool

abbrev pub running_of : ℕ → Option ℕ → Option (ℕ × ℕ)
running_of key None = None
running_of key (Some number) = Some (key, number)

abbrev pub running_in : ℕ → Option Record → Option (ℕ × ℕ)
running_in key None = None
running_in key (Some r) = running_of key r.state

-- the key, if the record under it is established, and the number of its producer
abbrev pub running_key : Slab Record → Option ℕ → Option (ℕ × ℕ)
running_key records None = None
running_key records (Some key) = running_in key (get records key)
