-- The openings of each node in its second at a table, where the maker states how many there can be
-- (Volume 1, chapter 3, Connection Manager).
use Rattle.std.specs.Prelude.{ℕ, ◌≤◌, Bool, List, length, Option, Some, None}
use Rattle.cip_types.specs.declared.names.Node.{Node}
use Rattle.messaging.specs.Sound.{EachOf}
use Rattle.adapter_table.specs.declared.opening_rates.rates.NodeOpenings.{NodeOpenings}
use Rattle.adapter_table.specs.OpeningRates.Rates.{most_nodes, has_opened_enough, counted_openings}
use Rattle.adapter_table.specs.declared.table.AdapterTable.{AdapterTable}
use Rattle.adapter_table.specs.Profiles.{most_openings}

-- the node has opened as many connections in its second as it can
abbrev pub has_opened_enough_at : AdapterTable → Node → Bool
has_opened_enough_at t node = has_opened_enough (most_openings t.profile.limits.node_connections) t.clock node t.openings

-- the openings once the node has opened a connection
abbrev pub counted_at : AdapterTable → Node → List NodeOpenings
counted_at t node = counted_openings (most_openings t.profile.limits.node_connections) t.clock node t.openings

-- the table with other openings: all else stays
abbrev pub with_openings : AdapterTable → List NodeOpenings → AdapterTable
with_openings t openings = record t { openings = openings }

-- ---- within the limit

-- no node has more openings in its second than it can have
abbrev pub AreWithinSecond : Option ℕ → List NodeOpenings → Type 0
AreWithinSecond None openings = Unit {0}
AreWithinSecond (Some most) openings = EachOf (λ counted. counted.count ≤ most) openings

-- of at most 64 nodes
pub record OpensWithinLimits (t : AdapterTable) : Type 0 where
  pub few : length t.openings ≤ most_nodes
  pub within : AreWithinSecond (most_openings t.profile.limits.node_connections) t.openings
