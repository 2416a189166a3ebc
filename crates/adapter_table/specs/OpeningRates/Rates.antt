-- How often a node opens connections: the openings of each node in its second, where it is stated how many there can be.
-- A second of a node begins with an opening, and counts those of the 1,000 ms from then on
-- (Volume 1, chapter 3, Connection Manager).
use Rattle.std.specs.Prelude.{ℕ, ◌+◌, ◌-◌, ◌^◌, ◌==◌, ◌&&◌, not, min, nat_lt, nat_le, Bool, false, if◌then◌else◌, List, [], ◌∷◌, ◌++◌, length, filter, find, drop, Option, Some, None}
use Rattle.cip_types.specs.declared.names.Ms.{Ms}
use Rattle.cip_types.specs.declared.names.Node.{Node}
use Rattle.adapter_table.specs.declared.opening_rates.rates.NodeOpenings.{NodeOpenings}

-- the milliseconds of a second, and the most nodes whose openings are counted
abbrev pub second_ms : ℕ
second_ms = 1000

abbrev pub most_nodes : ℕ
most_nodes = 64

-- ---- the second of a node

-- it runs: it began less than 1,000 ms ago
abbrev pub runs : Ms → NodeOpenings → Bool
runs clock counted = nat_lt (clock.0 - counted.since.0) second_ms

-- it is that of this node
abbrev pub is_of : Node → NodeOpenings → Bool
is_of node counted = counted.node.0 == node.0

abbrev pub runs_for : Ms → Node → NodeOpenings → Bool
runs_for clock node counted = runs clock counted && is_of node counted

abbrev pub runs_for_another : Ms → Node → NodeOpenings → Bool
runs_for_another clock node counted = runs clock counted && not (is_of node counted)

-- how many connections were opened in it
abbrev pub count_in : Option NodeOpenings → ℕ
count_in None = 0
count_in (Some counted) = counted.count

-- the node has opened as many connections in its second as it can
abbrev pub has_opened_enough : Option ℕ → Ms → Node → List NodeOpenings → Bool
has_opened_enough None clock node openings = false
has_opened_enough (Some most) clock node openings = nat_le most (count_in (find (runs_for clock node) openings))

-- ---- an opening is counted

-- with one opening more, of the second that runs, or of one that begins now
abbrev pub one_more : Ms → Node → Option NodeOpenings → NodeOpenings
one_more clock node None = record { node = node; since = clock; count = 1 }
one_more clock node (Some counted) = record counted { count = min (counted.count + 1) (2 ^ 16 - 1) }

-- of 64 nodes the first makes room
abbrev pub with_room : List NodeOpenings → List NodeOpenings
with_room openings = if nat_lt (length openings) most_nodes then openings else drop 1 openings

-- The node that opened is the last one. Before it stay the other nodes whose seconds run, so the first is the one that has not
-- opened for the longest time.
abbrev pub counted : Ms → Node → List NodeOpenings → List NodeOpenings
counted clock node openings =
    with_room (filter (runs_for_another clock node) openings) ++ one_more clock node (find (runs_for clock node) openings) ∷ []

-- openings are counted where it is stated how many there can be
abbrev pub counted_openings : Option ℕ → Ms → Node → List NodeOpenings → List NodeOpenings
counted_openings None clock node openings = openings
counted_openings (Some most) clock node openings = counted clock node openings
