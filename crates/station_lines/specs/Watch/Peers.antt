-- The peers of an adapter that have connections, and those that own outputs (Volume 1, chapter 3, application connection types).
use Rattle.std.specs.Prelude.{ℕ, zero, suc, ◌==◌, ◌&&◌, if◌then◌else◌, Bool, true, false, List, [], ◌∷◌, ◌++◌, Option, Some, None}
use Rattle.std.specs.List.{list_any}
use Rattle.adapter_table.specs.declared.report.Class3Report.{Class3Report}
use Rattle.adapter_table.specs.declared.report.ConnectionReport.{ConnectionReport}
use Rattle.cip_productions.specs.Kinds.{is_owner}
use Rattle.cip_tables.specs.declared.table.DeviceTable.{DeviceTable}
use Rattle.cip_tables.specs.States.{class3_in, connection_in}
use Rattle.cip_types.specs.declared.names.Node.{Node}
use Rattle.cip_events.specs.declared.event.Notice.{Notice}
use Rattle.cip_events.specs.declared.event.Notice.TheVariants as notice

-- a connection of an adapter was opened or has ended
abbrev pub is_change : Notice → Bool
is_change (notice.Opened triad id) = true
is_change (notice.Closed triad) = true
is_change (notice.Expired triad) = true
is_change (notice.Dropped triad) = true
is_change (notice.Replaced triad) = true
is_change other = false

-- LISTS OF PEERS

abbrev pub is_node : Node → Node → Bool
is_node node other = other.0 == node.0

-- with one more, if it is not among them
abbrev pub with_peer : Option Node → List Node → List Node
with_peer None peers = peers
with_peer (Some peer) peers = if list_any (is_node peer) peers then peers else peers ++ peer ∷ []

-- WHO HAS CONNECTIONS

-- the peer of a class 1 connection that is established
abbrev pub connected_by : Option ConnectionReport → Option Node
connected_by None = None
connected_by (Some report) = if report.established then Some report.peer else None

-- the peer of a class 3 connection
abbrev pub class3_peer : Option Class3Report → Option Node
class3_peer None = None
class3_peer (Some report) = Some report.peer

abbrev pub with_both : Option ConnectionReport → Option Class3Report → List Node → List Node
with_both class1 class3 peers = with_peer (class3_peer class3) (with_peer (connected_by class1) peers)

-- these peers, and those of the connections at the first places, each once
abbrev pub connected_below : DeviceTable → List Node → ℕ → List Node
connected_below table peers zero = peers
connected_below table peers (suc place) = with_both (connection_in table place) (class3_in table place) (connected_below table peers place)

-- WHO OWNS OUTPUTS

-- the peer of a connection that owns an output
abbrev pub owner_of : Option ConnectionReport → Option Node
owner_of None = None
owner_of (Some report) = if report.established && is_owner report.kind then Some report.peer else None

-- the owners by the connections at the first places, each once
abbrev pub owners_below : DeviceTable → ℕ → List Node
owners_below table zero = []
owners_below table (suc place) = with_peer (owner_of (connection_in table place)) (owners_below table place)
