-- The consumers of each producer, in the order of their first connections (Volume 1, chapter 3, class 1
-- transport; Volume 2, chapter 3, multicast connections).
use Rattle.std.specs.Prelude.{ℕ, ◌≡◌, ◌≤◌, ◌+◌, ◌==◌, Bool, true, false, if◌then◌else◌, List, [], ◌∷◌, map, filter, length, take, drop, Option, Some, None}
use Rattle.std.specs.List.{list_any, filter_map}
use Rattle.cip_types.specs.declared.names.Node.{Node}
use Rattle.cip_types.specs.Order.{first_of_each, unless}
use Rattle.adapter_table.specs.Connections.{Row}
use Rattle.adapter_table.specs.Productions.{producer_number, group, same_node, consumers}
use Rattle.conn_slab.specs.declared.peers.Peer.{Peer}
use Rattle.indexed_connections.specs.declared.consumer_table.Entry.{Entry}

-- the number of a producer, and the nodes that consume its datagrams
pub record ProducerConsumers : Type 0 where
  pub number : ℕ
  pub nodes : List Node

-- the number of the producer of a connection, which an established one has
abbrev pub number_in : Row → Option ℕ
number_in row = producer_number row.state

abbrev pub same_number : ℕ → ℕ → Bool
same_number number other = number == other

-- the numbers of the producers of connections, each once
abbrev pub numbers : List Row → List ℕ
numbers rows = first_of_each same_number (filter_map number_in rows)

abbrev pub consumers_of : List Row → ℕ → ProducerConsumers
consumers_of rows number = record { number = number; nodes = consumers number rows }

-- the consumers of each of them
abbrev pub consumers_by_producer : List Row → List ProducerConsumers
consumers_by_producer rows = map (consumers_of rows) (numbers rows)

-- ---- entries. No public clause cites these definitions.

abbrev pub nodes_in : List Node → Entry → List Node
nodes_in nodes entry = take entry.count (drop entry.first nodes)

abbrev pub consumers_in : List Node → Entry → ProducerConsumers
consumers_in nodes entry = record { number = entry.number; nodes = nodes_in nodes entry }

-- the entries' nodes are among these many
abbrev pub AreWithin : ℕ → List Entry → Type 0
AreWithin len [] = Unit {0}
AreWithin len (entry ∷ entries) = (entry.first + entry.count ≤ len) × AreWithin len entries

abbrev pub has_number : ℕ → ProducerConsumers → Bool
has_number number serving = serving.number == number

abbrev pub is_of : ℕ → Entry → Bool
is_of number entry = entry.number == number

-- the peer has the producer of this number
abbrev pub is_number : ℕ → Option ℕ → Bool
is_number number None = false
is_number number (Some other) = other == number

abbrev pub has_producer : ℕ → Peer → Bool
has_producer number peer = is_number number peer.producer

abbrev pub node_of : Peer → Node
node_of peer = peer.node

-- the nodes among peers that consume the datagrams of a producer
abbrev pub consumers_among : ℕ → List Peer → List Node
consumers_among number peers = first_of_each same_node (map node_of (filter (has_producer number) peers))

-- the node that one more peer adds to the known ones of a producer
abbrev pub one_consumer : ℕ → Peer → List Node → List Node
one_consumer number peer known = if has_producer number peer then unless (list_any (λ other. same_node other peer.node) known) peer.node else []

-- the entry that one more producer adds, unless it is there
abbrev pub more_by : List Row → List ProducerConsumers → Option ℕ → List ProducerConsumers
more_by rows known None = []
more_by rows known (Some number) = unless (list_any (has_number number) known) (consumers_of rows number)

-- if one connection alone has the producer, the known ones are without it, and this node is its consumer
abbrev pub IsNewIfSingle : List Row → List ProducerConsumers → Node → Option ℕ → Type 0
IsNewIfSingle rows known node None = Unit {0}
IsNewIfSingle rows known node (Some number) = (length (group number rows) == 1) ≡ true → unless (list_any (has_number number) known) (consumers_of rows number) ≡ (record { number = number; nodes = node ∷ [] }) ∷ []
