-- The producers of connections by their numbers, and their peers (Volume 1, chapter 3, class 1 transport).
use Rattle.std.specs.Prelude.{ℕ, ◌==◌, Bool, List, find, Option}
use Rattle.std.specs.List.{filter_map}
use Rattle.cip_productions.specs.declared.production.Producer.{Producer}
use Rattle.cip_productions.specs.Productions.{is_on_change}
use Rattle.adapter_table.specs.Connections.{Row}
use Rattle.adapter_table.specs.Productions.{producer_in, producer_number}
use Rattle.mcast_pool.specs.declared.group.Group.{Group}
use Rattle.conn_slab.specs.declared.peers.Peer.{Peer}
use Rattle.conn_slab.specs.Records.{Record}

-- this is the producer's number
abbrev pub is_producer : ℕ → Producer → Bool
is_producer number producer = producer.production.producer == number

-- the producer of this number, as its first connection has it
abbrev pub producer_by : ℕ → List Row → Option Producer
producer_by number rows = find (is_producer number) (filter_map producer_in rows)

-- the producer of the group produces at changes of state
abbrev pub group_changes : Group → Bool
group_changes group = is_on_change group.producer.production.trigger

-- the peer of a connection, the number of its producer, which an established one has, and its deadline
abbrev pub peer_in : Row → Peer
peer_in row = record { node = row.peer; producer = producer_number row.state; deadline = row.deadline }

-- the same of its record
abbrev pub peer_by : Record → Peer
peer_by r = record { node = r.peer; producer = r.state; deadline = r.deadline }
