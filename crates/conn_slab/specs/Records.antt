-- Records of connections, whose productions are in a pool, and the connections of records.
use Rattle.std.specs.Prelude.{ℕ, ◌==◌, ◌&&◌, Bool, false, List, Option, Some, None, is_some}
use Rattle.cip_types.specs.declared.names.Triad.{Triad}
use Rattle.cip_netparams.specs.declared.Trigger.TheVariants.{Cyclic}
use Rattle.cip_productions.specs.declared.production.Production.{Production}
use Rattle.cip_productions.specs.declared.production.Producer.{Producer}
use Rattle.cip_productions.specs.Kinds.{is_listener}
use Rattle.adapter_table.specs.declared.row.Connection.{Connection}
use Rattle.adapter_table.specs.Connections.{Row, with_state}
use Rattle.adapter_table.specs.declared.row.State.{State}
use Rattle.adapter_table.specs.declared.row.State.TheVariants.{Established, TimedOut}
use Rattle.adapter_table.specs.Productions.{producer_in, producer_number}
use Rattle.mcast_pool.specs.declared.group.Group.{Group}
use Rattle.mcast_pool.specs.Groups.{numbered, joined, left, begun}
use Rattle.conn_slab.specs.declared.record.TriadKey.{TriadKey}
use Rattle.conn_slab.specs.declared.record.Source.{Source}

-- a connection whose state is the number of its producer, which an established one has
abbrev pub Record : Type 0
Record = Connection (Option ℕ)

-- THE CONNECTION OF A RECORD

-- the production of a number that no producer has
abbrev pub no_production : Production
no_production = record { producer = 0; sequence = 0; count = 0; written = false; due = record { 0 = 0 }; address = record { 0 = 0 }; trigger = Cyclic; inhibit = 0; last = None }

abbrev pub production_in : Option Group → Production
production_in None = no_production
production_in (Some group) = group.producer.production

-- established if it has a producer, with the production of its group
abbrev pub state_of : List Group → Option ℕ → State
state_of pool None = TimedOut
state_of pool (Some number) = Established (production_in (numbered number pool))

abbrev pub row_of : List Group → Record → Row
row_of pool r = with_state (state_of pool r.state) r

-- THE RECORD OF A CONNECTION

abbrev pub record_of : Row → Record
record_of row = with_state (producer_number row.state) row

-- WHAT LEADS TO A RECORD

abbrev pub key_for : Triad → TriadKey
key_for triad = record { serial = triad.serial; vendor = triad.vendor; originator = triad.originator }

abbrev pub key_of : Record → TriadKey
key_of r = key_for r.triad

abbrev pub same_key : TriadKey → TriadKey → Bool
same_key a b = a.serial == b.serial && (a.vendor == b.vendor && a.originator == b.originator)

-- the record is that of the triad
abbrev pub is_of : TriadKey → Record → Bool
is_of name r = same_key name (key_of r)

abbrev pub source_of : Record → Source
source_of r = record { peer = r.peer.0; id = r.o_t_id.0 }

abbrev pub same_source : Source → Source → Bool
same_source a b = a.peer == b.peer && a.id == b.id

-- LISTENERS

-- the record is that of an established listen-only connection
abbrev pub listens : Record → Bool
listens r = is_some r.state && is_listener r.kind

abbrev pub listens_in : Option Record → Bool
listens_in None = false
listens_in (Some r) = listens r

-- PRODUCERS

abbrev pub entered_with : Row → Option Producer → List Group → List Group
entered_with row None pool = pool
entered_with row (Some producer) pool = joined (begun producer row.multicast row.t_o_api_ms) pool

-- the pool once a connection has joined its producer, if it has one
abbrev pub entered : Row → List Group → List Group
entered row pool = entered_with row (producer_in row) pool

-- the pool once a connection has left its producer, if it has one
abbrev pub left_by : Option ℕ → List Group → List Group
left_by None pool = pool
left_by (Some number) pool = left number pool
