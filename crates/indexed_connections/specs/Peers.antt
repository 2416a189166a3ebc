-- What the peers of connections say of their watchdogs. No public clause cites this module.
use Rattle.std.specs.Prelude.{ℕ, ◌&&◌, not, nat_le, Bool, false, List, Option, Some, None, is_some}
use Rattle.std.specs.List.{list_any}
use Rattle.cip_types.specs.declared.names.Ms.{Ms}
use Rattle.adapter_table.specs.Connections.{Row}
use Rattle.adapter_table.specs.Productions.{is_produced_by}
use Rattle.conn_slab.specs.declared.peers.Peer.{Peer}

-- the connection has timed out
abbrev pub has_timed_out_by : Peer → Bool
has_timed_out_by peer = not (is_some peer.producer)

-- it is established, and its deadline has been reached
abbrev pub has_run_out : Ms → Peer → Bool
has_run_out clock peer = is_some peer.producer && nat_le peer.deadline.0 clock.0

-- one of the connections has the producer of this number, if there is one
abbrev pub number_among : List Row → Option ℕ → Bool
number_among rows None = false
number_among rows (Some number) = list_any (is_produced_by number) rows

-- the deadline has not been reached, and one of these connections has its producer
abbrev pub stays_with : Ms → List Row → Peer → Bool
stays_with clock rows peer = not (has_run_out clock peer) && number_among rows peer.producer
