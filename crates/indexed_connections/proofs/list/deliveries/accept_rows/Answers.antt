use Rattle.std.proofs.Common.{arith}
use Rattle.adapter_table.specs.Datagrams.{accepted_if_for}
use Rattle.cip_datagram.specs.Datagram.{view_datagram}
use Rattle.cip_types.specs.Indices.{map_more}
use Rattle.indexed_connections.proofs.Orders.{fits_at}
use Rattle.indexed_connections.proofs.list.deliveries.accept_rows.Goals as goal

pub accept_if_for-requires-clause-waits : goal.accept_if_for-requires-clause-waits
accept_if_for-requires-clause-waits c = (fits_at (accepted_if_for c.args.clock c.args.peer (view_datagram c.args.datagram.now)) c.args.rows.now c.loop-row.rows c.loop-row.row-index _ c.requires.fit (omega arith) (omega arith) c.loop-row.invariant).watchdog

pub loop-row-preserved : goal.loop-row-preserved
loop-row-preserved c = map_more (accepted_if_for c.args.clock c.args.peer (view_datagram c.args.datagram.now)) c.args.rows.now c.loop-row.rows c.loop-row.row-index _ _ (omega arith) (omega arith) c.loop-row.invariant c.accept_if_for.ensures
