use Rattle.adapter_table.specs.Datagrams.{accepted_if_for}
use Rattle.cip_datagram.specs.Datagram.{view_datagram}
use Rattle.cip_types.specs.Indices.{Mapped}
use Rattle.indexed_connections.proofs.list.deliveries.accept_rows.Given as goal

abbrev pub invariant-loop-row : goal.invariant-loop-row
invariant-loop-row l = Mapped (accepted_if_for l.clock l.peer (view_datagram l.datagram)) l.initial.rows l.rows l.row-index
