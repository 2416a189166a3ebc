use Rattle.std.proofs.Common.{[], sym, ◌∙◌, arith}
use Rattle.adapter_table.specs.Productions.{peer_of, is_produced_by}
use Rattle.indexed_connections.proofs.Loops.{reported_more, unreported_more}
use Rattle.indexed_connections.proofs.list.producers.peers.Goals as goal
use Rattle.indexed_connections.proofs.list.producers.peers.Goals.{then-is_produced_by+in_ok-push, else-is_produced_by}

pub loop-row-preserved : goal.loop-row-preserved
loop-row-preserved c =
    elim c.if-is_produced_by.branch [
      | then-is_produced_by+in_ok-push w ↦ rw w.nodes-is (reported_more peer_of [] (is_produced_by c.args.number) c.args.rows.now c.loop-row.row-index _ c.loop-row.nodes.items _ (omega arith) c.loop-row.invariant (sym c.is_produced_by.ensures ∙ w.if-is_produced_by.true) w.in_ok-push.ensures.items)
      | else-is_produced_by w ↦ rw w.nodes-is (unreported_more peer_of [] (is_produced_by c.args.number) c.args.rows.now c.loop-row.row-index _ c.loop-row.nodes.items (omega arith) c.loop-row.invariant (sym c.is_produced_by.ensures ∙ w.if-is_produced_by.false))
    ]
