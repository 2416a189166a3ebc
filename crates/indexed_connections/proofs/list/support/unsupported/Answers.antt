use Rattle.std.proofs.Common.{[], sym, ◌∙◌, arith}
use Rattle.adapter_table.specs.Opening.{triad_of}
use Rattle.adapter_table.specs.Rows.{is_unsupported}
use Rattle.indexed_connections.proofs.Loops.{reported_more, unreported_more}
use Rattle.indexed_connections.proofs.list.support.unsupported.Goals as goal
use Rattle.indexed_connections.proofs.list.support.unsupported.Goals.{then-is_unsupported+in_ok-push, else-is_unsupported}

pub loop-row-preserved : goal.loop-row-preserved
loop-row-preserved c =
    elim c.if-is_unsupported.branch [
      | then-is_unsupported+in_ok-push w ↦ rw w.triads-is (reported_more triad_of [] (is_unsupported c.args.rows.now) c.args.rows.now c.loop-row.row-index _ c.loop-row.triads.items _ (omega arith) c.loop-row.invariant (sym c.is_unsupported.ensures ∙ w.if-is_unsupported.true) w.in_ok-push.ensures.items)
      | else-is_unsupported w ↦ rw w.triads-is (unreported_more triad_of [] (is_unsupported c.args.rows.now) c.args.rows.now c.loop-row.row-index _ c.loop-row.triads.items (omega arith) c.loop-row.invariant (sym c.is_unsupported.ensures ∙ w.if-is_unsupported.false))
    ]
