use Rattle.std.proofs.Common.{◌∙◌, arith}
use Rattle.adapter.proofs.EngineEffects.{lost_more}
use Rattle.adapter.proofs.state.closings.lose_owners.Goals as goal

pub loop-row-preserved : goal.loop-row-preserved
loop-row-preserved c =
    rw c.lose_owner.ensures (c.loop-row.invariant.0, lost_more c.loop-row.assemblies.profile c.args.timed_out.now c.loop-row.row-index _ c.loop-row.assemblies.values (omega arith) ∙ c.loop-row.invariant.1)
