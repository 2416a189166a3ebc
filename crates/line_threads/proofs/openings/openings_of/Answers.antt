use Rattle.std.proofs.Common.{◌∙◌}
use Rattle.line_threads.proofs.Reaching.{opens_more}
use Rattle.line_threads.proofs.openings.openings_of.Goals as goal

pub loop-place-preserved : goal.loop-place-preserved
loop-place-preserved c =
    opens_more c.args.nodes.now c.args.configs.now c.loop-place.place c.index-configs-place.result c.deref.result.now _ _ _ c.loop-place-test.true c.index-configs-place.is (c.deref.ensures.value ∙ c.in_ok-reached.ensures) c.in_ok-add_openings.ensures c.loop-place.invariant
