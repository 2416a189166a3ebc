use Rattle.std.proofs.Common.{◌∙◌}
use Rattle.eds_text.proofs.Words.{members_step}
use Rattle.eds_text.proofs.points.push_members.Goals as goal

pub loop-place-preserved : goal.loop-place-preserved
loop-place-preserved c = rw c.in_ok-push_member.ensures (members_step _ c.loop-place.place c.args.count c.loop-place-test.true ∙ c.loop-place.invariant)
