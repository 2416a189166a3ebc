use Rattle.std.proofs.Common.{◌≤◌, length}
use Rattle.segment_world.proofs.Cutting.{below_more, below_all}
use Rattle.segment_world.proofs.lives.severing.sever.Goals as goal

pub loop-number-preserved : goal.loop-number-preserved
loop-number-preserved g c = below_more c.args.life c.loop-number.number c.args.world.now c.loop-number.world c.sever_at.new.world c.loop-number.invariant c.sever_at.ensures

pub returns : goal.returns
returns g c =
    let past : length c.args.world.now.streams ≤ c.loop-number.number = rw c.stream_count-number-end.ensures at c.loop-number-test.false in
    below_all c.args.life c.loop-number.number c.args.world.now c.loop-number.world past c.loop-number.invariant
