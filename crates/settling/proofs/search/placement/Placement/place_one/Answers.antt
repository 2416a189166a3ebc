use Rattle.std.proofs.Common.{arith, ◌∙◌}
use Rattle.settling.specs.Search.Histories.{events_of_all}
use Rattle.settling.proofs.Rounds.{stuck_more}
use Rattle.settling.proofs.search.placement.Placement.place_one.Goals as goal

pub loop-device-preserved : goal.loop-device-preserved
loop-device-preserved g c =
    let stayed = rw c.if-branch.false at c.in_ok-try_all.ensures.moved in
    record {
      same = stayed.0 ∙ c.loop-device.invariant.same;
      stuck = stuck_more (events_of_all c.args.histories.now) c.loop-device.self c.try_all.new.self c.loop-device.device c.loop-device.invariant.stuck stayed.0 stayed.1;
    }

pub returns-clause-moved : goal.returns-clause-moved
returns-clause-moved g c = λ i lt. c.loop-device.invariant.stuck i (omega (arith, lt, c.requires.devices, c.loop-device-test.false))
