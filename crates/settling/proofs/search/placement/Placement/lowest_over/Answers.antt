use Rattle.std.proofs.Common.{sym}
use Rattle.settling.specs.Search.Histories.{bytes_of, events_of_all}
use Rattle.settling.specs.Search.Placements.{IsOver, IsPlaced}
use Rattle.settling.specs.Search.Lemmas.Lowering.{lowest_done, lowest_found}
use Rattle.settling.proofs.search.placement.Placement.lowest_over.Goals as goal
use Rattle.settling.proofs.search.placement.Placement.lowest_over.Goals.{in-Some, in_default}

pub loop-device-preserved : goal.loop-device-preserved
loop-device-preserved g c =
    let hs = events_of_all c.args.histories.now in
    let P = IsPlaced hs c.args.self.now in
    let Q = IsOver hs c.args.self.now in
    let bytes = bytes_of c.args.histories.now in
    let i = c.loop-device.device in
    elim c.match-next.branch [
      | in-Some w ↦
          rw (w.best-is, w.lower_of.ensures)
          (lowest_found P Q bytes i w.place_of.result c.loop-device.best c.loop-device.invariant
          ((w.in-Some._event.now, w.in-Some.ensures.some.0, w.in-Some.ensures.some.1), sym w.place_of.ensures))
      | in_default w ↦ rw w.best-is (lowest_done P Q bytes i c.loop-device.best c.loop-device.invariant w.in_default.ensures.none)
    ]
