use Rattle.std.proofs.Common.{◌+◌, arith}
use Rattle.scanner_slots.specs.Bounding.{has_target}
use Rattle.scanner_slots.proofs.Bounded.{covers_all, covers_more, begins_with}
use Rattle.scanner_slots.proofs.bounds.bounds_among.Goals as goal

pub loop-index-preserved : goal.loop-index-preserved
loop-index-preserved c =
    let index = c.loop-index.index in
    covers_more c.loop-index.bounds c.with-bounds.result c.times_of.result (has_target c.args.streams.now) c.args.configs.now c.args.slots.now index (record { number = index; config = c.index-configs-index.result; slot = c.index-slots-index.result })
    (begins_with index c.args.configs.now c.args.slots.now c.index-configs-index.result _ c.index-slots-index.result _ (omega (arith, c.min-index-end.ensures, c.loop-index-test.true)) (omega (arith, c.min-index-end.ensures, c.loop-index-test.true)) c.index-configs-index.is c.index-slots-index.is)
    c.with-bounds.ensures.first c.with-bounds.ensures.second c.times_of.ensures c.loop-index.invariant (index + 1) (omega arith)

pub returns : goal.returns
returns c = covers_all c.loop-index.bounds (has_target c.args.streams.now) c.args.configs.now c.args.slots.now c.loop-index.index (omega (arith, c.min-index-end.ensures)) c.loop-index.invariant
