use Rattle.std.proofs.Common.{◌+◌, ◌∙◌, Bool, cond, ap, arith}
use Rattle.scanner_table.specs.Slots.{IndexedSlot}
use Rattle.scanner_slots.proofs.Bounded.{begins_with}
use Rattle.scanner_slots.proofs.Turns.{counted_more, counted_all, next_within}
use Rattle.scanner_slots.proofs.due.openings_at.Goals as goal

pub loop-index-preserved : goal.loop-index-preserved
loop-index-preserved c =
    let index = c.loop-index.index in
    let invariant = c.loop-index.invariant in
    let indexed : IndexedSlot = record { number = index; config = c.index-configs-index.result; slot = c.index-slots-index.result } in record {
      so_far = counted_more c.loop-index.count c.counted-count.result c.args.target c.args.configs.now c.args.slots.now index indexed
          (begins_with index c.args.configs.now c.args.slots.now c.index-configs-index.result _ c.index-slots-index.result _ (omega (arith, c.min-index-end.ensures, c.loop-index-test.true)) (omega (arith, c.min-index-end.ensures, c.loop-index-test.true)) c.index-configs-index.is c.index-slots-index.is)
          (c.counted-count.ensures ∙ ap (λ (b : Bool). cond b (c.loop-index.count + 1) c.loop-index.count) c.opens_at.ensures) invariant.so_far (index + 1) (omega arith);
      within = next_within c.opens_at.result c.loop-index.count c.counted-count.result index c.counted-count.ensures invariant.within;
    }

pub returns : goal.returns
returns c = counted_all c.loop-index.count c.args.target c.args.configs.now c.args.slots.now c.loop-index.index (omega (arith, c.min-index-end.ensures)) c.loop-index.invariant.so_far
