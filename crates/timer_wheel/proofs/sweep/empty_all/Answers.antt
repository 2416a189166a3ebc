use Rattle.std.proofs.Common.{◌∙◌, arith}
use Rattle.timer_wheel.specs.Laws.SweepLemmas.{IsLaidOut-done}
use Rattle.timer_wheel.proofs.sweep.empty_all.Goals as goal

pub empty-requires-clause-laid_out : goal.empty-requires-clause-laid_out
empty-requires-clause-laid_out c =
    let next = c.in-Some.ensures in
    IsLaidOut-done _ _ _ _ _ _ next.start c.loop-slot.invariant.emptying.laid_out next.passed

pub loop-slot-preserved : goal.loop-slot-preserved
loop-slot-preserved c =
    let done = c.empty.ensures in
    let inv = c.loop-slot.invariant.emptying in
    record {
      order = omega (arith, c.loop-slot.invariant.order, c.in-Some.ensures.start);
      bound = omega (arith, c.in-Some.ensures.end);
      emptying = record {
        laid_out = done.laid_out;
        taken = λ armed split. done.taken armed (inv.taken armed split);
        cleared = λ key t is. inv.cleared key t (done.cleared key t is);
        count = done.count ∙ inv.count;
        capacity = done.capacity ∙ inv.capacity;
      };
    }
