use Rattle.std.proofs.Common.{◌/◌, Fits, w64, slice_index_or, rules, arith}
use Rattle.timer_wheel.proofs.MarkLemmas.{NoMarks-join, NoMarks-less, NoMarks-word, NoMarks-found, AllEmpty-unmarked}
use Rattle.timer_wheel.proofs.slots.Slots.next.Goals as goal

-- no slot is marked before the first bit of the word
pub returns-then-slot-to-clause-passed : goal.returns-then-slot-to-clause-passed
returns-then-slot-to-clause-passed c =
    let some = c.if-word-ne0.true in
    let word : Fits w64 (slice_index_or c.self.inside.marks (c.loop-at.at / 64) 0) = search rules in
    let none = NoMarks-join _ _ _ _ c.loop-at.invariant.passed (NoMarks-found c.self.inside.marks c.loop-at.at (omega arith) (omega arith)) in
    rw (← c.self.view_is) (AllEmpty-unmarked _ _ _ _ (omega (arith, c.if-slot-to.true)) c.self.invariant none)

pub returns-else-slot-to-clause-none : goal.returns-else-slot-to-clause-none
returns-else-slot-to-clause-none c =
    let some = c.if-word-ne0.true in
    let word : Fits w64 (slice_index_or c.self.inside.marks (c.loop-at.at / 64) 0) = search rules in
    let none = NoMarks-join _ _ _ _ c.loop-at.invariant.passed (NoMarks-found c.self.inside.marks c.loop-at.at (omega arith) (omega arith)) in
    rw (← c.self.view_is) (AllEmpty-unmarked _ _ _ _ c.requires c.self.invariant (NoMarks-less _ _ _ _ c.if-slot-to.false none))

pub loop-at-preserved : goal.loop-at-preserved
loop-at-preserved c =
    record {
      order = omega (arith, c.loop-at.invariant.order);
      passed = NoMarks-join _ _ _ _ c.loop-at.invariant.passed (NoMarks-word c.self.inside.marks c.loop-at.at c.if-word-ne0.false);
    }

pub returns-clause-none : goal.returns-clause-none
returns-clause-none c =
    rw (← c.self.view_is) (AllEmpty-unmarked _ _ _ _ c.requires c.self.invariant (NoMarks-less _ _ _ _ c.loop-at-test.false c.loop-at.invariant.passed))
