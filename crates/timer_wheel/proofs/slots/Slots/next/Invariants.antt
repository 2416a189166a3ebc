use Rattle.std.proofs.Common.{◌-◌, ◌≤◌}
use Rattle.timer_wheel.proofs.MarkLemmas.{NoMarks}
use Rattle.timer_wheel.proofs.slots.Slots.next.Given as goal

abbrev pub invariant-loop-at : goal.invariant-loop-at
invariant-loop-at l = record { order : l.from ≤ l.at; passed : NoMarks l.self-inside.marks l.from l.at }

abbrev pub decreases-loop-at : goal.decreases-loop-at
decreases-loop-at l = l.to - l.at
