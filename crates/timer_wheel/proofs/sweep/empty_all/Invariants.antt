use Rattle.std.proofs.Common.{◌-◌, ◌≤◌, vec_len, vec_capacity}
use Rattle.timer_wheel.specs.Laws.SweepLemmas.{Emptying}
use Rattle.timer_wheel.proofs.sweep.empty_all.Given as goal

abbrev pub invariant-loop-slot : goal.invariant-loop-slot
invariant-loop-slot l = record {
  order : l.from ≤ l.at;
  bound : l.at ≤ l.to;
  emptying : Emptying l.step.before l.step.now l.at l.slots l.initial.timers l.timers l.initial.due.items l.due.items
      (vec_len l.initial.due) (vec_len l.due) (vec_capacity l.initial.due) (vec_capacity l.due);
}

abbrev pub decreases-loop-slot : goal.decreases-loop-slot
decreases-loop-slot l = l.to - l.at
