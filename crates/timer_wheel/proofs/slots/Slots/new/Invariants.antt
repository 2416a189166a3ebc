use Rattle.timer_wheel.proofs.MarkLemmas.{IsFilling}
use Rattle.timer_wheel.proofs.slots.Slots.new.Given as goal

abbrev pub invariant-loop-key : goal.invariant-loop-key
invariant-loop-key l = IsFilling l.keys l.key l.lists
