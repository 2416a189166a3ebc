use Rattle.timer_wheel.proofs.MarkLemmas.{IsMarked-unmark}
use Rattle.timer_wheel.proofs.slots.Slots.unmark.Goals as goal

pub invariant_of-self : goal.invariant_of-self
invariant_of-self c = IsMarked-unmark _ _ _ c.requires.slot_in (rw (← c.self.view_is) at c.requires.empty) c.self.invariant
