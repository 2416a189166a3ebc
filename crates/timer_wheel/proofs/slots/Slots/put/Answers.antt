use Rattle.timer_wheel.proofs.MarkLemmas.{IsMarked-put}
use Rattle.timer_wheel.proofs.slots.Slots.put.Goals as goal

pub invariant_of-self : goal.invariant_of-self
invariant_of-self c = IsMarked-put _ _ _ _ _ _ c.requires.list_in c.self.invariant c.unlink.ensures.moves c.push_back.ensures.moves
