use Rattle.schedule_laws.proofs.LaterSlots.{replies_establish_their_own}
use Rattle.schedule_laws.proofs.replies_establish_their_own_slot.Goals as goal

pub returns : goal.returns
returns c = replies_establish_their_own c.tables_are_whole.ensures.run c.replies_establish_their_own_slot.ensures
