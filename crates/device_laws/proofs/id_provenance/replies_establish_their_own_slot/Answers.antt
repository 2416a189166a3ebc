use Rattle.device_laws.proofs.Carrying.{replies_establish}
use Rattle.device_laws.proofs.id_provenance.replies_establish_their_own_slot.Goals as goal

pub returns : goal.returns
returns c = replies_establish c.reads_back.ensures.items c.answers_are_small.ensures
