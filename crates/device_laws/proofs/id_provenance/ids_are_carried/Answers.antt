use Rattle.device_laws.proofs.Carrying.{steps_carry}
use Rattle.device_laws.proofs.id_provenance.ids_are_carried.Goals as goal

pub returns : goal.returns
returns c = steps_carry c.reads_back.ensures.items c.answers_are_small.ensures c.blocks_grow.ensures
