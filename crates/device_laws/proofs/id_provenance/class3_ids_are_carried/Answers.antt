use Rattle.device_laws.proofs.Class3Carrying.{steps_carry_class3}
use Rattle.device_laws.proofs.id_provenance.class3_ids_are_carried.Goals as goal

pub returns : goal.returns
returns c = steps_carry_class3
