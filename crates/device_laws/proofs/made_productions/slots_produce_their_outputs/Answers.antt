use Rattle.device_laws.proofs.Values.{outputs_produced}
use Rattle.device_laws.proofs.made_productions.slots_produce_their_outputs.Goals as goal

pub returns : goal.returns
returns c = outputs_produced
