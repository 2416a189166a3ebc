use Rattle.device_laws.specs.Lemmas.Inputs.{fresh_zeros, steps_write}
use Rattle.device_laws.proofs.made_productions.inputs_hold_what_is_written.Goals as goal

pub returns : goal.returns
returns c = record { fresh = fresh_zeros; steps = steps_write }
