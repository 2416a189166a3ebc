use Rattle.adapter_table.proofs.NewestSteps.{steps_accept_newer, steps_apply_new, steps_apply_once, faults_accept_nothing}
use Rattle.adapter_table.proofs.laws.accepted_datagrams_are_newer.Goals as goal

pub returns : goal.returns
returns c = record { numbers = steps_accept_newer; applied = steps_apply_new; once = steps_apply_once; refusals = faults_accept_nothing }
