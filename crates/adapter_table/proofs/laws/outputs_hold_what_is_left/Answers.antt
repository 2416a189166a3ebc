use Rattle.adapter_table.proofs.ScratchSteps.{fresh_zeros, adapter_leaves, fault_touches_none}
use Rattle.adapter_table.proofs.laws.outputs_hold_what_is_left.Goals as goal

pub returns : goal.returns
returns c = record { fresh = fresh_zeros; steps = adapter_leaves; refusals = fault_touches_none }
