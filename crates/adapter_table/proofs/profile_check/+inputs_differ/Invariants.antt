use Rattle.std.proofs.Common.{length}
use Rattle.adapter_table.proofs.profile_check.+inputs_differ.Given as goal

abbrev pub decreases-inputs_differ : goal.decreases-inputs_differ
decreases-inputs_differ l = length l.inputs.now
