use Rattle.std.proofs.Common.{length}
use Rattle.adapter_table.proofs.profile_check.+outputs_differ.Given as goal

abbrev pub decreases-outputs_differ : goal.decreases-outputs_differ
decreases-outputs_differ l = length l.outputs.now
