use Rattle.std.proofs.Common.{length}
use Rattle.adapter_table.proofs.profile_check.+are_own_classes.Given as goal

abbrev pub decreases-are_own_classes : goal.decreases-are_own_classes
decreases-are_own_classes l = length l.classes.now
