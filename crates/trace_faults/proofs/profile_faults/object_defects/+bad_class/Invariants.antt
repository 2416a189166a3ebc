use Rattle.std.proofs.Common.{length}
use Rattle.trace_faults.proofs.profile_faults.object_defects.+bad_class.Given as goal

abbrev pub decreases-bad_class : goal.decreases-bad_class
decreases-bad_class l = length l.classes.now
