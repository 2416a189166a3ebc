use Rattle.std.proofs.Common.{length}
use Rattle.adapter_replies.proofs.objects.assembly.+largest_point.Given as goal

abbrev pub decreases-largest_point : goal.decreases-largest_point
decreases-largest_point l = length l.values.now
