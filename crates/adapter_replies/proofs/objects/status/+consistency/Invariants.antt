use Rattle.std.proofs.Common.{length}
use Rattle.adapter_replies.proofs.objects.status.+consistency.Given as goal

abbrev pub decreases-consistency : goal.decreases-consistency
decreases-consistency l = length l.bytes.now
