use Rattle.std.proofs.Common.{length}
use Rattle.adapter_replies.proofs.objects.lists.+are_attributes.Given as goal

abbrev pub decreases-are_attributes : goal.decreases-are_attributes
decreases-are_attributes l = length l.requested.now
