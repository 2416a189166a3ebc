use Rattle.std.proofs.Common.{length}
use Rattle.adapter_replies.proofs.objects.lists.+put_got_items.Given as goal

abbrev pub decreases-put_got_items : goal.decreases-put_got_items
decreases-put_got_items l = length l.requested.now
