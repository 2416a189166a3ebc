use Rattle.adapter_replies.proofs.objects.lists.+put_set_items.Given as goal

abbrev pub decreases-put_set_items : goal.decreases-put_set_items
decreases-put_set_items l = l.count
