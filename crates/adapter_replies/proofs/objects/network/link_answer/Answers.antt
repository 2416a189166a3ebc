use Rattle.adapter_replies.proofs.objects.network.link_answer.Goals as goal

pub returns : goal.returns
returns c = rw c.as_slice.ensures at c.instance_answer.ensures
