use Rattle.adapter_replies.proofs.objects.network.interface_of.Goals as goal

pub returns : goal.returns
returns c = c.instance_answer.ensures
