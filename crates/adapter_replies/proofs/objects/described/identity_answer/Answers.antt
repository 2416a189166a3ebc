use Rattle.adapter_replies.proofs.objects.described.identity_answer.Goals as goal

pub returns : goal.returns
returns c = rw (c.profile.ensures.value, c.status_word-status.ensures, c.consistency_value-consistency.ensures, c.as_slice-name.ensures) at c.instance_answer.ensures
