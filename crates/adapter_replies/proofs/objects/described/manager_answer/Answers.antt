use Rattle.adapter_replies.proofs.objects.described.manager_answer.Goals as goal

pub returns-in-Some : goal.returns-in-Some
returns-in-Some c = rw c.in-Some.is (record { value = c.counters_answer.ensures c.in-Some.field-0 })
