use Rattle.cip_tables.proofs.RunKeeps.{answers_are_once}
use Rattle.cip_tables.proofs.laws.requests_are_answered_once.Goals as goal

pub returns : goal.returns
returns c =
    let law = c.requests_are_answered_once.ensures in
    answers_are_once law.answers law.steps law.refusals
