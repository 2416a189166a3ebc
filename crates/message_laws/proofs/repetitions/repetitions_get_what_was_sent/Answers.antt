use Rattle.message_laws.proofs.Runs.{repetitions_get}
use Rattle.message_laws.proofs.Sent.{sent_goes_out}
use Rattle.message_laws.proofs.repetitions.repetitions_get_what_was_sent.Goals as goal

pub returns-clause-repeated : goal.returns-clause-repeated
returns-clause-repeated c = repetitions_get c.tables_are_whole.ensures.steps

pub returns-clause-sent : goal.returns-clause-sent
returns-clause-sent c = sent_goes_out
