use Rattle.adapter_table.proofs.OnceLemmas.{answers_settle, settled_refused, steps_settle}
use Rattle.adapter_table.proofs.laws.requests_are_answered_once.Goals as goal

pub returns : goal.returns
returns c = record { answers = answers_settle; steps = steps_settle; refusals = settled_refused }
