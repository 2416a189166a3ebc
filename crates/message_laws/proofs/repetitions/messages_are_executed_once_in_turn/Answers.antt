use Rattle.message_laws.proofs.Turns.{executed_once}
use Rattle.message_laws.proofs.repetitions.messages_are_executed_once_in_turn.Goals as goal

pub returns : goal.returns
returns c = executed_once c.tables_are_whole.ensures.steps
