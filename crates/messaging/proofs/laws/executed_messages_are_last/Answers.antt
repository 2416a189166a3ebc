use Rattle.messaging.specs.Lemmas.FoundLemmas.{executed_found}
use Rattle.messaging.proofs.laws.executed_messages_are_last.Goals as goal

pub returns : goal.returns
returns c = λ ids next_id m stream id count reply deadline d sound is. executed_found m stream id count reply deadline d sound.ids_differ is
