use Rattle.messaging.specs.Lemmas.FoundLemmas.{repeated_found}
use Rattle.messaging.proofs.laws.repetitions_move_deadlines.Goals as goal

pub returns : goal.returns
returns c = λ ids next_id m stream id deadline d sound is. repeated_found m stream id deadline d sound.ids_differ is
