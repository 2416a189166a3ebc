use Rattle.messaging.specs.Lemmas.IdleLemmas.{idle_is_calm}
use Rattle.messaging.proofs.laws.idle_times_change_nothing.Goals as goal

pub returns : goal.returns
returns c = λ ids next_id clock m sound idle. idle_is_calm clock m sound.answerable idle
