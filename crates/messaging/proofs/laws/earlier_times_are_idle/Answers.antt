use Rattle.messaging.specs.Lemmas.IdleLemmas.{early_is_idle}
use Rattle.messaging.proofs.laws.earlier_times_are_idle.Goals as goal

pub returns : goal.returns
returns c = early_is_idle
