use Rattle.adapter_table.specs.Lemmas.CounterSteps.{profile_stays}
use Rattle.adapter_table.proofs.laws.profiles_stay.Goals as goal

pub returns : goal.returns
returns c = profile_stays
