use Rattle.adapter_table.proofs.RateSteps.{fresh_opens_within, steps_open_within}
use Rattle.adapter_table.proofs.laws.openings_are_bounded.Goals as goal

pub returns : goal.returns
returns c = record { fresh = fresh_opens_within; steps = steps_open_within }
