use Rattle.adapter_table.proofs.LimitSteps.{fresh_is_within, steps_are_within, places_are_kept}
use Rattle.adapter_table.proofs.laws.places_are_kept.Goals as goal

pub returns : goal.returns
returns c = record { fresh = fresh_is_within; steps = steps_are_within; places = places_are_kept }
