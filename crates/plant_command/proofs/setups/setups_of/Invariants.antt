use Rattle.plant_command.specs.Setups.{AreApart}
use Rattle.plant_command.proofs.setups.setups_of.Given as goal

abbrev pub invariant-loop-place : goal.invariant-loop-place
invariant-loop-place g l = AreApart l.setups.items
