use Rattle.std.proofs.Common.{refl}
use Rattle.std.specs.Prelude.{codes}
use Rattle.plant_rim.proofs.Cuts.{split_is_cut}
use Rattle.plant_rim.proofs.file.texts.split_do.Goals as goal

pub returns : goal.returns
returns c = split_is_cut (codes " do ") _ 3 refl _ c.split_once.ensures.cases
