use Rattle.segment_world.proofs.Naming.{names}
use Rattle.segment_world.proofs.lives.laws.incarnations_name_lives.Goals as goal

pub returns : goal.returns
returns c = names
