use Rattle.segment_world.proofs.Naming.{first_good_more}
use Rattle.segment_world.proofs.lives.plant.Plant.replace.Goals as goal

pub invariant_of-self-2 : goal.invariant_of-self-2
invariant_of-self-2 g c = first_good_more c.self.inside.configs.items c.reserve.new.self.items c.push_reserved.new.self.items c.args.config c.in_ok-own.own c.self.invariant c.requires.good c.reserve.ensures.items c.push_reserved.ensures.items c.in_ok-own.ensures
