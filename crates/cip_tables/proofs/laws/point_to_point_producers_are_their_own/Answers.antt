use Rattle.adapter_table.specs.Sound.{IsSound, SinglesHaveTheirOwn}
use Rattle.cip_tables.proofs.RunKeeps.{over_every}
use Rattle.cip_tables.proofs.laws.point_to_point_producers_are_their_own.Goals as goal

pub returns : goal.returns
returns c = over_every IsSound (λ t. SinglesHaveTheirOwn t.rows) (λ t sound. sound.producers.single) c.tables_are_sound.ensures
