use Rattle.adapter_table.specs.Sound.{IsSound, ProducersAreDrawn}
use Rattle.cip_tables.proofs.RunKeeps.{over_every}
use Rattle.cip_tables.proofs.laws.producers_are_drawn.Goals as goal

pub returns : goal.returns
returns c = over_every IsSound (λ t. ProducersAreDrawn t.next_id t.rows) (λ t sound. sound.producers.are_drawn) c.tables_are_sound.ensures
