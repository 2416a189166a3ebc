use Rattle.adapter_table.specs.Sound.{IsSound, IdsAreDrawn}
use Rattle.cip_tables.proofs.RunKeeps.{over_every}
use Rattle.cip_tables.proofs.laws.ids_are_below_the_next.Goals as goal

pub returns : goal.returns
returns c = over_every IsSound (λ t. IdsAreDrawn t.ids t.next_id t.rows) (λ t sound. sound.ids_are_drawn) c.tables_are_sound.ensures
