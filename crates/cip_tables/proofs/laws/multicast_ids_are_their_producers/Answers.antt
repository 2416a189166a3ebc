use Rattle.adapter_table.specs.Sound.{IsSound, MulticastIdsAreDrawn}
use Rattle.cip_tables.proofs.RunKeeps.{over_every}
use Rattle.cip_tables.proofs.laws.multicast_ids_are_their_producers.Goals as goal

pub returns : goal.returns
returns c = over_every IsSound (λ t. MulticastIdsAreDrawn t.ids t.next_id t.rows) (λ t sound. sound.producers.multicast) c.tables_are_sound.ensures
