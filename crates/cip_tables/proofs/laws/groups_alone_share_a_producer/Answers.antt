use Rattle.adapter_table.specs.Sound.{IsSound, GroupsAloneShare}
use Rattle.cip_tables.proofs.RunKeeps.{over_every}
use Rattle.cip_tables.proofs.laws.groups_alone_share_a_producer.Goals as goal

pub returns : goal.returns
returns c = over_every IsSound (λ t. GroupsAloneShare t.rows) (λ t sound. sound.producers.shared) c.tables_are_sound.ensures
