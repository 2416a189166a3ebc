use Rattle.adapter_table.specs.Sound.{IsSound, HasOneOwner}
use Rattle.cip_tables.proofs.RunKeeps.{over_every}
use Rattle.cip_tables.proofs.laws.at_most_one_owner.Goals as goal

pub returns : goal.returns
returns c = over_every IsSound (λ t. HasOneOwner t.rows) (λ t sound. sound.one_owner) c.tables_are_sound.ensures
