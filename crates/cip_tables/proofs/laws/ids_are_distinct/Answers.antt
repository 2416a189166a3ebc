use Rattle.adapter_table.specs.Sound.{IsSound, IdsDiffer}
use Rattle.cip_tables.proofs.RunKeeps.{over_every}
use Rattle.cip_tables.proofs.laws.ids_are_distinct.Goals as goal

pub returns : goal.returns
returns c = over_every IsSound (λ t. IdsDiffer t.rows) (λ t sound. sound.ids_differ) c.tables_are_sound.ensures
