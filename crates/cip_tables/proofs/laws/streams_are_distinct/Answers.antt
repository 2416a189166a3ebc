use Rattle.adapter_table.specs.Sound.{IsSound, StreamsDiffer}
use Rattle.cip_tables.proofs.RunKeeps.{over_every}
use Rattle.cip_tables.proofs.laws.streams_are_distinct.Goals as goal

pub returns : goal.returns
returns c = over_every IsSound (λ t. StreamsDiffer t.streams) (λ t sound. sound.streams_differ) c.tables_are_sound.ensures
