use Rattle.adapter_table.specs.Sound.{IsSound, OpeningsRise}
use Rattle.cip_tables.proofs.RunKeeps.{over_every}
use Rattle.cip_tables.proofs.laws.openings_rise.Goals as goal

pub returns : goal.returns
returns c = over_every IsSound (λ t. OpeningsRise t.rows) (λ t sound. sound.producers.openings_rise) c.tables_are_sound.ensures
