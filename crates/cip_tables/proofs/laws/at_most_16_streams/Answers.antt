use Rattle.std.proofs.Common.{◌≤◌, length}
use Rattle.adapter_table.specs.Sound.{IsSound}
use Rattle.cip_tables.proofs.RunKeeps.{over_every}
use Rattle.cip_tables.proofs.laws.at_most_16_streams.Goals as goal

pub returns : goal.returns
returns c = over_every IsSound (λ t. length t.streams ≤ 16) (λ t sound. sound.few_streams) c.tables_are_sound.ensures
