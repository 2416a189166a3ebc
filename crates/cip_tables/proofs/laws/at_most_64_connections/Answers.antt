use Rattle.std.proofs.Common.{◌≤◌, length}
use Rattle.adapter_table.specs.Sound.{IsSound}
use Rattle.cip_tables.proofs.RunKeeps.{over_every}
use Rattle.cip_tables.proofs.laws.at_most_64_connections.Goals as goal

pub returns : goal.returns
returns c = over_every IsSound (λ t. length t.rows ≤ 64) (λ t sound. sound.few) c.tables_are_sound.ensures
