use Rattle.adapter_table.specs.Sound.{IsSound, TriadsDiffer}
use Rattle.cip_tables.proofs.RunKeeps.{over_every}
use Rattle.cip_tables.proofs.laws.triads_are_distinct.Goals as goal

pub returns : goal.returns
returns c = over_every IsSound (λ t. TriadsDiffer t.rows) (λ t sound. sound.triads_differ) c.tables_are_sound.ensures
