use Rattle.adapter_table.specs.Sound.{IsSound, ListenersAreSupported}
use Rattle.cip_tables.proofs.RunKeeps.{over_every}
use Rattle.cip_tables.proofs.laws.listeners_are_supported.Goals as goal

pub returns : goal.returns
returns c = over_every IsSound (λ t. ListenersAreSupported t.rows) (λ t sound. sound.listeners_are_supported) c.tables_are_sound.ensures
