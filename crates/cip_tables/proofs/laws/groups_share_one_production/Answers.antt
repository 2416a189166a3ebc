use Rattle.adapter_table.specs.Sound.{IsSound, GroupsAgree}
use Rattle.cip_tables.proofs.RunKeeps.{over_every}
use Rattle.cip_tables.proofs.laws.groups_share_one_production.Goals as goal

pub returns : goal.returns
returns c = over_every IsSound (λ t. GroupsAgree t.rows) (λ t sound. sound.groups_agree) c.tables_are_sound.ensures
