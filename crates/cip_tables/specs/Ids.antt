-- The connection ids of a device of either kind, and of its next life (Volume 1, chapter 3, network connection ids).
use Rattle.std.specs.Prelude.{List, [], ◌∷◌, Option}
use Rattle.cip_types.specs.declared.ids.IdBlock.{IdBlock}
use Rattle.cip_types.specs.Ids.{ids_behind, ids_left}
use Rattle.cip_tables.specs.declared.table.Config.{Config}
use Rattle.cip_tables.specs.declared.table.Config.TheVariants as config
use Rattle.cip_tables.specs.declared.table.DeviceTable.{DeviceTable}
use Rattle.cip_tables.specs.Whole.{ids_of, next_id_of}

-- the block that a configuration states
abbrev pub stated_ids : Config → Option IdBlock
stated_ids (config.Adapter profile) = profile.ids
stated_ids (config.Scanner profile) = profile.ids

abbrev pub with_ids : Option IdBlock → Config → Config
with_ids ids (config.Adapter profile) = config.Adapter (record profile { ids = ids })
with_ids ids (config.Scanner profile) = config.Scanner (record profile { ids = ids })

-- the last of the blocks
abbrev pub last_block : List IdBlock → IdBlock
last_block [] = record { first = 1; count = 0 }
last_block (block ∷ []) = block
last_block (block ∷ (second ∷ rest)) = last_block (second ∷ rest)

-- The ids of the next life of a device: what is left of its last block, and never the first id of that. So a device that restarts
-- gives no id again, however often it does.
abbrev pub next_ids : DeviceTable → IdBlock
next_ids t = ids_behind (last_block (ids_of t)) (ids_left (ids_of t) (next_id_of t))
