-- Connection ids that two devices have in common after their histories (Volume 1, chapter 3, network connection ids).
use Rattle.std.specs.Prelude.{ℕ, ◌≡◌, ◌+◌, if◌then◌else◌, Bool, List, [], ◌∷◌, map, Option, Some, None}
use Rattle.std.specs.List.{list_any}
use Rattle.cip_types.specs.declared.ids.IdBlock.{IdBlock}
use Rattle.cip_types.specs.Ids.{shares_ids}
use Rattle.cip_tables.specs.declared.table.DeviceTable.{DeviceTable}
use Rattle.cip_tables.specs.Run.{table_after}
use Rattle.cip_tables.specs.Step.{opening_table}
use Rattle.cip_tables.specs.Whole.{ids_of}
use Rattle.device_lock.specs.Histories.{HistoryValue}

-- BLOCKS

-- an id of the block is of one of these
abbrev pub shares_any : List IdBlock → IdBlock → Bool
shares_any blocks block = list_any (shares_ids block) blocks

-- an id is of a block of both
abbrev pub share_ids : List IdBlock → List IdBlock → Bool
share_ids blocks others = list_any (shares_any blocks) others

-- The first of these devices that has an id in common with the blocks, where the first one has this place.
abbrev pub sharer : List IdBlock → (place : ℕ) → List (List IdBlock) → Option ℕ
sharer blocks place [] = None
sharer blocks place (own ∷ others) = if share_ids blocks own then Some place else sharer blocks (place + 1) others

-- the device at this place with another one, or else a later two
abbrev pub with_sharer : (place : ℕ) → Option ℕ → Option (ℕ × ℕ) → Option (ℕ × ℕ)
with_sharer place None later = later
with_sharer place (Some other) later = Some (place, other)

-- The first two devices with an id in common: the first one that has one in common with a later one, and the first such later one.
abbrev pub first_shared : (place : ℕ) → List (List IdBlock) → Option (ℕ × ℕ)
first_shared place [] = None
first_shared place (own ∷ others) = with_sharer place (sharer own (place + 1) others) (first_shared (place + 1) others)

-- HISTORIES

-- the table of a device behind its last event
abbrev pub last_table : HistoryValue → DeviceTable
last_table h = table_after (opening_table h.config) h.events

-- the blocks of connection ids that it holds there
abbrev pub last_ids : HistoryValue → List IdBlock
last_ids h = ids_of (last_table h)

abbrev pub ids_of_all : List HistoryValue → List (List IdBlock)
ids_of_all hs = map last_ids hs

-- no two devices have an id in common
abbrev pub ShareNoIds : List HistoryValue → Type 0
ShareNoIds hs = first_shared 0 (ids_of_all hs) ≡ None
