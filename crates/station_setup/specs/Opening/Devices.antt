-- What is read of a profile as its device begins, and what is put in its place.
use Rattle.std.specs.Prelude.{ℕ, ◌-◌, ◌^◌, ◌==◌, if◌then◌else◌, min, length, Bool, true, false, Option, Some, None}
use Rattle.cip_types.specs.declared.ids.IdBlock.{IdBlock}
use Rattle.cip_tables.specs.Ids.{with_ids}
use Rattle.cip_tables.specs.declared.table.Config.{Config}
use Rattle.cip_tables.specs.declared.table.Config.TheVariants.{Adapter, Scanner}

abbrev pub is_scanner : Config → Bool
is_scanner (Adapter profile) = false
is_scanner (Scanner profile) = true

abbrev pub incarnation_of : Config → ℕ
incarnation_of (Adapter profile) = profile.incarnation
incarnation_of (Scanner profile) = profile.incarnation

-- the profile of a life: it has this incarnation, and that of a scanner is tidy
abbrev pub with_incarnation : Config → ℕ → Config
with_incarnation (Adapter profile) incarnation = Adapter (record profile { incarnation = incarnation })
with_incarnation (Scanner profile) incarnation = Scanner (record profile { incarnation = incarnation; tidy = true })

-- a scanner whose profile has the serial number 0 has that of its station
abbrev pub own_serial : ℕ → ℕ → ℕ
own_serial kept serial = if serial == 0 then kept else serial

-- the profile of a start: with the serial number of its station, and the first connection serial number of the start
abbrev pub with_serials : Config → ℕ → Option ℕ → Config
with_serials (Adapter profile) kept serials = Adapter profile
with_serials (Scanner profile) kept serials = Scanner (record profile { serial = own_serial kept profile.serial; serials = serials })

-- the slots of a scanner, within 32 bits; none of an adapter
abbrev pub slots_of : Config → ℕ
slots_of (Adapter profile) = 0
slots_of (Scanner profile) = min (length profile.slots) (2 ^ 32 - 1)

-- the profile of a start that has reserved a block of connection ids
abbrev pub with_block : Config → Option IdBlock → Config
with_block config None = config
with_block config (Some block) = with_ids (Some block) config
