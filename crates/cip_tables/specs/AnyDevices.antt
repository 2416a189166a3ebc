-- A device of either kind: its table, and the configurations that it accepts.
use Rattle.std.specs.Prelude.{Bool, refl}
use Rattle.cip_tables.specs.declared.any_device.AnyDevice.{AnyDevice}
use Rattle.cip_tables.specs.declared.any_device.AnyDevice.TheVariants.{Adapter, Scanner}
use Rattle.cip_tables.specs.declared.table.Config.{Config}
use Rattle.cip_tables.specs.declared.table.Config.TheVariants as config
use Rattle.cip_tables.specs.declared.table.DeviceTable.{DeviceTable}
use Rattle.cip_tables.specs.Step.{AcceptsAll, makes_adapter, makes_scanner}

-- the table of the device that it is
abbrev pub table_by : {A S : Type 0} → (A → DeviceTable) → (S → DeviceTable) → AnyDevice A S → DeviceTable
table_by adapter scanner (Adapter device) = adapter device
table_by adapter scanner (Scanner device) = scanner device

-- a configuration of an adapter is one for the adapter, and a configuration of a scanner is one for the scanner
abbrev pub accepted_by : (Config → Bool) → (Config → Bool) → Config → Bool
accepted_by adapter scanner (config.Adapter profile) = adapter (config.Adapter profile)
accepted_by adapter scanner (config.Scanner profile) = scanner (config.Scanner profile)

-- an adapter and a scanner together accept every configuration
pub both_accept_all : AcceptsAll (accepted_by makes_adapter makes_scanner)
both_accept_all (config.Adapter profile) = refl
both_accept_all (config.Scanner profile) = refl
