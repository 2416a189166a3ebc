-- The two ends of a line on 127.0.0.1: the example's adapter, and its scanner, whose slot 0 owns the adapter's output.
use Rattle.std.specs.Prelude.{true, [], ◌∷◌}
use Rattle.cip_types.specs.declared.names.Node.{Node}
use Rattle.adapter_table.specs.declared.profile.Profile.{Profile}
use Rattle.scanner_table.specs.declared.profile.ScannerProfile.{ScannerProfile}
use Rattle.cip_events.specs.declared.event.Event.TheVariants as event
use Rattle.cip_tables.specs.declared.table.Config.TheVariants as config
use Rattle.cip_tables.specs.declared.table.DeviceTable.{DeviceTable}
use Rattle.cip_tables.specs.Run.{table_after}
use Rattle.cip_tables.specs.Step.{opening_table}
use Rattle.example_profiles.specs.Profiles.{adapter_profile, scanner_profile}

-- 127.0.0.1
abbrev pub this_host : Node
this_host = record { 0 = 0x7F000001 }

-- the adapter, whose mask is 255.0.0.0
abbrev pub loop_adapter : Profile
loop_adapter = adapter_profile 0x10 this_host 0xFF000000

-- the scanner, whose target is on this host too
abbrev pub loop_scanner : ScannerProfile
loop_scanner = scanner_profile 0x20 this_host this_host

-- a fresh adapter
abbrev pub adapter_begins : DeviceTable
adapter_begins = opening_table (config.Adapter loop_adapter)

-- a fresh scanner whose slot 0 is started, in run mode
abbrev pub scanner_begins : DeviceTable
scanner_begins = table_after (opening_table (config.Scanner loop_scanner)) (event.Start 0 ∷ event.Mode true ∷ [])
