-- Why a file gives no profile of a station.
use Rattle.std.specs.Prelude.{if◌then◌else◌, Bool, Option, Some}
use Rattle.std.specs.Option.{option_map}
use Rattle.cip_tables.specs.declared.table.Config.{Config}
use Rattle.cip_types.specs.declared.names.Node.{Node}
use Rattle.trace_files.specs.declared.regular.fault.FileFault.{FileFault}
use Rattle.trace_files.specs.declared.regular.fault.FileFault.TheVariants as file
use Rattle.station_setup.specs.Unservable.Defects.{station_defect}
use Rattle.station_setup.specs.declared.opening.profiles.TraceRefusal.{TraceRefusal}
use Rattle.station_setup.specs.declared.opening.profiles.TraceRefusal.TheVariants as refusal
use Rattle.station_setup.specs.declared.opening.profiles.UnusableProfile.{UnusableProfile}
use Rattle.station_setup.specs.declared.opening.profiles.UnusableProfile.TheVariants as fault

-- the file is not read
abbrev pub unread_profile : FileFault → UnusableProfile
unread_profile file.OutOfMemory = fault.OutOfMemory
unread_profile other = fault.Unread other

-- the trace has events, or else its profile says what no station at this address can serve
abbrev pub refusal_of : Config → (has_events : Bool) → Option Node → Option TraceRefusal
refusal_of config has_events address = if has_events then Some refusal.Events else option_map (λ defect. refusal.Unserved defect) (station_defect config address)
