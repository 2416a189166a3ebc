-- One event at the table of a device, adapter or scanner.
use Rattle.std.specs.Prelude.{ℕ, ◌≡◌, not, Bool, true, false, List, Option, Some, None, Result, Ok, Err}
use Rattle.std.specs.List.{list_any}
use Rattle.cip_types.specs.declared.names.Node.{Node}
use Rattle.cip_events.specs.declared.event.Event.{Event}
use Rattle.cip_events.specs.declared.event.Event.TheVariants.{Datagram}
use Rattle.cip_events.specs.declared.event.Answer.{Answer}
use Rattle.cip_events.specs.declared.event.StepFault.{StepFault}
use Rattle.cip_events.specs.declared.event.StepFault.TheVariants as fault
use Rattle.cip_events.specs.declared.profile_fault.ProfileFault.{ProfileFault}
use Rattle.adapter_table.specs.Profiles.{profile_fault}
use Rattle.adapter_table.specs.Points.{bytes_at}
use Rattle.adapter_table.specs.Requests.{Next}
use Rattle.adapter_table.specs.Productions.{produces_on_change}
use Rattle.adapter_table.specs.Step.{adapter_step, adapter_table}
use Rattle.scanner_table.specs.Profiles.{profile_fault as scanner_profile_fault}
use Rattle.scanner_table.specs.Slots.{IndexedSlot, slot_at}
use Rattle.scanner_table.specs.Effects.{Next as ScannerNext}
use Rattle.scanner_table.specs.Step.{scanner_step, scanner_table}
use Rattle.cip_tables.specs.declared.table.Config.{Config}
use Rattle.cip_tables.specs.declared.table.Config.TheVariants as config
use Rattle.cip_tables.specs.declared.table.DeviceTable.{DeviceTable}
use Rattle.cip_tables.specs.declared.table.DeviceTable.TheVariants.{Adapter, Scanner}

-- THE STEP

-- an answer and the next table
abbrev pub DeviceNext : Type 0
DeviceNext = Answer × DeviceTable

abbrev pub as_adapter : Result Next StepFault → Result DeviceNext StepFault
as_adapter (Ok next) = Ok (next.0, Adapter next.1)
as_adapter (Err fault) = Err fault

abbrev pub as_scanner : Result ScannerNext StepFault → Result DeviceNext StepFault
as_scanner (Ok next) = Ok (next.0, Scanner next.1)
as_scanner (Err fault) = Err fault

unfoldable pub step : DeviceTable → Event → Result DeviceNext StepFault
step (Adapter t) event = as_adapter (adapter_step t event)
step (Scanner t) event = as_scanner (scanner_step t event)

abbrev pub opening_table : Config → DeviceTable
opening_table (config.Adapter profile) = Adapter (adapter_table profile)
opening_table (config.Scanner profile) = Scanner (scanner_table profile)

-- KINDS OF DEVICES

-- the address of a device, and the byte that begins its connection ids
abbrev pub node_of : DeviceTable → Node
node_of (Adapter t) = t.profile.node
node_of (Scanner t) = t.profile.node

abbrev pub incarnation_of : DeviceTable → ℕ
incarnation_of (Adapter t) = t.profile.incarnation
incarnation_of (Scanner t) = t.profile.incarnation

-- the first fault of a device's profile
abbrev pub config_fault : Config → Option ProfileFault
config_fault (config.Adapter profile) = profile_fault profile
config_fault (config.Scanner profile) = scanner_profile_fault profile

-- the device is an adapter
abbrev pub is_adapter : DeviceTable → Bool
is_adapter (Adapter t) = true
is_adapter (Scanner t) = false

-- the configuration is of an adapter
abbrev pub makes_adapter : Config → Bool
makes_adapter (config.Adapter profile) = true
makes_adapter (config.Scanner profile) = false

-- the configuration is of a scanner
abbrev pub makes_scanner : Config → Bool
makes_scanner config = not (makes_adapter config)

-- every configuration is accepted
abbrev pub AcceptsAll : (Config → Bool) → Type 0
AcceptsAll accepts = (config : Config) → accepts config ≡ true

-- POINTS

abbrev pub image_of : Option IndexedSlot → Option (List ℕ)
image_of None = None
image_of (Some indexed) = Some indexed.slot.image

-- the bytes of a point of an adapter, or of the image of a scanner's slot
abbrev pub bytes_in : DeviceTable → ℕ → Option (List ℕ)
bytes_in (Adapter t) point = bytes_at t.values point
bytes_in (Scanner t) number = image_of (slot_at t number)

-- the fault of an unknown point or slot
abbrev pub no_such : DeviceTable → StepFault
no_such (Adapter t) = fault.NoSuchPoint
no_such (Scanner t) = fault.NoSuchSlot

-- A write of this input makes a change-of-state producer produce at once. A scanner's producers wait for a tick.
abbrev pub produces_at_once : DeviceTable → ℕ → Bool
produces_at_once (Adapter t) point = list_any (produces_on_change t.clock point) t.rows
produces_at_once (Scanner t) number = false

-- DATAGRAMS

-- the event is a class 1 datagram; a device takes no memory for it
abbrev pub is_datagram : Event → Bool
is_datagram (Datagram peer bytes) = true
is_datagram other = false
