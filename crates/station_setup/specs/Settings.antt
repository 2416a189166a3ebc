-- What the options of a station and its profile say of its port and its end.
use Rattle.std.specs.Prelude.{ℕ, ◌+◌, ◌*◌, ◌%◌, ◌==◌, nat_eq, if◌then◌else◌, Bool, List, [], ◌∷◌, ◌++◌, replicate, Option, Some, None, is_some}
use Rattle.std.specs.List.{list_any}
use Rattle.adapter_table.specs.declared.profile.Description.{Description}
use Rattle.adapter_table.specs.declared.profile.Profile.{Profile}
use Rattle.cip_tables.specs.declared.table.Config.{Config}
use Rattle.cip_tables.specs.declared.table.Config.TheVariants.{Adapter, Scanner}
use Rattle.cip_types.specs.declared.names.Node.{Node}
use Rattle.list_identity.specs.Names.{name_front}
use Rattle.port_faults.specs.declared.rates.FaultRates.{FaultRates}
use Rattle.udp_runner.specs.Groups.GroupUse.{uses_groups}
use Rattle.socket_port.specs.declared.streams.routes.Destination.{Destination}
use Rattle.scanner_table.specs.declared.profile.SlotConfig.{SlotConfig}
use Rattle.scanner_table.specs.declared.profile.ScannerProfile.{ScannerProfile}
use Rattle.station.specs.declared.serving.Reporting.{Reporting}
use Rattle.station_port.specs.declared.place.StationPlace.{StationPlace}
use Rattle.command_lines.specs.declared.station_options.Options.{Options}

-- the address of the options, or that of the profile
abbrev pub given_or : Option Node → Node → Node
given_or (Some address) node = address
given_or None node = node

-- the address of the options, unless that is each address of the host, or that of the profile
abbrev pub node_of : Option Node → Node → Node
node_of None node = node
node_of (Some address) node = if address.0 == 0 then node else address

-- the incarnation of a life, where that of the first one is said: 255 is followed by 1
abbrev pub incarnation_in : (first life : ℕ) → ℕ
incarnation_in first life = (first + 253 + life) % 255 + 1

-- where a station is, in the network of this mask, at this TCP port, with this inactivity time-out, and where it sends
abbrev pub place_of : Options → Node → (mask tcp inactivity : ℕ) → StationPlace
place_of options node mask tcp inactivity = record {
  address = given_or options.address node;
  mask = mask;
  tcp = tcp;
  udp = options.udp;
  peer_udp = options.peer_udp;
  multicast = uses_groups options.multicast (node_of options.address node);
  inactivity_s = inactivity;
  item_ports = options.item_ports;
}

-- the number of an option, or this one
abbrev pub given_or_number : Option ℕ → ℕ → ℕ
given_or_number (Some number) other = number
given_or_number None other = other

-- the TCP port of a description, or the standard's
abbrev pub port_of : Option Description → ℕ
port_of (Some description) = description.port
port_of None = 44818

-- the inactivity time-out of a description, or none
abbrev pub inactivity_of : Option Description → ℕ
inactivity_of (Some description) = description.inactivity
inactivity_of None = 0

abbrev pub adapter_place : Options → Profile → StationPlace
adapter_place options profile = place_of options profile.node profile.mask (port_of profile.description) (inactivity_of profile.description)

-- a scanner's network is of one address, at which no inquiry finds it; the TCP port is that of its targets
abbrev pub scanner_place : Options → ScannerProfile → StationPlace
scanner_place options profile = place_of options profile.node 4294967295 (given_or_number options.tcp 44818) 0

-- where the station of a device is
abbrev pub own_place : Options → Config → StationPlace
own_place options (Adapter profile) = adapter_place options profile
own_place options (Scanner profile) = scanner_place options profile

-- a description with what the options say in its place
abbrev pub described_as : Description → Options → List ℕ → Description
described_as d options name = record d {
  serial = given_or_number options.serial d.serial;
  name = if is_some options.name_from_end then name_front name else d.name;
  port = given_or_number options.tcp d.port;
  inactivity = given_or_number options.inactivity_s d.inactivity;
}

-- a description of which nothing is stated but a serial number and a name
abbrev pub own_description : ℕ → List ℕ → Description
own_description serial name = record { serial = serial; name = name_front name; port = 44818; speed = 100; flags = 15; mac = replicate 6 0; inactivity = 120 }

-- the description of a station with this serial number and name of its own
abbrev pub description_of : Option Description → Options → ℕ → List ℕ → Description
description_of (Some given) options serial name = described_as given options name
description_of None options serial name = described_as (own_description serial name) options name

-- the profile of an adapter station
abbrev pub with_description : Profile → Options → ℕ → List ℕ → Profile
with_description profile options serial name = record profile {
  node = node_of options.address profile.node;
  description = Some (description_of profile.description options serial name);
}

-- the configuration of a station: an adapter has a description
abbrev pub described : Config → Options → ℕ → List ℕ → Config
described (Adapter profile) options serial name = Adapter (with_description profile options serial name)
described (Scanner profile) options serial name = Scanner profile

-- what a station says beside its outcomes
abbrev pub reporting_of : Options → StationPlace → Reporting
reporting_of options place = record { quiet = options.quiet; silent_s = place.inactivity_s }

-- what becomes of the datagrams that arrive
abbrev pub rates_of : Options → FaultRates
rates_of options = record { lose = options.lose; repeat = options.repeat; reorder = options.reorder; delay_ms = options.delay_ms; seed = options.seed }

-- the end of what runs for so many seconds, in milliseconds since it began
abbrev pub end_of : Option ℕ → Option ℕ
end_of (Some seconds) = Some (seconds * 1000)
end_of None = None

-- a target of this address is among them
abbrev pub is_among : Node → List Destination → Bool
is_among node targets = list_any (λ target. nat_eq target.node.0 node.0) targets

-- the targets with this one, each once
abbrev pub with_target : ℕ → List Destination → Node → List Destination
with_target port targets node = if is_among node targets then targets else targets ++ record { node = node; port = port } ∷ []

abbrev pub targets_through : ℕ → List Destination → List SlotConfig → List Destination
targets_through port targets [] = targets
targets_through port targets (slot ∷ slots) = targets_through port (with_target port targets slot.target) slots

-- the targets of these slots, each once, at a TCP port
abbrev pub targets_of : ℕ → List SlotConfig → List Destination
targets_of port slots = targets_through port [] slots
