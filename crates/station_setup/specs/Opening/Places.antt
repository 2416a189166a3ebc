-- Where the socket is that cannot be made.
use Rattle.std.specs.Prelude.{ℕ}
use Rattle.cip_tables.specs.declared.table.Config.{Config}
use Rattle.cip_types.specs.declared.names.Node.{Node}
use Rattle.command_lines.specs.declared.station_options.Options.{Options}
use Rattle.station_port.specs.declared.fault.StationFault.{StationFault}
use Rattle.station_port.specs.declared.fault.StationFault.TheVariants as fault
use Rattle.station_port.specs.declared.fault.StationSocket.{StationSocket}
use Rattle.station_port.specs.declared.fault.StationSocket.TheVariants.{Tcp, Udp, Identity}
use Rattle.station_port.specs.declared.place.StationPlace.{StationPlace}
use Rattle.station_setup.specs.declared.opening.places.SocketPlace.{SocketPlace}
use Rattle.station_setup.specs.Settings.{own_place}

abbrev pub place_at : Node → ℕ → SocketPlace
place_at address port = record { address = address.0; port = port }

-- the place of what is bound nowhere
abbrev pub no_place : SocketPlace
no_place = record { address = 0; port = 0 }

-- the listener of messages and the socket of inquiries are at the TCP port, the socket of datagrams is at the UDP port
abbrev pub place_of_socket : StationPlace → StationSocket → SocketPlace
place_of_socket place Tcp = place_at place.address place.tcp
place_of_socket place Identity = place_at place.address place.tcp
place_of_socket place Udp = place_at place.address place.udp
place_of_socket place other = no_place

abbrev pub socket_place : Options → Config → StationFault → SocketPlace
socket_place options config (fault.Socket socket cause) = place_of_socket (own_place options config) socket
socket_place options config fault.OutOfMemory = no_place
