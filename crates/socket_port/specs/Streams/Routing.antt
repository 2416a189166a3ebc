-- The destination of the datagrams of a node.
use Rattle.std.specs.Prelude.{List, [], ◌∷◌, Option, Some, None, ◌==◌, if◌then◌else◌}
use Rattle.cip_types.specs.declared.names.Node.{Node}
use Rattle.socket_port.specs.declared.streams.routes.Destination.{Destination}
use Rattle.socket_port.specs.declared.streams.routes.DatagramRoute.{DatagramRoute}
use Rattle.socket_port.specs.declared.streams.routes.DatagramRoutes.{DatagramRoutes}
use Rattle.socket_port.specs.declared.streams.routes.DatagramRoutes.TheVariants.{One, Own, Listed}

-- the destination of the first route of the node
abbrev pub listed : List DatagramRoute → Node → Option Destination
listed [] node = None
listed (route ∷ routes) node = if route.node.0 == node.0 then Some route.to else listed routes node

abbrev pub destination_of : DatagramRoutes → Node → Option Destination
destination_of (One to) node = Some to
destination_of (Own port) node = Some (record { node = node; port = port })
destination_of (Listed routes) node = listed routes node
