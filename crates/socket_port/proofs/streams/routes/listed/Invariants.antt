use Rattle.std.proofs.Common.{◌≡◌, drop}
use Rattle.socket_port.specs.Streams.Routing.{listed}
use Rattle.socket_port.proofs.streams.routes.listed.Given as goal

abbrev pub invariant-loop-route : goal.invariant-loop-route
invariant-loop-route l = listed (drop l.route-index l.routes) l.node ≡ listed l.routes l.node
