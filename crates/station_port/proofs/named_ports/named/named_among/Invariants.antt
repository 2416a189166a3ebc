use Rattle.std.proofs.Common.{◌≡◌, ◌-◌}
use Rattle.station_port.specs.NamedPorts.Naming.{named_among}
use Rattle.station_port.proofs.named_ports.named.named_among.Given as goal

abbrev pub invariant-loop-done : goal.invariant-loop-done
invariant-loop-done l = named_among (l.fn.count - l.done) l.rest ≡ named_among l.fn.count l.fn.items
