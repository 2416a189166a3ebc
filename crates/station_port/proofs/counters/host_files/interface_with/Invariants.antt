use Rattle.std.proofs.Common.{◌≡◌, length}
use Rattle.station_port.specs.Counters.HostLines.{lines_of}
use Rattle.station_port.specs.Counters.HostFiles.{interface_with}
use Rattle.station_port.proofs.counters.host_files.interface_with.Given as goal

abbrev pub invariant-loop-rest : goal.invariant-loop-rest
invariant-loop-rest l = interface_with l.fn.address l.fn.mask (lines_of l.rest) ≡ interface_with l.fn.address l.fn.mask (lines_of l.fn.routes)

abbrev pub decreases-loop-rest : goal.decreases-loop-rest
decreases-loop-rest l = length l.rest
