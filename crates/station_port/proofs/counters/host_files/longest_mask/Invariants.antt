use Rattle.std.proofs.Common.{◌≡◌, length, None}
use Rattle.station_port.specs.Counters.HostLines.{lines_of}
use Rattle.station_port.specs.Counters.HostFiles.{longest_from}
use Rattle.station_port.proofs.counters.host_files.longest_mask.Given as goal

abbrev pub invariant-loop-rest : goal.invariant-loop-rest
invariant-loop-rest l = longest_from l.longest l.fn.address (lines_of l.rest) ≡ longest_from None l.fn.address (lines_of l.fn.routes)

abbrev pub decreases-loop-rest : goal.decreases-loop-rest
decreases-loop-rest l = length l.rest
