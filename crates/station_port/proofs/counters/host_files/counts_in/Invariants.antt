use Rattle.std.proofs.Common.{◌≡◌, length}
use Rattle.station_port.specs.Counters.HostLines.{lines_of}
use Rattle.station_port.specs.Counters.HostFiles.{counts_in}
use Rattle.station_port.proofs.counters.host_files.counts_in.Given as goal

abbrev pub invariant-loop-rest : goal.invariant-loop-rest
invariant-loop-rest l = counts_in l.fn.interface (lines_of l.rest) ≡ counts_in l.fn.interface (lines_of l.fn.counts)

abbrev pub decreases-loop-rest : goal.decreases-loop-rest
decreases-loop-rest l = length l.rest
