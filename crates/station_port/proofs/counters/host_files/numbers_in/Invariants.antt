use Rattle.std.proofs.Common.{◌≡◌, ◌≤◌, ◌-◌, length}
use Rattle.station_port.specs.Counters.HostFiles.{numbers_in}
use Rattle.station_port.proofs.HostWalks.{onto}
use Rattle.station_port.proofs.counters.host_files.numbers_in.Given as goal

abbrev pub invariant-loop-rest : goal.invariant-loop-rest
invariant-loop-rest l = record {
  so_far : onto l.numbers.items (numbers_in (16 - length l.numbers.items) l.rest) ≡ numbers_in 16 l.fn.line;
  few : length l.numbers.items ≤ 16;
}

abbrev pub decreases-loop-rest : goal.decreases-loop-rest
decreases-loop-rest l = 16 - length l.numbers.items
