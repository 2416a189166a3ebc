use Rattle.std.proofs.Common.{◌≡◌, ◌<◌, ◌^◌, drop}
use Rattle.station_port.specs.Counters.HostLines.{decimal_from}
use Rattle.station_port.proofs.counters.host_lines.decimal_from.Given as goal

abbrev pub invariant-loop-byte : goal.invariant-loop-byte
invariant-loop-byte l = record {
  so_far : decimal_from l.number (drop l.byte-index l.word) ≡ decimal_from 0 l.word;
  small : l.number < 2 ^ 32;
}
