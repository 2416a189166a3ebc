use Rattle.std.proofs.Common.{◌≡◌, ◌++◌, take, flat_map}
use Rattle.std.specs.Int.{w32, to_le_bytes}
use Rattle.station_port.proofs.counters.host_files.put_numbers.Given as goal

abbrev pub invariant-loop-number : goal.invariant-loop-number
invariant-loop-number l = l.out.items ≡ l.fn.out.items ++ flat_map (to_le_bytes w32) (take l.number-index l.numbers)
