use Rattle.std.proofs.Common.{◌≡◌, ◌++◌, flat_map, take}
use Rattle.trace_files.specs.Pcap.Traffic.{inquired_records}
use Rattle.trace_files.proofs.pcap.traffic.push_inquired.Given as goal

abbrev pub invariant-loop-frame : goal.invariant-loop-frame
invariant-loop-frame l = l.out.items ≡ l.fn.out.items ++ flat_map (inquired_records l.context) (take l.frame-index l.frames)
