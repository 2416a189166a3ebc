use Rattle.std.proofs.Common.{◌≡◌, ◌++◌, take}
use Rattle.trace_files.specs.Pcap.Traffic.{copies_records}
use Rattle.trace_files.proofs.pcap.traffic.push_copies.Given as goal

abbrev pub invariant-loop-node : goal.invariant-loop-node
invariant-loop-node l = l.out.items ≡ l.fn.out.items ++ copies_records l.context l.bytes (take l.node-index l.nodes)
