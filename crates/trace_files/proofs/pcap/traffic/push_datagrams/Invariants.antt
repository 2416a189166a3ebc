use Rattle.std.proofs.Common.{◌≡◌, ◌++◌, take}
use Rattle.trace_files.specs.Pcap.Traffic.{datagrams_records}
use Rattle.trace_files.proofs.pcap.traffic.push_datagrams.Given as goal

abbrev pub invariant-loop-outgoing : goal.invariant-loop-outgoing
invariant-loop-outgoing l = l.out.items ≡ l.fn.out.items ++ datagrams_records l.context (take l.outgoing-index l.datagrams)
