use Rattle.std.proofs.Common.{◌≡◌, drop}
use Rattle.station_lines.specs.Watch.Traffic.{sent_through}
use Rattle.station_lines.proofs.watch.traffic.count_sent.Given as goal

-- the datagrams that are left lead from the connections so far to those after all
abbrev pub invariant-loop-outgoing : goal.invariant-loop-outgoing
invariant-loop-outgoing l = sent_through (drop l.outgoing-index l.datagrams) l.connections ≡ sent_through l.datagrams l.initial.connections
