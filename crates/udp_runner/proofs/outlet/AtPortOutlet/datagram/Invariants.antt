use Rattle.std.proofs.Common.{◌≡◌, take, true}
use Rattle.std.specs.List.{flat_map}
use Rattle.udp_runner.specs.Outputs.{copy_to}
use Rattle.udp_runner.specs.Tape.{with_sent}
use Rattle.udp_runner.proofs.outlet.AtPortOutlet.datagram.Given as goal

-- a copy was sent to each of the nodes so far
abbrev pub invariant-loop-node : goal.invariant-loop-node
invariant-loop-node g l =
    record {
      counted : g.P.Port.failed l.network ≡ g.P.Port.failed l.initial.network;
      sends : g.P.Port.is_scripted ≡ true → g.P.Port.tape l.network ≡ with_sent (g.P.Port.tape l.initial.network) (flat_map (copy_to l.bytes) (take l.node-index l.node-items));
    }
