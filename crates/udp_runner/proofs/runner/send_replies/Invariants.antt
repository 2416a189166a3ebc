use Rattle.std.proofs.Common.{◌≡◌, take, true}
use Rattle.std.specs.List.{flat_map}
use Rattle.udp_runner.specs.Outputs.{reply_sent}
use Rattle.udp_runner.specs.Tape.{with_sent}
use Rattle.udp_runner.proofs.runner.send_replies.Given as goal

-- the replies among the frames so far were sent
abbrev pub invariant-loop-frame : goal.invariant-loop-frame
invariant-loop-frame g l =
    record {
      counted : g.P.Port.failed l.port ≡ g.P.Port.failed l.initial.port;
      sends : g.P.Port.is_scripted ≡ true → g.P.Port.tape l.port ≡ with_sent (g.P.Port.tape l.initial.port) (flat_map reply_sent (take l.frame-index l.frames));
    }
