use Rattle.std.proofs.Common.{◌≡◌, true}
use Rattle.eip_line.specs.SocketLoop.Turning.{IsReadTimes}
use Rattle.eip_line.proofs.socket_loop.line.LoopLine.turns.Given as goal

-- as many turns were made as were begun, and each read both clocks once
abbrev pub invariant-loop : goal.invariant-loop
invariant-loop g l =
    let coming = g.C.Clock.coming in
    record {
      made : l.made ≡ l.counter;
      adapter : g.C.Clock.is_scripted ≡ true → IsReadTimes l.counter (coming l.initial.self.adapter.clock) (coming l.self.adapter.clock);
      scanner : g.C.Clock.is_scripted ≡ true → IsReadTimes l.counter (coming l.initial.self.scanner.clock) (coming l.self.scanner.clock);
    }
