use Rattle.std.proofs.Common.{◌≡◌, ◌*◌, ◌≤◌, [], Ok, true}
use Rattle.udp_runner.specs.Driving.{Drove, seen}
use Rattle.udp_runner.proofs.in_time.take_all.Given as goal

-- the datagrams so far were taken
abbrev pub invariant-loop : goal.invariant-loop
invariant-loop g l =
    let coming = g.C.Clock.coming in
    let tape = g.P.Port.tape in
    let failed = g.P.Port.failed in
    let table = g.D.Device.table in
    record {
      few : l.count ≤ 2 * l.counter;
      counted : failed l.port ≡ failed l.initial.port;
      times_ms : g.C.Clock.is_scripted ≡ true → coming l.clock ≡ coming l.initial.clock;
      drove :
          Drove (g.O.Observer.notes) (g.P.Port.is_scripted) (g.C.Clock.is_scripted) [] 0 (2 * l.counter)
          (seen tape failed table l.initial.port l.initial.device l.initial.observer)
          (seen tape failed table l.port l.device l.observer) (Ok l.count);
    }
