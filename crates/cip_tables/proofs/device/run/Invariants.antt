use Rattle.std.proofs.Common.{◌≡◌, ◌≤◌, length, take, vec_len, vec_capacity}
use Rattle.cip_tables.specs.Run.{Runs}
use Rattle.cip_tables.proofs.device.run.Given as goal

-- the outcomes so far are those of the events so far, and the vector has space for the rest
abbrev pub invariant-loop-event : goal.invariant-loop-event
invariant-loop-event g l =
    let table = g.D.Device.table in
    record {
      reported : Runs (table l.fn.device) (take l.event-index l.events) l.outcomes.items (table l.device);
      count : vec_len l.outcomes ≡ l.event-index;
      space : length l.events ≤ vec_capacity l.outcomes;
    }
