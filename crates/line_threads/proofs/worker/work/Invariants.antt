use Rattle.std.proofs.Common.{◌≡◌, true}
use Rattle.std.specs.Prelude.{All}
use Rattle.std.specs.Vec.Iter.{into_iter_items}
use Rattle.line_threads.specs.Scripts.{is_local}
use Rattle.line_threads.specs.Accounts.{IsAccount}
use Rattle.line_threads.proofs.worker.work.Given as goal

abbrev pub invariant-loop-event : goal.invariant-loop-event
invariant-loop-event g l =
    record {
      account : IsAccount (g.L.Locked.device l.device) l.yielded l.receipts.items;
      left : All (λ e. is_local e ≡ true) (into_iter_items l.event-iterator);
    }
