use Rattle.std.proofs.Common.{◌≡◌, true, sym}
use Rattle.std.proofs.lemmas.List.Elements.{All-head, All-rest, All-same}
use Rattle.line_threads.specs.Scripts.{is_local}
use Rattle.line_threads.proofs.Adding.{account_more}
use Rattle.line_threads.proofs.worker.work.Goals as goal

pub loop-event-preserved : goal.loop-event-preserved
loop-event-preserved g c =
    let next = c.in-Some.ensures.steps.0 in
    record {
      account =
          rw c.in_ok-push.ensures.items
          (account_more _ _ _ _ _ _ c.loop-event.invariant.account c.in_ok-take_arrivals.ensures c.in_ok-step.ensures (All-head (λ e. is_local e ≡ true) _ _ (All-same (λ e. is_local e ≡ true) _ _ (sym next) c.loop-event.invariant.left)));
      left = All-rest (λ e. is_local e ≡ true) _ _ _ next c.loop-event.invariant.left;
    }
