use Rattle.freshness_laws.proofs.OutputRuns.{KnowsSteps, run_fresh, others_acted}
use Rattle.freshness_laws.proofs.outputs.outputs_are_no_older_than_their_watchdog.Goals as goal

pub returns : goal.returns
returns c =
    let left = c.outputs_hold_what_is_left.ensures in
    let whole = c.tables_are_whole.ensures in
    let knows : KnowsSteps = record { leave = left.steps; refuse = left.refusals; zeros = left.fresh; profile = c.profiles_stay.ensures; whole = whole.steps; opening = whole.fresh } in
    record {
      run = run_fresh c.outputs_hold_newest_data.ensures.run c.connections_accept_in_time.ensures c.at_most_one_owner.ensures;
      others = others_acted knows;
    }
