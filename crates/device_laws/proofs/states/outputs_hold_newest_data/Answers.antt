use Rattle.device_laws.proofs.OwnerDataRuns.{KnowsSteps, run_owners, idle_owners}
use Rattle.device_laws.proofs.states.outputs_hold_newest_data.Goals as goal

pub returns : goal.returns
returns c =
    let left = c.outputs_hold_what_is_left.ensures in
    let whole = c.tables_are_whole.ensures in
    let knows : KnowsSteps = record { leave = left.steps; refuse = left.refusals; accept = c.accepted_datagrams_are_newer.ensures.refusals; profile = c.profiles_stay.ensures; whole = whole.steps; opening = whole.fresh } in
    record { run = run_owners knows; idle = idle_owners knows }
