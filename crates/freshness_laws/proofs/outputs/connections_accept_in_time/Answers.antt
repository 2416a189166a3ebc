use Rattle.freshness_laws.proofs.WatchRuns.{KnowsSteps, connections_in_time}
use Rattle.freshness_laws.proofs.outputs.connections_accept_in_time.Goals as goal

pub returns : goal.returns
returns c =
    let whole = c.tables_are_whole.ensures in
    let knows : KnowsSteps = record { whole = whole.steps; opening = whole.fresh; counts = c.counters_never_fall.ensures } in
    connections_in_time knows
