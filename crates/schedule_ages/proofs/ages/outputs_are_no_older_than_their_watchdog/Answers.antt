use Rattle.std.specs.Prelude.{◌⊎◌, true, false}
use Rattle.freshness_laws.specs.Outputs.{HoldsFreshData, HoldsActed, HoldsZeros}
use Rattle.schedule_ages.proofs.Lifting.{accept_in_time, of_outputs}
use Rattle.schedule_ages.proofs.ages.outputs_are_no_older_than_their_watchdog.Goals as goal

pub returns-clause-accept : goal.returns-clause-accept
returns-clause-accept c = accept_in_time c.connections_accept_in_time.ensures

pub returns-clause-run : goal.returns-clause-run
returns-clause-run c = of_outputs true (λ output old events t. HoldsFreshData output.instance old events t) c.outputs_are_no_older_than_their_watchdog.ensures.run

pub returns-clause-others : goal.returns-clause-others
returns-clause-others c = of_outputs false (λ output old events t. HoldsActed output old events t ⊎ HoldsZeros output old events t) c.outputs_are_no_older_than_their_watchdog.ensures.others
