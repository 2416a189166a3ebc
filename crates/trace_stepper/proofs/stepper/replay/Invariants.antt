use Rattle.std.proofs.Common.{◌≡◌, ◌++◌, drop, length}
use Rattle.cip_tables.specs.Run.{outcomes_of}
use Rattle.trace_stepper.specs.Stepping.{outcomes_of_trace, events_of}
use Rattle.trace_stepper.proofs.stepper.replay.Given as goal

abbrev pub invariant-loop-outcomes : goal.invariant-loop-outcomes
invariant-loop-outcomes g l = outcomes_of_trace l.fn.trace ≡ l.outcomes.items ++ outcomes_of (g.D.Device.table l.stepper.device) (events_of (drop l.stepper.place l.stepper.trace.now.events))

abbrev pub decreases-loop-outcomes : goal.decreases-loop-outcomes
decreases-loop-outcomes g l = length (drop l.stepper.place l.stepper.trace.now.events)
