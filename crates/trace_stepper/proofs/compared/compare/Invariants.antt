use Rattle.trace_stepper.specs.Compared.{AgreeBefore}
use Rattle.trace_stepper.proofs.compared.compare.Given as goal

abbrev pub invariant-loop-place : goal.invariant-loop-place
invariant-loop-place l = AgreeBefore l.trace.events l.outcomes l.place
