use Rattle.std.proofs.Common.{Bool, subst}
use Rattle.cip_events.specs.declared.profile_fault.ProfileFault.TheVariants as fault
use Rattle.trace_lines.specs.LimitLemmas.{limits_good}
use Rattle.trace_faults.specs.ProfileFaults.Defects.{Explains}
use Rattle.trace_faults.proofs.profile_faults.limit_defects.limit_reason.Goals as goal

pub returns : goal.returns
returns c = record {
  fault = subst (λ (passes : Bool). Explains c.rows_reason.result passes fault.Limits) (limits_good c.args.profile.now.limits) c.rows_reason.ensures.fault;
  named = c.rows_reason.ensures.named;
}
