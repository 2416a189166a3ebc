use Rattle.std.proofs.Common.{◌≡◌, ◌∙◌, ap, subst, Bool}
use Rattle.adapter_table.specs.Profiles.{all_points, are_distinct}
use Rattle.cip_events.specs.declared.profile_fault.ProfileFault.TheVariants as fault
use Rattle.trace_faults.specs.ProfileFaults.Defects.{Explains}
use Rattle.trace_faults.specs.ProfileFaults.Instances.{placed_points, differ}
use Rattle.trace_faults.proofs.Placed.{points_differ}
use Rattle.trace_faults.proofs.PlacedWords.{instances_named}
use Rattle.trace_faults.proofs.profile_faults.instances.instance_reason.Goals as goal

pub returns : goal.returns
returns c =
    let are : c.as_slice.result.now ≡ placed_points c.args.profile.now = c.as_slice.ensures.value ∙ c.in_ok-points.ensures in
    let same : differ c.as_slice.result.now ≡ are_distinct (all_points c.args.profile.now) = ap differ are ∙ points_differ c.args.profile.now in
    record {
      fault = subst (λ (passes : Bool). Explains c.repeated.result passes fault.SameInstance) same c.repeated.ensures.fault;
      named = instances_named c.args.profile.now _ are c.repeated.result c.repeated.ensures.point;
    }
