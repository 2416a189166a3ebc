use Rattle.std.proofs.Common.{[], ◌∙◌}
use Rattle.freshness_laws.proofs.ImageRuns.{KnowsSteps, slots_in_time}
use Rattle.freshness_laws.proofs.images.slots_accept_in_time.Goals as goal

pub returns : goal.returns
returns c =
    let numbered = c.openings_are_numbered.ensures.law in
    let accepted = c.accepted_numbers_are_newer.ensures in
    let knows : KnowsSteps = record {
      accept = accepted.step;
      refuse = accepted.refusal;
      numbered = numbered.steps;
      fresh = λ profile. numbered.fresh profile [];
      ticks = c.ticks_leave_none_late.ensures;
      profile = λ profile t event next is same. (c.counters_never_fall.ensures.step t event next is).profile ∙ same;
    } in
    slots_in_time c.runs_fold_events.ensures knows
