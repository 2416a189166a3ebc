use Rattle.cip_tables.proofs.ScratchLemmas.{KnowsSteps, from_scratch, fresh_from_scratch}
use Rattle.cip_tables.proofs.laws.outputs_are_from_scratch.Goals as goal

pub returns : goal.returns
returns c =
    let left = c.outputs_hold_what_is_left.ensures in
    let whole = c.tables_are_whole.ensures in
    let knows : KnowsSteps = record { leave = left.steps; refuse = left.refusals; fresh = left.fresh; profile = c.profiles_stay.ensures; whole = whole.steps; scanners = c.steps_keep_tables_whole.ensures; opening = whole.fresh } in
    record { whole = from_scratch knows; fresh = fresh_from_scratch knows }
