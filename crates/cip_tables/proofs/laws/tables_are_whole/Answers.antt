use Rattle.cip_tables.proofs.RunKeeps.{run_whole, opening_whole, reached_whole}
use Rattle.cip_tables.proofs.laws.tables_are_whole.Goals as goal

pub returns : goal.returns
returns c =
    let whole = c.tables_are_whole.ensures in
    let keep = c.steps_keep_tables_whole.ensures in
    let begin = c.fresh_tables_are_whole.ensures in
    record { run = run_whole whole.steps keep; opening = opening_whole whole.fresh begin; fresh = reached_whole whole.steps keep whole.fresh begin }
