use Rattle.cip_tables.proofs.RunKeeps.{run_within, reached_within, types_have_places}
use Rattle.cip_tables.proofs.laws.places_are_kept.Goals as goal

pub returns : goal.returns
returns c =
    let law = c.places_are_kept.ensures in
    record { run = run_within law.steps; fresh = reached_within law.steps law.fresh; places = types_have_places law.steps law.fresh law.places c.tables_are_whole.ensures.fresh }
