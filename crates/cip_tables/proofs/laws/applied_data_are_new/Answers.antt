use Rattle.adapter_table.specs.Newest.{IsAppliedNew}
use Rattle.cip_tables.proofs.NewestLemmas.{over_connections}
use Rattle.cip_tables.proofs.laws.applied_data_are_new.Goals as goal

pub returns : goal.returns
returns c =
    let accepted = c.accepted_datagrams_are_newer.ensures in
    over_connections IsAppliedNew accepted.applied accepted.refusals c.tables_are_sound.ensures.steps
