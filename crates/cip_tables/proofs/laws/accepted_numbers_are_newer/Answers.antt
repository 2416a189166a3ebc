use Rattle.adapter_table.specs.Newest.{HasNewerNumber}
use Rattle.cip_tables.proofs.NewestLemmas.{over_connections}
use Rattle.cip_tables.proofs.laws.accepted_numbers_are_newer.Goals as goal

pub returns : goal.returns
returns c =
    let accepted = c.accepted_datagrams_are_newer.ensures in
    over_connections HasNewerNumber accepted.numbers accepted.refusals c.tables_are_sound.ensures.steps
