use Rattle.adapter_table.specs.Newest.{IsNotAgain}
use Rattle.cip_tables.proofs.NewestLemmas.{over_connections}
use Rattle.cip_tables.proofs.laws.the_last_datagram_is_not_applied_again.Goals as goal

pub returns : goal.returns
returns c =
    let accepted = c.accepted_datagrams_are_newer.ensures in
    over_connections IsNotAgain accepted.once accepted.refusals c.tables_are_sound.ensures.steps
