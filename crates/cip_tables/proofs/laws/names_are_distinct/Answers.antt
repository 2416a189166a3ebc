use Rattle.cip_tables.proofs.RunKeeps.{over_whole}
use Rattle.adapter_table.specs.MessageLaws.{NamesDiffer}
use Rattle.cip_tables.proofs.laws.names_are_distinct.Goals as goal

pub returns : goal.returns
returns c =
    let wholes = c.tables_are_whole.ensures in
    over_whole wholes.fresh wholes.run NamesDiffer c.class3_connections_live_on_streams.ensures.names
