use Rattle.cip_tables.proofs.RunKeeps.{over_whole}
use Rattle.messaging.specs.Sound.{EachOf}
use Rattle.adapter_table.specs.MessagesSound.{IsCarried}
use Rattle.cip_tables.proofs.laws.class3_connections_live_on_streams.Goals as goal

pub returns : goal.returns
returns c =
    let wholes = c.tables_are_whole.ensures in
    over_whole wholes.fresh wholes.run (λ t. EachOf (λ d. IsCarried t.streams d.stream) t.messaging.class3_connections) c.class3_connections_live_on_streams.ensures.streams
