use Rattle.std.proofs.Common.{not, ap, ◌∙◌}
use Rattle.adapter_table.specs.Rows.{has_triad}
use Rattle.adapter_table.specs.Closing.{without_triad}
use Rattle.adapter_table.specs.Lemmas.SoundLemmas.{triads_filter}
use Rattle.indexed_connections.specs.List.Removals.{without_each, without_unsupported}
use Rattle.indexed_connections.specs.List.Whole.{whole_triads}
use Rattle.indexed_connections.proofs.list.plain.ConnectionListConnectionTable.close.Goals as goal

pub returns : goal.returns
returns c =
    let rows = c.args.self.now.0.items in
    let differ = triads_filter (λ row. not (has_triad c.args.triad row)) rows (whole_triads rows c.requires.whole) in
    c.remove_each.ensures
    ∙ ap (without_each c.args.dropped.now) c.remove_triad.ensures.items
    ∙ without_unsupported (without_triad c.args.triad rows) c.args.dropped.now differ c.requires.dropped
