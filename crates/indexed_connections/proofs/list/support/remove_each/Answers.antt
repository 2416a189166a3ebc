use Rattle.std.proofs.Common.{◌+◌, List, drop, sym, ap, ◌∙◌, arith}
use Rattle.std.proofs.lemmas.List.{drop_more}
use Rattle.cip_types.specs.declared.names.Triad.{Triad}
use Rattle.indexed_connections.specs.List.Removals.{without_each}
use Rattle.indexed_connections.proofs.list.support.remove_each.Goals as goal

pub loop-triad-preserved : goal.loop-triad-preserved
loop-triad-preserved c =
    let rest = drop (c.loop-triad.triad-index + 1) c.args.triads.now in
    ap (without_each rest) c.remove_triad.ensures.items
    ∙ sym (ap (λ (l : List Triad). without_each l c.loop-triad.rows.items) (drop_more c.args.triads.now c.loop-triad.triad-index _ (omega arith)))
    ∙ c.loop-triad.invariant
