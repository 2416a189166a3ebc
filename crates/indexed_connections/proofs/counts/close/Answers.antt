use Rattle.std.proofs.Common.{Some, sym, subst}
use Rattle.app_rules.specs.Counts.{AreCounted}
use Rattle.indexed_connections.proofs.Removals.{have_joined, less}
use Rattle.indexed_connections.proofs.counts.close.Goals as goal

pub forget-requires : goal.forget-requires
forget-requires c = have_joined c.args.rules.now (Some c.args.triad) c.args.connections.now c.close-removed.result c.requires.differ c.close-removed.ensures.taken c.requires.counted

pub returns-clause-counted : goal.returns-clause-counted
returns-clause-counted c =
    subst (AreCounted c.forget.new.rules) (sym c.close-removed.ensures.rest)
    (less c.args.rules.now c.forget.new.rules (Some c.args.triad) c.args.connections.now c.close-removed.result c.requires.differ c.close-removed.ensures.taken c.forget.ensures c.requires.counted)
