use Rattle.std.proofs.Common.{Some, sym, subst}
use Rattle.app_rules.specs.Counts.{AreCounted}
use Rattle.indexed_connections.proofs.Removals.{have_joined, less_out}
use Rattle.indexed_connections.proofs.counts.time_out.Goals as goal

pub forget-requires : goal.forget-requires
forget-requires c = have_joined c.args.rules.now (Some c.args.triad) c.args.connections.now c.of-removed.result c.requires.differ c.of-removed.ensures c.requires.counted

pub returns-clause-counted : goal.returns-clause-counted
returns-clause-counted c =
    subst (AreCounted c.forget.new.rules) (sym c.expire.ensures.rows)
    (less_out c.args.rules.now c.forget.new.rules c.args.triad c.args.connections.now c.of-removed.result c.requires.differ c.of-removed.ensures c.forget.ensures c.requires.counted)
