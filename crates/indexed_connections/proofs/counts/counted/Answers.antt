use Rattle.std.proofs.Common.{◌<◌, ◌≤◌, ℕ, List, length, take, sym, subst, arith}
use Rattle.std.proofs.lemmas.Grind.{common_steps}
use Rattle.adapter_table.specs.Connections.{Row}
use Rattle.app_rules.specs.Counts.{AreCounted}
use Rattle.indexed_connections.proofs.Prefixes.{one_more}
use Rattle.indexed_connections.proofs.Removals.{few_counted}
use Rattle.indexed_connections.proofs.counts.counted.Goals as goal

before : (rows : List Row) (at : ℕ) → at < length rows → length rows ≤ 64 → length (take at rows) < 64
before rows at lt few = grind (arith, common_steps)

pub joined-requires : goal.joined-requires
joined-requires c =
    let few = few_counted c.loop-row.rules (take c.loop-row.row-index c.args.rows.now) (before c.args.rows.now c.loop-row.row-index (omega arith) c.requires) c.loop-row.invariant in
    record { owners = few.0; supporters = few.1 }

pub loop-row-preserved : goal.loop-row-preserved
loop-row-preserved c =
    subst (AreCounted c.joined.new.self) (sym (one_more c.args.rows.now c.loop-row.row-index _ (omega arith))) (c.joined.ensures (take c.loop-row.row-index c.args.rows.now) c.loop-row.invariant)
