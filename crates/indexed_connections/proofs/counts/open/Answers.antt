use Rattle.std.proofs.Common.{◌<◌, ◌≤◌, ◌++◌, ◌∷◌, [], List, length, sym, subst, arith}
use Rattle.std.proofs.lemmas.List.{length-append}
use Rattle.adapter_table.specs.Connections.{Row}
use Rattle.conn_slab.specs.Connections.{without}
use Rattle.app_rules.specs.Counts.{AreCounted}
use Rattle.indexed_connections.proofs.Removals.{have_joined, less, few_counted}
use Rattle.indexed_connections.proofs.counts.open.Goals as goal

pub forget-requires : goal.forget-requires
forget-requires c = have_joined c.args.rules.now c.args.removed c.args.connections.now c.named-replaced_row.result c.requires.differ c.named-replaced_row.ensures c.requires.counted

room : (rows : List Row) (row : Row) → length (rows ++ row ∷ []) ≤ 64 → length rows < 64
room rows row few = omega (arith, simp length-append at few)

pub joined-requires : goal.joined-requires
joined-requires c =
    let rows = without c.args.removed c.args.connections.now in
    let left = less c.args.rules.now c.forget.new.rules c.args.removed c.args.connections.now c.named-replaced_row.result c.requires.differ c.named-replaced_row.ensures c.forget.ensures c.requires.counted in
    let few = few_counted c.forget.new.rules rows (room rows c.args.row c.requires.next.few) left in
    record { owners = few.0; supporters = few.1 }

pub returns-clause-counted : goal.returns-clause-counted
returns-clause-counted c =
    let left = less c.args.rules.now c.forget.new.rules c.args.removed c.args.connections.now c.named-replaced_row.result c.requires.differ c.named-replaced_row.ensures c.forget.ensures c.requires.counted in
    subst (AreCounted c.joined.new.self) (sym c.in_ok-open.ensures.rows) (c.joined.ensures (without c.args.removed c.args.connections.now) left)
