use Rattle.std.proofs.Common.{◌≡◌, false, sym, ap, ◌∙◌, rules}
use Rattle.std.specs.List.{list_any}
use Rattle.adapter_table.specs.Productions.{produces_on_change}
use Rattle.indexed_connections.proofs.Cyclic.{at_once_none}
use Rattle.indexed_connections.proofs.table.IndexedConnectionsConnectionTable.produces_at_once.Goals as goal

pub returns-then-not-self : goal.returns-then-not-self
returns-then-not-self c =
    let off : c.self.inside.changing ≡ false = search rules in
    sym (at_once_none c.args.clock c.args.point c.self.inside.connections (c.self.invariant.cyclic off)) ∙ ap (list_any (produces_on_change c.args.clock c.args.point)) c.self.view_is
