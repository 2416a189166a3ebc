use Rattle.std.proofs.Common.{◌≡◌, false, List, map, sym, ap, ◌∙◌, rules}
use Rattle.std.specs.List.{list_any}
use Rattle.adapter_table.specs.Connections.{Row}
use Rattle.adapter_table.specs.Opening.{triad_of}
use Rattle.adapter_table.specs.Closing.{without_triad, unsupported}
use Rattle.conn_slab.specs.Connections.{is_listening}
use Rattle.indexed_connections.proofs.Dropping.{none_lost}
use Rattle.indexed_connections.proofs.table.IndexedConnectionsConnectionTable.dropped_with.Goals as goal

pub returns-then-not-self : goal.returns-then-not-self
returns-then-not-self c =
    let off : c.self.inside.listening ≡ false = search rules in
    let none : list_any is_listening c.self.inside.connections ≡ false = c.self.invariant.quiet off in
    c.new.ensures.items ∙ sym (ap (map triad_of) (ap (λ (rows : List Row). unsupported (without_triad c.args.triad rows)) (sym c.self.view_is) ∙ none_lost c.args.triad c.self.inside.connections none))
