use Rattle.std.proofs.Common.{◌≡◌, [], ◌∷◌, ◌++◌, List, Option, OnOk, sym, ap, subst, ◌∙◌}
use Rattle.cip_types.specs.declared.names.Triad.{Triad}
use Rattle.adapter_table.specs.Connections.{Row}
use Rattle.adapter_table.specs.Rows.{others}
use Rattle.adapter_table.specs.Opening.{is_replaced}
use Rattle.indexed_connections.specs.List.Replacing.{left_by, goes_by_triad}
use Rattle.indexed_connections.specs.List.Whole.{whole_triads, whole_rise}
use Rattle.indexed_connections.proofs.list.plain.ConnectionListConnectionTable.open.Goals as goal

pub returns-clause-ok : goal.returns-clause-ok
returns-clause-ok c =
    let rows = c.args.self.now.0.items in
    let whole = c.requires.whole in
    let left : left_by c.args.replaced rows ≡ others (is_replaced rows c.args.row.triad) rows =
    ap (λ (o : Option Triad). left_by o rows) c.requires.replaced ∙ sym (goes_by_triad c.args.row.triad rows (whole_rise rows whole) (whole_triads rows whole)) in
    let P : List Row → Type 0 = λ rest. OnOk c.append_row.result (c.append_row.new.rows.items ≡ rest ++ c.args.row ∷ []) in
    subst P left c.append_row.ensures.ok
