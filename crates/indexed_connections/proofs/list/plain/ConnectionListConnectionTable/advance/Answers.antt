use Rattle.std.proofs.Common.{◌≡◌, List, map, length, sym, subst, ap, ◌∙◌}
use Rattle.std.proofs.lemmas.List.{length-map}
use Rattle.cip_types.specs.Indices.{written_back}
use Rattle.adapter_table.specs.Connections.{Row}
use Rattle.adapter_table.specs.Closing.{staying}
use Rattle.adapter_table.specs.Productions.{produced_row}
use Rattle.adapter_table.specs.RowLimits.{staying_rows_fit}
use Rattle.adapter_table.specs.Ticks.{expired_rows}
use Rattle.adapter_table.specs.Whole.{RowsFit}
use Rattle.indexed_connections.specs.List.Whole.{whole_triads, whole_fit}
use Rattle.indexed_connections.proofs.Advancing.{expired_back, left_after}
use Rattle.indexed_connections.proofs.list.plain.ConnectionListConnectionTable.advance.Goals as goal

left : (c : goal.After-deref_mut-2) → c.deref_mut-2.result.now ≡ staying (expired_rows c.args.clock c.args.self.now.0.items)
left c =
    let rows = c.args.self.now.0.items in
    let back = expired_back c.args.clock c.args.self.now.0.len rows c.deref_mut.result.now c.expire_rows.new.rows c.deref_mut.ensures.value c.deref_mut.ensures.len c.expire_rows.ensures in
    c.deref_mut-2.ensures.value ∙ left_after c.args.clock rows _ c.remove_each.new.rows.items c.args.dropped.now back c.remove_each.ensures (whole_triads rows c.requires.whole) c.requires.dropped

pub produce_rows-requires-clause-fit : goal.produce_rows-requires-clause-fit
produce_rows-requires-clause-fit c = subst RowsFit (sym (left c)) (staying_rows_fit c.args.clock c.args.self.now.0.items (whole_fit c.args.self.now.0.items c.requires.whole))

pub returns : goal.returns
returns c =
    let rows = c.args.self.now.0.items in
    let back = expired_back c.args.clock c.args.self.now.0.len rows c.deref_mut.result.now c.expire_rows.new.rows c.deref_mut.ensures.value c.deref_mut.ensures.len c.expire_rows.ensures in
    let left : c.deref_mut-2.result.now ≡ staying (expired_rows c.args.clock rows) =
    c.deref_mut-2.ensures.value ∙ left_after c.args.clock rows _ c.remove_each.new.rows.items c.args.dropped.now back c.remove_each.ensures (whole_triads rows c.requires.whole) c.requires.dropped in
    written_back c.remove_each.new.rows.len c.remove_each.new.rows.items c.produce_rows.new.rows (ap (λ (l : List Row). length l) c.produce_rows.ensures ∙ length-map c.deref_mut-2.result.now (produced_row c.args.clock) ∙ c.deref_mut-2.ensures.len)
    ∙ c.produce_rows.ensures
    ∙ ap (map (produced_row c.args.clock)) left
