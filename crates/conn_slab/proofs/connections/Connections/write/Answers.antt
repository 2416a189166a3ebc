use Rattle.std.proofs.Common.{◌∙◌, sym, ap, subst, map, List}
use Rattle.mcast_pool.specs.declared.group.Group.{Group}
use Rattle.mcast_pool.specs.Groups.{written_and_changed}
use Rattle.adapter_table.specs.Connections.{Row}
use Rattle.adapter_table.specs.Rows.{written_row}
use Rattle.adapter_table.specs.Productions.{changed_row}
use Rattle.conn_slab.specs.Index.{items_of}
use Rattle.conn_slab.specs.Records.{row_of}
use Rattle.conn_slab.specs.Layout.{IsBalanced}
use Rattle.conn_slab.proofs.Changes.{keeps_written, balanced_map, rows_written}
use Rattle.conn_slab.proofs.connections.Connections.write.Goals as goal

pub invariant_of-self : goal.invariant_of-self
invariant_of-self c =
    let own = c.self.inside in
    let rs = items_of own.records own.by_triad.entries in
    record {
      filed = c.self.invariant.filed;
      balanced = subst (λ (pool : List Group). IsBalanced pool rs) (sym c.write.ensures) (balanced_map (written_and_changed c.args.clock c.args.point) (keeps_written c.args.clock c.args.point) own.pool rs c.self.invariant.balanced);
      few = c.self.invariant.few;
    }

pub returns : goal.returns
returns c =
    let own = c.self.inside in
    let rs = items_of own.records own.by_triad.entries in
    ap (λ (pool : List Group). map (row_of pool) rs) c.write.ensures
    ∙ rows_written c.args.clock c.args.point own.pool rs c.self.invariant.balanced.served
    ∙ ap (λ (rows : List Row). map (changed_row c.args.clock c.args.point) (map (written_row c.args.point) rows)) c.self.view_is
