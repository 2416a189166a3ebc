use Rattle.std.proofs.Common.{◌∙◌, sym, ap, subst, map, List}
use Rattle.mcast_pool.specs.declared.group.Group.{Group}
use Rattle.mcast_pool.specs.Groups.{produced_if_due}
use Rattle.adapter_table.specs.Productions.{produced_row}
use Rattle.conn_slab.specs.Index.{items_of}
use Rattle.conn_slab.specs.Records.{row_of}
use Rattle.conn_slab.specs.Layout.{IsBalanced}
use Rattle.conn_slab.proofs.Changes.{keeps_due, balanced_map, rows_produced}
use Rattle.conn_slab.proofs.connections.Connections.produce.Goals as goal

pub invariant_of-self : goal.invariant_of-self
invariant_of-self c =
    let own = c.self.inside in
    let rs = items_of own.records own.by_triad.entries in
    record {
      filed = c.self.invariant.filed;
      balanced = subst (λ (pool : List Group). IsBalanced pool rs) (sym c.produce_due.ensures) (balanced_map (produced_if_due c.args.clock) (keeps_due c.args.clock) own.pool rs c.self.invariant.balanced);
      few = c.self.invariant.few;
    }

pub returns : goal.returns
returns c =
    let own = c.self.inside in
    let rs = items_of own.records own.by_triad.entries in
    ap (λ (pool : List Group). map (row_of pool) rs) c.produce_due.ensures
    ∙ rows_produced c.args.clock own.pool rs c.self.invariant.balanced.served
    ∙ ap (map (produced_row c.args.clock)) c.self.view_is
