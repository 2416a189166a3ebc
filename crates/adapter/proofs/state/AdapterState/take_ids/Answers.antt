use Rattle.adapter_table.specs.declared.table.AdapterTable.{AdapterTable}
use Rattle.adapter.proofs.state.AdapterState.take_ids.Goals as goal

pub invariant_of-self-2 : goal.invariant_of-self-2
invariant_of-self-2 g c =
    let own = c.self.inside in
    let t : AdapterTable = record { profile = own.assemblies.profile; rows = g.T.ConnectionsView.rows own.table; values = own.assemblies.values; clock = own.clock; ids = own.ids.items; next_id = own.next_id; streams = own.streams.items; messaging = own.messaging; openings = own.openings.items; counters = own.counters } in
    rw c.in_ok-add_block.ensures.ok (c.tables_are_whole.ensures.effects.taken t c.args.block (rw (← c.deref.ensures.value, ← c.may_take.ensures) c.if-not-may_take.false) c.self.invariant)
