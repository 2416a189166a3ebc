use Rattle.adapter_table.specs.declared.table.AdapterTable.{AdapterTable}
use Rattle.adapter_table.specs.Streams.{registered_table}
use Rattle.adapter.proofs.state.AdapterState.register_stream.Goals as goal

pub invariant_of-self : goal.invariant_of-self
unfolding registered_table
invariant_of-self g c =
    let own = c.self.inside in
    let t : AdapterTable = record { profile = own.assemblies.profile; rows = g.T.ConnectionsView.rows own.table; values = own.assemblies.values; clock = own.clock; ids = own.ids.items; next_id = own.next_id; streams = own.streams.items; messaging = own.messaging; openings = own.openings.items; counters = own.counters } in
    rw c.register_stream.ensures (c.tables_are_whole.ensures.effects.registered t c.args.number c.self.invariant)
