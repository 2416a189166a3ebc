use Rattle.adapter_table.specs.declared.table.AdapterTable.{AdapterTable}
use Rattle.adapter_table.specs.Streams.{with_stream}
use Rattle.adapter.proofs.state.AdapterState.open_stream.Goals as goal

pub invariant_of-self-2 : goal.invariant_of-self-2
unfolding with_stream
invariant_of-self-2 g c =
    let own = c.self.inside in
    let t : AdapterTable = record { profile = own.assemblies.profile; rows = g.T.ConnectionsView.rows own.table; values = own.assemblies.values; clock = own.clock; ids = own.ids.items; next_id = own.next_id; streams = own.streams.items; messaging = own.messaging; openings = own.openings.items; counters = own.counters } in
    rw c.in_ok-add_stream.ensures.ok (c.tables_are_whole.ensures.effects.streamed t c.args.number c.args.peer (rw (← c.deref.ensures.value, ← c.is_taken.ensures) c.if-is_taken.false) c.self.invariant)
