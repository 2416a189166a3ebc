use Rattle.adapter_table.specs.declared.table.AdapterTable.{AdapterTable}
use Rattle.adapter_table.specs.Counters.{counted_if}
use Rattle.adapter.proofs.Counting.{tallied_counts}
use Rattle.adapter.proofs.state.AdapterState.count.Goals as goal

pub invariant_of-self : goal.invariant_of-self
invariant_of-self g c =
    let own = c.self.inside in
    let t : AdapterTable = record { profile = own.assemblies.profile; rows = g.T.ConnectionsView.rows own.table; values = own.assemblies.values; clock = own.clock; ids = own.ids.items; next_id = own.next_id; streams = own.streams.items; messaging = own.messaging; openings = own.openings.items; counters = own.counters } in
    rw c.counted_if-manager.ensures (c.tables_are_whole.ensures.effects.tallied t (record own.counters { manager = counted_if c.args.tally own.counters.manager }) c.self.invariant)

pub returns : goal.returns
returns g c = rw (c.counted_if-manager.ensures, ← c.self.view_is) (tallied_counts _ c.args.tally)
