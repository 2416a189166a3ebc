use Rattle.std.proofs.Common.{◌∙◌}
use Rattle.adapter_table.specs.declared.table.AdapterTable.{AdapterTable}
use Rattle.adapter_table.specs.Step.{written_table, changed_table}
use Rattle.adapter.proofs.EngineEffects.{is_input, without_fault}
use Rattle.adapter.proofs.state.AdapterState.put.Goals as goal

pub invariant_of-self : goal.invariant_of-self
unfolding written_table changed_table
invariant_of-self g c =
    let own = c.self.inside in
    let t : AdapterTable = record { profile = own.assemblies.profile; rows = g.T.ConnectionsView.rows own.table; values = own.assemblies.values; clock = own.clock; ids = own.ids.items; next_id = own.next_id; streams = own.streams.items; messaging = own.messaging; openings = own.openings.items; counters = own.counters } in
    let stated = rw (← c.self.view_is) at c.requires in
    let input = is_input t.profile c.args.point _ stated in
    let written = c.tables_are_whole.ensures.effects.written t c.args.point c.args.bytes.now input.input input.found input.long c.self.invariant in
    let put = without_fault c.write-written.result (c.write-written.ensures.fault ∙ stated) c.write-written.ensures.ok in
    rw (put, c.write.ensures) written
