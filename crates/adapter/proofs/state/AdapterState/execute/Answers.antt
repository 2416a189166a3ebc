use Rattle.adapter_table.specs.declared.table.AdapterTable.{AdapterTable}
use Rattle.adapter_table.specs.Messages.{messages_table}
use Rattle.adapter_table.specs.Lemmas.MessageLemmas.{goes_executed}
use Rattle.adapter.proofs.state.AdapterState.execute.Goals as goal

pub invariant_of-self : goal.invariant_of-self
unfolding messages_table
invariant_of-self g c =
    let own = c.self.inside in
    let t : AdapterTable = record { profile = own.assemblies.profile; rows = g.T.ConnectionsView.rows own.table; values = own.assemblies.values; clock = own.clock; ids = own.ids.items; next_id = own.next_id; streams = own.streams.items; messaging = own.messaging; openings = own.openings.items; counters = own.counters } in
    rw (c.execute.ensures, c.from_vec-reply.ensures) (c.tables_are_whole.ensures.effects.messaged t t.next_id _ (goes_executed t c.args.way.now.id c.args.way.now.count c.args.text.items c.args.way.now.deadline c.requires) c.self.invariant)
