use Rattle.adapter_table.specs.declared.table.AdapterTable.{AdapterTable}
use Rattle.adapter_table.specs.Messages.{messages_table}
use Rattle.adapter_table.specs.Lemmas.MessageLemmas.{goes_referred_over}
use Rattle.adapter.proofs.state.AdapterState.ask_over.Goals as goal

pub invariant_of-self-2 : goal.invariant_of-self-2
unfolding messages_table
invariant_of-self-2 g c =
    let own = c.self.inside in
    let t : AdapterTable = record { profile = own.assemblies.profile; rows = g.T.ConnectionsView.rows own.table; values = own.assemblies.values; clock = own.clock; ids = own.ids.items; next_id = own.next_id; streams = own.streams.items; messaging = own.messaging; openings = own.openings.items; counters = own.counters } in
    let stated = rw (← c.self.view_is) at c.requires in
    rw c.in_ok-ask_over.ensures.ok (c.tables_are_whole.ensures.effects.messaged t t.next_id _ (goes_referred_over t c.args.way.now.peer c.args.way.now.id c.args.way.now.count c.args.own.now.service c.args.way.now.deadline stated.open stated.room) c.self.invariant)
