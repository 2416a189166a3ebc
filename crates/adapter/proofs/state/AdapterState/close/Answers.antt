use Rattle.std.proofs.Common.{refl}
use Rattle.adapter_table.specs.declared.table.AdapterTable.{AdapterTable}
use Rattle.adapter_table.specs.Closing.{closed_table}
use Rattle.adapter.proofs.EngineEffects.{are_whole, dropped_notices}
use Rattle.adapter.proofs.state.AdapterState.close.Goals as goal

pub invariant_of-self : goal.invariant_of-self
unfolding closed_table
invariant_of-self g c =
    let own = c.self.inside in
    let t : AdapterTable = record { profile = own.assemblies.profile; rows = g.T.ConnectionsView.rows own.table; values = own.assemblies.values; clock = own.clock; ids = own.ids.items; next_id = own.next_id; streams = own.streams.items; messaging = own.messaging; openings = own.openings.items; counters = own.counters } in
    rw (c.lose_owner.ensures, c.close.ensures) (c.tables_are_whole.ensures.effects.closed t c.args.row.now c.self.invariant)

pub close-requires-clause-next : goal.close-requires-clause-next
unfolding closed_table
close-requires-clause-next g c =
    let own = c.self.inside in
    let t : AdapterTable = record { profile = own.assemblies.profile; rows = g.T.ConnectionsView.rows own.table; values = own.assemblies.values; clock = own.clock; ids = own.ids.items; next_id = own.next_id; streams = own.streams.items; messaging = own.messaging; openings = own.openings.items; counters = own.counters } in
    are_whole (closed_table t c.args.row.now) (c.tables_are_whole.ensures.effects.closed t c.args.row.now c.self.invariant)

pub returns : goal.returns
unfolding closed_table
returns g c =
    rw (c.count.ensures, c.in_ok-answer.ensures, c.in_ok-notices.ensures, c.deref.ensures.value, c.in_ok-dropped.ensures, dropped_notices, c.lose_owner.ensures, c.close.ensures, ← c.self.view_is) refl
