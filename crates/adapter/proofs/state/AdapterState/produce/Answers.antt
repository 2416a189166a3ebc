use Rattle.std.proofs.Common.{Ok, ap}
use Rattle.adapter_table.specs.declared.table.AdapterTable.{AdapterTable}
use Rattle.adapter_table.specs.Requests.{Next}
use Rattle.adapter.proofs.EngineEffects.{produces, produces_whole}
use Rattle.adapter.proofs.state.AdapterState.produce.Goals as goal

pub invariant_of-self : goal.invariant_of-self
invariant_of-self g c =
    let own = c.self.inside in
    let t : AdapterTable = record { profile = own.assemblies.profile; rows = g.T.ConnectionsView.rows own.table; values = own.assemblies.values; clock = own.clock; ids = own.ids.items; next_id = own.next_id; streams = own.streams.items; messaging = own.messaging; openings = own.openings.items; counters = own.counters } in
    let stated = rw (← c.self.view_is) at c.requires in
    rw (c.produce.ensures, c.from.ensures) (produces_whole c.tables_are_whole.ensures.effects t c.args.ms stated.time stated.unexpired stated.none_late c.self.invariant)

pub returns : goal.returns
returns g c =
    let own = c.self.inside in
    let t : AdapterTable = record { profile = own.assemblies.profile; rows = g.T.ConnectionsView.rows own.table; values = own.assemblies.values; clock = own.clock; ids = own.ids.items; next_id = own.next_id; streams = own.streams.items; messaging = own.messaging; openings = own.openings.items; counters = own.counters } in
    let stated = rw (← c.self.view_is) at c.requires in
    rw (← c.self.view_is, c.notices_answer.ensures, c.new.ensures.items, c.in_ok-datagrams.ensures, c.produce.ensures, c.from.ensures) (ap (λ (n : Next). Ok n) (produces t c.args.ms stated.unexpired stated.none_late c.self.invariant.sound.listeners_are_supported))
