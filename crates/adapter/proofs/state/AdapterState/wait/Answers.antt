use Rattle.std.proofs.Common.{Ok, ap}
use Rattle.adapter_table.specs.declared.table.AdapterTable.{AdapterTable}
use Rattle.adapter_table.specs.Requests.{Next}
use Rattle.adapter.proofs.EngineEffects.{waits}
use Rattle.adapter.proofs.state.AdapterState.wait.Goals as goal

pub returns : goal.returns
returns g c =
    let own = c.self.inside in
    let t : AdapterTable = record { profile = own.assemblies.profile; rows = g.T.ConnectionsView.rows own.table; values = own.assemblies.values; clock = own.clock; ids = own.ids.items; next_id = own.next_id; streams = own.streams.items; messaging = own.messaging; openings = own.openings.items; counters = own.counters } in
    let stated = rw (← c.self.view_is) at c.requires in
    rw (← c.self.view_is, c.plain.ensures, c.from.ensures) (ap (λ (n : Next). Ok n) (waits t c.args.ms stated.unexpired stated.none_late stated.none_due c.self.invariant.sound.listeners_are_supported))
