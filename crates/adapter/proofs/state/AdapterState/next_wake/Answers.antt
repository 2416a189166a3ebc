use Rattle.std.proofs.Common.{arith}
use Rattle.adapter_table.specs.declared.table.AdapterTable.{AdapterTable}
use Rattle.cip_tables.specs.Wakes.{connections_due}
use Rattle.indexed_connections.specs.List.Quiet.{quiet_before}
use Rattle.adapter.proofs.Quiet.{quiet_for}
use Rattle.adapter.proofs.state.AdapterState.next_wake.Goals as goal

pub returns-clause-quiet : goal.returns-clause-quiet
returns-clause-quiet g c =
    let own = c.self.inside in
    let t : AdapterTable = record { profile = own.assemblies.profile; rows = g.T.ConnectionsView.rows own.table; values = own.assemblies.values; clock = own.clock; ids = own.ids.items; next_id = own.next_id; streams = own.streams.items; messaging = own.messaging; openings = own.openings.items; counters = own.counters } in
    rw (← c.self.view_is) (quiet_for t (connections_due t.rows) c.min.result (quiet_before t.rows) (omega (arith, c.min.ensures, c.saturating_sub-wait.ensures, c.min-due.ensures, c.first_due-rows.ensures, c.first_moment-messages.ensures)) c.self.invariant)
