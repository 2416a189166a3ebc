use Rattle.adapter_table.specs.declared.table.AdapterTable.{AdapterTable}
use Rattle.cip_datagram.specs.Datagram.{view_datagram}
use Rattle.adapter_table.specs.Judging.{judged_delivery}
use Rattle.adapter.proofs.EngineEffects.{Laws, received_by, received_output, received_len}
use Rattle.adapter.proofs.state.AdapterState.receive_datagram.Goals as goal

pub apply-requires-clause-output : goal.apply-requires-clause-output
apply-requires-clause-output g c =
    let own = c.self.inside in
    let t : AdapterTable = record { profile = own.assemblies.profile; rows = g.T.ConnectionsView.rows own.table; values = own.assemblies.values; clock = own.clock; ids = own.ids.items; next_id = own.next_id; streams = own.streams.items; messaging = own.messaging; openings = own.openings.items; counters = own.counters } in
    let laws : Laws = record { outputs = c.applied_data_fit.ensures.outputs; lengths = c.applied_data_fit.ensures.lengths; effects = c.tables_are_whole.ensures.effects } in
    let received = received_by laws t c.args.peer (view_datagram c.args.datagram.now) c.receive.result c.in-Some.received (g.T.ConnectionsView.rows c.receive.new.self) (rw c.profile-profile.ensures.value at c.receive.ensures.received) (rw c.profile-profile.ensures.value at c.receive.ensures.rows) c.self.invariant c.in-Some.is in
    received_output t c.args.peer (view_datagram c.args.datagram.now) c.in-Some.received (g.T.ConnectionsView.rows c.receive.new.self) received

pub apply-requires-clause-right_length : goal.apply-requires-clause-right_length
apply-requires-clause-right_length g c =
    let own = c.self.inside in
    let t : AdapterTable = record { profile = own.assemblies.profile; rows = g.T.ConnectionsView.rows own.table; values = own.assemblies.values; clock = own.clock; ids = own.ids.items; next_id = own.next_id; streams = own.streams.items; messaging = own.messaging; openings = own.openings.items; counters = own.counters } in
    let laws : Laws = record { outputs = c.applied_data_fit.ensures.outputs; lengths = c.applied_data_fit.ensures.lengths; effects = c.tables_are_whole.ensures.effects } in
    let received = received_by laws t c.args.peer (view_datagram c.args.datagram.now) c.receive.result c.in-Some.received (g.T.ConnectionsView.rows c.receive.new.self) (rw c.profile-profile.ensures.value at c.receive.ensures.received) (rw c.profile-profile.ensures.value at c.receive.ensures.rows) c.self.invariant c.in-Some.is in
    received_len t c.args.peer (view_datagram c.args.datagram.now) c.in-Some.received (g.T.ConnectionsView.rows c.receive.new.self) received

pub invariant_of-self-2 : goal.invariant_of-self-2
invariant_of-self-2 g c =
    let own = c.self.inside in
    let t : AdapterTable = record { profile = own.assemblies.profile; rows = g.T.ConnectionsView.rows own.table; values = own.assemblies.values; clock = own.clock; ids = own.ids.items; next_id = own.next_id; streams = own.streams.items; messaging = own.messaging; openings = own.openings.items; counters = own.counters } in
    let laws : Laws = record { outputs = c.applied_data_fit.ensures.outputs; lengths = c.applied_data_fit.ensures.lengths; effects = c.tables_are_whole.ensures.effects } in
    let received = received_by laws t c.args.peer (view_datagram c.args.datagram.now) c.receive.result c.in-Some.received (g.T.ConnectionsView.rows c.receive.new.self) (rw c.profile-profile.ensures.value at c.receive.ensures.received) (rw c.profile-profile.ensures.value at c.receive.ensures.rows) c.self.invariant c.in-Some.is in
    rw (c.apply.ensures (judged_delivery c.in-Some.received.judgement) (view_datagram c.args.datagram.now) received.judged) received.fed.whole

pub returns : goal.returns
returns g c =
    let own = c.self.inside in
    let t : AdapterTable = record { profile = own.assemblies.profile; rows = g.T.ConnectionsView.rows own.table; values = own.assemblies.values; clock = own.clock; ids = own.ids.items; next_id = own.next_id; streams = own.streams.items; messaging = own.messaging; openings = own.openings.items; counters = own.counters } in
    let laws : Laws = record { outputs = c.applied_data_fit.ensures.outputs; lengths = c.applied_data_fit.ensures.lengths; effects = c.tables_are_whole.ensures.effects } in
    let received = received_by laws t c.args.peer (view_datagram c.args.datagram.now) c.receive.result c.in-Some.received (g.T.ConnectionsView.rows c.receive.new.self) (rw c.profile-profile.ensures.value at c.receive.ensures.received) (rw c.profile-profile.ensures.value at c.receive.ensures.rows) c.self.invariant c.in-Some.is in
    rw (← c.self.view_is, c.apply.ensures (judged_delivery c.in-Some.received.judgement) (view_datagram c.args.datagram.now) received.judged, c.delivery.ensures) received.fed.said
