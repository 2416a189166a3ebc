use Rattle.std.proofs.Common.{rules, ◌+◌, ◌≤◌, ap, arith}
use Rattle.cip_types.specs.Ids.{end_number}
use Rattle.adapter_table.specs.Connections.{Row}
use Rattle.adapter_table.specs.declared.table.AdapterTable.{AdapterTable}
use Rattle.cip_fwdopen.specs.Open.{view_open}
use Rattle.adapter_table.specs.Checks.{view_admission}
use Rattle.adapter_table.specs.Opening.{opened_row, opened_table}
use Rattle.adapter_table.specs.Lemmas.LimitLemmas.{limited_is}
use Rattle.adapter_replies.specs.Routes.{peer_of}
use Rattle.adapter.proofs.EngineEffects.{are_whole}
use Rattle.adapter.proofs.state.AdapterState.open.Goals as goal

pub opened_row-row-requires-clause-waits : goal.opened_row-row-requires-clause-waits
opened_row-row-requires-clause-waits g c = (c.admitted_requests_fit.ensures.times c.args.self.now _ _ (limited_is c.args.self.now (peer_of c.args.route) (view_open c.args.request.now) (view_admission c.args.admitted.now) c.requires.admitted).admitted).watchdog

pub opened_row-row-requires-clause-left : goal.opened_row-row-requires-clause-left
opened_row-row-requires-clause-left g c = (c.admitted_requests_fit.ensures.times c.args.self.now _ _ (limited_is c.args.self.now (peer_of c.args.route) (view_open c.args.request.now) (view_admission c.args.admitted.now) c.requires.admitted).admitted).left

pub opened_row-row-requires-clause-draws : goal.opened_row-row-requires-clause-draws
opened_row-row-requires-clause-draws g c = (c.admitted_requests_fit.ensures.times c.args.self.now _ _ (limited_is c.args.self.now (peer_of c.args.route) (view_open c.args.request.now) (view_admission c.args.admitted.now) c.requires.admitted).admitted).draws

pub opened_reply-requires-clause-o_t : goal.opened_reply-requires-clause-o_t
unfolding opened_row
opened_reply-requires-clause-o_t g c = let e = ap (λ (row : Row). row.o_t_api_ms) c.opened_row-row.ensures in rw e (c.admitted_requests_fit.ensures.times c.args.self.now _ _ (limited_is c.args.self.now (peer_of c.args.route) (view_open c.args.request.now) (view_admission c.args.admitted.now) c.requires.admitted).admitted).o_t_api_ms

pub opened_reply-requires-clause-t_o : goal.opened_reply-requires-clause-t_o
unfolding opened_row
opened_reply-requires-clause-t_o g c = let e = ap (λ (row : Row). row.t_o_api_ms) c.opened_row-row.ensures in rw e (c.admitted_requests_fit.ensures.times c.args.self.now _ _ (limited_is c.args.self.now (peer_of c.args.route) (view_open c.args.request.now) (view_admission c.args.admitted.now) c.requires.admitted).admitted).t_o_api_ms

pub open-requires-clause-next : goal.open-requires-clause-next
unfolding opened_table
open-requires-clause-next g c =
    let own = c.self.inside in
    let t : AdapterTable = record { profile = own.assemblies.profile; rows = g.T.ConnectionsView.rows own.table; values = own.assemblies.values; clock = own.clock; ids = own.ids.items; next_id = own.next_id; streams = own.streams.items; messaging = own.messaging; openings = own.openings.items; counters = own.counters } in
    let admitted = (limited_is t (peer_of c.args.route) (view_open c.args.request.now) (view_admission c.args.admitted.now) (rw (← c.self.view_is) at c.requires.admitted)).admitted in
    let opened = c.tables_are_whole.ensures.effects.opened t (peer_of c.args.route) (view_open c.args.request.now) (view_admission c.args.admitted.now) admitted c.self.invariant in
    rw (c.opened_row-row.ensures, c.peer.ensures, ← c.self.view_is) (are_whole (opened_table t (opened_row t (peer_of c.args.route) (view_open c.args.request.now) (view_admission c.args.admitted.now)) (view_admission c.args.admitted.now)) opened)

pub configure-requires : goal.configure-requires
configure-requires g c =
    let own = c.self.inside in
    let t : AdapterTable = record { profile = own.assemblies.profile; rows = g.T.ConnectionsView.rows own.table; values = own.assemblies.values; clock = own.clock; ids = own.ids.items; next_id = own.next_id; streams = own.streams.items; messaging = own.messaging; openings = own.openings.items; counters = own.counters } in
    let admitted = (limited_is t (peer_of c.args.route) (view_open c.args.request.now) (view_admission c.args.admitted.now) (rw (← c.self.view_is) at c.requires.admitted)).admitted in
    c.admitted_requests_fit.ensures.segments t (view_open c.args.request.now) (view_admission c.args.admitted.now) admitted

pub overflow_add-self : goal.overflow_add-self
overflow_add-self g c =
    let own = c.self.inside in
    let t : AdapterTable = record { profile = own.assemblies.profile; rows = g.T.ConnectionsView.rows own.table; values = own.assemblies.values; clock = own.clock; ids = own.ids.items; next_id = own.next_id; streams = own.streams.items; messaging = own.messaging; openings = own.openings.items; counters = own.counters } in
    let admitted = (limited_is t (peer_of c.args.route) (view_open c.args.request.now) (view_admission c.args.admitted.now) (rw (← c.self.view_is) at c.requires.admitted)).admitted in
    let left : c.self.inside.next_id + c.args.admitted.now.drawn ≤ end_number own.ids.items = rw c.requires.drawn (c.admitted_requests_fit.ensures.times t _ _ admitted).left in
    let sum : c.self.inside.next_id + c.args.admitted.now.drawn ≤ 4294967295 = omega (arith, left) in
    search rules

pub invariant_of-self-2 : goal.invariant_of-self-2
unfolding opened_table
invariant_of-self-2 g c =
    let own = c.self.inside in
    let t : AdapterTable = record { profile = own.assemblies.profile; rows = g.T.ConnectionsView.rows own.table; values = own.assemblies.values; clock = own.clock; ids = own.ids.items; next_id = own.next_id; streams = own.streams.items; messaging = own.messaging; openings = own.openings.items; counters = own.counters } in
    let admitted = (limited_is t (peer_of c.args.route) (view_open c.args.request.now) (view_admission c.args.admitted.now) (rw (← c.self.view_is) at c.requires.admitted)).admitted in
    let opened = c.tables_are_whole.ensures.effects.opened t (peer_of c.args.route) (view_open c.args.request.now) (view_admission c.args.admitted.now) admitted c.self.invariant in
    rw (c.configure.ensures, c.in_ok-open.ensures.ok, c.in_ok-openings.ensures, c.opened_row-row.ensures, c.peer.ensures, ← c.self.view_is, c.requires.drawn) opened
