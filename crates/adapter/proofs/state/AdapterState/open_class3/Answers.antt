use Rattle.std.proofs.Common.{rules, ◌+◌, ◌≤◌, ap, arith}
use Rattle.cip_types.specs.Ids.{end_number}
use Rattle.cip_fwdopen.specs.Open.{view_open}
use Rattle.cip_netparams.specs.Rate.{interval_ms}
use Rattle.cip_netparams.specs.Timeouts.{timeout_fits}
use Rattle.messaging.specs.declared.class3.Class3Connection.{Class3Connection}
use Rattle.adapter_table.specs.declared.table.AdapterTable.{AdapterTable}
use Rattle.adapter_table.specs.Class3Opening.{opened_class3}
use Rattle.adapter_table.specs.Messages.{messages_table}
use Rattle.adapter_table.specs.Lemmas.MessageLemmas.{admitted_class3_is, goes_opened}
use Rattle.adapter.proofs.state.AdapterState.open_class3.Goals as goal

pub opened_class3-class3-requires-clause-waits : goal.opened_class3-class3-requires-clause-waits
opened_class3-class3-requires-clause-waits g c =
    let is = admitted_class3_is c.args.self.now c.args.stream.now.peer (view_open c.args.request.now) c.requires.admitted in
    rw c.requires.times (timeout_fits c.args.request.now.multiplier (interval_ms c.args.request.now.o_t_rpi) is.multiplier is.o_t_api_ms)

pub opened_class3-class3-requires-clause-left : goal.opened_class3-class3-requires-clause-left
opened_class3-class3-requires-clause-left g c =
    omega (arith, (admitted_class3_is c.args.self.now c.args.stream.now.peer (view_open c.args.request.now) c.requires.admitted).ids)

pub class3_opened-requires-clause-o_t : goal.class3_opened-requires-clause-o_t
unfolding opened_class3
class3_opened-requires-clause-o_t g c =
    let e = ap (λ (d : Class3Connection). d.o_t_api_ms) c.opened_class3-class3.ensures in
    rw e (admitted_class3_is c.args.self.now c.args.stream.now.peer (view_open c.args.request.now) c.requires.admitted).o_t_api_ms

pub class3_opened-requires-clause-t_o : goal.class3_opened-requires-clause-t_o
unfolding opened_class3
class3_opened-requires-clause-t_o g c =
    let e = ap (λ (d : Class3Connection). d.t_o_api_ms) c.opened_class3-class3.ensures in
    rw e (admitted_class3_is c.args.self.now c.args.stream.now.peer (view_open c.args.request.now) c.requires.admitted).t_o_api_ms

pub overflow_add-self : goal.overflow_add-self
overflow_add-self g c =
    let own = c.self.inside in
    let t : AdapterTable = record { profile = own.assemblies.profile; rows = g.T.ConnectionsView.rows own.table; values = own.assemblies.values; clock = own.clock; ids = own.ids.items; next_id = own.next_id; streams = own.streams.items; messaging = own.messaging; openings = own.openings.items; counters = own.counters } in
    let admitted = rw (← c.self.view_is) at c.requires.admitted in
    let left : c.self.inside.next_id + 1 ≤ end_number own.ids.items = (admitted_class3_is t c.args.stream.now.peer (view_open c.args.request.now) admitted).ids in
    let sum : c.self.inside.next_id + 1 ≤ 4294967295 = omega (arith, left) in
    search rules

pub invariant_of-self-2 : goal.invariant_of-self-2
unfolding messages_table
invariant_of-self-2 g c =
    let own = c.self.inside in
    let t : AdapterTable = record { profile = own.assemblies.profile; rows = g.T.ConnectionsView.rows own.table; values = own.assemblies.values; clock = own.clock; ids = own.ids.items; next_id = own.next_id; streams = own.streams.items; messaging = own.messaging; openings = own.openings.items; counters = own.counters } in
    let admitted = rw (← c.self.view_is) at c.requires.admitted in
    let carried = rw (← c.self.view_is) at c.requires.carried in
    let messaged = c.tables_are_whole.ensures.effects.messaged t (t.next_id + 1) _ (goes_opened t c.args.stream.now (view_open c.args.request.now) admitted carried) c.self.invariant in
    rw (c.in_ok-open.ensures.ok, c.in_ok-openings.ensures, c.opened_class3-class3.ensures, ← c.self.view_is) (c.tables_are_whole.ensures.effects.counted _ _ messaged)
