use Rattle.std.proofs.Common.{refl}
use Rattle.std.proofs.lemmas.List.{length-map}
use Rattle.adapter_table.specs.declared.table.AdapterTable.{AdapterTable}
use Rattle.adapter_table.specs.Messages.{messages_table}
use Rattle.adapter_table.specs.Ticks.{clocked_table, expired_table, produced_table}
use Rattle.adapter_table.specs.Lemmas.MessageLemmas.{goes_aged}
use Rattle.adapter.proofs.Aging.{late_notices}
use Rattle.adapter.proofs.EngineEffects.{are_whole, dropped_notices}
use Rattle.adapter.proofs.state.AdapterState.age.Goals as goal

pub advance-requires-clause-next : goal.advance-requires-clause-next
unfolding clocked_table expired_table produced_table
advance-requires-clause-next g c =
    let own = c.self.inside in
    let t : AdapterTable = record { profile = own.assemblies.profile; rows = g.T.ConnectionsView.rows own.table; values = own.assemblies.values; clock = own.clock; ids = own.ids.items; next_id = own.next_id; streams = own.streams.items; messaging = own.messaging; openings = own.openings.items; counters = own.counters } in
    let time = rw (← c.self.view_is) at c.requires in
    rw c.from.ensures (are_whole (produced_table (expired_table (clocked_table t c.args.ms))) (c.tables_are_whole.ensures.effects.advanced t c.args.ms time c.self.invariant))

pub invariant_of-self-2 : goal.invariant_of-self-2
unfolding clocked_table expired_table produced_table messages_table
invariant_of-self-2 g c =
    let own = c.self.inside in
    let t : AdapterTable = record { profile = own.assemblies.profile; rows = g.T.ConnectionsView.rows own.table; values = own.assemblies.values; clock = own.clock; ids = own.ids.items; next_id = own.next_id; streams = own.streams.items; messaging = own.messaging; openings = own.openings.items; counters = own.counters } in
    let time = rw (← c.self.view_is) at c.requires in
    let later : AdapterTable = produced_table (expired_table (clocked_table t c.args.ms)) in
    let whole = c.tables_are_whole.ensures.effects.advanced t c.args.ms time c.self.invariant in
    rw (c.count_late.ensures, c.deref-7.ensures.value, c.deref-8.ensures.value, c.in_ok-ended.ensures, length-map, c.in_ok-age.ensures.ok, c.lose_owners.ensures, c.deref-4.ensures.value, c.in_ok-timed_out.ensures.expired, c.advance.ensures, c.from.ensures) (c.tables_are_whole.ensures.effects.messaged later later.next_id _ (goes_aged later) whole)

pub returns : goal.returns
unfolding clocked_table expired_table produced_table messages_table
returns g c =
    rw (c.count_late.ensures, c.deref-7.ensures.value, c.deref-8.ensures.value, c.late_answer.ensures, c.in_ok-frames.ensures, c.in_ok-timed_out.ensures.datagrams, c.in_ok-notices.ensures, c.deref.ensures.value, c.deref-2.ensures.value, c.deref-3.ensures.value, c.in_ok-ended.ensures, length-map, c.in_ok-timed_out.ensures.dropped, dropped_notices, late_notices, c.in_ok-age.ensures.ok, c.lose_owners.ensures, c.deref-4.ensures.value, c.in_ok-timed_out.ensures.expired, c.advance.ensures, c.from.ensures, ← c.self.view_is) refl
