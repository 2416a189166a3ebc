use Rattle.std.proofs.Common.{[]}
use Rattle.adapter_table.specs.declared.table.AdapterTable.{AdapterTable}
use Rattle.adapter_table.specs.Messages.{messages_table}
use Rattle.cip_router.specs.Replies.{own}
use Rattle.messaging.specs.declared.requests.Requester.TheVariants as asker
use Rattle.messaging.specs.declared.requests.Waiting.{Waiting}
use Rattle.adapter_table.specs.Lemmas.MessageLemmas.{goes_answered}
use Rattle.adapter.proofs.state.AdapterState.settle_unkept.Goals as goal

-- a request of this number that a peer brought: its answer is kept nowhere
pub invariant_of-self : goal.invariant_of-self
unfolding messages_table
invariant_of-self g c =
    let inside = c.self.inside in
    let t : AdapterTable = record { profile = inside.assemblies.profile; rows = g.T.ConnectionsView.rows inside.table; values = inside.assemblies.values; clock = inside.clock; ids = inside.ids.items; next_id = inside.next_id; streams = inside.streams.items; messaging = inside.messaging; openings = inside.openings.items; counters = inside.counters } in
    let w : Waiting = record { number = c.args.number; peer = record { 0 = 0 }; asker = asker.Peer (record { 0 = 0 }); service = 0; deadline = record { 0 = 0 } } in
    rw c.answer.ensures (c.tables_are_whole.ensures.effects.messaged t t.next_id _ (goes_answered t w (own 0 0 [])) c.self.invariant)
