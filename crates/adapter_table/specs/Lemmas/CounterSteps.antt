-- The counter of the ids never falls, the blocks of ids grow, by a further block alone, and the profile stays.
use Rattle.std.proofs.Common.{◌≡◌, ◌≤◌, ℕ, Bool, true, false, cond, List, find, Option, Some, None, Result, Ok, Err, refl, subst, arith}
use Rattle.cip_types.specs.IdLaws.{block_extends, extends_on}
use Rattle.cip_types.specs.Ids.{Extends, with_block}
use Rattle.cip_types.specs.declared.ids.IdBlock.{IdBlock}
use Rattle.cip_types.specs.declared.names.Node.{Node}
use Rattle.cip_datagram.specs.declared.datagram.DatagramFault.{DatagramFault}
use Rattle.cip_datagram.specs.Datagram.{DatagramFields}
use Rattle.cip_datagram.specs.Reading.{datagram_reading}
use Rattle.cip_events.specs.declared.event.Delivery.{Delivery}
use Rattle.cip_events.specs.declared.event.Event.TheVariants.{Datagram, Write, Tick, Ids}
use Rattle.cip_events.specs.Answers.{is_accepted}
use Rattle.adapter_table.specs.Connections.{Row}
use Rattle.adapter_table.specs.Requests.{Next}
use Rattle.adapter_table.specs.declared.profile.Profile.{Profile}
use Rattle.adapter_table.specs.declared.table.AdapterTable.{AdapterTable}
use Rattle.adapter_table.specs.Opening.{opened_table}
use Rattle.adapter_table.specs.Closing.{closed_table}
use Rattle.adapter_table.specs.Streams.{with_stream, without_stream, registered_table}
use Rattle.adapter_table.specs.Datagrams.{accepted_table, delivered, found_datagram, datagram_of, received, row_delivery, is_for}
use Rattle.adapter_table.specs.Ticks.{advanced, aged_next, clocked_table, expired_table, produced_table}
use Rattle.adapter_table.specs.Step.{written, written_table, changed_table}
use Rattle.adapter_table.specs.Messages.{messages_table}
use Rattle.adapter_table.specs.Laws.{StepsKeep, StepsLeaveIds, EffectsKeep}
use Rattle.adapter_table.specs.Lemmas.ControlLemmas.{bare_control}
use Rattle.adapter_table.specs.Lemmas.EffectLemmas.{adapter_keeps, write_is, tick_is}
use Rattle.adapter_table.specs.Lemmas.RequestLemmas.{LimitedDo, next_is}

-- the counter is no less than this
abbrev Counts : ℕ → AdapterTable → Type 0
Counts n t = n ≤ t.next_id

counter_effects : (n : ℕ) → EffectsKeep (Counts n)
unfolding opened_table closed_table written_table changed_table accepted_table clocked_table expired_table produced_table with_stream without_stream registered_table messages_table
counter_effects n = record {
  opened = λ t peer request admitted is le. omega arith;
  closed = λ t row le. le;
  written = λ t point bytes input found long le. le;
  fed = λ t peer d row delivery is found le. le;
  advanced = λ t ms in_time le. le;
  streamed = λ t number peer free le. le;
  unstreamed = λ t number le. le;
  registered = λ t number le. le;
  messaged = λ t next_id m goes le. omega (arith, goes.later, le);
  counted = λ t openings le. le;
  tallied = λ t counters le. le;
  taken = λ t block may le. le;
}

pub steps_count : (n : ℕ) → StepsKeep (λ t. n ≤ t.next_id)
steps_count n t event next is le = adapter_keeps (Counts n) (counter_effects n) t event next is le

-- the adapter has this profile
abbrev HasProfile : Profile → AdapterTable → Type 0
HasProfile profile t = t.profile ≡ profile

profile_effects : (profile : Profile) → EffectsKeep (HasProfile profile)
unfolding opened_table closed_table written_table changed_table accepted_table clocked_table expired_table produced_table with_stream without_stream registered_table messages_table
profile_effects profile = record {
  opened = λ t peer request admitted is same. same;
  closed = λ t row same. same;
  written = λ t point bytes input found long same. same;
  fed = λ t peer d row delivery is found same. same;
  advanced = λ t ms in_time same. same;
  streamed = λ t number peer free same. same;
  unstreamed = λ t number same. same;
  registered = λ t number same. same;
  messaged = λ t next_id m goes same. same;
  counted = λ t openings same. same;
  tallied = λ t counters same. same;
  taken = λ t block may same. same;
}

pub profile_stays : (profile : Profile) → StepsKeep (λ t. t.profile ≡ profile)
profile_stays profile t event next is same = adapter_keeps (HasProfile profile) (profile_effects profile) t event next is same

-- the blocks of ids go on from these
abbrev Grows : List IdBlock → AdapterTable → Type 0
Grows ids t = Extends ids t.ids

blocks_effects : (ids : List IdBlock) → EffectsKeep (Grows ids)
unfolding opened_table closed_table written_table changed_table accepted_table clocked_table expired_table produced_table with_stream without_stream registered_table messages_table
blocks_effects ids = record {
  opened = λ t peer request admitted is grows. grows;
  closed = λ t row grows. grows;
  written = λ t point bytes input found long grows. grows;
  fed = λ t peer d row delivery is found grows. grows;
  advanced = λ t ms in_time grows. grows;
  streamed = λ t number peer free grows. grows;
  unstreamed = λ t number grows. grows;
  registered = λ t number grows. grows;
  messaged = λ t next_id m goes grows. grows;
  counted = λ t openings grows. grows;
  tallied = λ t counters grows. grows;
  taken = λ t block may grows. extends_on ids t.ids (with_block t.ids block) grows (block_extends t.ids block may);
}

pub blocks_go_on : (ids : List IdBlock) → StepsKeep (λ t. Extends ids t.ids)
blocks_go_on ids t event next is grows = adapter_keeps (Grows ids) (blocks_effects ids) t event next is grows

-- the blocks of ids are as before
abbrev Leaves : AdapterTable → AdapterTable → Type 0
Leaves t next = next.ids ≡ t.ids

requests_leave : LimitedDo Leaves
unfolding opened_table closed_table without_stream registered_table messages_table
requests_leave = record {
  stays = λ t. refl;
  opened = λ t peer request admitted is. refl;
  closed = λ t triad row found. refl;
  unstreamed = λ t number. refl;
  registered = λ t number. refl;
  messaged = λ t next_id m goes. refl;
  connected = λ t stream request passes carried. refl;
  tallied = λ t next counters same. same;
}

stream_leaves : (t : AdapterTable) (number : ℕ) (peer : Node) → Leaves t (with_stream t number peer)
unfolding with_stream
stream_leaves t number peer = refl

judged_leaves : (b : Bool) (t fed : AdapterTable) (delivery : Delivery) → Leaves t fed → Leaves t (cond b (delivered delivery fed) (delivered delivery t)).1
judged_leaves true t fed delivery same = same
judged_leaves false t fed delivery same = refl

fed_leaves : (t : AdapterTable) (peer : Node) (d : DatagramFields) (row : Row) (delivery : Delivery) → Leaves t (accepted_table t peer d row delivery)
unfolding accepted_table
fed_leaves t peer d row delivery = refl

found_leaves : (t : AdapterTable) (peer : Node) (d : DatagramFields) (found : Option Row) → Leaves t (found_datagram t peer d found).1
found_leaves t peer d None = refl
found_leaves t peer d (Some row) =
    let delivery = row_delivery t.profile t.clock row d in
    judged_leaves (is_accepted delivery) t (accepted_table t peer d row delivery) delivery (fed_leaves t peer d row delivery)

datagram_leaves : (t : AdapterTable) (peer : Node) (reading : Result DatagramFields DatagramFault) → Leaves t (datagram_of t peer reading).1
datagram_leaves t peer (Err fault) = refl
datagram_leaves t peer (Ok d) = found_leaves t peer d (find (is_for peer d.connection) t.rows)

write_leaves : (t : AdapterTable) (point : ℕ) (bytes : List ℕ) → Leaves t (written (written_table t point bytes) point bytes).1
unfolding written_table changed_table
write_leaves t point bytes = refl

tick_leaves : (t : AdapterTable) (ms : ℕ) → Leaves t (aged_next (advanced (clocked_table t ms))).1
unfolding clocked_table expired_table produced_table messages_table
tick_leaves t ms = refl

-- only a further block changes them
pub ids_stay : StepsLeaveIds
unfolding received
ids_stay t (Datagram peer bytes) next is none = subst (λ (n : Next). Leaves t n.1) (next_is _ _ is) (datagram_leaves t peer (datagram_reading bytes))
ids_stay t (Write point bytes) next is none = subst (λ (n : Next). Leaves t n.1) (write_is t point bytes next is).said (write_leaves t point bytes)
ids_stay t (Tick ms) next is none = subst (λ (n : Next). Leaves t n.1) (tick_is t ms next is).said (tick_leaves t ms)
ids_stay t (Ids block) next is none = absurd (let e = none in cc)
ids_stay t other next is none = bare_control Leaves requests_leave (λ t number peer free. stream_leaves t number peer) t other next refl none is
