-- No step lets a node open more connections in its second than the maker states.
use Rattle.std.proofs.Common.{◌≡◌, ◌≤◌, ◌<◌, ℕ, nat_lt, nat_le, Bool, true, false, cond, List, [], ◌∷◌, filter, find, length, length-append, drop, Option, Some, None, Result, Ok, Err, refl, subst, arith}
use Rattle.std.proofs.lemmas.Bool.Decides.{nat_tests}
use Rattle.cip_types.specs.declared.names.Ms.{Ms}
use Rattle.cip_types.specs.declared.names.Node.{Node}
use Rattle.cip_fwdopen.specs.Open.{OpenFields}
use Rattle.cip_datagram.specs.declared.datagram.DatagramFault.{DatagramFault}
use Rattle.cip_datagram.specs.Datagram.{DatagramFields}
use Rattle.cip_datagram.specs.Reading.{datagram_reading}
use Rattle.cip_events.specs.declared.event.Delivery.{Delivery}
use Rattle.cip_events.specs.declared.event.Event.TheVariants.{Datagram, Write, Tick}
use Rattle.cip_events.specs.Answers.{is_accepted}
use Rattle.messaging.specs.declared.table.Messaging.{Messaging}
use Rattle.messaging.specs.Sound.{EachOf}
use Rattle.messaging.specs.Times.{aged}
use Rattle.messaging.specs.Lemmas.EachOfLemmas.{each_left, each_more, few_left}
use Rattle.adapter_table.specs.declared.profile.Profile.{Profile}
use Rattle.adapter_table.specs.declared.opening_rates.rates.NodeOpenings.{NodeOpenings}
use Rattle.adapter_table.specs.declared.table.AdapterTable.{AdapterTable}
use Rattle.adapter_table.specs.declared.table.Stream.{Stream}
use Rattle.adapter_table.specs.Connections.{Row}
use Rattle.adapter_table.specs.Checks.{Admitted}
use Rattle.adapter_table.specs.Closing.{closed_table}
use Rattle.adapter_table.specs.Datagrams.{row_delivery, is_for, accepted_table, delivered, found_datagram, datagram_of, received}
use Rattle.adapter_table.specs.Class3Opening.{class3_view, class3_refusal, opened_class3, class3_table}
use Rattle.adapter_table.specs.Messages.{messages_table}
use Rattle.adapter_table.specs.Opening.{opened_row, opened_table}
use Rattle.adapter_table.specs.OpeningRates.Rates.{runs_for, runs_for_another, count_in, has_opened_enough, one_more, with_room, counted_openings}
use Rattle.adapter_table.specs.Profiles.{most_openings}
use Rattle.adapter_table.specs.Rates.{AreWithinSecond, OpensWithinLimits}
use Rattle.adapter_table.specs.Requests.{Next}
use Rattle.adapter_table.specs.StatedLimits.{limited_admission}
use Rattle.adapter_table.specs.Step.{adapter_table, written_table, changed_table}
use Rattle.adapter_table.specs.Streams.{with_stream, without_stream, registered_table}
use Rattle.adapter_table.specs.declared.counters.DeviceCounters.{DeviceCounters}
use Rattle.adapter_table.specs.Counting.{with_counters}
use Rattle.adapter_table.specs.Ticks.{clocked_table, expired_table, produced_table, advanced}
use Rattle.adapter_table.specs.Laws.{StepsKeep}
use Rattle.adapter_table.specs.Lemmas.ControlLemmas.{limited_control}
use Rattle.adapter_table.specs.Lemmas.EffectLemmas.{write_is, tick_is}
use Rattle.adapter_table.specs.Lemmas.LimitLemmas.{paced_is}
use Rattle.adapter_table.specs.Lemmas.MessageLemmas.{class3_is_paced}
use Rattle.adapter_table.specs.Lemmas.RequestLemmas.{LimitedDo, next_is}

-- ---- one opening more

abbrev IsWithin : ℕ → NodeOpenings → Type 0
IsWithin most entry = entry.count ≤ most

each_room : (b : Bool) (most : ℕ) (openings : List NodeOpenings) → EachOf (IsWithin most) openings → EachOf (IsWithin most) (cond b openings (drop 1 openings))
each_room true most openings all = all
each_room false most [] all = tt
each_room false most (first ∷ openings) all = all.1

few_room : (b : Bool) (openings : List NodeOpenings) → nat_lt (length openings) 64 ≡ b → length openings ≤ 64 → length (cond b openings (drop 1 openings)) < 64
few_room true openings is few = grind (arith, nat_tests, is)
few_room false [] is few = absurd (let e = is in cc)
few_room false (first ∷ openings) is few = omega (arith, few)

one_within : (most : ℕ) (clock : Ms) (node : Node) (found : Option NodeOpenings) → nat_le most (count_in found) ≡ false → IsWithin most (one_more clock node found)
one_within most clock node None free = grind (arith, nat_tests, free)
one_within most clock node (Some entry) free =
    let below : entry.count < most = grind (arith, nat_tests, free) in
    omega (arith, below)

-- what holds of the openings of a table
record Are (most : Option ℕ) (openings : List NodeOpenings) : Type 0 where
  few : length openings ≤ 64
  within : AreWithinSecond most openings

counted_within : (most : Option ℕ) (clock : Ms) (node : Node) (openings : List NodeOpenings) → has_opened_enough most clock node openings ≡ false → Are most openings → Are most (counted_openings most clock node openings)
counted_within None clock node openings free are = record { few = are.few; within = tt }
counted_within (Some most) clock node openings free are =
    let others = filter (runs_for_another clock node) openings in
    let new = one_more clock node (find (runs_for clock node) openings) in
    let fewer : length others ≤ 64 = let less = few_left (runs_for_another clock node) openings in omega (arith, less, are.few) in
    let room = few_room (nat_lt (length others) 64) others refl fewer in
    record {
      few = simp length-append (omega (arith, room));
      within = each_more (IsWithin most) (with_room others) new
          (each_room (nat_lt (length others) 64) most others (each_left (IsWithin most) (runs_for_another clock node) openings are.within))
          (one_within most clock node (find (runs_for clock node) openings) free);
    }

-- ---- each effect

abbrev AreAt : AdapterTable → Type 0
AreAt t = Are (most_openings t.profile.limits.node_connections) t.openings

opened_within : (t : AdapterTable) (peer : Node) (request : OpenFields) (admitted : Admitted) → limited_admission t peer request ≡ Ok admitted → AreAt t → AreAt (opened_table t (opened_row t peer request admitted) admitted)
unfolding opened_table opened_row
opened_within t peer request admitted is are = counted_within (most_openings t.profile.limits.node_connections) t.clock peer t.openings (paced_is t peer request admitted is) are

connected_within : (t : AdapterTable) (stream : Stream) (request : OpenFields) → class3_refusal (class3_view t stream.peer request.triad) request ≡ None → AreAt t → AreAt (class3_table t (opened_class3 t stream request))
unfolding messages_table opened_class3
connected_within t stream request passes are = counted_within (most_openings t.profile.limits.node_connections) t.clock stream.peer t.openings (class3_is_paced t stream.peer request passes) are

closed_within : (t : AdapterTable) (row : Row) → AreAt t → AreAt (closed_table t row)
unfolding closed_table
closed_within t row are = are

written_within : (t : AdapterTable) (point : ℕ) (bytes : List ℕ) → AreAt t → AreAt (changed_table (written_table t point bytes) point)
unfolding written_table changed_table
written_within t point bytes are = are

fed_within : (t : AdapterTable) (peer : Node) (d : DatagramFields) (row : Row) (delivery : Delivery) → AreAt t → AreAt (accepted_table t peer d row delivery)
unfolding accepted_table
fed_within t peer d row delivery are = are

advanced_within : (t : AdapterTable) (ms : ℕ) → AreAt t → AreAt (produced_table (expired_table (clocked_table t ms)))
unfolding clocked_table expired_table produced_table
advanced_within t ms are = are

with_within : (t : AdapterTable) (number : ℕ) (peer : Node) → AreAt t → AreAt (with_stream t number peer)
unfolding with_stream
with_within t number peer are = are

without_within : (t : AdapterTable) (number : ℕ) → AreAt t → AreAt (without_stream t number)
unfolding without_stream
without_within t number are = are

registered_within : (t : AdapterTable) (number : ℕ) → AreAt t → AreAt (registered_table t number)
unfolding registered_table
registered_within t number are = are

messaged_within : (t : AdapterTable) (next_id : ℕ) (m : Messaging) → AreAt t → AreAt (messages_table t next_id m)
unfolding messages_table
messaged_within t next_id m are = are

tallied_within : (t : AdapterTable) (counters : DeviceCounters) → AreAt t → AreAt (with_counters t counters)
tallied_within t counters are = are

requests_within : LimitedDo (λ t next. AreAt t → AreAt next)
requests_within = record {
  stays = λ t are. are;
  opened = opened_within;
  closed = λ t triad row found are. closed_within t row are;
  unstreamed = without_within;
  registered = registered_within;
  messaged = λ t next_id m goes are. messaged_within t next_id m are;
  connected = λ t stream request passes carried are. connected_within t stream request passes are;
  tallied = λ t next counters goes are. tallied_within next counters (goes are);
}

-- ---- an event

judged_within : (b : Bool) (t fed : AdapterTable) (delivery : Delivery) → AreAt t → AreAt fed → AreAt (cond b (delivered delivery fed) (delivered delivery t)).1
judged_within true t fed delivery are is = is
judged_within false t fed delivery are is = are

found_within : (t : AdapterTable) (peer : Node) (d : DatagramFields) (found : Option Row) → AreAt t → AreAt (found_datagram t peer d found).1
found_within t peer d None are = are
found_within t peer d (Some row) are =
    let delivery = row_delivery t.profile t.clock row d in
    judged_within (is_accepted delivery) t (accepted_table t peer d row delivery) delivery are (fed_within t peer d row delivery are)

datagram_within : (t : AdapterTable) (peer : Node) (reading : Result DatagramFields DatagramFault) → AreAt t → AreAt (datagram_of t peer reading).1
datagram_within t peer (Err fault) are = are
datagram_within t peer (Ok d) are = found_within t peer d (find (is_for peer d.connection) t.rows) are

steps_are : StepsKeep AreAt
unfolding received
steps_are t (Datagram peer bytes) next is are = subst (λ (n : Next). AreAt n.1) (next_is _ _ is) (datagram_within t peer (datagram_reading bytes) are)
steps_are t (Write point bytes) next is are = subst (λ (n : Next). AreAt n.1) (write_is t point bytes next is).said (written_within t point bytes are)
steps_are t (Tick ms) next is are =
    let later = (advanced (clocked_table t ms)).1 in
    subst (λ (n : Next). AreAt n.1) (tick_is t ms next is).said (messaged_within later later.next_id (aged later.clock later.messaging) (advanced_within t ms are))
steps_are t other next is are = limited_control (λ t next. AreAt t → AreAt next) requests_within (λ t number peer free. with_within t number peer) (λ t block may are. are) t other next refl is are

pub steps_open_within : StepsKeep OpensWithinLimits
steps_open_within t event next is within =
    let are = steps_are t event next is (record { few = within.few; within = within.within }) in
    record { few = are.few; within = are.within }

fresh_second : (most : Option ℕ) → AreWithinSecond most []
fresh_second None = tt
fresh_second (Some most) = tt

pub fresh_opens_within : (profile : Profile) → OpensWithinLimits (adapter_table profile)
fresh_opens_within profile = record { few = omega arith; within = fresh_second (most_openings profile.limits.node_connections) }
