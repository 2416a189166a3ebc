-- The clock of a device moves by the time that passes.
use Rattle.std.proofs.Common.{◌≡◌, ℕ, ◌+◌, List, [], ◌∷◌, find, Option, Some, None, Result, Ok, Err, refl, ap, subst, arith}
use Rattle.cip_types.specs.declared.names.Node.{Node}
use Rattle.cip_datagram.specs.declared.datagram.DatagramFault.{DatagramFault}
use Rattle.cip_datagram.specs.Datagram.{DatagramFields}
use Rattle.cip_datagram.specs.Reading.{datagram_reading}
use Rattle.cip_events.specs.declared.event.Event.{Event}
use Rattle.cip_events.specs.declared.event.Event.TheVariants.{Datagram, Write, Tick}
use Rattle.cip_events.specs.declared.event.StepFault.{StepFault}
use Rattle.cip_events.specs.Answers.{is_accepted}
use Rattle.base_lemmas.specs.Booleans.{either}
use Rattle.adapter_table.specs.declared.table.AdapterTable.{AdapterTable}
use Rattle.adapter_table.specs.Connections.{Row}
use Rattle.adapter_table.specs.Closing.{closed_table}
use Rattle.adapter_table.specs.Datagrams.{is_for, row_delivery, accepted_table, delivered, found_datagram, datagram_of, received}
use Rattle.adapter_table.specs.Messages.{messages_table}
use Rattle.adapter_table.specs.Opening.{opened_row, opened_table}
use Rattle.adapter_table.specs.Requests.{Next}
use Rattle.adapter_table.specs.Step.{adapter_step, written_table, changed_table}
use Rattle.adapter_table.specs.Streams.{with_stream, without_stream, registered_table}
use Rattle.adapter_table.specs.Ticks.{clocked_table, expired_table, produced_table}
use Rattle.adapter_table.specs.Lemmas.ControlLemmas.{control_does}
use Rattle.adapter_table.specs.Lemmas.EffectLemmas.{IsWrite, write_is, IsTick, tick_is}
use Rattle.adapter_table.specs.Lemmas.RequestLemmas.{RequestsDo, next_is}
use Rattle.cip_tables.specs.declared.table.DeviceTable.{DeviceTable}
use Rattle.cip_tables.specs.declared.table.DeviceTable.TheVariants.{Adapter, Scanner}
use Rattle.cip_tables.specs.Run.{table_of, table_after}
use Rattle.cip_tables.specs.Step.{as_adapter, step}
use Rattle.cip_tables.specs.Wakes.{clock_of}
use Rattle.freshness_laws.specs.Passing.{milliseconds, ticked, passed}

abbrev ClockStays : AdapterTable → AdapterTable → Type 0
ClockStays t next = next.clock ≡ t.clock

requests_stay : RequestsDo ClockStays
unfolding opened_table opened_row closed_table without_stream registered_table messages_table
requests_stay = record {
  stays = λ t. refl;
  opened = λ t peer request admitted is. refl;
  closed = λ t triad row found. refl;
  unstreamed = λ t number. refl;
  registered = λ t number. refl;
  messaged = λ t next_id m goes. refl;
  counted = λ t next openings stays. stays;
  tallied = λ t next counters stays. stays;
  taken = λ t block may. refl;
}

streams_stay : (t : AdapterTable) (number : ℕ) (peer : Node) → ClockStays t (with_stream t number peer)
unfolding with_stream
streams_stay t number peer = refl

found_stays : (t : AdapterTable) (peer : Node) (d : DatagramFields) (found : Option Row) → ClockStays t (found_datagram t peer d found).1
unfolding accepted_table
found_stays t peer d None = refl
found_stays t peer d (Some row) =
    let what = row_delivery t.profile t.clock row d in
    either (λ (n : Next). ClockStays t n.1) (is_accepted what) (delivered what (accepted_table t peer d row what)) (delivered what t) refl refl

read_stays : (t : AdapterTable) (peer : Node) (reading : Result DatagramFields DatagramFault) → ClockStays t (datagram_of t peer reading).1
read_stays t peer (Err fault) = refl
read_stays t peer (Ok d) = found_stays t peer d (find (is_for peer d.connection) t.rows)

write_stays : (t : AdapterTable) (point : ℕ) (bytes : List ℕ) (next : Next) → IsWrite t point bytes next → ClockStays t next.1
unfolding written_table changed_table
write_stays t point bytes next is = subst (λ (n : Next). ClockStays t n.1) is.said refl

tick_moves : (t : AdapterTable) (ms : ℕ) (next : Next) → IsTick t ms next → next.1.clock.0 ≡ t.clock.0 + ms
unfolding clocked_table expired_table produced_table messages_table
tick_moves t ms next is = subst (λ (n : Next). n.1.clock.0 ≡ t.clock.0 + ms) is.said refl

still : (t next : AdapterTable) → ClockStays t next → next.clock.0 ≡ t.clock.0 + 0
still t next same = let e : next.clock.0 ≡ t.clock.0 = ap (λ c. c.0) same in omega (arith, e)

pub adapter_moves : (t : AdapterTable) (event : Event) (next : Next) → adapter_step t event ≡ Ok next → next.1.clock.0 ≡ t.clock.0 + milliseconds event
unfolding received
adapter_moves t (Datagram peer bytes) next is = subst (λ (n : Next). n.1.clock.0 ≡ t.clock.0 + 0) (next_is _ _ is) (still t (datagram_of t peer (datagram_reading bytes)).1 (read_stays t peer (datagram_reading bytes)))
adapter_moves t (Write point bytes) next is = still t next.1 (write_stays t point bytes next (write_is t point bytes next is))
adapter_moves t (Tick ms) next is = tick_moves t ms next (tick_is t ms next is)
adapter_moves t other next is = still t next.1 (control_does ClockStays requests_stay (λ t number peer free. streams_stay t number peer) t other next refl is)

-- ---- at a device that is an adapter

abbrev pub IsAdapter : DeviceTable → Type 0
IsAdapter (Adapter t) = Unit {0}
IsAdapter (Scanner t) = ⊥

moves_by : (t : AdapterTable) (event : Event) (said : Result Next StepFault) → adapter_step t event ≡ said → clock_of (table_of (Adapter t) (as_adapter said)) ≡ t.clock.0 + ticked (as_adapter said) event
moves_by t event (Ok next) is = adapter_moves t event next is
moves_by t event (Err fault) is = omega arith

pub clock_moves : (t : AdapterTable) (event : Event) → clock_of (table_of (Adapter t) (step (Adapter t) event)) ≡ t.clock.0 + ticked (step (Adapter t) event) event
unfolding step
clock_moves t event = moves_by t event (adapter_step t event) refl

stays_adapter_by : (t : AdapterTable) (said : Result Next StepFault) → IsAdapter (table_of (Adapter t) (as_adapter said))
stays_adapter_by t (Ok next) = tt
stays_adapter_by t (Err fault) = tt

pub stays_adapter : (old : DeviceTable) (event : Event) → IsAdapter old → IsAdapter (table_of old (step old event))
unfolding step
stays_adapter (Adapter t) event is = stays_adapter_by t (adapter_step t event)
stays_adapter (Scanner t) event is = absurd is

device_moves : (old : DeviceTable) (event : Event) → IsAdapter old → clock_of (table_of old (step old event)) ≡ clock_of old + ticked (step old event) event
device_moves (Adapter t) event is = clock_moves t event
device_moves (Scanner t) event is = absurd is

-- the clock after a run
pub run_moves : (old : DeviceTable) (events : List Event) → IsAdapter old → clock_of (table_after old events) ≡ clock_of old + passed old events
run_moves old [] is = omega arith
run_moves old (event ∷ events) is =
    let next = table_of old (step old event) in
    omega (arith, device_moves old event is, run_moves next events (stays_adapter old event is))
