-- What class 3 connections keep to, and requests that the application answers: a message is executed at most once, a request is
-- answered at most once, and no connection outlives its stream.
use Rattle.std.specs.Prelude.{ℕ, ◌≡◌, ◌≢◌, ◌+◌, nat_lt, false, List, [], length, find, Some, Ok, Err}
use Rattle.std.specs.List.{list_any}
use Rattle.cip_encap.specs.Connected.{ConnectedFields}
use Rattle.cip_events.specs.declared.event.Delivery.TheVariants.{Duplicate}
use Rattle.cip_events.specs.declared.event.StepFault.TheVariants.{NotAllowedNow}
use Rattle.cip_events.specs.declared.event.Verdict.TheVariants.{Delivered}
use Rattle.messaging.specs.declared.class3.Class3Connection.{Class3Connection}
use Rattle.messaging.specs.Class3Connections.{is_class3}
use Rattle.messaging.specs.Sound.{EachOf, EachTwoOf, TriadsDiffer, IdsDiffer}
use Rattle.adapter_table.specs.declared.table.AdapterTable.{AdapterTable}
use Rattle.adapter_table.specs.declared.table.Stream.{Stream}
use Rattle.adapter_table.specs.Rows.{has_triad}
use Rattle.adapter_table.specs.Answering.{respond}
use Rattle.adapter_table.specs.Connected.{repeated_table}
use Rattle.adapter_table.specs.Encapsulation.{Handled, unit_replied}
use Rattle.adapter_table.specs.MessagesSound.{IsCarried, IsSettled}
use Rattle.adapter_table.specs.Requests.{Next}
use Rattle.adapter_table.specs.Sound.{has_o_t_id}
use Rattle.adapter_table.specs.Whole.{IsWhole}

-- MESSAGES

-- The message comes again: the reply is that of the first time, nothing is executed, and all but the deadline of its own connection
-- stays.
abbrev pub IsRepeated : Stream → ConnectedFields → Handled → Handled → Type 0
IsRepeated stream unit first again =
    (d : Class3Connection) ×
    ((find (is_class3 stream.number (record { 0 = unit.connection })) first.table.messaging.class3_connections ≡ Some d) ×
    (again ≡ record { reply = first.reply; verdict = Delivered Duplicate; notices = []; table = repeated_table first.table d }))

-- whatever became of a message of a class 3 connection, once more it is a repetition
abbrev pub MessagesExecuteOnce : Type 0
MessagesExecuteOnce =
    (t : AdapterTable) (stream : Stream) (unit : ConnectedFields) (d : Class3Connection) → IsWhole t →
    find (is_class3 stream.number (record { 0 = unit.connection })) t.messaging.class3_connections ≡ Some d →
    nat_lt d.o_t_size (2 + length unit.message) ≡ false → unit.message ≢ [] →
    IsRepeated stream unit (unit_replied t stream (Ok unit)) (unit_replied (unit_replied t stream (Ok unit)).table stream (Ok unit))

-- ANSWERS

-- an answer that is given settles its request
abbrev pub AnswersSettle : Type 0
AnswersSettle =
    (t : AdapterTable) (number status : ℕ) (bytes : List ℕ) (next : Next) → IsWhole t →
    respond t number status bytes ≡ Ok next → IsSettled number next.1.messaging

-- and a request that is settled is not answered
abbrev pub SettledAreRefused : Type 0
SettledAreRefused = (t : AdapterTable) (number status : ℕ) (bytes : List ℕ) → IsSettled number t.messaging → respond t number status bytes ≡ Err NotAllowedNow

-- CONNECTIONS

-- the stream of each class 3 connection is open, and has a session
abbrev pub StreamsCarry : Type 0
StreamsCarry = (t : AdapterTable) → IsWhole t → EachOf (λ (d : Class3Connection). IsCarried t.streams d.stream) t.messaging.class3_connections

-- no connection of class 1 has its triad or its O->T id
abbrev pub IsNamedAlone : AdapterTable → Class3Connection → Type 0
IsNamedAlone t d = (list_any (has_triad d.triad) t.rows ≡ false) × (list_any (has_o_t_id d.o_t_id) t.rows ≡ false)

-- no two connections of any class have one triad or one O->T id
pub record NamesDiffer (t : AdapterTable) : Type 0 where
  pub triads : EachTwoOf TriadsDiffer t.messaging.class3_connections
  pub ids : EachTwoOf IdsDiffer t.messaging.class3_connections
  pub alone : EachOf (IsNamedAlone t) t.messaging.class3_connections
