-- Producers, the nodes that consume their datagrams, and why they send. No public clause cites this module.
use Rattle.std.specs.Prelude.{ℕ, ◌==◌, ◌&&◌, ◌≤◌, ◌^◌, not, Bool, true, false, if◌then◌else◌, List, length, map, filter}
use Rattle.std.specs.List.{list_any}
use Rattle.cip_types.specs.declared.names.Ms.{Ms}
use Rattle.cip_types.specs.declared.names.Node.{Node}
use Rattle.cip_types.specs.Order.{in_order}
use Rattle.cip_events.specs.declared.event.OutgoingDatagram.{OutgoingDatagram}
use Rattle.cip_productions.specs.declared.production.Production.{Production}
use Rattle.cip_productions.specs.declared.production.Producer.{Producer}
use Rattle.cip_productions.specs.Productions.{by_due, by_number, sent, produced_by, is_production_due, is_produced_on_change, Produced}
use Rattle.adapter_table.specs.Connections.{Row}
use Rattle.adapter_table.specs.declared.row.State.{State}
use Rattle.adapter_table.specs.declared.row.State.TheVariants.{Established, TimedOut}
use Rattle.adapter_table.specs.Rows.{written_row}
use Rattle.adapter_table.specs.Ticks.{has_expired}
use Rattle.adapter_table.specs.Productions.{producers, consumers, production_of, input_of, is_due, is_produced_by, produces_on_change}
use Rattle.indexed_connections.specs.declared.cause.SendCause.{SendCause}
use Rattle.indexed_connections.specs.declared.cause.SendCause.TheVariants.{Due, DueBut, Change}
use Rattle.indexed_connections.specs.declared.cause.Inputs.{Inputs}
use Rattle.indexed_connections.specs.declared.cause.Inputs.TheVariants.{Held, Written}

-- a producer, and the nodes that consume its datagrams
pub record Turn : Type 0 where
  pub producer : Producer
  pub nodes : List Node

-- a producer and its consumers among these connections
abbrev pub turn_of : List Row → Producer → Turn
turn_of rows producer = record { producer = producer; nodes = consumers producer.production.producer rows }

-- each producer of these connections
abbrev pub turns : List Row → List Turn
turns rows = map (turn_of rows) (producers rows)

-- WHO SENDS

-- the connections for the cause: at a change, those whose input is written
abbrev pub rows_on : SendCause → List Row → List Row
rows_on (Due clock) rows = rows
rows_on (DueBut clock ends) rows = rows
rows_on (Change clock point) rows = map (written_row point) rows

-- the producer has new data, if it produces the point
abbrev pub written_if : ℕ → Producer → Producer
written_if point producer = if producer.point == point then record producer { production = record producer.production { written = true } } else producer

-- the producer of a connection, as it is for the cause
abbrev pub producer_on : SendCause → Producer → Producer
producer_on (Due clock) producer = producer
producer_on (DueBut clock ends) producer = producer
producer_on (Change clock point) producer = written_if point producer

-- a time at which the production inhibit time is compared
abbrev pub IsInTime : SendCause → Type 0
IsInTime (Due clock) = Unit {0}
IsInTime (DueBut clock ends) = Unit {0}
IsInTime (Change clock point) = clock.0 ≤ 2 ^ 48

-- one of the connections has the producer
abbrev pub is_among : List Row → Production → Bool
is_among rows production = list_any (is_produced_by production.producer) rows

abbrev pub state_is_among : List Row → State → Bool
state_is_among rows (Established production) = is_among rows production
state_is_among rows TimedOut = false

-- the connection has not expired, and one of these has its producer
abbrev pub is_left : Ms → List Row → Row → Bool
is_left clock ends row = not (has_expired clock row) && state_is_among ends row.state

-- the connection is established, its producer is due, and none of these has it
abbrev pub is_due_but : Ms → List Row → Row → Bool
is_due_but clock ends row = is_due clock row && not (state_is_among ends row.state)

-- the connection is established, and its producer sends
abbrev pub row_sends : SendCause → Row → Bool
row_sends (Due clock) = is_due clock
row_sends (DueBut clock ends) = is_due_but clock ends.now
row_sends (Change clock point) = produces_on_change clock point

abbrev pub sends : SendCause → Producer → Bool
sends (Due clock) producer = is_production_due clock producer.production
sends (DueBut clock ends) producer = is_production_due clock producer.production && not (is_among ends.now producer.production)
sends (Change clock point) producer = producer.point == point && is_produced_on_change clock producer.production

abbrev pub has_turn : SendCause → Turn → Bool
has_turn cause turn = sends cause turn.producer

-- what orders producers before their numbers do: when they are due, and nothing at a change
abbrev pub rank : SendCause → Producer → ℕ
rank (Due clock) producer = producer.production.due.0
rank (DueBut clock ends) producer = producer.production.due.0
rank (Change clock point) producer = 0

abbrev pub before : SendCause → Producer → Producer → Bool
before (Due clock) = by_due
before (DueBut clock ends) = by_due
before (Change clock point) = by_number

abbrev pub turn_before : SendCause → Turn → Turn → Bool
turn_before cause turn other = before cause turn.producer other.producer

-- WHAT THEY SEND

-- the bytes that the input of a producer holds
abbrev pub input_by : Inputs → Producer → List ℕ
input_by (Held assemblies) = input_of assemblies.now.values
input_by (Written bytes) = λ producer. bytes.now

-- written bytes are no more than a datagram has
abbrev pub AreShort : Inputs → Type 0
AreShort (Held assemblies) = Unit {0}
AreShort (Written bytes) = length bytes.now ≤ 65533

-- the datagram of a producer in its turn, if its input holds these bytes
abbrev pub sent_turn : (Producer → List ℕ) → Turn → OutgoingDatagram
sent_turn input turn = sent (produced_by turn.nodes (input turn.producer) turn.producer)

-- the production of a producer, if its input holds these bytes
abbrev pub one_production : List Row → (Producer → List ℕ) → Producer → Produced
one_production rows input producer = production_of rows (input producer) producer

-- the datagrams of the producers that send for the cause, in their order
abbrev pub turns_sent : SendCause → (Producer → List ℕ) → List Row → List OutgoingDatagram
turns_sent cause input rows = map (sent_turn input) (in_order (turn_before cause) (filter (has_turn cause) (turns rows)))
