-- Producers: which are due, the datagram of each and its consumers, and its state afterwards
-- (Volume 1, chapter 3, class 1 transport, production triggers and production inhibit time; Volume 2,
-- chapter 2, sequenced address item, and chapter 3, multicast connections).
use Rattle.std.specs.Prelude.{ℕ, ◌==◌, ◌&&◌, Bool, false, if◌then◌else◌, List, [], map, filter, Option, Some, None, unwrap_or}
use Rattle.std.specs.List.{filter_map}
use Rattle.cip_types.specs.declared.names.Node.{Node}
use Rattle.cip_types.specs.declared.names.Ms.{Ms}
use Rattle.cip_types.specs.Order.{in_order, first_of_each}
use Rattle.cip_productions.specs.declared.production.Producer.{Producer}
use Rattle.cip_productions.specs.Productions.{produced, is_production_due, changed, is_produced_on_change, Produced, produced_by, same_producer, by_number, by_due}
use Rattle.adapter_table.specs.Connections.{Row}
use Rattle.adapter_table.specs.declared.row.State.{State}
use Rattle.adapter_table.specs.declared.row.State.TheVariants.{Established, TimedOut}
use Rattle.adapter_table.specs.declared.table.PointValue.{PointValue}
use Rattle.adapter_table.specs.Points.{bytes_at}

-- PRODUCERS AND THEIR CONNECTIONS

abbrev pub state_producer : Row → State → Option Producer
state_producer row (Established production) = Some (record { point = row.produced; id = row.t_o_id; production = production })
state_producer row TimedOut = None

-- the producer of a connection, which an established one has
abbrev pub producer_in : Row → Option Producer
producer_in row = state_producer row row.state

-- the producers of connections, each once, as its first connection has it
abbrev pub producers : List Row → List Producer
producers rows = first_of_each same_producer (filter_map producer_in rows)

-- the number of the producer that an established connection has
abbrev pub producer_number : State → Option ℕ
producer_number (Established production) = Some production.producer
producer_number TimedOut = None

abbrev pub has_number : ℕ → State → Bool
has_number number (Established production) = production.producer == number
has_number number TimedOut = false

-- the connection is established, and this is the number of its producer
abbrev pub is_produced_by : ℕ → Row → Bool
is_produced_by number row = has_number number row.state

-- the connections of a producer, in opening order
abbrev pub group : ℕ → List Row → List Row
group number rows = filter (is_produced_by number) rows

abbrev pub same_node : Node → Node → Bool
same_node node other = node.0 == other.0

abbrev pub peer_of : Row → Node
peer_of row = row.peer

-- the peers of a producer's connections, in opening order, each once
abbrev pub consumers : ℕ → List Row → List Node
consumers number rows = first_of_each same_node (map peer_of (group number rows))

-- the next production of a producer, if its input holds these bytes: one datagram for all its consumers
abbrev pub production_of : List Row → List ℕ → Producer → Produced
production_of rows input producer = produced_by (consumers producer.production.producer rows) input producer

-- PRODUCTIONS THAT ARE DUE

-- the number of the producer of an established connection
abbrev pub producer_of : State → ℕ
producer_of (Established production) = production.producer
producer_of TimedOut = 0

abbrev pub due_of : State → ℕ
due_of (Established production) = production.due.0
due_of TimedOut = 0

abbrev pub state_is_due : Ms → State → Bool
state_is_due clock (Established production) = is_production_due clock production
state_is_due clock TimedOut = false

-- the connection is established, and its producer is due
abbrev pub is_due : Ms → Row → Bool
is_due clock row = state_is_due clock row.state

-- the producers that are due, by when they are, and then by their numbers
abbrev pub due_producers : Ms → List Row → List Producer
due_producers clock rows = in_order by_due (producers (filter (is_due clock) rows))

-- the bytes of the input of a producer
abbrev pub input_of : List PointValue → Producer → List ℕ
input_of values producer = unwrap_or (bytes_at values producer.point) []

abbrev pub due_production : List Row → List PointValue → Producer → Produced
due_production rows values producer = production_of rows (input_of values producer) producer

-- the productions of the producers that are due
abbrev pub due_productions : Ms → List Row → List PointValue → List Produced
due_productions clock rows values = map (due_production rows values) (due_producers clock rows)

abbrev pub produced_state : Ms → ℕ → State → State
produced_state clock api TimedOut = TimedOut
produced_state clock api (Established production) =
    if is_production_due clock production then Established (produced clock api production) else Established production

-- a connection whose producer has produced, if it was due
abbrev pub produced_row : Ms → Row → Row
produced_row clock row = record row { state = produced_state clock row.t_o_api_ms row.state }

-- CHANGES OF STATE

abbrev pub state_produces_on_change : Ms → State → Bool
state_produces_on_change clock (Established production) = is_produced_on_change clock production
state_produces_on_change clock TimedOut = false

-- the connection is established, and a write of this input makes its producer produce at once
abbrev pub produces_on_change : Ms → ℕ → Row → Bool
produces_on_change clock point row = row.produced == point && state_produces_on_change clock row.state

-- the producers of an input that produce at once when it is written, by their numbers
abbrev pub producers_on_change : Ms → ℕ → List Row → List Producer
producers_on_change clock point rows = in_order by_number (producers (filter (produces_on_change clock point) rows))

-- their productions, if the input holds these bytes
abbrev pub productions_on_change : Ms → ℕ → List ℕ → List Row → List Produced
productions_on_change clock point input rows = map (production_of rows input) (producers_on_change clock point rows)

abbrev pub changed_state : Ms → ℕ → State → State
changed_state clock api TimedOut = TimedOut
changed_state clock api (Established production) = Established (changed clock api production)

-- a connection whose producer has acted on a write of its input
abbrev pub changed_row : Ms → ℕ → Row → Row
changed_row clock point row = if row.produced == point then record row { state = changed_state clock row.t_o_api_ms row.state } else row
