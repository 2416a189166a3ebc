-- The class 3 connections of an adapter, and the requests that its application has to answer, as messages, connections,
-- streams and answers change them (Volume 1, chapter 3, transport class 3; Volume 2, chapter 2, SendUnitData).
use Rattle.std.specs.Prelude.{ℕ, ◌+◌, ◌-◌, ◌^◌, ◌==◌, ◌&&◌, ◌||◌, not, nat_le, Bool, List, [], ◌∷◌, ◌++◌, length, filter}
use Rattle.std.specs.List.{list_any}
use Rattle.cip_types.specs.declared.names.ConnId.{ConnId}
use Rattle.cip_types.specs.declared.names.Ms.{Ms}
use Rattle.cip_types.specs.declared.names.Node.{Node}
use Rattle.cip_types.specs.declared.names.Triad.{Triad}
use Rattle.messaging.specs.declared.class3.Class3Connection.{Class3Connection}
use Rattle.messaging.specs.declared.requests.Requester.{Requester}
use Rattle.messaging.specs.declared.requests.Requester.TheVariants as asker
use Rattle.messaging.specs.declared.requests.Waiting.{Waiting}
use Rattle.messaging.specs.declared.table.Messaging.{Messaging}
use Rattle.messaging.specs.Askers.{is_over_stream, if_connected}
use Rattle.messaging.specs.Class3Connections.{has_class3_triad, has_class3_id, is_on_stream, is_last_message, first_changed, executed_class3, repeated_class3, replied_class3}

-- the most requests that wait for the application, and of one node, where they are shared by node
abbrev pub most_waiting : ℕ
most_waiting = 16

abbrev pub most_of_node : ℕ
most_of_node = 4

-- the milliseconds that the application has for each
abbrev pub answer_time : ℕ
answer_time = 10000

-- the most bytes of data that the application answers
abbrev pub longest_answer : ℕ
longest_answer = 1400

-- the number that no request gets
abbrev pub no_number : ℕ
no_number = 2 ^ 64 - 1

-- there is nothing yet, and requests are numbered from this number on
abbrev pub fresh_messaging : ℕ → Messaging
fresh_messaging first = record { class3_connections = []; waiting = []; next_number = first }

-- ---- requests that can be answered

-- A request that a class 3 connection brought can be answered as long as the connection is open and the request is its last
-- message. Any other can.
abbrev pub can_be_answered : List Class3Connection → Waiting → Bool
can_be_answered class3_connections w = if_connected (λ id count. list_any (is_last_message id count) class3_connections) w.asker

-- these are the class 3 connections from now on: what they cannot be answered on waits no more
abbrev pub with_class3_connections : Messaging → List Class3Connection → Messaging
with_class3_connections m class3_connections = record m { class3_connections = class3_connections; waiting = filter (can_be_answered class3_connections) m.waiting }

-- ---- connections and streams

-- a connection was opened, the last one
unfoldable pub with_class3 : Messaging → Class3Connection → Messaging
with_class3 m d = record m { class3_connections = m.class3_connections ++ d ∷ [] }

-- the connection of a triad was closed
unfoldable pub without_class3 : Messaging → Triad → Messaging
without_class3 m triad = with_class3_connections m (filter (λ d. not (has_class3_triad triad d)) m.class3_connections)

-- the connections that live on a stream, in the order of their openings
abbrev pub stream_class3_connections : Messaging → ℕ → List Class3Connection
stream_class3_connections m stream = filter (is_on_stream stream) m.class3_connections

-- the requests that unconnected messages over a stream did not bring
abbrev pub referred_elsewhere : ℕ → List Waiting → List Waiting
referred_elsewhere stream waiting = filter (λ w. not (is_over_stream stream w.asker)) waiting

-- a stream ended: its connections end with it, and no answer goes over it or them
unfoldable pub without_stream : Messaging → ℕ → Messaging
without_stream m stream =
    with_class3_connections (record m { waiting = referred_elsewhere stream m.waiting }) (filter (λ d. not (is_on_stream stream d)) m.class3_connections)

-- ---- messages of a connection

-- A message of a new count was executed, with this reply. A request that an earlier message of the connection brought waits no
-- more, since its answer would be taken for that of the new message.
unfoldable pub executed : Messaging → ConnId → ℕ → List ℕ → Ms → Messaging
executed m id count reply deadline =
    with_class3_connections m (first_changed (has_class3_id id) (executed_class3 count reply deadline) m.class3_connections)

-- the last message was repeated: nothing but the deadline changes
unfoldable pub repeated : Messaging → ConnId → Ms → Messaging
repeated m id deadline = record m { class3_connections = first_changed (has_class3_id id) (repeated_class3 deadline) m.class3_connections }

-- ---- requests to the application, and its answers

-- as many requests wait as can, or no number is left
abbrev pub lacks_room : Messaging → Bool
lacks_room m = nat_le most_waiting (length m.waiting) || nat_le no_number m.next_number

-- this node asked
abbrev pub is_request_of : Node → Waiting → Bool
is_request_of node w = w.peer.0 == node.0

-- how many requests of a node wait
abbrev pub request_count : List Waiting → Node → ℕ
request_count waiting node = length (filter (is_request_of node) waiting)

-- no request of the node can wait: as many wait as can, or no number is left, or, where the places are shared by node, as many
-- of the node wait as can of one
abbrev pub lacks_share : Bool → Messaging → Node → Bool
lacks_share shared m node = lacks_room m || (shared && nat_le most_of_node (request_count m.waiting node))

-- the request of a number, which a node asked, waits for the application from a time on
abbrev pub waiting_for : ℕ → Node → Requester → ℕ → Ms → Waiting
waiting_for number peer from service clock = record {
  number = number;
  peer = peer;
  asker = from;
  service = service;
  deadline = record { 0 = clock.0 + answer_time };
}

-- a node asks the application
unfoldable pub referred : Messaging → Node → Requester → ℕ → Ms → Messaging
referred m peer from service clock = record m {
  waiting = m.waiting ++ waiting_for m.next_number peer from service clock ∷ [];
  next_number = m.next_number + 1;
}

-- A message of a new count, which a node sent, asks the application: the message is executed, and has no reply yet.
unfoldable pub referred_over : Messaging → Node → ConnId → ℕ → ℕ → Ms → Ms → Messaging
referred_over m peer id count service deadline clock =
    referred (executed m id count [] deadline) peer (asker.Class3Connection id count) service clock

abbrev pub has_request_number : ℕ → Waiting → Bool
has_request_number number w = w.number == number

-- the request of a number waits no more
unfoldable pub answered : Messaging → ℕ → Messaging
answered m number = record m { waiting = filter (λ w. not (has_request_number number w)) m.waiting }

-- the message of this count has this reply from now on, if it is still the last one of its connection
unfoldable pub replied : Messaging → ConnId → ℕ → List ℕ → Messaging
replied m id count reply = record m { class3_connections = first_changed (is_last_message id count) (replied_class3 reply) m.class3_connections }
