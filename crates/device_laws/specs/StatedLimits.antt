-- What the limits that the maker of an adapter states keep from its connections: closes of another node, and datagrams whose
-- number is far ahead (Volume 1, chapter 3, Forward_Close service, and class 1 transport).
use Rattle.std.specs.Prelude.{ℕ, ◌≡◌, ◌≢◌, ◌≤◌, ◌+◌, ◌*◌, ◌⊎◌, true, List, [], find, Some, Ok}
use Rattle.cip_types.specs.declared.names.Ms.{Ms}
use Rattle.cip_types.specs.declared.names.Node.{Node}
use Rattle.cip_types.specs.Circle.{distance}
use Rattle.cip_datagram.specs.Datagram.{DatagramFields}
use Rattle.cip_datagram.specs.Reading.{datagram_reading}
use Rattle.cip_encap.specs.Message.{MessageFields}
use Rattle.cip_encap.specs.Packet.{PacketFields}
use Rattle.cip_encap.specs.AnyItems.{any_packet_reading}
use Rattle.cip_encap.specs.Reading.{message_reading}
use Rattle.cip_events.specs.declared.event.Delivery.TheVariants.{Old, WrongSize}
use Rattle.cip_events.specs.declared.event.Event.{Event}
use Rattle.cip_events.specs.declared.event.Event.TheVariants as event
use Rattle.cip_events.specs.declared.event.Verdict.TheVariants.{Delivered}
use Rattle.cip_events.specs.Answers.{plain_answer}
use Rattle.cip_fwdopen.specs.Close.{CloseFields}
use Rattle.cip_productions.specs.declared.acceptance.Accepted.{Accepted}
use Rattle.cip_productions.specs.Window.{intervals_in, since_accepted}
use Rattle.cip_router.specs.Requests.{closing, router_request_reading}
use Rattle.messaging.specs.declared.class3.Class3Connection.{Class3Connection}
use Rattle.messaging.specs.Class3Connections.{has_class3_triad}
use Rattle.adapter_table.specs.Connections.{Row}
use Rattle.adapter_table.specs.declared.counters.Tally.TheVariants.{CloseOther}
use Rattle.adapter_table.specs.declared.table.AdapterTable.{AdapterTable}
use Rattle.adapter_table.specs.Counting.{tallied}
use Rattle.adapter_table.specs.declared.table.Stream.{Stream}
use Rattle.adapter_table.specs.Datagrams.{is_for}
use Rattle.adapter_table.specs.Requests.{Next}
use Rattle.adapter_table.specs.Rows.{has_triad}
use Rattle.adapter_table.specs.Step.{adapter_step}
use Rattle.adapter_table.specs.Streams.{is_stream}
use Rattle.adapter_table.specs.Whole.{IsWhole}

-- CLOSES OF ANOTHER NODE

-- the frame can be read as this close
pub record IsCloseFrame (bytes : List ℕ) (request : CloseFields) : Type 0 where
  pub message : MessageFields
  pub reads : message_reading bytes ≡ Ok message
  pub sends : message.command ≡ 0x006F
  pub packet : PacketFields
  pub packet_is : any_packet_reading message.payload ≡ Ok packet
  pub request_is : router_request_reading packet.payload ≡ closing request

-- the open stream of this number is the node's
pub record IsStreamOf (t : AdapterTable) (number : ℕ) (peer : Node) : Type 0 where
  pub stream : Stream
  pub found : find (is_stream number) t.streams ≡ Some stream
  pub peer_is : stream.peer ≡ peer

-- the event brings this close from the node, over a stream or over none
abbrev pub BringsClose : AdapterTable → Event → Node → CloseFields → Type 0
BringsClose t (event.Request from bytes) peer request = (from ≡ peer) × (router_request_reading bytes ≡ closing request)
BringsClose t (event.Frame number bytes) peer request = IsStreamOf t number peer × IsCloseFrame bytes request
BringsClose t other peer request = ⊥

-- the table stays, or counts one more close that is refused and else stays; and nothing is reported
pub record LeavesAll (t : AdapterTable) (next : Next) : Type 0 where
  pub table : (next.1 ≡ t) ⊎ (next.1 ≡ tallied (Some CloseOther) t)
  pub notices : next.0.notices ≡ []

-- so it is after each close that another node than the opener's sends, if the maker has only openers close
abbrev pub AnotherNodeClosesNothing : Type 0
AnotherNodeClosesNothing =
    (t : AdapterTable) (happens : Event) (peer : Node) (request : CloseFields) (row : Row) (next : Next) →
    adapter_step t happens ≡ Ok next → IsWhole t → BringsClose t happens peer request → t.profile.limits.own_closers ≡ true →
    find (has_triad request.triad) t.rows ≡ Some row → row.peer.0 ≢ peer.0 → LeavesAll t next

-- so it is of a class 3 connection that another node opened
abbrev pub AnotherNodeEndsNothing : Type 0
AnotherNodeEndsNothing =
    (t : AdapterTable) (happens : Event) (peer : Node) (request : CloseFields) (d : Class3Connection) (next : Next) →
    adapter_step t happens ≡ Ok next → BringsClose t happens peer request → t.profile.limits.own_closers ≡ true →
    find (has_class3_triad request.triad) t.messaging.class3_connections ≡ Some d → d.peer.0 ≢ peer.0 → LeavesAll t next

-- NUMBERS FAR AHEAD

-- no number that is ahead of the newest one by so much, or more, is accepted at this time: the maker's limit, and two more
-- for each interval of the producer that has passed since then
abbrev pub window_at : Ms → Row → ℕ → ℕ
window_at clock row within = within + 2 * intervals_in (since_accepted clock row.watchdog row.deadline) row.o_t_pace_ms

-- The datagram is for a connection that accepted one before. Its number is ahead of the newest one by as much as the window
-- at this time, or more.
pub record IsFarAhead (t : AdapterTable) (peer : Node) (bytes : List ℕ) : Type 0 where
  pub datagram : DatagramFields
  pub reads : datagram_reading bytes ≡ Ok datagram
  pub row : Row
  pub found : find (is_for peer datagram.connection) t.rows ≡ Some row
  pub last : Accepted
  pub last_is : row.last ≡ Some last
  pub within : ℕ
  pub within_is : t.profile.limits.newer ≡ Some within
  pub far : window_at t.clock row within ≤ distance datagram.sequence last.number

-- the table stays, with its watchdogs; the verdict is that the datagram is old, or has another size
pub record IsNotAccepted (t : AdapterTable) (next : Next) : Type 0 where
  pub table : next.1 ≡ t
  pub answer : (next.0 ≡ plain_answer (Delivered Old)) ⊎ (next.0 ≡ plain_answer (Delivered WrongSize))

-- so it is after each such datagram
abbrev pub FarNumbersChangeNothing : Type 0
FarNumbersChangeNothing =
    (t : AdapterTable) (peer : Node) (bytes : List ℕ) (next : Next) → adapter_step t (event.Datagram peer bytes) ≡ Ok next → IsFarAhead t peer bytes → IsNotAccepted t next
