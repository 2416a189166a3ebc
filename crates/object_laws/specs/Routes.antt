-- One law of routes: a request is served alike over no stream, over a stream, and in a message of a class 3 connection
-- (Volume 1, chapter 2, message router request, and chapter 3, transport class 3; Volume 2, chapter 2, SendRRData and SendUnitData).
use Rattle.std.specs.Prelude.{ℕ, ◌≡◌, ◌⊎◌, ◌+◌, nat_lt, true, false, List, length, find, Option, Some, None, Ok}
use Rattle.cip_types.specs.declared.names.Node.{Node}
use Rattle.cip_encap.specs.Connected.{ConnectedFields}
use Rattle.cip_encap.specs.Packet.{PacketFields}
use Rattle.cip_events.specs.declared.event.Event.{Event}
use Rattle.cip_events.specs.declared.event.Event.TheVariants as event
use Rattle.cip_events.specs.declared.event.Notice.{Notice}
use Rattle.cip_router.specs.Frames.{RequestHeader, whole}
use Rattle.cip_router.specs.Replies.{ReplyFields}
use Rattle.cip_router.specs.Requests.{object, router_request_reading}
use Rattle.messaging.specs.declared.class3.Class3Connection.{Class3Connection}
use Rattle.messaging.specs.Class3Connections.{is_class3, repeats_last}
use Rattle.adapter_table.specs.declared.table.AdapterTable.{AdapterTable}
use Rattle.adapter_table.specs.declared.table.Stream.{Stream}
use Rattle.adapter_table.specs.Encapsulation.{connected_items_for, frame_for, framed, items_for, message_replied, request_replied}
use Rattle.adapter_table.specs.Inquiries.{inquiry_reply}
use Rattle.adapter_table.specs.Own.{is_own_class}
use Rattle.adapter_table.specs.Requests.{Next, Served, replied, served_object}
use Rattle.adapter_table.specs.Step.{adapter_step}
use Rattle.adapter_table.specs.Streams.{has_session, is_stream}

-- WHAT BRINGS A REQUEST

-- a frame of a stream, within its session, that is no inquiry
pub record IsFrame (t : AdapterTable) (number : ℕ) (bytes : List ℕ) : Type 0 where
  pub stream : Stream
  pub found : find (is_stream number) t.streams ≡ Some stream
  pub other : inquiry_reply t bytes ≡ None
  pub header : RequestHeader
  pub body : List ℕ
  pub taken : frame_for t.profile.description bytes ≡ whole header body
  pub session : has_session stream header.session ≡ true

-- SendRRData with these bytes of a request
pub record SendsRequest (t : AdapterTable) (number : ℕ) (bytes request : List ℕ) : Type 0 where
  pub frame : IsFrame t number bytes
  pub sends : frame.header.command ≡ 0x6F
  pub packet : PacketFields
  pub reads : items_for t.profile.description frame.body ≡ Ok packet
  pub is : packet.payload ≡ request

-- SendUnitData with these bytes of a request, in a message that a class 3 connection takes and has not executed
pub record SendsMessage (t : AdapterTable) (number : ℕ) (bytes request : List ℕ) : Type 0 where
  pub frame : IsFrame t number bytes
  pub sends : frame.header.command ≡ 0x70
  pub unit : ConnectedFields
  pub reads : connected_items_for t.profile.description frame.body ≡ Ok unit
  pub connection : Class3Connection
  pub found : find (is_class3 frame.stream.number (record { 0 = unit.connection })) t.messaging.class3_connections ≡ Some connection
  pub fits : nat_lt connection.o_t_size (2 + length unit.message) ≡ false
  pub new : repeats_last connection unit.count ≡ false
  pub is : unit.message ≡ request

-- the event brings the request, over one of the three routes
abbrev pub BringsRequest : AdapterTable → Event → List ℕ → Type 0
BringsRequest t (event.Request peer bytes) request = bytes ≡ request
BringsRequest t (event.Frame number bytes) request = SendsRequest t number bytes request ⊎ SendsMessage t number bytes request
BringsRequest t other request = ⊥

-- WHAT IS SERVED

-- with its reply to the peer
pub record RepliesToPeer (t : AdapterTable) (s : Served) (next : Next) : Type 0 where
  pub peer : Node
  pub is : next ≡ replied peer s

-- with its reply over the stream
pub record RepliesOverStream (t : AdapterTable) (s : Served) (next : Next) : Type 0 where
  pub number : ℕ
  pub header : RequestHeader
  pub is : next ≡ framed number header (request_replied t (Some s))

-- with its reply in a message of the connection, which keeps it
pub record RepliesInMessage (t : AdapterTable) (s : Served) (next : Next) : Type 0 where
  pub number : ℕ
  pub header : RequestHeader
  pub connection : Class3Connection
  pub count : ℕ
  pub service : ℕ
  pub is : next ≡ framed number header (message_replied connection count service s)

-- this is served, on one of the three routes
abbrev pub IsServed : AdapterTable → Served → Next → Type 0
IsServed t s next = RepliesToPeer t s next ⊎ (RepliesOverStream t s next ⊎ RepliesInMessage t s next)

-- what is served where the table stays
abbrev pub answered_with : AdapterTable → ReplyFields → List Notice → Served
answered_with t reply notices = record { reply = reply; address = None; notices = notices; table = t }

-- a request to an object that the device serves itself is served alike, whatever brings it
abbrev pub RoutesServeAlike : Type 0
RoutesServeAlike =
    (t : AdapterTable) (happens : Event) (request : List ℕ) (service class instance : ℕ) (attribute : Option ℕ) (body : List ℕ) (next : Next) →
    adapter_step t happens ≡ Ok next → BringsRequest t happens request →
    router_request_reading request ≡ object service class instance attribute body → is_own_class t.profile.objects class ≡ false →
    IsServed t (served_object t service class instance attribute body) next
