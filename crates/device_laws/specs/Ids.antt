-- The connection ids in a request, a reply, a frame, a datagram, an answer, an event, and the table of a device. Each
-- definition says that a property holds of every such id (Volume 1, chapter 3, network connection ids).
use Rattle.std.specs.Prelude.{◌≡◌, ℕ, find, ◌<◌, ◌≤◌, Bool, List, Option, Some, None, Result, Ok, Err}
use Rattle.std.specs.List.{AllByRecursion}
use Rattle.std.specs.Option.{IfSome}
use Rattle.cip_datagram.specs.declared.datagram.DatagramFault.{DatagramFault}
use Rattle.cip_datagram.specs.Datagram.{DatagramFields}
use Rattle.cip_datagram.specs.Reading.{datagram_reading}
use Rattle.cip_encap.specs.declared.message.EncapFault.{EncapFault}
use Rattle.cip_encap.specs.declared.packet.ItemFault.{ItemFault}
use Rattle.cip_encap.specs.Message.{MessageFields}
use Rattle.cip_encap.specs.Reading.{message_reading}
use Rattle.cip_encap.specs.Packet.{PacketFields}
use Rattle.cip_encap.specs.AnyItems.{any_packet_reading}
use Rattle.cip_events.specs.declared.event.Answer.{Answer}
use Rattle.cip_events.specs.declared.event.Event.{Event}
use Rattle.cip_events.specs.declared.event.Event.TheVariants.{Request}
use Rattle.cip_events.specs.declared.event.Event.TheVariants as event
use Rattle.cip_events.specs.declared.event.Frame.{Frame}
use Rattle.cip_events.specs.declared.event.Reason.{Reason}
use Rattle.cip_events.specs.declared.event.OutgoingDatagram.{OutgoingDatagram}
use Rattle.cip_fwdopen.specs.declared.reply.OpenAnswer.{OpenAnswer}
use Rattle.cip_fwdopen.specs.declared.reply.OpenAnswer.TheVariants as answer
use Rattle.cip_fwdopen.specs.Reply.{open_reply_reading}
use Rattle.cip_router.specs.Requests.{RouterRequestFields, nothing, refused, closing, object, opening, router_request_reading}
use Rattle.cip_router.specs.Replies.{own_reply_text}
use Rattle.messaging.specs.declared.class3.Class3Connection.{Class3Connection}
use Rattle.messaging.specs.declared.requests.Requester.{Requester}
use Rattle.messaging.specs.declared.requests.Requester.TheVariants as asker
use Rattle.messaging.specs.Changes.{has_request_number}
use Rattle.adapter_table.specs.Connections.{Row}
use Rattle.adapter_table.specs.declared.table.AdapterTable.{AdapterTable}
use Rattle.cip_types.specs.Ids.{end_number, id_at}
use Rattle.cip_types.specs.declared.ids.IdBlock.{IdBlock}
use Rattle.cip_types.specs.declared.names.ConnId.{ConnId}
use Rattle.cip_types.specs.declared.names.Node.{Node}
use Rattle.cip_fwdopen.specs.declared.reply.Opened.{Opened}
use Rattle.conn_state.specs.declared.names.Link.{Link}
use Rattle.scanner_table.specs.declared.slot.SlotState.{SlotState}
use Rattle.scanner_table.specs.declared.slot.SlotState.TheVariants.{Idle, Opening, Established, TimedOut, Closing}
use Rattle.scanner_table.specs.declared.table.ScannerTable.{ScannerTable}
use Rattle.scanner_table.specs.declared.table.TargetStream.{TargetStream}
use Rattle.scanner_table.specs.Sessions.{is_stream}
use Rattle.scanner_table.specs.Replies.{reply_answer, open_answer}

-- FRAMES

-- the property holds of the T->O id that a request to open asks for
abbrev pub RequestIds : (ℕ → Type 0) → RouterRequestFields → Type 0
RequestIds P nothing = Unit {0}
RequestIds P (refused service why) = Unit {0}
RequestIds P (closing request) = Unit {0}
RequestIds P (object service class instance attribute body) = Unit {0}
RequestIds P (opening large request) = P request.t_o_id.0

-- the property holds of both ids of a successful reply to a request to open
abbrev pub ReplyIds : (ℕ → Type 0) → Result OpenAnswer Reason → Type 0
ReplyIds P (Err why) = Unit {0}
ReplyIds P (Ok (answer.Refused refusal)) = Unit {0}
ReplyIds P (Ok (answer.Opened opened)) = P opened.o_t_id.0 × P opened.t_o_id.0

-- the property holds of each id in these bytes, whether a target reads them as a request or a scanner as a reply
pub record PayloadIds (P : ℕ → Type 0) (payload : List ℕ) : Type 0 where
  pub requested : RequestIds P (router_request_reading payload)
  pub replied : (large : Bool) → ReplyIds P (reply_answer large (open_reply_reading payload))

abbrev pub PacketIds : (ℕ → Type 0) → Result PacketFields ItemFault → Type 0
PacketIds P (Err fault) = Unit {0}
PacketIds P (Ok packet) = PayloadIds P packet.payload

abbrev pub MessageIds : (ℕ → Type 0) → Result MessageFields EncapFault → Type 0
MessageIds P (Err fault) = Unit {0}
MessageIds P (Ok m) = PacketIds P (any_packet_reading m.payload)

-- the property holds of each id in a frame, whoever reads it
abbrev pub FrameIds : (ℕ → Type 0) → List ℕ → Type 0
FrameIds P bytes = MessageIds P (message_reading bytes)

-- DATAGRAMS

abbrev pub ReadId : (ℕ → Type 0) → Result DatagramFields DatagramFault → Type 0
ReadId P (Err fault) = Unit {0}
ReadId P (Ok d) = P d.connection

-- the property holds of the connection id of a datagram
abbrev pub DatagramId : (ℕ → Type 0) → List ℕ → Type 0
DatagramId P bytes = ReadId P (datagram_reading bytes)

-- ANSWERS

abbrev pub HasFrameIds : (ℕ → Type 0) → Frame → Type 0
HasFrameIds P frame = FrameIds P frame.bytes

abbrev pub HasDatagramId : (ℕ → Type 0) → OutgoingDatagram → Type 0
HasDatagramId P outgoing = DatagramId P outgoing.bytes

-- the property holds of each id that an answer sends
pub record AnswerIds (P : ℕ → Type 0) (answer : Answer) : Type 0 where
  pub frames : AllByRecursion (HasFrameIds P) answer.frames
  pub datagrams : AllByRecursion (HasDatagramId P) answer.datagrams

-- AN ADAPTER

-- the property holds of both ids of a class 3 connection
abbrev pub Class3Ids : (ℕ → Type 0) → Class3Connection → Type 0
Class3Ids P d = P d.o_t_id.0 × P d.t_o_id.0

-- P holds of both ids of a connection, and Q of its opening number
pub record RowIds (P Q : ℕ → Type 0) (row : Row) : Type 0 where
  pub o_t : P row.o_t_id.0
  pub t_o : P row.t_o_id.0
  pub opening : Q row.opening

-- the property holds of each number from the first on and below the second
abbrev pub FromTo : (ℕ → Type 0) → ℕ → ℕ → Type 0
FromTo P from to = (n : ℕ) → from ≤ n → n < to → P n

-- the property holds of each id of these blocks whose number is from the first on and below the second
abbrev pub IdsFromTo : (ℕ → Type 0) → List IdBlock → ℕ → ℕ → Type 0
IdsFromTo P ids from to = FromTo (λ number. P (id_at ids number).0) from to

-- of each of them that these blocks have
abbrev pub IdsWithin : (ℕ → Type 0) → List IdBlock → (from to : ℕ) → Type 0
IdsWithin P ids from to = (n : ℕ) → from ≤ n → n < to → n < end_number ids → P (id_at ids n).0

-- The property holds of each id of an event. A `Request` is excluded, since it comes without a stream; the id of a datagram
-- does not matter, since no table keeps it.
abbrev pub EventIds : (ℕ → Type 0) → Event → Type 0
EventIds P (Request peer bytes) = ⊥
EventIds P (event.Frame stream bytes) = FrameIds P bytes
EventIds P other = Unit {0}

-- The property holds of each id that a text of the application can be read as, where it goes the way of this request. Over a class
-- 3 connection it can be read as none.
abbrev pub WayIds : (ℕ → Type 0) → Requester → List ℕ → Type 0
WayIds P (asker.Peer node) text = FrameIds P text
WayIds P (asker.Stream number context) text = PayloadIds P text
WayIds P (asker.Class3Connection id count) text = Unit {0}

-- the property holds of each id in an answer of the application
abbrev pub AnsweredIds : (ℕ → Type 0) → AdapterTable → Event → Type 0
AnsweredIds P t (event.Respond number status bytes) =
    IfSome (find (has_request_number number) t.messaging.waiting) (λ w. WayIds P w.asker (own_reply_text w.service status bytes))
AnsweredIds P t other = Unit {0}

-- A SCANNER

-- the property holds of the id that an opening asks for, if it asks for one
abbrev pub RequestedId : (ℕ → Type 0) → Option ConnId → Type 0
RequestedId P None = Unit {0}
RequestedId P (Some id) = P id.0

abbrev pub LinkIds : (ℕ → Type 0) → Link → Type 0
LinkIds P link = P link.o_t_id.0 × P link.t_o_id.0

-- the property holds of each id of a slot in this state
abbrev pub StateIds : (ℕ → Type 0) → SlotState → Type 0
StateIds P Idle = Unit {0}
StateIds P (Opening o) = RequestedId P o.requested.t_o_id
StateIds P (Established c) = LinkIds P c.link
StateIds P (TimedOut link) = LinkIds P link
StateIds P (Closing c) = LinkIds P c.link

-- the event is a frame from the target with a successful reply to the request of this number
pub record Replied (t : ScannerTable) (happens : Event) (target : Node) (request : ℕ) (opened : Opened) : Type 0 where
  pub stream : ℕ
  pub bytes : List ℕ
  pub is : happens ≡ event.Frame stream bytes
  pub over : TargetStream
  pub found : find (is_stream stream) t.streams ≡ Some over
  pub peer : over.peer.0 ≡ target.0
  pub message : MessageFields
  pub reads : message_reading bytes ≡ Ok message
  pub context : message.context ≡ request
  pub large : Bool
  pub success_is : open_answer large message ≡ Ok (answer.Opened opened)
