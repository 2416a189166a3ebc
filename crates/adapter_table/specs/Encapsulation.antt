-- Encapsulation messages that an adapter receives over a stream: the commands, the replies, and the table after
-- each (Volume 2, chapter 2, encapsulation messages, commands and common packet format).
use Rattle.std.specs.Prelude.{ℕ, ◌+◌, ◌==◌, ◌&&◌, ◌||◌, not, nat_lt, Bool, if◌then◌else◌, List, [], ◌∷◌, length, Option, Some, None, Result, Ok, Err, find}
use Rattle.std.specs.Str.{bytes_eq}
use Rattle.cip_types.specs.Cases.{first_case_or}
use Rattle.cip_types.specs.Fields.{fields_at}
use Rattle.cip_types.specs.Texts.{Tailed}
use Rattle.cip_encap.specs.declared.packet.ItemFault.{ItemFault}
use Rattle.cip_encap.specs.Connected.{ConnectedFields}
use Rattle.cip_encap.specs.ConnectedReading.{connected_reading}
use Rattle.cip_encap.specs.declared.message.EncapFault.{EncapFault}
use Rattle.cip_encap.specs.Message.{MessageFields, header_widths, message_text}
use Rattle.cip_encap.specs.Reading.{message_reading}
use Rattle.cip_encap.specs.Packet.{PacketFields}
use Rattle.cip_encap.specs.PacketReading.{packet_reading}
use Rattle.cip_encap.specs.AnyItems.{any_packet_reading, any_connected_reading}
use Rattle.cip_router.specs.declared.command.Command.{Command}
use Rattle.cip_router.specs.declared.command.Command.TheVariants as command
use Rattle.cip_router.specs.declared.command.EncapStatus.{EncapStatus}
use Rattle.cip_router.specs.declared.command.EncapStatus.TheVariants as status
use Rattle.cip_router.specs.declared.refusal.Status.TheVariants as router_status
use Rattle.cip_events.specs.declared.event.Delivery.{Delivery}
use Rattle.cip_events.specs.declared.event.Delivery.TheVariants.{Duplicate, UnknownId, WrongSize}
use Rattle.cip_events.specs.declared.event.Frame.{Frame}
use Rattle.cip_events.specs.declared.event.Notice.{Notice}
use Rattle.cip_events.specs.declared.event.Notice.TheVariants.{StreamClosed}
use Rattle.cip_events.specs.declared.event.Recipient.TheVariants as recipient
use Rattle.cip_events.specs.declared.event.StepFault.{StepFault}
use Rattle.cip_events.specs.declared.event.StepFault.TheVariants.{NotAllowedNow}
use Rattle.cip_events.specs.declared.event.Verdict.{Verdict}
use Rattle.cip_events.specs.declared.event.Verdict.TheVariants.{Done, BadFrame, Delivered}
use Rattle.messaging.specs.declared.class3.Class3Connection.{Class3Connection}
use Rattle.messaging.specs.declared.requests.Requester.TheVariants as asker
use Rattle.messaging.specs.Class3Connections.{is_class3, repeats_last}
use Rattle.adapter_table.specs.declared.profile.Description.{Description}
use Rattle.adapter_table.specs.declared.table.Stream.{Stream}
use Rattle.adapter_table.specs.declared.table.AdapterTable.{AdapterTable}
use Rattle.cip_router.specs.Requests.{RouterRequestFields, router_request_reading}
use Rattle.adapter_table.specs.Own.{OwnRequest, own_of, cannot_ask, referred_verdict, referred_table}
use Rattle.adapter_table.specs.Class3Opening.{stream_served}
use Rattle.adapter_table.specs.Connected.{service_in, fitted_text, connected_served, repeated_table, executed_table, asking_table}
use Rattle.adapter_table.specs.Inquiries.{frame_alone, inquiry_reply}
use Rattle.adapter_table.specs.Requests.{Next, Served, counted_once, router_refusal}
use Rattle.cip_events.specs.Answers.{plain_answer}
use Rattle.cip_router.specs.Commands.{command_of, is_silent}
use Rattle.adapter_table.specs.Streams.{is_stream, session_of, has_session, without_stream, ended_notices, registered_table}
use Rattle.cip_router.specs.Frames.{RequestHeader, FrameFields, without_header, wrong_length, whole, request_header_of, wrong_length_of, frame_reading, FrameReply, services, registered, other_version, router_reply, connected, refused, protocol_text, reply_message}

-- THE REPLY TO A MESSAGE

-- the reply, if there is one, the verdict, the notices, and the table after it
pub record Handled : Type 0 where
  pub reply : Option FrameReply
  pub verdict : Verdict
  pub notices : List Notice
  pub table : AdapterTable

-- no reply, and nothing has changed
abbrev pub unanswered : AdapterTable → Handled
unanswered t = record { reply = None; verdict = Done; notices = []; table = t }

-- a reply, and nothing has changed
abbrev pub reply_only : AdapterTable → FrameReply → Handled
reply_only t reply = record { reply = Some reply; verdict = Done; notices = []; table = t }

-- a refusal, and nothing has changed
abbrev pub refusal : AdapterTable → EncapStatus → Handled
refusal t why = reply_only t (refused why)

-- a session begins on the stream
abbrev pub session_begun : AdapterTable → Stream → Handled
session_begun t stream = record { reply = Some (registered (session_of stream)); verdict = Done; notices = []; table = registered_table t stream.number }

-- RegisterSession: four bytes of data, of the version that is served, and one session on a stream
abbrev pub register_session : AdapterTable → Stream → List ℕ → Handled
register_session t stream body = first_case_or (session_begun t stream) (
    (not (length body == 4), refusal t status.InvalidLength)
    ∷ (not (bytes_eq body protocol_text), reply_only t other_version)
    ∷ (stream.registered, refusal t status.InvalidCommand)
    ∷ [])

-- the session ends, and with it the stream and its class 3 connections
abbrev pub session_ended : AdapterTable → Stream → Handled
session_ended t stream = record {
  reply = None;
  verdict = Done;
  notices = StreamClosed stream.number ∷ ended_notices t stream.number;
  table = without_stream t stream.number;
}

-- UnRegisterSession: only by the stream's own session
abbrev pub unregister_session : AdapterTable → Stream → ℕ → Handled
unregister_session t stream session = if has_session stream session then session_ended t stream else unanswered t

-- the reply to the request; data without a request are refused
abbrev pub request_replied : AdapterTable → Option Served → Handled
request_replied t None = refusal t status.IncorrectData
request_replied t (Some s) = record { reply = Some (router_reply s.reply s.address); verdict = Done; notices = s.notices; table = s.table }

-- a request to an object of the maker's own is refused (0x02) where no more can wait, else it waits
abbrev pub own_replied : AdapterTable → Stream → (context : ℕ) → OwnRequest → Handled
own_replied t stream context own =
    if cannot_ask t stream.peer then request_replied t (Some (router_refusal t own.service router_status.ResourceUnavailable))
    else record { reply = None; verdict = referred_verdict t own; notices = []; table = referred_table t stream.peer (asker.Stream stream.number context) own }

-- a request of the stream's peer
abbrev pub request_handled : AdapterTable → Stream → (context : ℕ) → RouterRequestFields → Option OwnRequest → Handled
request_handled t stream context request None = request_replied t (counted_once request (stream_served t stream request))
request_handled t stream context request (Some own) = own_replied t stream context own

-- items with a request, or other data
abbrev pub packet_replied : AdapterTable → Stream → (context : ℕ) → Result PacketFields ItemFault → Handled
packet_replied t stream context (Err fault) = refusal t status.IncorrectData
packet_replied t stream context (Ok packet) =
    request_handled t stream context (router_request_reading packet.payload) (own_of t.profile.objects (router_request_reading packet.payload))

-- the items of a request, as a device takes them: a described one skips those behind the request that nobody knows
abbrev pub items_for : Option Description → List ℕ → Result PacketFields ItemFault
items_for None body = packet_reading body
items_for (Some d) body = any_packet_reading body

-- SendRRData: within its session, a request to the message router
abbrev pub send_rr_data : AdapterTable → Stream → (session context : ℕ) → List ℕ → Handled
send_rr_data t stream session context body =
    if has_session stream session then packet_replied t stream context (items_for t.profile.description body) else refusal t status.InvalidSession

-- THE REPLY TO A CONNECTED MESSAGE

-- a message that is not executed, and has no reply
abbrev pub undelivered : AdapterTable → Delivery → Handled
undelivered t why = record { reply = None; verdict = Delivered why; notices = []; table = t }

-- the reply that the connection keeps, if it has one yet
abbrev pub kept_reply : Class3Connection → (count : ℕ) → List ℕ → Option FrameReply
kept_reply d count [] = None
kept_reply d count (first ∷ rest) = Some (connected d.t_o_id.0 count (first ∷ rest))

-- the last message again: its reply again, and nothing is executed
abbrev pub message_repeated : AdapterTable → Class3Connection → (count : ℕ) → Handled
message_repeated t d count = record {
  reply = kept_reply d count d.reply;
  verdict = Delivered Duplicate;
  notices = [];
  table = repeated_table t d;
}

-- a message was served: the reply goes out, and the connection keeps it
abbrev pub message_replied : Class3Connection → (count service : ℕ) → Served → Handled
message_replied d count service s = record {
  reply = Some (connected d.t_o_id.0 count (fitted_text d service s.reply));
  verdict = Done;
  notices = s.notices;
  table = executed_table s.table d count (fitted_text d service s.reply);
}

-- a message to an object of the maker's own is refused (0x02) where no more can wait, else it waits
abbrev pub own_message : AdapterTable → Class3Connection → (count : ℕ) → OwnRequest → Handled
own_message t d count own =
    if cannot_ask t d.peer then message_replied d count own.service (router_refusal t own.service router_status.ResourceUnavailable)
    else record { reply = None; verdict = referred_verdict t own; notices = []; table = asking_table t d count own }

-- a message without a request is refused
abbrev pub message_served : AdapterTable → Class3Connection → (count service : ℕ) → Option Served → Handled
message_served t d count service None = refusal t status.IncorrectData
message_served t d count service (Some s) = message_replied d count service s

-- a message with a new count
abbrev pub message_executed : AdapterTable → Class3Connection → (count service : ℕ) → RouterRequestFields → Option OwnRequest → Handled
message_executed t d count service request None = message_served t d count service (counted_once request (connected_served t d.peer request))
message_executed t d count service request (Some own) = own_message t d count own

-- a message of a class 3 connection: longer than its O->T size, or the last one again, or new
abbrev pub message_handled : AdapterTable → Class3Connection → (count : ℕ) → List ℕ → Handled
message_handled t d count message = first_case_or (
    message_executed t d count (service_in message) (router_request_reading message) (own_of t.profile.objects (router_request_reading message))
    ) (
    (nat_lt d.o_t_size (2 + length message), undelivered t WrongSize)
    ∷ (repeats_last d count, message_repeated t d count)
    ∷ [])

-- the same of the connection that is found, if one is
abbrev pub message_found : AdapterTable → (count : ℕ) → List ℕ → Option Class3Connection → Handled
message_found t count message None = undelivered t UnknownId
message_found t count message (Some d) = message_handled t d count message

-- items with a message of a class 3 connection that lives on the stream, or other data
abbrev pub unit_replied : AdapterTable → Stream → Result ConnectedFields ItemFault → Handled
unit_replied t stream (Err fault) = refusal t status.IncorrectData
unit_replied t stream (Ok unit) =
    message_found t unit.count unit.message (find (is_class3 stream.number (record { 0 = unit.connection })) t.messaging.class3_connections)

-- the items of a connected message, likewise
abbrev pub connected_items_for : Option Description → List ℕ → Result ConnectedFields ItemFault
connected_items_for None body = connected_reading body
connected_items_for (Some d) body = any_connected_reading body

-- the status of a connected message outside its session: a described device names the session, any other refuses it as an unknown
-- command
abbrev pub outside_session : Option Description → EncapStatus
outside_session None = status.InvalidCommand
outside_session (Some d) = status.InvalidSession

-- SendUnitData: within its session, a connected message
abbrev pub send_unit_data : AdapterTable → Stream → (session : ℕ) → List ℕ → Handled
send_unit_data t stream session body =
    if has_session stream session then unit_replied t stream (connected_items_for t.profile.description body) else refusal t (outside_session t.profile.description)

-- a message by its command
unfoldable pub handled : AdapterTable → Stream → RequestHeader → List ℕ → Command → Handled
handled t stream request_header body command.Nop = unanswered t
handled t stream request_header body command.ListServices = reply_only t services
handled t stream request_header body command.RegisterSession = register_session t stream body
handled t stream request_header body command.UnregisterSession = unregister_session t stream request_header.session
handled t stream request_header body command.SendRrData = send_rr_data t stream request_header.session request_header.context body
handled t stream request_header body command.SendUnitData = send_unit_data t stream request_header.session body
handled t stream request_header body command.Other = refusal t status.InvalidCommand

-- WHAT A DESCRIBED DEVICE TAKES A MESSAGE FOR

-- A message that is discarded is taken for a NOP: it has no reply, and changes nothing.
abbrev pub discarded : MessageFields → FrameFields
discarded m = whole (record { command = 0x0000; session = m.session; context = m.context }) m.payload

-- the commands without data: ListServices, ListIdentity, ListInterfaces
abbrev pub is_list : ℕ → Bool
is_list command = command == 0x0004 || (command == 0x0063 || command == 0x0064)

-- A message with options is discarded. Data of a command that has none are of a wrong length.
abbrev pub described_message : Option Tailed → MessageFields → FrameFields
described_message header m = first_case_or (whole (request_header_of m) m.payload) (
    (not (m.options == 0), discarded m)
    ∷ (is_list m.command && not (length m.payload == 0), wrong_length_of header)
    ∷ [])

abbrev pub described_fields : Option Tailed → Result MessageFields EncapFault → FrameFields
described_fields header (Ok m) = described_message header m
described_fields header (Err fault) = wrong_length_of header

-- the bytes of a frame, as a described device takes them
unfoldable pub described_frame : List ℕ → FrameFields
described_frame bytes = described_fields (fields_at header_widths bytes) (message_reading bytes)

-- the bytes of a frame, as a device takes them
abbrev pub frame_for : Option Description → List ℕ → FrameFields
frame_for None bytes = frame_reading bytes
frame_for (Some d) bytes = described_frame bytes

-- THE ANSWER

-- the frame of a reply, for the other end of the stream
abbrev pub reply_frames : ℕ → RequestHeader → Option FrameReply → List Frame
reply_frames number request_header None = []
reply_frames number request_header (Some reply) = record { to = recipient.Stream number; bytes = message_text (reply_message request_header reply) } ∷ []

-- the answer to a message of the stream of this number, and the table after it
abbrev pub framed : ℕ → RequestHeader → Handled → Next
framed number request_header done = (
  record {
    frames = reply_frames number request_header done.reply;
    datagrams = [];
    verdict = done.verdict;
    notices = done.notices;
  },
  done.table,
)

-- a wrong length field is checked first; if no reply is due, the verdict is a bad frame
abbrev pub wrong_length_answer : AdapterTable → ℕ → RequestHeader → Next
wrong_length_answer t number request_header = first_case_or (framed number request_header (refusal t status.InvalidLength)) (
    (is_silent (command_of request_header.command), (plain_answer BadFrame, t))
    ∷ [])

-- the answer to a frame of an open stream, and the table after it
abbrev pub frame_answer : AdapterTable → Stream → FrameFields → Next
frame_answer t stream without_header = (plain_answer BadFrame, t)
frame_answer t stream (wrong_length request_header) = wrong_length_answer t stream.number request_header
frame_answer t stream (whole request_header body) = framed stream.number request_header (handled t stream request_header body (command_of request_header.command))

-- an inquiry is answered first, then all other messages
abbrev pub stream_answer : AdapterTable → Stream → List ℕ → Option (List ℕ) → Next
stream_answer t stream bytes None = frame_answer t stream (frame_for t.profile.description bytes)
stream_answer t stream bytes (Some text) = (frame_alone (recipient.Stream stream.number) text, t)

-- the same of the stream that is found, if one is
abbrev pub frame_of : AdapterTable → List ℕ → Option Stream → Result Next StepFault
frame_of t bytes None = Err NotAllowedNow
frame_of t bytes (Some stream) = Ok (stream_answer t stream bytes (inquiry_reply t bytes))

-- a frame on a stream
unfoldable pub frame : AdapterTable → ℕ → List ℕ → Result Next StepFault
frame t number bytes = frame_of t bytes (find (is_stream number) t.streams)
