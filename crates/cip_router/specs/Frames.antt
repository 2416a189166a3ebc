-- The frames of an encapsulation stream, and the messages of their replies (Volume 2, chapter 2,
-- encapsulation messages, commands and common packet format).
use Rattle.std.specs.Prelude.{ℕ, List, [], ◌∷◌, ◌++◌, get_or, replicate, codes, Option, Some, None, Result, Ok, Err}
use Rattle.std.specs.Int.{w16}
use Rattle.std.specs.Option.{option_map}
use Rattle.cip_types.specs.declared.names.Node.{Node}
use Rattle.cip_types.specs.Fields.{fields_text, fields_at}
use Rattle.cip_types.specs.Texts.{Tailed}
use Rattle.cip_encap.specs.declared.message.EncapFault.{EncapFault}
use Rattle.cip_encap.specs.declared.packet.SocketAddress.{SocketAddress}
use Rattle.cip_encap.specs.Message.{MessageFields, header_widths}
use Rattle.cip_encap.specs.Reading.{message_reading}
use Rattle.cip_encap.specs.Packet.{packet_text}
use Rattle.cip_encap.specs.Connected.{connected_text}
use Rattle.cip_router.specs.declared.command.EncapStatus.{EncapStatus}
use Rattle.cip_router.specs.declared.command.EncapStatus.TheVariants as status
use Rattle.cip_router.specs.Replies.{ReplyFields, reply_text}
use Rattle.cip_router.specs.Commands.{encap_code}

-- the fields that a reply repeats: the command, the session handle and the sender context
pub record RequestHeader : Type 0 where
  pub command : ℕ
  pub session : ℕ
  pub context : ℕ

-- a frame: too short for a header, with a header whose length field does not fit the bytes after it, or a whole
-- message with its data; status and options of a request are not judged
pub data FrameFields : Type 0 where
  without_header : FrameFields
  wrong_length : RequestHeader → FrameFields
  whole : RequestHeader → List ℕ → FrameFields

-- the repeated fields of a whole message
abbrev pub request_header_of : MessageFields → RequestHeader
request_header_of m = record { command = m.command; session = m.session; context = m.context }

-- and of a header: its numbers are command, length, session handle, status, sender context and options
abbrev pub request_header_in : List ℕ → RequestHeader
request_header_in numbers = record { command = get_or numbers 0 0; session = get_or numbers 2 0; context = get_or numbers 4 0 }

-- bytes that are no message, by their header
abbrev pub wrong_length_of : Option Tailed → FrameFields
wrong_length_of None = without_header
wrong_length_of (Some header) = wrong_length (request_header_in header.0)

-- a frame, by its header and its reading as a message
abbrev pub frame_fields : Option Tailed → Result MessageFields EncapFault → FrameFields
frame_fields header (Ok m) = whole (request_header_of m) m.payload
frame_fields header (Err fault) = wrong_length_of header

-- the reading of the bytes of a frame
unfoldable pub frame_reading : List ℕ → FrameFields
frame_reading bytes = frame_fields (fields_at header_widths bytes) (message_reading bytes)

-- the reply to a frame: the services of the device, a session with its handle, the served protocol version in
-- place of another, the message router's reply with the multicast address of an opened connection, a refusal, or the
-- message router's reply over a class 3 connection (its T->O id, the sequence count of the request, the reply's text)
pub data FrameReply : Type 0 where
  services : FrameReply
  registered : ℕ → FrameReply
  other_version : FrameReply
  router_reply : ReplyFields → Option Node → FrameReply
  refused : EncapStatus → FrameReply
  connected : (connection count : ℕ) → (text : List ℕ) → FrameReply

-- One service item: the number of items, its type, the length of the rest, its version, the flags for
-- encapsulation over TCP and for class 1 datagrams over UDP, and its name, padded to 16 bytes.
abbrev pub services_text : List ℕ
services_text = fields_text (w16 ∷ w16 ∷ w16 ∷ w16 ∷ w16 ∷ []) (1 ∷ 0x0100 ∷ 20 ∷ 1 ∷ 0x0120 ∷ []) ++ (codes "Communications" ++ replicate 2 0)

-- the data of RegisterSession: protocol version 1, no option flags
abbrev pub protocol_text : List ℕ
protocol_text = fields_text (w16 ∷ w16 ∷ []) (1 ∷ 0 ∷ [])

-- the UDP port of class 1 datagrams
abbrev pub datagram_port : ℕ
datagram_port = 2222

-- the socket of the datagrams of a multicast address
abbrev pub socket_of : Node → SocketAddress
socket_of address = record { port = datagram_port; address = address }

-- a message that repeats the command and the sender context of its request
abbrev pub headed_reply : RequestHeader → ℕ → ℕ → List ℕ → MessageFields
headed_reply request_header session status payload = record {
  command = request_header.command;
  session = session;
  status = status;
  context = request_header.context;
  options = 0;
  payload = payload;
}

-- the command SendUnitData
abbrev pub send_unit_data : ℕ
send_unit_data = 0x70

-- The message of a reply over a class 3 connection. It has the session of its request's stream, and no sender context,
-- since the sequence count names the request.
abbrev pub connected_message : RequestHeader → (connection count : ℕ) → List ℕ → MessageFields
connected_message request_header connection count text = record {
  command = send_unit_data;
  session = request_header.session;
  status = 0;
  context = 0;
  options = 0;
  payload = connected_text connection count text;
}

-- The message of a reply. A refusal has no data, except for another protocol version, which has data and session
-- handle 0. A new session has its own handle. All others have the request's.
abbrev pub reply_message : RequestHeader → FrameReply → MessageFields
reply_message request_header services = headed_reply request_header request_header.session 0 services_text
reply_message request_header (registered session) = headed_reply request_header session 0 protocol_text
reply_message request_header other_version = headed_reply request_header 0 (encap_code status.UnsupportedVersion) protocol_text
reply_message request_header (router_reply reply address) = headed_reply request_header request_header.session 0 (packet_text (reply_text reply) (option_map socket_of address))
reply_message request_header (refused why) = headed_reply request_header request_header.session (encap_code why) []
reply_message request_header (connected connection count text) = connected_message request_header connection count text
