-- The routes of requests and of their replies, and the readings of a frame (Volume 2, chapter 2, encapsulation messages).
use Rattle.std.specs.Prelude.{ℕ, ◌+◌, ◌≤◌, Bool, true, false, List, [], ◌∷◌, length, Option, Some, None}
use Rattle.std.specs.Option.{option_map}
use Rattle.cip_types.specs.declared.names.Node.{Node}
use Rattle.cip_types.specs.declared.names.ConnId.{ConnId}
use Rattle.cip_encap.specs.Message.{message_text}
use Rattle.cip_router.specs.declared.command.EncapStatus.TheVariants as status
use Rattle.cip_events.specs.declared.event.Answer.{Answer}
use Rattle.cip_events.specs.declared.event.Frame.{Frame}
use Rattle.cip_events.specs.declared.event.Notice.{Notice}
use Rattle.cip_events.specs.declared.event.Recipient.TheVariants as recipient
use Rattle.cip_events.specs.declared.event.Verdict.TheVariants.{Done, BadFrame}
use Rattle.messaging.specs.declared.class3.Class3Connection as kept
use Rattle.messaging.specs.declared.requests.Requester.{Requester}
use Rattle.messaging.specs.declared.requests.Requester.TheVariants as asker
use Rattle.messaging.specs.declared.requests.Waiting.{Waiting}
use Rattle.adapter_table.specs.declared.table.AdapterTable.{AdapterTable}
use Rattle.cip_router.specs.Replies.{ReplyFields, GetsFew, HasStatus, view_reply, reply_text}
use Rattle.adapter_table.specs.Connected.{fitted, next_deadline}
use Rattle.adapter_table.specs.Requests.{Next, Served, reply_frame}
use Rattle.cip_events.specs.Answers.{plain_answer}
use Rattle.cip_router.specs.Frames as frames
use Rattle.cip_router.specs.Frames.{FrameFields, reply_message}
use Rattle.adapter_table.specs.Encapsulation.{reply_frames}
use Rattle.adapter_replies.specs.declared.routes.RequestHeader.{RequestHeader}
use Rattle.adapter_replies.specs.declared.routes.ConnectionRoute.{ConnectionRoute}
use Rattle.adapter_replies.specs.declared.routes.Route.{Route}
use Rattle.adapter_replies.specs.declared.routes.Route.TheVariants as route
use Rattle.adapter_replies.specs.declared.frames.FrameView.{FrameView}
use Rattle.adapter_replies.specs.declared.frames.FrameView.TheVariants as view
use Rattle.adapter_replies.specs.declared.replies.FrameReply.{FrameReply}
use Rattle.adapter_replies.specs.declared.replies.FrameReply.TheVariants as reply

-- WHAT THE PROGRAM'S VALUES ARE IN THE DEFINITIONS

abbrev pub view_request_header : RequestHeader → frames.RequestHeader
view_request_header e = record { command = e.command; session = e.session; context = e.context }

-- a frame, wherever its data lie in memory
abbrev pub view_frame : FrameView → FrameFields
view_frame view.NoHeader = frames.without_header
view_frame (view.BadLength request_header) = frames.wrong_length (view_request_header request_header)
view_frame (view.Whole request_header body) = frames.whole (view_request_header request_header) body.now

-- the reply to a frame, likewise
abbrev pub view_frame_reply : FrameReply → frames.FrameReply
view_frame_reply reply.Services = frames.services
view_frame_reply (reply.Registered session) = frames.registered session
view_frame_reply reply.OtherVersion = frames.other_version
view_frame_reply (reply.Router answer address) = frames.router_reply (view_reply answer) address
view_frame_reply (reply.Refused why) = frames.refused why
view_frame_reply (reply.Connected id count lent) = frames.connected id.0 count lent.now

-- a reply of the router that can be written
pub record IsWritable (answer : ReplyFields) : Type 0 where
  pub status : HasStatus answer
  pub few : GetsFew answer

-- the same of the reply to a frame
abbrev pub IsWritableFrame : frames.FrameReply → Type 0
IsWritableFrame frames.services = Unit {0}
IsWritableFrame (frames.registered session) = Unit {0}
IsWritableFrame frames.other_version = Unit {0}
IsWritableFrame (frames.router_reply answer address) = IsWritable answer
IsWritableFrame (frames.refused why) = Unit {0}
IsWritableFrame (frames.connected connection count text) = length text ≤ 1404

-- the numbers of the header of a reply of the router with data of this length
abbrev pub router_numbers : frames.RequestHeader → ℕ → List ℕ
router_numbers e len = e.command ∷ len ∷ e.session ∷ 0 ∷ e.context ∷ 0 ∷ []

-- the numbers of the header of a message of a class 3 connection, with data of this length
abbrev pub unit_numbers : frames.RequestHeader → ℕ → List ℕ
unit_numbers e len = 0x70 ∷ len ∷ e.session ∷ 0 ∷ 0 ∷ 0 ∷ []

-- ROUTES

-- what a reply over a stream repeats of an unconnected request: SendRRData, the session of the stream, the context
abbrev pub unconnected_header : (number context : ℕ) → RequestHeader
unconnected_header number context = record { command = 0x6F; session = number + 1; context = context }

-- and of a message of a class 3 connection: SendUnitData, the session of the stream
abbrev pub connected_header : (number : ℕ) → RequestHeader
connected_header number = record { command = 0x70; session = number + 1; context = 0 }

-- the peer whose request it is
abbrev pub peer_of : Route → Node
peer_of (route.Peer peer) = peer
peer_of (route.Stream stream request_header) = stream.peer
peer_of (route.Connection way) = way.peer

-- a message of a class 3 connection brought the request
abbrev pub is_connected : Route → Bool
is_connected (route.Peer peer) = false
is_connected (route.Stream stream request_header) = false
is_connected (route.Connection way) = true

-- the message of a connection that a frame over a stream brings
abbrev pub message_route : AdapterTable → kept.Class3Connection → (number : ℕ) → RequestHeader → (count service : ℕ) → ConnectionRoute
message_route t d number request_header count service = record {
  number = number;
  request_header = request_header;
  t_o_id = d.t_o_id;
  t_o_size = d.t_o_size;
  count = count;
  service = service;
  peer = d.peer;
  id = d.o_t_id;
  deadline = next_deadline t d;
}

-- the last message of a connection, whose answer is still to come
abbrev pub last_message_route : kept.Class3Connection → ConnId → (count service : ℕ) → ConnectionRoute
last_message_route d id count service = record {
  number = d.stream;
  request_header = connected_header d.stream;
  t_o_id = d.t_o_id;
  t_o_size = d.t_o_size;
  count = count;
  service = service;
  peer = d.peer;
  id = id;
  deadline = d.deadline;
}

-- The route of a request that waits, by what it keeps of it. A request that came in the last message of a class 3 connection
-- has one if the connection is open.
abbrev pub kept_route : Node → (service : ℕ) → Requester → Option kept.Class3Connection → Option Route
kept_route peer service (asker.Peer node) found = Some (route.Peer node)
kept_route peer service (asker.Stream number context) found = Some (route.Stream (record { number = number; peer = peer; registered = true }) (unconnected_header number context))
kept_route peer service (asker.Class3Connection id count) found = option_map (λ d. route.Connection (last_message_route d id count service)) found

abbrev pub waiting_route : Waiting → Option kept.Class3Connection → Option Route
waiting_route w found = kept_route w.peer w.service w.asker found

-- REPLIES ON THEIR ROUTES

-- the text of the reply to a message, as the connection keeps it
abbrev pub message_text_of : ConnectionRoute → ReplyFields → List ℕ
message_text_of way answer = reply_text (fitted way.t_o_size way.service answer)

abbrev pub connected_reply : ConnectionRoute → List ℕ → frames.FrameReply
connected_reply way text = frames.connected way.t_o_id.0 way.count text

-- the frame with a reply, and in a frame that answers an unconnected request the multicast address of a connection that was
-- opened
abbrev pub routed_frame : Route → ReplyFields → Option Node → Frame
routed_frame (route.Peer peer) answer address = reply_frame peer answer
routed_frame (route.Stream stream request_header) answer address = record {
  to = recipient.Stream stream.number;
  bytes = message_text (reply_message (view_request_header request_header) (frames.router_reply answer address));
}
routed_frame (route.Connection way) answer address = record {
  to = recipient.Stream way.number;
  bytes = message_text (reply_message (view_request_header way.request_header) (connected_reply way (message_text_of way answer)));
}

-- an answer with the reply to a frame
abbrev pub framed_answer : ℕ → frames.RequestHeader → frames.FrameReply → List Notice → Answer
framed_answer number request_header answer notices = record {
  frames = reply_frames number request_header (Some answer);
  datagrams = [];
  verdict = Done;
  notices = notices;
}

-- the answer to bytes that are no request
abbrev pub unserved_answer : Route → Answer
unserved_answer (route.Peer peer) = plain_answer BadFrame
unserved_answer (route.Stream stream request_header) = framed_answer stream.number (view_request_header request_header) (frames.refused status.IncorrectData) []
unserved_answer (route.Connection way) = framed_answer way.number (view_request_header way.request_header) (frames.refused status.IncorrectData) []

-- an answer with the reply to a request
abbrev pub routed_answer : Route → ReplyFields → Option Node → List Notice → Answer
routed_answer way answer address notices = record {
  frames = routed_frame way answer address ∷ [];
  datagrams = [];
  verdict = Done;
  notices = notices;
}

-- the answer with the reply to a request, and the table after it
abbrev pub routed : AdapterTable → Route → Option Served → Next
routed t way None = (unserved_answer way, t)
routed t way (Some s) = (routed_answer way s.reply s.address s.notices, s.table)

-- the text that a class 3 connection keeps of a reply to its message
abbrev pub kept_text : Route → ReplyFields → List ℕ
kept_text (route.Peer peer) answer = []
kept_text (route.Stream stream request_header) answer = []
kept_text (route.Connection way) answer = message_text_of way answer
