-- The frames of an adapter: an answer has one reply at most, and the reply is short.
use Rattle.std.proofs.Common.{◌≡◌, ◌≤◌, ℕ, ◌+◌, ◌==◌, nat_lt, Bool, not, List, [], ◌∷◌, length, find, Option, Some, None, Result, Ok, Err, refl, arith}
use Rattle.std.specs.Option.{IfSome, option_map}
use Rattle.std.specs.Str.{bytes_eq}
use Rattle.cip_types.specs.declared.names.Node.{Node}
use Rattle.cip_fwdopen.specs.Open.{OpenFields}
use Rattle.cip_fwdopen.specs.Close.{CloseFields}
use Rattle.cip_encap.specs.declared.packet.ItemFault.{ItemFault}
use Rattle.cip_encap.specs.Connected.{ConnectedFields}
use Rattle.cip_encap.specs.Packet.{PacketFields}
use Rattle.cip_events.specs.declared.event.Frame.{Frame}
use Rattle.cip_events.specs.declared.event.Notice.{Notice}
use Rattle.cip_events.specs.declared.event.Verdict.{Verdict}
use Rattle.cip_events.specs.declared.event.Verdict.TheVariants.{Done, BadFrame}
use Rattle.cip_router.specs.declared.command.Command.{Command}
use Rattle.cip_router.specs.declared.command.Command.TheVariants as command
use Rattle.cip_router.specs.declared.command.EncapStatus.TheVariants as encap
use Rattle.cip_netparams.specs.Word.{is_message_trigger}
use Rattle.cip_router.specs.declared.refusal.Refusal.{Refusal}
use Rattle.cip_router.specs.declared.refusal.Status.TheVariants as status
use Rattle.cip_router.specs.Requests.{RouterRequestFields, nothing, refused, closing, object, opening, router_request_reading}
use Rattle.cip_router.specs.Commands.{command_of, is_silent}
use Rattle.cip_router.specs.Frames.{RequestHeader, FrameFields, without_header, wrong_length, whole, FrameReply, router_reply, connected, socket_of, protocol_text, reply_message}
use Rattle.cip_router.specs.Replies.{ReplyFields, reply_text, GetsFew}
use Rattle.cip_router.specs.ReplyLaws.{items_length, reply_is_short, connected_length}
use Rattle.messaging.specs.declared.class3.Class3Connection as kept
use Rattle.messaging.specs.declared.requests.Requester.{Requester}
use Rattle.messaging.specs.declared.requests.Requester.TheVariants as asker
use Rattle.messaging.specs.declared.table.Messaging.{Messaging}
use Rattle.messaging.specs.Class3Connections.{has_class3_triad, is_class3, is_last_message, repeats_last}
use Rattle.messaging.specs.Sound.{EachOf}
use Rattle.adapter_table.specs.Intervals.{whole_request}
use Rattle.adapter_table.specs.Lemmas.RefusalLemmas.{refusal_either}
use Rattle.adapter_table.specs.Connections.{Row}
use Rattle.adapter_table.specs.declared.table.Stream.{Stream}
use Rattle.adapter_table.specs.declared.table.AdapterTable.{AdapterTable}
use Rattle.adapter_table.specs.Answering.{class3_frames, route_frames, rr_header, unit_header}
use Rattle.adapter_table.specs.Checks.{Check, Admitted}
use Rattle.adapter_table.specs.Connected.{service_in, fitted_text, connected_served}
use Rattle.adapter_table.specs.Class3Opening.{class3_view, class3_refusal, judged_class3, served_class3, stream_served}
use Rattle.adapter_table.specs.StatedLimits.{limited_admission, is_wrong_closer, is_wrong_ender}
use Rattle.adapter_table.specs.Encapsulation.{Handled, items_for, connected_items_for, refusal, session_begun, register_session, request_replied, request_handled, packet_replied, kept_reply, message_replied, message_served, message_executed, message_found, unit_replied, handled, framed, frame_answer, stream_answer, frame_of, frame, frame_for}
use Rattle.adapter_table.specs.Inquiries.{inquiry_reply, inquired_by, inquired}
use Rattle.adapter_table.specs.Objects.{ObjectAnswer, said, denied, resetting, answering, refusing, unrouted}
use Rattle.adapter_table.specs.Carrying.{object_answer}
use Rattle.adapter_table.specs.Lemmas.MessageLemmas.{fitted_short}
use Rattle.adapter_table.specs.Lemmas.ObjectSizes as sizes
use Rattle.adapter_table.specs.Lemmas.ObjectSizes.{FewSaid}
use Rattle.adapter_table.specs.MessagesSound.{IsInPlace}
use Rattle.adapter_table.specs.Own.{OwnRequest, own_of, cannot_ask, referred_verdict}
use Rattle.adapter_table.specs.Requests.{Next, Served, counted_once, judged_open, admitted_open, served_open, close_of, served_close, end_of, served_end, router_refusal, object_served, served_object, served, replied, answered, requested_by, requested}
use Rattle.adapter_table.specs.Rows.{has_triad}
use Rattle.adapter_table.specs.Shapes.{IsShaped}
use Rattle.adapter_table.specs.Streams.{is_stream, has_session}
use Rattle.answer_sizes.specs.Sizes.{IsShortFrame, IsShortDatagram, IsSmall}
use Rattle.adapter_table.specs.Whole.{IsWhole}
use Rattle.answer_sizes.proofs.Few.{Few, few_none, few_one, either}
use Rattle.answer_sizes.specs.Lemmas.InquiryLengths.{RepliesBriefly, inquiry_reply_few}
use Rattle.answer_sizes.proofs.Answers.{message_short, both_small, plain_small, noted_small, AnswersSmall}

-- ---- an answer of one frame

one_small : (reply : Frame) (verdict : Verdict) (notices : List Notice) → IsShortFrame reply → IsSmall (record { frames = reply ∷ []; datagrams = []; verdict = verdict; notices = notices })
one_small reply verdict notices short = both_small (reply ∷ []) [] verdict notices (few_one 64 IsShortFrame reply (omega arith) short) (few_none 64 IsShortDatagram)

-- ---- what is served

opened_few : (t : AdapterTable) (peer : Node) (large : Bool) (request : OpenFields) (judged : Result Admitted Refusal) → GetsFew (judged_open t peer large request judged).reply
unfolding admitted_open
opened_few t peer large request (Err why) = refusal_either GetsFew t.profile t.rows _ request why (λ fault fails. tt) (λ a. tt)
opened_few t peer large request (Ok admitted) = tt

closed_few : (t : AdapterTable) (peer : Node) (request : CloseFields) (found : Option Row) → GetsFew (close_of t peer request found).reply
closed_few t peer request None = tt
closed_few t peer request (Some row) = either (λ (s : Served). GetsFew s.reply) (is_wrong_closer t.profile.limits peer row) _ _ tt tt

ended_few : (t : AdapterTable) (peer : Node) (request : CloseFields) (found : Option kept.Class3Connection) → GetsFew (end_of t peer request found).reply
unfolding served_close
ended_few t peer request None = closed_few t peer request (find (has_triad request.triad) t.rows)
ended_few t peer request (Some d) = either (λ (s : Served). GetsFew s.reply) (is_wrong_ender t.profile.limits peer d) _ _ tt tt

object_few : (t : AdapterTable) (service : ℕ) (answer : ObjectAnswer) → FewSaid answer → GetsFew (object_served t service answer).reply
object_few t service (said by value) short = short
object_few t service (denied why) short = tt
object_few t service (resetting kind) short = omega arith
object_few t service (answering by general content) short = short
object_few t service (refusing named why) short = tt
object_few t service (unrouted words) short = tt

-- of what is served, if there is a request
abbrev ServesFew : Option Served → Type 0
ServesFew None = Unit {0}
ServesFew (Some s) = GetsFew s.reply

serves_few : (t : AdapterTable) (peer : Node) (request : RouterRequestFields) → IsShaped t.profile t.values → ServesFew (served t peer request)
unfolding served_open served_end served_object
serves_few t peer nothing shaped = tt
serves_few t peer (refused service why) shaped = tt
serves_few t peer (closing request) shaped = ended_few t peer request (find (has_class3_triad request.triad) t.messaging.class3_connections)
serves_few t peer (object service class instance attribute body) shaped = object_few t service (object_answer t service class instance attribute body) (sizes.object_few t service class instance attribute body shaped)
serves_few t peer (opening large request) shaped = opened_few t peer large (whole_request t.profile.description request) (limited_admission t peer (whole_request t.profile.description request))

-- ---- what is served over a stream

class3_few : (t : AdapterTable) (stream : Stream) (large : Bool) (request : OpenFields) (c : Check) → GetsFew (judged_class3 t stream large request c).reply
class3_few t stream large request (Some why) = refusal_either GetsFew t.profile t.rows _ request why (λ fault fails. tt) (λ a. tt)
class3_few t stream large request None = tt

over_stream_few : (t : AdapterTable) (stream : Stream) (request : RouterRequestFields) → IsShaped t.profile t.values → ServesFew (stream_served t stream request)
unfolding served_class3
over_stream_few t stream (opening large request) shaped =
    either ServesFew (is_message_trigger request.trigger) (Some (served_class3 t stream large request)) (served t stream.peer (opening large request))
    (class3_few t stream large (whole_request t.profile.description request) (class3_refusal (class3_view t stream.peer request.triad) (whole_request t.profile.description request))) (serves_few t stream.peer (opening large request) shaped)
over_stream_few t stream other shaped = serves_few t stream.peer other shaped

-- what is counted has the same reply
counted_few : (request : RouterRequestFields) (s : Option Served) → ServesFew s → ServesFew (counted_once request s)
counted_few request None few = tt
counted_few request (Some s) few = few

-- ---- requests

answered_small : (t : AdapterTable) (peer : Node) (s : Option Served) → ServesFew s → IsSmall (answered t peer s).0
answered_small t peer None few = plain_small BadFrame
answered_small t peer (Some s) few = one_small _ Done s.notices (omega (arith, (reply_is_short s.reply few).few))

by_small : (t : AdapterTable) (peer : Node) (request : RouterRequestFields) (asks : Option OwnRequest) → IsShaped t.profile t.values → IsSmall (requested_by t peer request asks).0
by_small t peer request None shaped = answered_small t peer (counted_once request (served t peer request)) (counted_few request (served t peer request) (serves_few t peer request shaped))
by_small t peer request (Some own) shaped =
    either (λ (next : Next). IsSmall next.0) (cannot_ask t peer) (replied peer (router_refusal t own.service status.ResourceUnavailable)) _
    (answered_small t peer (Some (router_refusal t own.service status.ResourceUnavailable)) tt) (plain_small (referred_verdict t own))

-- the answer to a request
pub requested_small : (t : AdapterTable) (peer : Node) (bytes : List ℕ) → IsShaped t.profile t.values → IsSmall (requested t peer bytes).0
unfolding requested
requested_small t peer bytes shaped = by_small t peer (router_request_reading bytes) (own_of t.profile.objects (router_request_reading bytes)) shaped

-- ---- messages

-- the reply to a message
abbrev SaysFew : FrameReply → Type 0
SaysFew (router_reply reply address) = GetsFew reply
SaysFew (connected connection count text) = length text ≤ 1404
SaysFew reply = Unit {0}

data_short : (request_header : RequestHeader) (reply : FrameReply) → SaysFew reply → length (reply_message request_header reply).payload ≤ 2000
data_short request_header (router_reply reply address) few = omega (arith, items_length (reply_text reply) (option_map socket_of address), (reply_is_short reply few).few)
data_short request_header (connected connection count text) few = omega (arith, connected_length connection count text, few)
data_short request_header reply few = omega arith

-- the same, if there is one
abbrev RepliesFew : Option FrameReply → Type 0
RepliesFew None = Unit {0}
RepliesFew (Some reply) = SaysFew reply

abbrev HandlesFew : Handled → Type 0
HandlesFew done = RepliesFew done.reply

registers_few : (t : AdapterTable) (stream : Stream) (body : List ℕ) → HandlesFew (register_session t stream body)
registers_few t stream body =
    either HandlesFew (not (length body == 4)) _ _ tt
    (either HandlesFew (not (bytes_eq body protocol_text)) _ _ tt
    (either HandlesFew stream.registered (refusal t encap.InvalidCommand) (session_begun t stream) tt tt))

passes_few : (t : AdapterTable) (s : Option Served) → ServesFew s → HandlesFew (request_replied t s)
passes_few t None few = tt
passes_few t (Some s) few = few

request_few : (t : AdapterTable) (stream : Stream) (context : ℕ) (request : RouterRequestFields) (asks : Option OwnRequest) → IsShaped t.profile t.values → HandlesFew (request_handled t stream context request asks)
request_few t stream context request None shaped =
    passes_few t (counted_once request (stream_served t stream request)) (counted_few request (stream_served t stream request) (over_stream_few t stream request shaped))
request_few t stream context request (Some own) shaped = either HandlesFew (cannot_ask t stream.peer) (request_replied t (Some (router_refusal t own.service status.ResourceUnavailable))) _ tt tt

items_few : (t : AdapterTable) (stream : Stream) (context : ℕ) (reading : Result PacketFields ItemFault) → IsShaped t.profile t.values → HandlesFew (packet_replied t stream context reading)
items_few t stream context (Err fault) shaped = tt
items_few t stream context (Ok packet) shaped = request_few t stream context (router_request_reading packet.payload) (own_of t.profile.objects (router_request_reading packet.payload)) shaped

-- ---- connected messages

-- each class 3 connection keeps a short reply
abbrev KeepsShort : kept.Class3Connection → Type 0
KeepsShort d = length d.reply ≤ 1404

kept_few : (d : kept.Class3Connection) (count : ℕ) (text : List ℕ) → length text ≤ 1404 → RepliesFew (kept_reply d count text)
kept_few d count [] few = tt
kept_few d count (first ∷ rest) few = few

served_few : (t : AdapterTable) (d : kept.Class3Connection) (count service : ℕ) (s : Option Served) → HandlesFew (message_served t d count service s)
served_few t d count service None = tt
served_few t d count service (Some s) = fitted_short d service s.reply

executed_few : (t : AdapterTable) (d : kept.Class3Connection) (count service : ℕ) (request : RouterRequestFields) (asks : Option OwnRequest) → HandlesFew (message_executed t d count service request asks)
executed_few t d count service request None = served_few t d count service (counted_once request (connected_served t d.peer request))
executed_few t d count service request (Some own) =
    either HandlesFew (cannot_ask t d.peer) (message_replied d count own.service (router_refusal t own.service status.ResourceUnavailable)) _
    (fitted_short d own.service (router_refusal t own.service status.ResourceUnavailable).reply) tt

message_few : (t : AdapterTable) (count : ℕ) (message : List ℕ) (found : Option kept.Class3Connection) → IfSome found KeepsShort → HandlesFew (message_found t count message found)
message_few t count message None keeps = tt
message_few t count message (Some d) keeps =
    either HandlesFew (nat_lt d.o_t_size (2 + length message)) _ _ tt
    (either HandlesFew (repeats_last d count) _ (message_executed t d count (service_in message) (router_request_reading message) (own_of t.profile.objects (router_request_reading message)))
    (kept_few d count d.reply keeps)
    (executed_few t d count (service_in message) (router_request_reading message) (own_of t.profile.objects (router_request_reading message))))

kept_found : (t : AdapterTable) (p : kept.Class3Connection → Bool) (class3_connections : List kept.Class3Connection) → EachOf (IsInPlace t.rows t.streams) class3_connections → IfSome (find p class3_connections) KeepsShort
kept_found t p [] all = tt
kept_found t p (d ∷ class3_connections) all = either (λ found. IfSome found KeepsShort) (p d) (Some d) (find p class3_connections) all.0.reply (kept_found t p class3_connections all.1)

unit_few : (t : AdapterTable) (stream : Stream) (reading : Result ConnectedFields ItemFault) → IsWhole t → HandlesFew (unit_replied t stream reading)
unit_few t stream (Err fault) table = tt
unit_few t stream (Ok unit) table =
    message_few t unit.count unit.message (find (is_class3 stream.number (record { 0 = unit.connection })) t.messaging.class3_connections)
    (kept_found t (is_class3 stream.number (record { 0 = unit.connection })) t.messaging.class3_connections table.messages.class3_connections)

-- ---- all messages

handles_few : (t : AdapterTable) (stream : Stream) (request_header : RequestHeader) (body : List ℕ) (kind : Command) → IsWhole t → HandlesFew (handled t stream request_header body kind)
unfolding handled
handles_few t stream request_header body command.RegisterSession table = registers_few t stream body
handles_few t stream request_header body command.UnregisterSession table = either HandlesFew (has_session stream request_header.session) _ _ tt tt
handles_few t stream request_header body command.SendRrData table =
    either HandlesFew (has_session stream request_header.session) _ _ (items_few t stream request_header.context (items_for t.profile.description body) table.shaped) tt
handles_few t stream request_header body command.SendUnitData table = either HandlesFew (has_session stream request_header.session) _ _ (unit_few t stream (connected_items_for t.profile.description body) table) tt
handles_few t stream request_header body kind table = tt

-- ---- frames

reply_small : (number : ℕ) (request_header : RequestHeader) (done : Handled) (reply : Option FrameReply) → done.reply ≡ reply → RepliesFew reply → IsSmall (framed number request_header done).0
reply_small number request_header done None is few = rw is (noted_small done.verdict done.notices)
reply_small number request_header done (Some reply) is few = rw is (one_small _ done.verdict done.notices (message_short (reply_message request_header reply) (data_short request_header reply few)))

framed_small : (number : ℕ) (request_header : RequestHeader) (done : Handled) → HandlesFew done → IsSmall (framed number request_header done).0
framed_small number request_header done few = reply_small number request_header done done.reply refl few

fields_small : (t : AdapterTable) (stream : Stream) (fields : FrameFields) → IsWhole t → IsSmall (frame_answer t stream fields).0
fields_small t stream without_header table = plain_small BadFrame
fields_small t stream (wrong_length request_header) table =
    either (λ (next : Next). IsSmall next.0) (is_silent (command_of request_header.command)) _ _ (plain_small BadFrame) (framed_small stream.number request_header (refusal t encap.InvalidLength) tt)
fields_small t stream (whole request_header body) table =
    framed_small stream.number request_header (handled t stream request_header body (command_of request_header.command)) (handles_few t stream request_header body (command_of request_header.command) table)

either_small : (t : AdapterTable) (stream : Stream) (bytes : List ℕ) (reply : Option (List ℕ)) → RepliesBriefly reply → IsWhole t → IsSmall (stream_answer t stream bytes reply).0
either_small t stream bytes None brief table = fields_small t stream (frame_for t.profile.description bytes) table
either_small t stream bytes (Some text) brief table = one_small _ Done [] (omega (arith, brief))

found_small : (t : AdapterTable) (bytes : List ℕ) (found : Option Stream) → IsWhole t → AnswersSmall (frame_of t bytes found)
found_small t bytes None table = tt
found_small t bytes (Some stream) table = either_small t stream bytes (inquiry_reply t bytes) (inquiry_reply_few t bytes table.shaped.faultless) table

-- the answer to a message of a stream
pub frame_small : (t : AdapterTable) (number : ℕ) (bytes : List ℕ) → IsWhole t → AnswersSmall (frame t number bytes)
unfolding frame
frame_small t number bytes table = found_small t bytes (find (is_stream number) t.streams) table

-- ---- replies of the application

-- the frames of a reply, by its route
pub route_small : (m : Messaging) (from : Requester) (service : ℕ) (reply : ReplyFields) → GetsFew reply → Few 1 IsShortFrame (route_frames m from service reply)
route_small m (asker.Peer node) service reply few = few_one 1 IsShortFrame _ (omega arith) (omega (arith, (reply_is_short reply few).few))
route_small m (asker.Stream number context) service reply few =
    few_one 1 IsShortFrame _ (omega arith) (message_short (reply_message (rr_header number context) (router_reply reply None)) (data_short (rr_header number context) (router_reply reply None) few))
route_small m (asker.Class3Connection id count) service reply few = class3_small count service reply (find (is_last_message id count) m.class3_connections) where
  class3_small : (count service : ℕ) (reply : ReplyFields) (found : Option kept.Class3Connection) → Few 1 IsShortFrame (class3_frames count service reply found)
  class3_small count service reply None = few_none 1 IsShortFrame
  class3_small count service reply (Some d) =
      let text : FrameReply = connected d.t_o_id.0 count (fitted_text d service reply) in
      few_one 1 IsShortFrame _ (omega arith) (message_short (reply_message (unit_header d.stream) text) (data_short (unit_header d.stream) text (fitted_short d service reply)))

-- ---- inquiries

inquired_few : (t : AdapterTable) (peer : Node) (reply : Option (List ℕ)) → RepliesBriefly reply → IsSmall (inquired_by t peer reply).0
inquired_few t peer None brief = plain_small BadFrame
inquired_few t peer (Some text) brief = one_small _ Done [] (omega (arith, brief))

-- the answer to an inquiry over no stream
pub inquired_small : (t : AdapterTable) (peer : Node) (bytes : List ℕ) → IsShaped t.profile t.values → IsSmall (inquired t peer bytes).0
unfolding inquired
inquired_small t peer bytes shaped = inquired_few t peer (inquiry_reply t bytes) (inquiry_reply_few t bytes shaped.faultless)
