-- What is served on a route is what the table says of a peer's request, of one over a stream and of a connected message, and so
-- is what becomes of an answer of the application.
use Rattle.std.proofs.Common.{◌≡◌, ℕ, nat_le, Bool, true, false, cond, List, length, Option, Some, None, refl, arith, le-leb}
use Rattle.cip_types.specs.declared.names.Node.{Node}
use Rattle.cip_types.specs.declared.names.ConnId.{ConnId}
use Rattle.cip_fwdopen.specs.Reply.{refused_text}
use Rattle.cip_netparams.specs.Word.{is_message_trigger}
use Rattle.cip_router.specs.declared.refusal.Status.{Status}
use Rattle.cip_router.specs.declared.refusal.Status.TheVariants as status
use Rattle.cip_router.specs.Refusals.{status_fault}
use Rattle.cip_router.specs.Replies as replies
use Rattle.cip_router.specs.Replies.{ReplyFields, reply_text}
use Rattle.cip_router.specs.Requests.{RouterRequestFields, nothing, refused, closing, object, opening, router_request_reading}
use Rattle.messaging.specs.declared.class3.Class3Connection as kept
use Rattle.messaging.specs.declared.requests.Requester.{Requester}
use Rattle.messaging.specs.declared.requests.Requester.TheVariants.{Peer, Stream, Class3Connection}
use Rattle.messaging.specs.declared.requests.Waiting.{Waiting}
use Rattle.messaging.specs.declared.table.Messaging.{Messaging}
use Rattle.adapter_table.specs.declared.table.AdapterTable.{AdapterTable}
use Rattle.adapter_table.specs.declared.table.Stream as streams
use Rattle.adapter_table.specs.declared.counters.Tally.{Tally}
use Rattle.adapter_table.specs.Answering.{class3_frames, class3_keeps, responded, route_frames, with_reply}
use Rattle.adapter_table.specs.Class3Opening.{served_class3, stream_served}
use Rattle.adapter_table.specs.Connected.{connected_served, fitted, most_reply}
use Rattle.adapter_table.specs.Counters.{refused_tally}
use Rattle.adapter_table.specs.Counting.{tallied}
use Rattle.adapter_table.specs.Encapsulation.{framed, message_executed, message_replied, message_served, request_handled, request_replied}
use Rattle.adapter_table.specs.Objects.{ObjectAnswer, said, denied, resetting, answering, refusing, unrouted}
use Rattle.adapter_table.specs.Carrying.{object_answer}
use Rattle.adapter_table.specs.Own.{OwnRequest, own_of, cannot_ask}
use Rattle.adapter_table.specs.Requests.{Served, answered, counted_once, object_served, requested, requested_by, router_refusal, served, served_object, served_open}
use Rattle.adapter_replies.specs.declared.routes.RequestHeader.{RequestHeader}
use Rattle.adapter_replies.specs.declared.routes.Route.{Route}
use Rattle.adapter_replies.specs.declared.routes.Route.TheVariants as route
use Rattle.adapter_replies.specs.Routes.{is_connected, kept_route, kept_text, message_route, routed, routed_answer, view_request_header, waiting_route}
use Rattle.adapter_replies.specs.Messages.{found_last, object_fields, object_notices, way_frames}
use Rattle.adapter_replies.specs.Serving.{finished, kept_on, own_on, request_on, requested_on, responded_on, served_on, way_keeps}

-- ---- routes

-- on a route that no message of a class 3 connection is, the reply changes nothing
pub unconnected : (t : AdapterTable) (way : Route) (s : Option Served) → is_connected way ≡ false → finished t way s ≡ routed t way s
unconnected t (route.Peer peer) None is = refl
unconnected t (route.Peer peer) (Some s) is = refl
unconnected t (route.Stream stream request_header) None is = refl
unconnected t (route.Stream stream request_header) (Some s) is = refl
unconnected t (route.Connection way) s is = absurd cc

-- a service of an object changes nothing else
pub object_on : (t : AdapterTable) (way : Route) (service : ℕ) (answer : ObjectAnswer) → finished t way (Some (object_served t service answer)) ≡ (routed_answer way (object_fields service answer) None (object_notices answer), kept_on t way (kept_text way (object_fields service answer)))
object_on t way service (said by value) = refl
object_on t way service (denied why) = refl
object_on t way service (resetting kind) = refl
object_on t way service (answering by general content) = refl
object_on t way service (refusing named why) = refl
object_on t way service (unrouted words) = refl

-- ---- a peer

served_to_peer : (t : AdapterTable) (peer : Node) (request : RouterRequestFields) → finished t (route.Peer peer) (counted_once request (served_on t (route.Peer peer) request)) ≡ answered t peer (counted_once request (served t peer request))
served_to_peer t peer nothing = refl
served_to_peer t peer (refused service why) = refl
served_to_peer t peer (closing request) = refl
served_to_peer t peer (object service class instance attribute body) = refl
served_to_peer t peer (opening large request) = refl

request_of_peer : (t : AdapterTable) (peer : Node) (request : RouterRequestFields) (own : Option OwnRequest) → request_on t (route.Peer peer) request own ≡ requested_by t peer request own
request_of_peer t peer request None = served_to_peer t peer request
request_of_peer t peer request (Some own) = refl

pub peer_is : (t : AdapterTable) (peer : Node) (bytes : List ℕ) → requested_on t (route.Peer peer) bytes ≡ requested t peer bytes
unfolding requested_on requested
peer_is t peer bytes = request_of_peer t peer (router_request_reading bytes) (own_of t.profile.objects (router_request_reading bytes))

-- ---- a stream

opened_over_stream : (b : Bool) (t : AdapterTable) (stream : streams.Stream) (request_header : RequestHeader) (request : RouterRequestFields) (s other : Served) → finished t (route.Stream stream request_header) (counted_once request (Some (cond b s other))) ≡ framed stream.number (view_request_header request_header) (request_replied t (counted_once request (cond b (Some s) (Some other))))
opened_over_stream true t stream request_header request s other = refl
opened_over_stream false t stream request_header request s other = refl

served_over_stream : (t : AdapterTable) (stream : streams.Stream) (request_header : RequestHeader) (request : RouterRequestFields) → finished t (route.Stream stream request_header) (counted_once request (served_on t (route.Stream stream request_header) request)) ≡ framed stream.number (view_request_header request_header) (request_replied t (counted_once request (stream_served t stream request)))
served_over_stream t stream request_header nothing = refl
served_over_stream t stream request_header (refused service why) = refl
served_over_stream t stream request_header (closing request) = refl
served_over_stream t stream request_header (object service class instance attribute body) = refl
served_over_stream t stream request_header (opening large request) =
    opened_over_stream (is_message_trigger request.trigger) t stream request_header (opening large request) (served_class3 t stream large request) (served_open t stream.peer large request)

own_over_stream : (b : Bool) (t : AdapterTable) (stream : streams.Stream) (request_header : RequestHeader) (own : OwnRequest) → cannot_ask t stream.peer ≡ b → own_on t (route.Stream stream request_header) own ≡ framed stream.number (view_request_header request_header) (request_handled t stream request_header.context nothing (Some own))
own_over_stream true t stream request_header own is = rw is refl
own_over_stream false t stream request_header own is = rw is refl

request_over_stream : (t : AdapterTable) (stream : streams.Stream) (request_header : RequestHeader) (request : RouterRequestFields) (own : Option OwnRequest) → request_on t (route.Stream stream request_header) request own ≡ framed stream.number (view_request_header request_header) (request_handled t stream request_header.context request own)
request_over_stream t stream request_header request None = served_over_stream t stream request_header request
request_over_stream t stream request_header request (Some own) = own_over_stream (cannot_ask t stream.peer) t stream request_header own refl

pub stream_is : (t : AdapterTable) (stream : streams.Stream) (request_header : RequestHeader) (bytes : List ℕ) → requested_on t (route.Stream stream request_header) bytes ≡ framed stream.number (view_request_header request_header) (request_handled t stream request_header.context (router_request_reading bytes) (own_of t.profile.objects (router_request_reading bytes)))
unfolding requested_on
stream_is t stream request_header bytes = request_over_stream t stream request_header (router_request_reading bytes) (own_of t.profile.objects (router_request_reading bytes))

-- ---- a message of a class 3 connection

fits_by : (b : Bool) (reply other : ReplyFields) → b ≡ true → cond b reply other ≡ reply
fits_by true reply other is = refl
fits_by false reply other is = absurd cc

four_bytes : (service : ℕ) (why : Status) → length (reply_text (replies.refused service (status_fault why) None)) ≡ 4
unfolding refused_text
four_bytes service why = refl

-- a refusal fits always, so it is the same for any service of the message
pub refusal_fits : (size message service : ℕ) (why : Status) → fitted size message (replies.refused service (status_fault why) None) ≡ replies.refused service (status_fault why) None
refusal_fits size message service why =
    fits_by (nat_le (length (reply_text (replies.refused service (status_fault why) None))) (most_reply size)) (replies.refused service (status_fault why) None) _
    (rw (four_bytes service why) (le-leb 4 (most_reply size) (omega arith)))

message_object : (t : AdapterTable) (d : kept.Class3Connection) (number : ℕ) (request_header : RequestHeader) (count message service : ℕ) (answer : ObjectAnswer) → finished t (route.Connection (message_route t d number request_header count message)) (Some (object_served t service answer)) ≡ framed number (view_request_header request_header) (message_replied d count message (object_served t service answer))
message_object t d number request_header count message service (said by value) = refl
message_object t d number request_header count message service (denied why) = refl
message_object t d number request_header count message service (resetting kind) = refl
message_object t d number request_header count message service (answering by general content) = refl
message_object t d number request_header count message service (refusing named why) = refl
message_object t d number request_header count message service (unrouted words) = refl

-- a refusal is counted, and the connection keeps it
counted_refusal : (t : AdapterTable) (d : kept.Class3Connection) (number : ℕ) (request_header : RequestHeader) (count message service : ℕ) (why : Status) (kind : Option Tally) → finished t (route.Connection (message_route t d number request_header count message)) (Some (record (router_refusal t service why) { table = tallied kind t })) ≡ framed number (view_request_header request_header) (message_replied d count message (record (router_refusal t service why) { table = tallied kind t }))
counted_refusal t d number request_header count message service why None = refl
counted_refusal t d number request_header count message service why (Some kind) = refl

served_in_message : (t : AdapterTable) (d : kept.Class3Connection) (number : ℕ) (request_header : RequestHeader) (count message : ℕ) (request : RouterRequestFields) → finished t (route.Connection (message_route t d number request_header count message)) (counted_once request (served_on t (route.Connection (message_route t d number request_header count message)) request)) ≡ framed number (view_request_header request_header) (message_served t d count message (counted_once request (connected_served t d.peer request)))
unfolding served_object
served_in_message t d number request_header count message nothing = refl
served_in_message t d number request_header count message (refused service why) = counted_refusal t d number request_header count message service why (refused_tally service why)
served_in_message t d number request_header count message (closing request) = refl
served_in_message t d number request_header count message (object service class instance attribute body) = message_object t d number request_header count message service (object_answer t service class instance attribute body)
served_in_message t d number request_header count message (opening large request) = refl

own_in_message : (b : Bool) (t : AdapterTable) (d : kept.Class3Connection) (number : ℕ) (request_header : RequestHeader) (count message : ℕ) (own : OwnRequest) → cannot_ask t d.peer ≡ b → own_on t (route.Connection (message_route t d number request_header count message)) own ≡ framed number (view_request_header request_header) (message_executed t d count message nothing (Some own))
own_in_message true t d number request_header count message own is =
    rw (is, refusal_fits d.t_o_size message own.service status.ResourceUnavailable, refusal_fits d.t_o_size own.service own.service status.ResourceUnavailable) refl
own_in_message false t d number request_header count message own is = rw is refl

request_in_message : (t : AdapterTable) (d : kept.Class3Connection) (number : ℕ) (request_header : RequestHeader) (count message : ℕ) (request : RouterRequestFields) (own : Option OwnRequest) → request_on t (route.Connection (message_route t d number request_header count message)) request own ≡ framed number (view_request_header request_header) (message_executed t d count message request own)
request_in_message t d number request_header count message request None = served_in_message t d number request_header count message request
request_in_message t d number request_header count message request (Some own) = own_in_message (cannot_ask t d.peer) t d number request_header count message own refl

pub message_is : (t : AdapterTable) (d : kept.Class3Connection) (number : ℕ) (request_header : RequestHeader) (count message : ℕ) (bytes : List ℕ) → requested_on t (route.Connection (message_route t d number request_header count message)) bytes ≡ framed number (view_request_header request_header) (message_executed t d count message (router_request_reading bytes) (own_of t.profile.objects (router_request_reading bytes)))
unfolding requested_on
message_is t d number request_header count message bytes = request_in_message t d number request_header count message (router_request_reading bytes) (own_of t.profile.objects (router_request_reading bytes))

-- ---- answers of the application, and of the device in its place

found_frames : (id : ConnId) (count service : ℕ) (reply : ReplyFields) (peer : Node) (found : Option kept.Class3Connection) → way_frames (kept_route peer service (Class3Connection id count) found) reply ≡ class3_frames count service reply found
found_frames id count service reply peer None = refl
found_frames id count service reply peer (Some d) = refl

asker_frames : (m : Messaging) (peer : Node) (service : ℕ) (from : Requester) (reply : ReplyFields) → way_frames (kept_route peer service from (found_last m from)) reply ≡ route_frames m from service reply
asker_frames m peer service (Peer node) reply = refl
asker_frames m peer service (Stream number context) reply = refl
asker_frames m peer service (Class3Connection id count) reply = found_frames id count service reply peer (found_last m (Class3Connection id count))

-- an answer goes the way that its request came
pub waiting_is : (m : Messaging) (w : Waiting) (reply : ReplyFields) → way_frames (waiting_route w (found_last m w.asker)) reply ≡ route_frames m w.asker w.service reply
waiting_is m w reply = asker_frames m w.peer w.service w.asker reply

found_keeps : (m : Messaging) (id : ConnId) (count service : ℕ) (reply : ReplyFields) (peer : Node) (found : Option kept.Class3Connection) → way_keeps m (kept_route peer service (Class3Connection id count) found) reply ≡ class3_keeps m id count service reply found
found_keeps m id count service reply peer None = refl
found_keeps m id count service reply peer (Some d) = refl

asker_keeps : (m : Messaging) (peer : Node) (service : ℕ) (from : Requester) (reply : ReplyFields) → way_keeps m (kept_route peer service from (found_last m from)) reply ≡ with_reply m from service reply
asker_keeps m peer service (Peer node) reply = refl
asker_keeps m peer service (Stream number context) reply = refl
asker_keeps m peer service (Class3Connection id count) reply = found_keeps m id count service reply peer (found_last m (Class3Connection id count))

pub responded_is : (t : AdapterTable) (w : Waiting) (reply : ReplyFields) → responded_on t w.number (waiting_route w (found_last t.messaging w.asker)) reply ≡ responded t w reply
responded_is t w reply = rw (waiting_is t.messaging w reply, asker_keeps t.messaging w.peer w.service w.asker reply) refl
