-- An adapter's frames: a success in one is of the connection that the event opened, and answers the event's request.
use Rattle.std.proofs.Common.{◌≡◌, ◌≤◌, inl, inr, ℕ, ◌==◌, not, Bool, true, false, cond, List, [], ◌∷◌, ◌++◌, length, Option, Some, None, Result, Ok, Err, refl, sym, ◌∙◌, ap, subst}
use Rattle.std.specs.Option.{IfSome, option_map}
use Rattle.std.specs.Str.{bytes_eq}
use Rattle.cip_encap.specs.Connected.{connected_text}
use Rattle.cip_encap.specs.AnyItems.{any_packet_reading}
use Rattle.cip_encap.specs.Lemmas.AnyItemLemmas.{any_back, packet_bad}
use Rattle.cip_encap.specs.declared.packet.ItemFault.{ItemFault}
use Rattle.cip_encap.specs.declared.packet.SocketAddress.{SocketAddress}
use Rattle.cip_encap.specs.declared.packet.ItemFault.TheVariants.{Bad}
use Rattle.cip_encap.specs.Message.{MessageFields, message_text}
use Rattle.cip_encap.specs.Reading.{message_reading}
use Rattle.cip_encap.specs.Packet.{PacketFields, packet_text}
use Rattle.cip_encap.specs.PacketReading.{packet_reading}
use Rattle.cip_encap.specs.ReadsBack.{ItemsReadBack}
use Rattle.cip_events.specs.declared.event.Reason.TheVariants as reason
use Rattle.cip_fwdopen.specs.declared.reply.Opened.{Opened}
use Rattle.cip_fwdopen.specs.Open.{OpenFields}
use Rattle.cip_netparams.specs.Word.{is_message_trigger}
use Rattle.cip_router.specs.declared.refusal.Status.TheVariants as status
use Rattle.cip_router.specs.Requests.{RouterRequestFields, nothing, refused, closing, object, opening, router_request_reading}
use Rattle.cip_router.specs.declared.command.Command.{Command}
use Rattle.cip_router.specs.declared.command.Command.TheVariants as command
use Rattle.cip_router.specs.declared.command.EncapStatus.TheVariants as encap
use Rattle.cip_router.specs.Frames.{RequestHeader, request_header_of, FrameReply, services, registered, other_version, router_reply, connected, services_text, protocol_text, socket_of, reply_message}
use Rattle.cip_router.specs.Frames as frames
use Rattle.cip_router.specs.Replies.{ReplyFields, opened, closed, object_reply, reply_text}
use Rattle.cip_router.specs.Replies as replies
use Rattle.messaging.specs.declared.class3.Class3Connection.{Class3Connection}
use Rattle.messaging.specs.Changes.{with_class3}
use Rattle.adapter_table.specs.Intervals.{whole_request}
use Rattle.adapter_table.specs.Lemmas.CountLemmas.{counted_keeps}
use Rattle.adapter_table.specs.Lemmas.ItemLemmas.{items_any}
use Rattle.adapter_table.specs.Lemmas.RefusalLemmas.{refusal_either}
use Rattle.adapter_table.specs.declared.counters.DeviceCounters.{DeviceCounters}
use Rattle.adapter_table.specs.declared.table.AdapterTable.{AdapterTable}
use Rattle.adapter_table.specs.Counting.{with_counters}
use Rattle.adapter_table.specs.Checks.{Check}
use Rattle.adapter_table.specs.Class3Opening.{class3_view, class3_refusal, opened_class3, class3_table, judged_class3, served_class3, stream_served}
use Rattle.adapter_table.specs.Messages.{messages_table}
use Rattle.adapter_table.specs.Own.{OwnRequest, own_of, cannot_ask}
use Rattle.adapter_table.specs.declared.table.Stream.{Stream}
use Rattle.adapter_table.specs.Requests.{Served, counted_once, router_refusal, served}
use Rattle.adapter_table.specs.Streams.{has_session}
use Rattle.adapter_table.specs.Encapsulation.{Handled, items_for, connected_items_for, refusal, unanswered, session_begun, session_ended, register_session, request_replied, request_handled, packet_replied, unit_replied, handled, outside_session}
use Rattle.adapter_table.specs.Sound.{IdsAreDrawn}
use Rattle.scanner_table.specs.Replies.{packet_answer, open_answer}
use Rattle.device_laws.specs.Lemmas.AdapterIds.{few_bytes, plain_protocol, plain_none, some_bytes}
use Rattle.device_laws.specs.Lemmas.InquiryTexts.{IsPlainText, plain_services}
use Rattle.device_laws.specs.Lemmas.Texts.{either}
use Rattle.std.specs.Int.{w64}
use Rattle.device_laws.specs.Frames.{again, SuccessIs, SuccessesAre, OpensNothing, IsNoOpening, ContextFits}
use Rattle.device_laws.specs.Replies.{IsOfRow, IsOfNew, IsSuccessOf}
use Rattle.device_laws.specs.Lemmas.ReplyTexts.{PayloadSays, ReplyHolds, reply_says, MessageBack, message_back, context_fits}
use Rattle.device_laws.specs.Lemmas.ConnectedTexts.{connected_bad}
use Rattle.device_laws.specs.Lemmas.MessageSteps.{IsItemless, IsOfMessages, unit_of}
use Rattle.device_laws.specs.Lemmas.Serving.{ServedHas, served_has}

-- ---- what becomes of a message

abbrev pub ReplyHas : AdapterTable → AdapterTable → List ℕ → FrameReply → Type 0
ReplyHas t next body (router_reply reply address) = ReplyHolds (IsOfNew t next body) reply
ReplyHas t next body services = Unit {0}
ReplyHas t next body (registered session) = Unit {0}
ReplyHas t next body other_version = Unit {0}
ReplyHas t next body (frames.refused why) = Unit {0}
ReplyHas t next body (connected connection count text) = Unit {0}

abbrev pub HandledHas : AdapterTable → List ℕ → Handled → Type 0
HandledHas t body done = IfSome done.reply (ReplyHas t done.table body)

reply_weaker : (P Q : Opened → Type 0) → ((o : Opened) → P o → Q o) → (reply : ReplyFields) → ReplyHolds P reply → ReplyHolds Q reply
reply_weaker P Q more (opened large o) holds = λ read ids. more read (holds read ids)
reply_weaker P Q more (closed triad) holds = tt
reply_weaker P Q more (object_reply by value) holds = tt
reply_weaker P Q more (replies.refused service fault triad) holds = holds
reply_weaker P Q more (replies.unacceptable service a triad) holds = tt
reply_weaker P Q more (replies.own service general content) holds = holds
reply_weaker P Q more (replies.no_route words) holds = tt

register_has : (t : AdapterTable) (stream : Stream) (body : List ℕ) → HandledHas t body (register_session t stream body)
register_has t stream body =
    either (HandledHas t body) (not (length body == 4)) _ _ tt
    (either (HandledHas t body) (not (bytes_eq body protocol_text)) _ _ tt
    (either (HandledHas t body) stream.registered (refusal t encap.InvalidCommand) (session_begun t stream) tt tt))

-- what is served over a stream
abbrev NewHas : AdapterTable → List ℕ → Served → Type 0
NewHas t body s = ReplyHolds (IsOfNew t s.table body) s.reply

replied_has : (t : AdapterTable) (body : List ℕ) (s : Option Served) → IfSome s (NewHas t body) → HandledHas t body (request_replied t s)
replied_has t body None says = tt
replied_has t body (Some s) says = says

of_rows : (t : AdapterTable) (body : List ℕ) (s : Option Served) → IfSome s (ServedHas t) → IfSome s (NewHas t body)
of_rows t body None says = tt
of_rows t body (Some s) says = reply_weaker (IsOfRow t s.table) (IsOfNew t s.table body) (λ o row. inl row) s.reply says

class3_is_last : (t : AdapterTable) (d : Class3Connection) → (class3_table t d).messaging.class3_connections ≡ t.messaging.class3_connections ++ d ∷ []
unfolding messages_table with_class3
class3_is_last t d = refl

-- the data of the message are a request to open a connection of class 3
record IsMessageOpening (body : List ℕ) (large : Bool) (request : OpenFields) : Type 0 where
  packet : PacketFields
  packet_is : any_packet_reading body ≡ Ok packet
  opens : router_request_reading packet.payload ≡ opening large request
  trigger : is_message_trigger request.trigger ≡ true

-- the request as it is read, and what the device takes it for
class3_has : (t : AdapterTable) (stream : Stream) (body : List ℕ) (large : Bool) (requested request : OpenFields) (c : Check) → IsMessageOpening body large requested → NewHas t body (judged_class3 t stream large request c)
class3_has t stream body large requested request (Some why) is = refusal_either (ReplyHolds (IsOfNew t t body)) t.profile t.rows _ request why (λ fault fails. fails) (λ a. tt)
class3_has t stream body large requested request None is = λ read ids. inr (record {
  packet = is.packet;
  packet_is = is.packet_is;
  large = large;
  request = requested;
  opens = is.opens;
  trigger = is.trigger;
  class3 = opened_class3 t stream request;
  new = class3_is_last t (opened_class3 t stream request);
  o_t = ids.o_t_is;
  t_o = ids.t_o_is;
  o_t_api = ids.o_t_api_is;
  t_o_api = ids.t_o_api_is;
})

open_step : (b : Bool) (t : AdapterTable) (stream : Stream) (body : List ℕ) (packet : PacketFields) (large : Bool) (request : OpenFields) → any_packet_reading body ≡ Ok packet → router_request_reading packet.payload ≡ opening large request → is_message_trigger request.trigger ≡ b → IdsAreDrawn t.ids t.next_id t.rows → IfSome (cond b (Some (served_class3 t stream large request)) (served t stream.peer (opening large request))) (NewHas t body)
unfolding served_class3
open_step true t stream body packet large request reads opens trigger drawn =
    class3_has t stream body large request (whole_request t.profile.description request) (class3_refusal (class3_view t stream.peer request.triad) (whole_request t.profile.description request)) (record { packet = packet; packet_is = reads; opens = opens; trigger = trigger })
open_step false t stream body packet large request reads opens trigger drawn = of_rows t body (served t stream.peer (opening large request)) (served_has t stream.peer (opening large request) drawn)

over_stream_has : (t : AdapterTable) (stream : Stream) (body : List ℕ) (packet : PacketFields) (requested : RouterRequestFields) → any_packet_reading body ≡ Ok packet → router_request_reading packet.payload ≡ requested → IdsAreDrawn t.ids t.next_id t.rows → IfSome (stream_served t stream requested) (NewHas t body)
over_stream_has t stream body packet (opening large request) reads opens drawn = open_step (is_message_trigger request.trigger) t stream body packet large request reads opens refl drawn
over_stream_has t stream body packet nothing reads opens drawn = of_rows t body (served t stream.peer nothing) (served_has t stream.peer nothing drawn)
over_stream_has t stream body packet (refused service why) reads opens drawn = of_rows t body (served t stream.peer (refused service why)) (served_has t stream.peer (refused service why) drawn)
over_stream_has t stream body packet (closing request) reads opens drawn = of_rows t body (served t stream.peer (closing request)) (served_has t stream.peer (closing request) drawn)
over_stream_has t stream body packet (object service class instance attribute rest) reads opens drawn =
    of_rows t body (served t stream.peer (object service class instance attribute rest)) (served_has t stream.peer (object service class instance attribute rest) drawn)

-- what is counted is of the same connection
recounted_new : (t next : AdapterTable) (counters : DeviceCounters) (body : List ℕ) (o : Opened) → IsOfNew t next body o → IsOfNew t (with_counters next counters) body o
recounted_new t next counters body o (inl is) = inl (record { row = is.row; new = is.new; o_t = is.o_t; t_o = is.t_o; o_t_api = is.o_t_api; t_o_api = is.t_o_api })
recounted_new t next counters body o (inr is) = inr (record {
  packet = is.packet;
  packet_is = is.packet_is;
  large = is.large;
  request = is.request;
  opens = is.opens;
  trigger = is.trigger;
  class3 = is.class3;
  new = is.new;
  o_t = is.o_t;
  t_o = is.t_o;
  o_t_api = is.o_t_api;
  t_o_api = is.t_o_api;
})

request_has : (t : AdapterTable) (stream : Stream) (context : ℕ) (body : List ℕ) (packet : PacketFields) (asks : Option OwnRequest) → any_packet_reading body ≡ Ok packet → IdsAreDrawn t.ids t.next_id t.rows → HandledHas t body (request_handled t stream context (router_request_reading packet.payload) asks)
request_has t stream context body packet None reads drawn =
    replied_has t body (counted_once (router_request_reading packet.payload) (stream_served t stream (router_request_reading packet.payload)))
    (counted_keeps (NewHas t body) (λ s counters says. reply_weaker (IsOfNew t s.table body) (IsOfNew t (with_counters s.table counters) body) (recounted_new t s.table counters body) s.reply says)
    (router_request_reading packet.payload) (stream_served t stream (router_request_reading packet.payload)) (over_stream_has t stream body packet (router_request_reading packet.payload) reads refl drawn))
request_has t stream context body packet (Some own) reads drawn =
    either (HandledHas t body) (cannot_ask t stream.peer) (request_replied t (Some (router_refusal t own.service status.ResourceUnavailable))) _ refl tt

packet_has : (t : AdapterTable) (stream : Stream) (context : ℕ) (body : List ℕ) (reading : Result PacketFields ItemFault) → items_for t.profile.description body ≡ reading → IdsAreDrawn t.ids t.next_id t.rows → HandledHas t body (packet_replied t stream context reading)
packet_has t stream context body (Err fault) reads drawn = tt
packet_has t stream context body (Ok packet) reads drawn =
    request_has t stream context body packet (own_of t.profile.objects (router_request_reading packet.payload)) (items_any t.profile.description body packet reads) drawn

itemless_has : (t next : AdapterTable) (body : List ℕ) (reply : Option FrameReply) → IfSome reply IsItemless → IfSome reply (ReplyHas t next body)
itemless_has t next body None none = tt
itemless_has t next body (Some services) none = absurd none
itemless_has t next body (Some (registered session)) none = absurd none
itemless_has t next body (Some other_version) none = absurd none
itemless_has t next body (Some (router_reply reply address)) none = absurd none
itemless_has t next body (Some (frames.refused why)) none = tt
itemless_has t next body (Some (connected connection count text)) none = tt

unit_has : (t : AdapterTable) (stream : Stream) (body : List ℕ) (done : Handled) → IsOfMessages t done → HandledHas t body done
unit_has t stream body done is = itemless_has t done.table body done.reply is.reply

pub handled_has : (t : AdapterTable) (stream : Stream) (echo : RequestHeader) (body : List ℕ) (requested : Command) → IdsAreDrawn t.ids t.next_id t.rows → HandledHas t body (handled t stream echo body requested)
unfolding handled
handled_has t stream echo body command.Nop drawn = tt
handled_has t stream echo body command.ListServices drawn = tt
handled_has t stream echo body command.RegisterSession drawn = register_has t stream body
handled_has t stream echo body command.UnregisterSession drawn = either (HandledHas t body) (has_session stream echo.session) (session_ended t stream) (unanswered t) tt tt
handled_has t stream echo body command.SendRrData drawn =
    either (HandledHas t body) (has_session stream echo.session) _ _ (packet_has t stream echo.context body (items_for t.profile.description body) refl drawn) tt
handled_has t stream echo body command.SendUnitData drawn =
    either (HandledHas t body) (has_session stream echo.session) (unit_replied t stream (connected_items_for t.profile.description body)) (refusal t (outside_session t.profile.description))
    (unit_has t stream body (unit_replied t stream (connected_items_for t.profile.description body)) (unit_of t stream (connected_items_for t.profile.description body))) tt
handled_has t stream echo body command.Other drawn = tt

-- ---- the frame of a reply

-- what items are that read so
pub record PacketSays (Q : Opened → Type 0) (payload : List ℕ) : Type 0 where
  pub opens_nothing : OpensNothing (any_packet_reading payload)
  pub successes : (large : Bool) → SuccessIs Q (packet_answer large (packet_reading payload))

pub none_packet : (Q : Opened → Type 0) (payload : List ℕ) → any_packet_reading payload ≡ Err Bad → PacketSays Q payload
none_packet Q payload is = record {
  opens_nothing = subst OpensNothing (sym is) tt;
  successes = λ large. subst (λ (reading : Result PacketFields ItemFault). SuccessIs Q (packet_answer large reading)) (sym (packet_bad payload is)) tt;
}

pub written_packet : ItemsReadBack → (Q : Opened → Type 0) (payload : List ℕ) (socket : Option SocketAddress) → 1 ≤ length payload → length payload ≤ 65535 → PayloadSays Q payload → PacketSays Q (packet_text payload socket)
written_packet back Q payload socket some few says = record {
  opens_nothing = subst OpensNothing (sym (any_back back payload socket some few)) says.no_opening;
  successes = λ large. subst (λ (reading : Result PacketFields ItemFault). SuccessIs Q (packet_answer large reading)) (sym (back payload socket some few)) (says.successes large);
}

reply_packet : ItemsReadBack → (t next : AdapterTable) (body : List ℕ) (Q : Opened → Type 0) → ((o : Opened) → IsOfNew t next body o → Q o) → (echo : RequestHeader) (reply : FrameReply) → ReplyHas t next body reply → length (message_text (reply_message echo reply)) ≤ 2048 → PacketSays Q (reply_message echo reply).payload
reply_packet back t next body Q more echo (router_reply reply address) says short =
    written_packet back Q (reply_text reply) (option_map socket_of address) (some_bytes reply) (few_bytes (reply_message echo (router_reply reply address)) (reply_text reply) (option_map socket_of address) refl short)
    (reply_says Q reply (reply_weaker (IsOfNew t next body) Q more reply says))
reply_packet back t next body Q more echo services says short = none_packet Q services_text plain_services
reply_packet back t next body Q more echo (registered session) says short = none_packet Q protocol_text plain_protocol
reply_packet back t next body Q more echo other_version says short = none_packet Q protocol_text plain_protocol
reply_packet back t next body Q more echo (frames.refused why) says short = none_packet Q [] plain_none
reply_packet back t next body Q more echo (connected connection count text) says short = none_packet Q (connected_text connection count text) (connected_bad connection count text)

pub message_success : (Q : Opened → Type 0) (m : MessageFields) (large : Bool) → SuccessIs Q (packet_answer large (packet_reading m.payload)) → SuccessIs Q (open_answer large m)
unfolding open_answer
message_success Q m large is =
    either (SuccessIs Q) (m.status == 0) _ (Err (reason.Encap m.status))
    (either (SuccessIs Q) (m.command == 0x006F) (packet_answer large (packet_reading m.payload)) (Err reason.Unreadable) is tt) tt

-- the reply has the sender context of its request; only that to a connected message has none
abbrev HasContext : FrameReply → Type 0
HasContext services = Unit {0}
HasContext (registered session) = Unit {0}
HasContext other_version = Unit {0}
HasContext (router_reply reply address) = Unit {0}
HasContext (frames.refused why) = Unit {0}
HasContext (connected connection count text) = ⊥

context_same : (request : MessageFields) (reply : FrameReply) → HasContext reply → (reply_message (request_header_of request) reply).context ≡ request.context
context_same request services has = refl
context_same request (registered session) has = refl
context_same request other_version has = refl
context_same request (router_reply reply address) has = refl
context_same request (frames.refused why) has = refl
context_same request (connected connection count text) has = absurd has

unconnected_says : ItemsReadBack → (t next : AdapterTable) (bytes : List ℕ) (request : MessageFields) (reply : FrameReply) → HasContext reply → message_reading bytes ≡ Ok request → ReplyHas t next request.payload reply → length (message_text (reply_message (request_header_of request) reply)) ≤ 2048 → (m : MessageFields) → message_reading (message_text (reply_message (request_header_of request) reply)) ≡ Ok m → PacketSays (IsSuccessOf t next bytes m.context) m.payload
unconnected_says back t next bytes request reply has reads says short m is =
    let m0 = reply_message (request_header_of request) reply in
    let same : MessageBack m0 m = message_back m0 m is in
    subst (PacketSays (IsSuccessOf t next bytes m.context)) (sym same.payload)
    (reply_packet back t next request.payload (IsSuccessOf t next bytes m.context)
    (λ o new. record { message = request; reads = reads; context_is = same.context ∙ ap (again w64) (context_same request reply has); new = new })
    (request_header_of request) reply says short)

reply_says_so : ItemsReadBack → (t next : AdapterTable) (bytes : List ℕ) (request : MessageFields) (reply : FrameReply) → message_reading bytes ≡ Ok request → ReplyHas t next request.payload reply → length (message_text (reply_message (request_header_of request) reply)) ≤ 2048 → (m : MessageFields) → message_reading (message_text (reply_message (request_header_of request) reply)) ≡ Ok m → PacketSays (IsSuccessOf t next bytes m.context) m.payload
reply_says_so back t next bytes request services reads says short m is = unconnected_says back t next bytes request services tt reads says short m is
reply_says_so back t next bytes request (registered session) reads says short m is = unconnected_says back t next bytes request (registered session) tt reads says short m is
reply_says_so back t next bytes request other_version reads says short m is = unconnected_says back t next bytes request other_version tt reads says short m is
reply_says_so back t next bytes request (router_reply reply address) reads says short m is = unconnected_says back t next bytes request (router_reply reply address) tt reads says short m is
reply_says_so back t next bytes request (frames.refused why) reads says short m is = unconnected_says back t next bytes request (frames.refused why) tt reads says short m is
reply_says_so back t next bytes request (connected connection count text) reads says short m is =
    let same : MessageBack (reply_message (request_header_of request) (connected connection count text)) m = message_back (reply_message (request_header_of request) (connected connection count text)) m is in
    subst (PacketSays (IsSuccessOf t next bytes m.context)) (sym same.payload)
    (none_packet (IsSuccessOf t next bytes m.context) (connected_text connection count text) (connected_bad connection count text))

-- a frame that says so of each success is no request to open
pub frame_says : (Q : ℕ → Opened → Type 0) (bytes : List ℕ) → ((m : MessageFields) → message_reading bytes ≡ Ok m → PacketSays (Q m.context) m.payload) → SuccessesAre Q bytes × IsNoOpening bytes
frame_says Q bytes says = (λ m is large. message_success (Q m.context) m large ((says m is).successes large), λ m is. (says m is).opens_nothing)

-- a reply's frame has a success only of what the request opened
pub reply_frame_says : ItemsReadBack → (t next : AdapterTable) (bytes : List ℕ) (request : MessageFields) (reply : FrameReply) → message_reading bytes ≡ Ok request → ReplyHas t next request.payload reply → length (message_text (reply_message (request_header_of request) reply)) ≤ 2048 → SuccessesAre (IsSuccessOf t next bytes) (message_text (reply_message (request_header_of request) reply)) × IsNoOpening (message_text (reply_message (request_header_of request) reply))
reply_frame_says back t next bytes request reply reads says short =
    frame_says (IsSuccessOf t next bytes) (message_text (reply_message (request_header_of request) reply)) (reply_says_so back t next bytes request reply reads says short)

-- the reply to an inquiry has no success and no request
pub plain_says : (Q : ℕ → Opened → Type 0) (text : List ℕ) → IsPlainText text → SuccessesAre Q text × IsNoOpening text
plain_says Q text plain = frame_says Q text (λ m is.
    let same : MessageBack plain.message m = message_back plain.message m (ap message_reading (sym plain.is) ∙ is) in
    subst (PacketSays (Q m.context)) (sym same.payload) (none_packet (Q m.context) plain.message.payload plain.bad))

pub plain_context : (text : List ℕ) → IsPlainText text → ContextFits text
plain_context text plain = subst ContextFits (sym plain.is) (context_fits plain.message)
