-- The ids of class 3 connections come with the request that opens one, or are drawn for it: what else changes such connections
-- keeps them.
use Rattle.std.proofs.Common.{◌≡◌, ◌≤◌, ℕ, ◌+◌, ◌==◌, not, nat_lt, Bool, true, false, cond, List, [], ◌∷◌, length, find, Option, Some, None, Result, Ok, Err, IfOk, refl, ap, subst, arith}
use Rattle.std.specs.Option.{IfSome}
use Rattle.std.specs.Str.{bytes_eq}
use Rattle.cip_types.specs.declared.names.ConnId.{ConnId}
use Rattle.cip_types.specs.declared.names.Ms.{Ms}
use Rattle.cip_types.specs.declared.names.Node.{Node}
use Rattle.cip_types.specs.declared.names.Triad.{Triad}
use Rattle.cip_types.specs.Fields.{fields_at}
use Rattle.cip_types.specs.Texts.{Tailed}
use Rattle.cip_datagram.specs.declared.datagram.DatagramFault.{DatagramFault}
use Rattle.cip_datagram.specs.Datagram.{DatagramFields}
use Rattle.cip_datagram.specs.Reading.{datagram_reading}
use Rattle.cip_encap.specs.declared.message.EncapFault.{EncapFault}
use Rattle.cip_encap.specs.declared.packet.ItemFault.{ItemFault}
use Rattle.cip_encap.specs.AnyItems.{any_packet_reading}
use Rattle.cip_encap.specs.Connected.{ConnectedFields}
use Rattle.cip_encap.specs.Message.{MessageFields, header_widths}
use Rattle.cip_encap.specs.Packet.{PacketFields}
use Rattle.cip_encap.specs.Reading.{message_reading}
use Rattle.cip_events.specs.declared.event.Answer.{Answer}
use Rattle.cip_events.specs.declared.event.Event.{Event}
use Rattle.cip_events.specs.declared.event.Event.TheVariants as event
use Rattle.cip_events.specs.declared.event.StepFault.{StepFault}
use Rattle.cip_events.specs.declared.event.StepFault.TheVariants.{NotAllowedNow, TickTooLong, ClockEnd, WrongLength}
use Rattle.cip_events.specs.declared.event.Verdict.TheVariants.{Done, BadFrame}
use Rattle.cip_events.specs.Answers.{plain_answer, is_accepted}
use Rattle.cip_events.specs.Clock.{longest_tick, clock_end}
use Rattle.cip_fwdopen.specs.Close.{CloseFields}
use Rattle.cip_fwdopen.specs.Open.{OpenFields}
use Rattle.cip_netparams.specs.Word.{is_message_trigger}
use Rattle.cip_router.specs.declared.command.Command.{Command}
use Rattle.cip_router.specs.declared.command.Command.TheVariants as command
use Rattle.cip_router.specs.declared.command.EncapStatus.TheVariants as encap
use Rattle.cip_router.specs.declared.refusal.Refusal.{Refusal}
use Rattle.cip_router.specs.declared.refusal.Status.TheVariants as status
use Rattle.cip_router.specs.Commands.{command_of, is_silent}
use Rattle.cip_router.specs.Frames.{RequestHeader, request_header_of, request_header_in, wrong_length_of, frame_fields, protocol_text, frame_reading}
use Rattle.cip_router.specs.Replies.{ReplyFields, own}
use Rattle.cip_router.specs.Requests.{RouterRequestFields, nothing, refused, closing, object, opening, router_request_reading}
use Rattle.messaging.specs.declared.class3.Class3Connection.{Class3Connection}
use Rattle.messaging.specs.declared.requests.Requester.{Requester}
use Rattle.messaging.specs.declared.requests.Requester.TheVariants as asker
use Rattle.messaging.specs.declared.requests.Waiting.{Waiting}
use Rattle.messaging.specs.declared.table.Messaging.{Messaging}
use Rattle.messaging.specs.Changes as changes
use Rattle.messaging.specs.Changes.{with_class3, without_class3, executed, repeated, referred, referred_over, answered, replied}
use Rattle.messaging.specs.Class3Connections.{has_class3_id, has_class3_triad, is_on_stream, is_class3, is_last_message, first_changed, executed_class3, repeated_class3, replied_class3, repeats_last}
use Rattle.messaging.specs.Lemmas.EachOfLemmas.{each_left, each_more}
use Rattle.messaging.specs.Sound.{EachOf}
use Rattle.messaging.specs.Times.{is_late_class3, late_waiting, late_text, late_reply, late_replies, without_late_class3_connections, without_late_waiting, aged}
use Rattle.adapter_table.specs.Intervals.{whole_request}
use Rattle.adapter_table.specs.declared.profile.InputPoint.{InputPoint}
use Rattle.adapter_table.specs.declared.table.AdapterTable.{AdapterTable}
use Rattle.adapter_table.specs.declared.table.Stream.{Stream}
use Rattle.adapter_table.specs.Connections.{Row}
use Rattle.adapter_table.specs.Answering.{class3_keeps, with_reply, respond}
use Rattle.adapter_table.specs.Checks.{Check, Admitted}
use Rattle.adapter_table.specs.Closing.{closed_table}
use Rattle.adapter_table.specs.Connected.{connected_served, fitted_text, next_deadline, service_in}
use Rattle.adapter_table.specs.Datagrams.{is_for, row_delivery, accepted_table, delivered, found_datagram, datagram_of, received}
use Rattle.adapter_table.specs.Class3Opening.{class3_refusal, class3_view, judged_class3, opened_class3, served_class3, stream_served}
use Rattle.adapter_table.specs.Encapsulation.{Handled, items_for, connected_items_for, refusal, unanswered, session_begun, session_ended, register_session, request_replied, request_handled, packet_replied, message_replied, message_served, message_executed, message_found, unit_replied, handled, framed, frame_answer, stream_answer, frame_of, frame}
use Rattle.adapter_table.specs.Inquiries.{inquiry_reply, inquired_by, inquired}
use Rattle.adapter_table.specs.Messages.{messages_table}
use Rattle.adapter_table.specs.Objects.{ObjectAnswer, said, denied, resetting, answering, refusing, unrouted}
use Rattle.adapter_table.specs.Carrying.{object_answer}
use Rattle.adapter_table.specs.Opening.{opened_table}
use Rattle.adapter_table.specs.Own.{OwnRequest, own_of, cannot_ask}
use Rattle.adapter_table.specs.Profiles.{is_at}
use Rattle.adapter_table.specs.Requests.{Next, Served, counted_once, judged_open, admitted_open, served_open, close_of, served_close, known_class3_close, end_of, served_end, router_refusal, object_served, served_object, served}
use Rattle.adapter_table.specs.Rows.{has_triad}
use Rattle.adapter_table.specs.StatedLimits.{limited_admission, is_wrong_closer, is_wrong_ender}
use Rattle.adapter_table.specs.Step.{written_table, changed_table, written, write_of, write, adapter_step}
use Rattle.adapter_table.specs.Streams.{is_stream, is_taken, with_stream, without_stream, has_session, registered_table, stream_opened, cut_of, stream_cut}
use Rattle.adapter_table.specs.Ticks.{clocked_table, expired_table, produced_table, advanced, aged_next, tick}
use Rattle.adapter_table.specs.Lemmas.MessageLemmas.{admitted_class3_is}
use Rattle.adapter_table.specs.Lemmas.CountLemmas.{counted_keeps}
use Rattle.adapter_table.specs.Lemmas.ItemLemmas.{items_hold}
use Rattle.adapter_table.specs.Lemmas.PassiveLemmas.{passive_holds}
use Rattle.adapter_table.specs.Lemmas.PlainLemmas.{counters_hold, ids_hold}
use Rattle.adapter_table.specs.Lemmas.FrameLemmas.{answer_has}
use Rattle.cip_tables.specs.declared.table.DeviceTable.{DeviceTable}
use Rattle.cip_tables.specs.declared.table.DeviceTable.TheVariants.{Adapter, Scanner}
use Rattle.cip_tables.specs.Step.{DeviceNext, as_adapter, as_scanner, step}
use Rattle.cip_tables.specs.Whole.{next_id_of}
use Rattle.scanner_table.specs.Effects as scanners
use Rattle.scanner_table.specs.Step.{scanner_step}
use Rattle.device_laws.specs.Carrying.{Passes, HasClass3Ids, StepsCarryClass3Ids}
use Rattle.device_laws.specs.Ids.{Class3Ids, RequestIds, PacketIds, MessageIds, FrameIds, EventIds, IdsWithin}
use Rattle.device_laws.specs.Lemmas.MessageSteps.{respond_holds}
use Rattle.device_laws.specs.Lemmas.Texts.{either}

-- ---- changes of messages

abbrev Have : (ℕ → Type 0) → Messaging → Type 0
Have P m = EachOf (Class3Ids P) m.class3_connections

changed_step : (P : ℕ → Type 0) (b : Bool) (old new : Class3Connection) (rest later : List Class3Connection) → Class3Ids P old → Class3Ids P new → EachOf (Class3Ids P) rest → EachOf (Class3Ids P) later → EachOf (Class3Ids P) (cond b (new ∷ rest) (old ∷ later))
changed_step P true old new rest later was is all more = (is, all)
changed_step P false old new rest later was is all more = (was, more)

-- a change that leaves the ids of a connection
changed_have : (P : ℕ → Type 0) (test : Class3Connection → Bool) (change : Class3Connection → Class3Connection) → ((d : Class3Connection) → Class3Ids P d → Class3Ids P (change d)) → (connections : List Class3Connection) → EachOf (Class3Ids P) connections → EachOf (Class3Ids P) (first_changed test change connections)
changed_have P test change leaves [] all = tt
changed_have P test change leaves (d ∷ connections) all =
    changed_step P (test d) d (change d) connections (first_changed test change connections) all.0 (leaves d all.0) all.1 (changed_have P test change leaves connections all.1)

replied_have : (P : ℕ → Type 0) (m : Messaging) (id : ConnId) (count : ℕ) (reply : List ℕ) → Have P m → Have P (replied m id count reply)
unfolding replied
replied_have P m id count reply have = changed_have P (is_last_message id count) (replied_class3 reply) (λ d ids. ids) m.class3_connections have

executed_have : (P : ℕ → Type 0) (m : Messaging) (id : ConnId) (count : ℕ) (reply : List ℕ) (deadline : Ms) → Have P m → Have P (executed m id count reply deadline)
unfolding executed
executed_have P m id count reply deadline have = changed_have P (has_class3_id id) (executed_class3 count reply deadline) (λ d ids. ids) m.class3_connections have

repeated_have : (P : ℕ → Type 0) (m : Messaging) (id : ConnId) (deadline : Ms) → Have P m → Have P (repeated m id deadline)
unfolding repeated
repeated_have P m id deadline have = changed_have P (has_class3_id id) (repeated_class3 deadline) (λ d ids. ids) m.class3_connections have

referred_have : (P : ℕ → Type 0) (m : Messaging) (peer : Node) (from : Requester) (service : ℕ) (clock : Ms) → Have P m → Have P (referred m peer from service clock)
unfolding referred
referred_have P m peer from service clock have = have

referred_over_have : (P : ℕ → Type 0) (m : Messaging) (peer : Node) (id : ConnId) (count service : ℕ) (deadline clock : Ms) → Have P m → Have P (referred_over m peer id count service deadline clock)
unfolding referred_over
referred_over_have P m peer id count service deadline clock have =
    referred_have P (executed m id count [] deadline) peer (asker.Class3Connection id count) service clock (executed_have P m id count [] deadline have)

answered_have : (P : ℕ → Type 0) (m : Messaging) (number : ℕ) → Have P m → Have P (answered m number)
unfolding answered
answered_have P m number have = have

closed_have : (P : ℕ → Type 0) (m : Messaging) (triad : Triad) → Have P m → Have P (without_class3 m triad)
unfolding without_class3
closed_have P m triad have = each_left (Class3Ids P) (λ d. not (has_class3_triad triad d)) m.class3_connections have

opened_have : (P : ℕ → Type 0) (m : Messaging) (d : Class3Connection) → Have P m → Class3Ids P d → Have P (with_class3 m d)
unfolding with_class3
opened_have P m d have ids = each_more (Class3Ids P) m.class3_connections d have ids

off_stream_have : (P : ℕ → Type 0) (m : Messaging) (number : ℕ) → Have P m → Have P (changes.without_stream m number)
unfolding changes.without_stream
off_stream_have P m number have = each_left (Class3Ids P) (λ d. not (is_on_stream number d)) m.class3_connections have

keeps_have : (P : ℕ → Type 0) (m : Messaging) (id : ConnId) (count service : ℕ) (reply : ReplyFields) (found : Option Class3Connection) → Have P m → Have P (class3_keeps m id count service reply found)
keeps_have P m id count service reply None have = have
keeps_have P m id count service reply (Some d) have = replied_have P m id count (fitted_text d service reply) have

with_reply_have : (P : ℕ → Type 0) (m : Messaging) (from : Requester) (service : ℕ) (reply : ReplyFields) → Have P m → Have P (with_reply m from service reply)
with_reply_have P m (asker.Peer node) service reply have = have
with_reply_have P m (asker.Stream number context) service reply have = have
with_reply_have P m (asker.Class3Connection id count) service reply have = keeps_have P m id count service reply (find (is_last_message id count) m.class3_connections) have

late_reply_has : (P : ℕ → Type 0) (from : Requester) (service : ℕ) (m : Messaging) → Have P m → Have P (late_reply from service m)
late_reply_has P (asker.Peer node) service m have = have
late_reply_has P (asker.Stream number context) service m have = have
late_reply_has P (asker.Class3Connection id count) service m have = replied_have P m id count (late_text service) have

late_replies_have : (P : ℕ → Type 0) (waiting : List Waiting) (m : Messaging) → Have P m → Have P (late_replies waiting m)
late_replies_have P [] m have = have
late_replies_have P (w ∷ waiting) m have = late_replies_have P waiting (late_reply w.asker w.service m) (late_reply_has P w.asker w.service m have)

left_have : (P : ℕ → Type 0) (clock : Ms) (m : Messaging) → Have P m → Have P (without_late_class3_connections clock m)
unfolding without_late_class3_connections
left_have P clock m have = each_left (Class3Ids P) (λ d. not (is_late_class3 clock d)) m.class3_connections have

early_have : (P : ℕ → Type 0) (clock : Ms) (m : Messaging) → Have P m → Have P (without_late_waiting clock m)
unfolding without_late_waiting
early_have P clock m have = late_replies_have P (late_waiting clock m) _ have

aged_have : (P : ℕ → Type 0) (clock : Ms) (m : Messaging) → Have P m → Have P (aged clock m)
unfolding aged
aged_have P clock m have = early_have P clock (without_late_class3_connections clock m) (left_have P clock m have)

-- ---- tables

-- if the table drew no more than these ids, its class 3 connections have the property
abbrev TableHas : (ℕ → Type 0) → ℕ → AdapterTable → Type 0
TableHas P to t = t.next_id ≤ to → Have P t.messaging

abbrev ServedHas : (ℕ → Type 0) → ℕ → Served → Type 0
ServedHas P to s = TableHas P to s.table

abbrev AnyHas : (ℕ → Type 0) → ℕ → Option Served → Type 0
AnyHas P to s = IfSome s (ServedHas P to)

messages_have : (P : ℕ → Type 0) (to : ℕ) (t : AdapterTable) (next_id : ℕ) (m : Messaging) → Have P m → TableHas P to (messages_table t next_id m)
unfolding messages_table
messages_have P to t next_id m have = λ below. have

open_has : (P : ℕ → Type 0) (to : ℕ) (t : AdapterTable) (peer : Node) (large : Bool) (request : OpenFields) (judged : Result Admitted Refusal) → Have P t.messaging → ServedHas P to (judged_open t peer large request judged)
unfolding admitted_open opened_table
open_has P to t peer large request (Err why) have = λ below. have
open_has P to t peer large request (Ok admitted) have = λ below. have

close_has : (P : ℕ → Type 0) (to : ℕ) (t : AdapterTable) (peer : Node) (request : CloseFields) (found : Option Row) → Have P t.messaging → ServedHas P to (close_of t peer request found)
unfolding closed_table
close_has P to t peer request None have = λ below. have
close_has P to t peer request (Some row) have = either (ServedHas P to) (is_wrong_closer t.profile.limits peer row) _ _ (λ below. have) (λ below. have)

end_has : (P : ℕ → Type 0) (to : ℕ) (t : AdapterTable) (peer : Node) (request : CloseFields) (found : Option Class3Connection) → Have P t.messaging → ServedHas P to (end_of t peer request found)
unfolding served_close
end_has P to t peer request None have = close_has P to t peer request (find (has_triad request.triad) t.rows) have
end_has P to t peer request (Some d) have =
    either (ServedHas P to) (is_wrong_ender t.profile.limits peer d) _ (known_class3_close t d) (λ below. have)
    (messages_have P to t t.next_id (without_class3 t.messaging d.triad) (closed_have P t.messaging d.triad have))

object_has : (P : ℕ → Type 0) (to : ℕ) (t : AdapterTable) (service : ℕ) (answer : ObjectAnswer) → Have P t.messaging → ServedHas P to (object_served t service answer)
object_has P to t service (said by value) have = λ below. have
object_has P to t service (denied why) have = λ below. have
object_has P to t service (resetting kind) have = λ below. have
object_has P to t service (answering by general content) have = λ below. have
object_has P to t service (refusing named why) have = λ below. have
object_has P to t service (unrouted words) have = λ below. have

served_has : (P : ℕ → Type 0) (to : ℕ) (t : AdapterTable) (peer : Node) (request : RouterRequestFields) → Have P t.messaging → AnyHas P to (served t peer request)
unfolding served_open served_end served_object
served_has P to t peer nothing have = tt
served_has P to t peer (refused service why) have = λ below. have
served_has P to t peer (closing request) have = end_has P to t peer request (find (has_class3_triad request.triad) t.messaging.class3_connections) have
served_has P to t peer (object service class instance attribute body) have = object_has P to t service (object_answer t service class instance attribute body) have
served_has P to t peer (opening large request) have =
    open_has P to t peer large (whole_request t.profile.description request) (limited_admission t peer (whole_request t.profile.description request)) have

-- the ids that the step draws have the property
abbrev Draws : (ℕ → Type 0) → ℕ → AdapterTable → Type 0
Draws P to t = IdsWithin P t.ids t.next_id to

class3_judged_has : (P : ℕ → Type 0) (to : ℕ) (t : AdapterTable) (stream : Stream) (large : Bool) (request : OpenFields) (judged : Check) → class3_refusal (class3_view t stream.peer request.triad) request ≡ judged → Draws P to t → P request.t_o_id.0 → Have P t.messaging → ServedHas P to (judged_class3 t stream large request judged)
unfolding messages_table opened_class3
class3_judged_has P to t stream large request (Some why) is drawn requested have = λ below. have
class3_judged_has P to t stream large request None is drawn requested have =
    let left = (admitted_class3_is t stream.peer request is).ids in
    λ below. opened_have P t.messaging (opened_class3 t stream request) have (drawn t.next_id (omega arith) (omega (arith, below)) (omega (arith, left)), requested)

class3_has : (P : ℕ → Type 0) (to : ℕ) (t : AdapterTable) (stream : Stream) (large : Bool) (request : OpenFields) → Draws P to t → P request.t_o_id.0 → Have P t.messaging → ServedHas P to (served_class3 t stream large request)
unfolding served_class3
class3_has P to t stream large request drawn requested have =
    class3_judged_has P to t stream large (whole_request t.profile.description request) (class3_refusal (class3_view t stream.peer request.triad) (whole_request t.profile.description request)) refl drawn requested have

over_has : (P : ℕ → Type 0) (to : ℕ) (t : AdapterTable) (stream : Stream) (request : RouterRequestFields) → Draws P to t → RequestIds P request → Have P t.messaging → AnyHas P to (stream_served t stream request)
over_has P to t stream (opening large request) drawn ids have =
    either (AnyHas P to) (is_message_trigger request.trigger) (Some (served_class3 t stream large request)) (served t stream.peer (opening large request))
    (class3_has P to t stream large request drawn ids have) (served_has P to t stream.peer (opening large request) have)
over_has P to t stream nothing drawn ids have = served_has P to t stream.peer nothing have
over_has P to t stream (refused service why) drawn ids have = served_has P to t stream.peer (refused service why) have
over_has P to t stream (closing request) drawn ids have = served_has P to t stream.peer (closing request) have
over_has P to t stream (object service class instance attribute body) drawn ids have = served_has P to t stream.peer (object service class instance attribute body) have

-- ---- requests and messages over a stream

abbrev HandledHas : (ℕ → Type 0) → ℕ → Handled → Type 0
HandledHas P to done = TableHas P to done.table

replied_has : (P : ℕ → Type 0) (to : ℕ) (t : AdapterTable) (s : Option Served) → Have P t.messaging → AnyHas P to s → HandledHas P to (request_replied t s)
replied_has P to t None have has = λ below. have
replied_has P to t (Some s) have has = has

request_has : (P : ℕ → Type 0) (to : ℕ) (t : AdapterTable) (stream : Stream) (context : ℕ) (request : RouterRequestFields) (asks : Option OwnRequest) → Draws P to t → RequestIds P request → Have P t.messaging → HandledHas P to (request_handled t stream context request asks)
request_has P to t stream context request None drawn ids have =
    replied_has P to t (counted_once request (stream_served t stream request)) have
    (counted_keeps (ServedHas P to) (λ s counters has. has) request (stream_served t stream request) (over_has P to t stream request drawn ids have))
request_has P to t stream context request (Some asks) drawn ids have =
    either (HandledHas P to) (cannot_ask t stream.peer) (request_replied t (Some (router_refusal t asks.service status.ResourceUnavailable))) _ (λ below. have)
    (messages_have P to t t.next_id _ (referred_have P t.messaging stream.peer (asker.Stream stream.number context) asks.service t.clock have))

packet_has : (P : ℕ → Type 0) (to : ℕ) (t : AdapterTable) (stream : Stream) (context : ℕ) (reading : Result PacketFields ItemFault) → Draws P to t → PacketIds P reading → Have P t.messaging → HandledHas P to (packet_replied t stream context reading)
packet_has P to t stream context (Err fault) drawn ids have = λ below. have
packet_has P to t stream context (Ok packet) drawn ids have =
    request_has P to t stream context (router_request_reading packet.payload) (own_of t.profile.objects (router_request_reading packet.payload)) drawn ids.requested have

message_replied_has : (P : ℕ → Type 0) (to : ℕ) (d : Class3Connection) (count service : ℕ) (s : Served) → ServedHas P to s → HandledHas P to (message_replied d count service s)
unfolding messages_table
message_replied_has P to d count service s has = λ below. executed_have P s.table.messaging d.o_t_id count (fitted_text d service s.reply) (next_deadline s.table d) (has below)

connected_has : (P : ℕ → Type 0) (to : ℕ) (t : AdapterTable) (peer : Node) (request : RouterRequestFields) → Have P t.messaging → AnyHas P to (connected_served t peer request)
connected_has P to t peer (opening large request) have = λ below. have
connected_has P to t peer (closing request) have = λ below. have
connected_has P to t peer nothing have = served_has P to t peer nothing have
connected_has P to t peer (refused service why) have = served_has P to t peer (refused service why) have
connected_has P to t peer (object service class instance attribute body) have = served_has P to t peer (object service class instance attribute body) have

message_served_has : (P : ℕ → Type 0) (to : ℕ) (t : AdapterTable) (d : Class3Connection) (count service : ℕ) (s : Option Served) → Have P t.messaging → AnyHas P to s → HandledHas P to (message_served t d count service s)
message_served_has P to t d count service None have has = λ below. have
message_served_has P to t d count service (Some s) have has = message_replied_has P to d count service s has

message_executed_has : (P : ℕ → Type 0) (to : ℕ) (t : AdapterTable) (d : Class3Connection) (count service : ℕ) (request : RouterRequestFields) (asks : Option OwnRequest) → Have P t.messaging → HandledHas P to (message_executed t d count service request asks)
message_executed_has P to t d count service request None have =
    message_served_has P to t d count service (counted_once request (connected_served t d.peer request)) have
    (counted_keeps (ServedHas P to) (λ s counters has. has) request (connected_served t d.peer request) (connected_has P to t d.peer request have))
message_executed_has P to t d count service request (Some asks) have =
    either (HandledHas P to) (cannot_ask t d.peer) (message_replied d count asks.service (router_refusal t asks.service status.ResourceUnavailable)) _
    (message_replied_has P to d count asks.service (router_refusal t asks.service status.ResourceUnavailable) (λ below. have))
    (messages_have P to t t.next_id _ (referred_over_have P t.messaging d.peer d.o_t_id count asks.service (next_deadline t d) t.clock have))

message_has : (P : ℕ → Type 0) (to : ℕ) (t : AdapterTable) (count : ℕ) (message : List ℕ) (found : Option Class3Connection) → Have P t.messaging → HandledHas P to (message_found t count message found)
message_has P to t count message None have = λ below. have
message_has P to t count message (Some d) have =
    either (HandledHas P to) (nat_lt d.o_t_size (2 + length message)) _ _ (λ below. have)
    (either (HandledHas P to) (repeats_last d count) _ _
    (messages_have P to t t.next_id _ (repeated_have P t.messaging d.o_t_id (next_deadline t d) have))
    (message_executed_has P to t d count (service_in message) (router_request_reading message) (own_of t.profile.objects (router_request_reading message)) have))

unit_has : (P : ℕ → Type 0) (to : ℕ) (t : AdapterTable) (stream : Stream) (reading : Result ConnectedFields ItemFault) → Have P t.messaging → HandledHas P to (unit_replied t stream reading)
unit_has P to t stream (Err fault) have = λ below. have
unit_has P to t stream (Ok unit) have =
    message_has P to t unit.count unit.message (find (is_class3 stream.number (record { 0 = unit.connection })) t.messaging.class3_connections) have

stream_has : (P : ℕ → Type 0) (t : AdapterTable) (number : ℕ) → Have P t.messaging → Have P (without_stream t number).messaging
unfolding without_stream
stream_has P t number have = off_stream_have P t.messaging number have

register_has : (P : ℕ → Type 0) (to : ℕ) (t : AdapterTable) (stream : Stream) (body : List ℕ) → Have P t.messaging → HandledHas P to (register_session t stream body)
unfolding registered_table
register_has P to t stream body have =
    either (HandledHas P to) (not (length body == 4)) _ _ (λ below. have)
    (either (HandledHas P to) (not (bytes_eq body protocol_text)) _ _ (λ below. have)
    (either (HandledHas P to) stream.registered (refusal t encap.InvalidCommand) (session_begun t stream) (λ below. have) (λ below. have)))

handled_has : (P : ℕ → Type 0) (to : ℕ) (t : AdapterTable) (stream : Stream) (echo : RequestHeader) (body : List ℕ) (kind : Command) → Draws P to t → PacketIds P (any_packet_reading body) → Have P t.messaging → HandledHas P to (handled t stream echo body kind)
unfolding handled
handled_has P to t stream echo body command.Nop drawn ids have = λ below. have
handled_has P to t stream echo body command.ListServices drawn ids have = λ below. have
handled_has P to t stream echo body command.RegisterSession drawn ids have = register_has P to t stream body have
handled_has P to t stream echo body command.UnregisterSession drawn ids have =
    either (HandledHas P to) (has_session stream echo.session) (session_ended t stream) (unanswered t) (λ below. stream_has P t stream.number have) (λ below. have)
handled_has P to t stream echo body command.SendRrData drawn ids have =
    either (HandledHas P to) (has_session stream echo.session) _ _ (packet_has P to t stream echo.context (items_for t.profile.description body) drawn (items_hold (PacketIds P) (λ fault. tt) t.profile.description body ids) have) (λ below. have)
handled_has P to t stream echo body command.SendUnitData drawn ids have =
    either (HandledHas P to) (has_session stream echo.session) _ _ (unit_has P to t stream (connected_items_for t.profile.description body) have) (λ below. have)
handled_has P to t stream echo body command.Other drawn ids have = λ below. have

-- ---- frames

abbrev NextHas : (ℕ → Type 0) → ℕ → Next → Type 0
NextHas P to next = TableHas P to next.1

abbrev OkHas : (ℕ → Type 0) → ℕ → Result Next StepFault → Type 0
OkHas P to outcome = IfOk outcome (NextHas P to)

misfit_has : (P : ℕ → Type 0) (to : ℕ) (t : AdapterTable) (stream : Stream) (header : Option Tailed) → Have P t.messaging → NextHas P to (frame_answer t stream (wrong_length_of header))
misfit_has P to t stream None have = λ below. have
misfit_has P to t stream (Some h) have =
    either (NextHas P to) (is_silent (command_of (request_header_in h.0).command)) (plain_answer BadFrame, t) (framed stream.number (request_header_in h.0) (refusal t encap.InvalidLength)) (λ below. have) (λ below. have)

read_has : (P : ℕ → Type 0) (to : ℕ) (t : AdapterTable) (stream : Stream) (header : Option Tailed) (reading : Result MessageFields EncapFault) → Draws P to t → MessageIds P reading → Have P t.messaging → NextHas P to (frame_answer t stream (frame_fields header reading))
read_has P to t stream header (Err why) drawn ids have = misfit_has P to t stream header have
read_has P to t stream header (Ok m) drawn ids have = handled_has P to t stream (request_header_of m) m.payload (command_of m.command) drawn ids have

bytes_have : (P : ℕ → Type 0) (to : ℕ) (t : AdapterTable) (stream : Stream) (bytes : List ℕ) → Draws P to t → FrameIds P bytes → Have P t.messaging → NextHas P to (frame_answer t stream (frame_reading bytes))
unfolding frame_reading
bytes_have P to t stream bytes drawn ids have = read_has P to t stream (fields_at header_widths bytes) (message_reading bytes) drawn ids have

stream_answer_has : (P : ℕ → Type 0) (to : ℕ) (t : AdapterTable) (stream : Stream) (bytes : List ℕ) (reply : Option (List ℕ)) → Draws P to t → FrameIds P bytes → Have P t.messaging → NextHas P to (stream_answer t stream bytes reply)
stream_answer_has P to t stream bytes None drawn ids have =
    answer_has (NextHas P to) t stream bytes (bytes_have P to t stream bytes drawn ids have) (misfit_has P to t stream (fields_at header_widths bytes) have) (λ below. have)
stream_answer_has P to t stream bytes (Some reply) drawn ids have = λ below. have

frame_has : (P : ℕ → Type 0) (to : ℕ) (t : AdapterTable) (bytes : List ℕ) (found : Option Stream) → Draws P to t → FrameIds P bytes → Have P t.messaging → OkHas P to (frame_of t bytes found)
frame_has P to t bytes None drawn ids have = tt
frame_has P to t bytes (Some stream) drawn ids have = stream_answer_has P to t stream bytes (inquiry_reply t bytes) drawn ids have

-- ---- other events

inquired_has : (P : ℕ → Type 0) (to : ℕ) (t : AdapterTable) (peer : Node) (reply : Option (List ℕ)) → Have P t.messaging → NextHas P to (inquired_by t peer reply)
inquired_has P to t peer None have = λ below. have
inquired_has P to t peer (Some reply) have = λ below. have

advanced_has : (P : ℕ → Type 0) (t : AdapterTable) (ms : ℕ) → Have P t.messaging → Have P (advanced (clocked_table t ms)).1.messaging
unfolding clocked_table expired_table produced_table
advanced_has P t ms have = have

aged_has : (P : ℕ → Type 0) (to : ℕ) (next : Next) → Have P next.1.messaging → NextHas P to (aged_next next)
aged_has P to next have = messages_have P to next.1 next.1.next_id _ (aged_have P next.1.clock next.1.messaging have)

tick_has : (P : ℕ → Type 0) (to : ℕ) (t : AdapterTable) (ms : ℕ) → Have P t.messaging → OkHas P to (tick t ms)
unfolding tick
tick_has P to t ms have =
    either (OkHas P to) (nat_lt longest_tick ms) (Err TickTooLong) _ tt
    (either (OkHas P to) (nat_lt clock_end (t.clock.0 + ms)) (Err ClockEnd) (Ok (aged_next (advanced (clocked_table t ms)))) tt (aged_has P to (advanced (clocked_table t ms)) (advanced_has P t ms have)))

respond_has : (P : ℕ → Type 0) (to : ℕ) (t : AdapterTable) (number general : ℕ) (bytes : List ℕ) → Have P t.messaging → OkHas P to (respond t number general bytes)
respond_has P to t number general bytes have = respond_holds (OkHas P to) t number general bytes (λ why. tt) (λ w found few.
    messages_have P to t t.next_id _ (answered_have P (with_reply t.messaging w.asker w.service (own w.service general bytes)) w.number (with_reply_have P t.messaging w.asker w.service (own w.service general bytes) have)))

found_has : (P : ℕ → Type 0) (to : ℕ) (t : AdapterTable) (peer : Node) (d : DatagramFields) (found : Option Row) → Have P t.messaging → NextHas P to (found_datagram t peer d found)
unfolding accepted_table
found_has P to t peer d None have = λ below. have
found_has P to t peer d (Some row) have =
    let delivery = row_delivery t.profile t.clock row d in
    either (NextHas P to) (is_accepted (row_delivery t.profile t.clock row d)) (delivered delivery (accepted_table t peer d row delivery)) (delivered delivery t) (λ below. have) (λ below. have)

datagram_has : (P : ℕ → Type 0) (to : ℕ) (t : AdapterTable) (peer : Node) (reading : Result DatagramFields DatagramFault) → Have P t.messaging → NextHas P to (datagram_of t peer reading)
datagram_has P to t peer (Err fault) have = λ below. have
datagram_has P to t peer (Ok d) have = found_has P to t peer d (find (is_for peer d.connection) t.rows) have

write_has : (P : ℕ → Type 0) (to : ℕ) (t : AdapterTable) (point : ℕ) (bytes : List ℕ) (found : Option InputPoint) → Have P t.messaging → OkHas P to (write_of t point bytes found)
unfolding written_table changed_table
write_has P to t point bytes None have = tt
write_has P to t point bytes (Some input) have =
    either (OkHas P to) (length bytes == input.len) (Ok (written (written_table t point bytes) point bytes)) (Err WrongLength) (λ below. have) tt

cut_has : (P : ℕ → Type 0) (to : ℕ) (t : AdapterTable) (found : Option Stream) → Have P t.messaging → OkHas P to (cut_of t found)
cut_has P to t None have = tt
cut_has P to t (Some stream) have = λ below. stream_has P t stream.number have

adapter_has : (P : ℕ → Type 0) (to : ℕ) (t : AdapterTable) (happens : Event) → Draws P to t → EventIds P happens → Have P t.messaging → OkHas P to (adapter_step t happens)
unfolding received inquired write frame stream_cut stream_opened with_stream
adapter_has P to t (event.Request peer bytes) drawn ids have = absurd ids
adapter_has P to t (event.StreamOpened number peer) drawn ids have =
    either (OkHas P to) (is_taken t.streams number) (Err NotAllowedNow) (Ok (plain_answer Done, with_stream t number peer)) tt (λ below. have)
adapter_has P to t (event.Frame number bytes) drawn ids have = frame_has P to t bytes (find (is_stream number) t.streams) drawn ids have
adapter_has P to t (event.StreamCut number) drawn ids have = cut_has P to t (find (is_stream number) t.streams) have
adapter_has P to t (event.Datagram peer bytes) drawn ids have = datagram_has P to t peer (datagram_reading bytes) have
adapter_has P to t (event.Inquiry peer bytes) drawn ids have = inquired_has P to t peer (inquiry_reply t bytes) have
adapter_has P to t (event.Write point bytes) drawn ids have = write_has P to t point bytes (find (is_at point) t.profile.inputs) have
adapter_has P to t (event.Tick ms) drawn ids have = tick_has P to t ms have
adapter_has P to t (event.Respond number general bytes) drawn ids have = respond_has P to t number general bytes have
adapter_has P to t (event.Counters bytes) drawn ids have = counters_hold (OkHas P to) t bytes (λ why. tt) (λ below. have)
adapter_has P to t (event.Ids block) drawn ids have = ids_hold (OkHas P to) t block (λ why. tt) (λ may below. have)
adapter_has P to t other drawn ids have = passive_holds (OkHas P to) t (λ why. tt) (λ verdict below. have) other refl

-- ---- the law

same_next : (x y : DeviceNext) → ◌≡◌ {A = Result DeviceNext StepFault} (Ok x) (Ok y) → x.1 ≡ y.1
same_next x y e = let same : x ≡ y = cc in ap (λ (p : DeviceNext). p.1) same

of_adapter : (ids : ℕ → Bool) (outcome : Result Next StepFault) (answer : Answer) (next : DeviceTable) → as_adapter outcome ≡ Ok (answer, next) → OkHas (Passes ids) (next_id_of next) outcome → HasClass3Ids ids next
of_adapter ids (Err why) answer next is has = absurd (let e = is in cc)
of_adapter ids (Ok n) answer next is has =
    let same : Adapter n.1 ≡ next = same_next (n.0, Adapter n.1) (answer, next) is in
    let counts : next_id_of (Adapter n.1) ≡ next_id_of next = ap next_id_of same in
    subst (HasClass3Ids ids) same (has (omega (arith, counts)))

of_scanner : (ids : ℕ → Bool) (outcome : Result scanners.Next StepFault) (answer : Answer) (next : DeviceTable) → as_scanner outcome ≡ Ok (answer, next) → HasClass3Ids ids next
of_scanner ids (Err why) answer next is = absurd (let e = is in cc)
of_scanner ids (Ok n) answer next is = subst (HasClass3Ids ids) (same_next (n.0, Scanner n.1) (answer, next) is) tt

pub steps_carry_class3 : StepsCarryClass3Ids
unfolding step
steps_carry_class3 ids (Adapter t) happens answer next is drawn event_ids have =
    of_adapter ids (adapter_step t happens) answer next is (adapter_has (Passes ids) (next_id_of next) t happens drawn event_ids have)
steps_carry_class3 ids (Scanner t) happens answer next is drawn event_ids have = of_scanner ids (scanner_step t happens) answer next is
