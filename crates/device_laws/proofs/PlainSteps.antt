-- Plain devices stay plain, and send plain frames.
use Rattle.std.proofs.Common.{◌≡◌, ℕ, ◌+◌, ◌==◌, not, nat_lt, Bool, true, false, cond, List, [], ◌∷◌, ◌++◌, length, filter, find, Option, Some, None, Result, Ok, Err, IfOk, refl, sym, ◌∙◌, ap, subst, eqb-true}
use Rattle.std.specs.List.{AllByRecursion, flat_map}
use Rattle.std.specs.Option.{IfSome}
use Rattle.std.specs.Str.{bytes_eq}
use Rattle.base_lemmas.specs.Lists.{found_passes}
use Rattle.cip_types.specs.declared.names.ConnId.{ConnId}
use Rattle.cip_types.specs.declared.names.Ms.{Ms}
use Rattle.cip_types.specs.declared.names.Node.{Node}
use Rattle.cip_types.specs.declared.names.Triad.{Triad}
use Rattle.cip_types.specs.Texts.{Tailed}
use Rattle.cip_types.specs.Fields.{fields_at}
use Rattle.cip_datagram.specs.declared.datagram.DatagramFault.{DatagramFault}
use Rattle.cip_datagram.specs.Datagram.{DatagramFields}
use Rattle.cip_datagram.specs.Reading.{datagram_reading}
use Rattle.cip_encap.specs.declared.message.EncapFault.{EncapFault}
use Rattle.cip_encap.specs.declared.packet.ItemFault.{ItemFault}
use Rattle.cip_encap.specs.Connected.{ConnectedFields}
use Rattle.cip_encap.specs.AnyItems.{any_packet_reading}
use Rattle.cip_encap.specs.Message.{MessageFields, header_widths}
use Rattle.cip_encap.specs.Packet.{PacketFields}
use Rattle.cip_encap.specs.Reading.{message_reading}
use Rattle.cip_encap.specs.ReadsBack.{ItemsReadBack}
use Rattle.cip_events.specs.declared.event.Answer.{Answer}
use Rattle.cip_events.specs.declared.event.Event.{Event}
use Rattle.cip_events.specs.declared.event.Event.TheVariants as event
use Rattle.cip_events.specs.declared.event.Frame.{Frame}
use Rattle.cip_events.specs.declared.event.StepFault.{StepFault}
use Rattle.cip_events.specs.declared.event.StepFault.TheVariants.{NotAllowedNow, TickTooLong, ClockEnd, WrongLength}
use Rattle.cip_events.specs.declared.event.Verdict.TheVariants.{Done, BadFrame}
use Rattle.cip_events.specs.Answers.{plain_answer, is_accepted}
use Rattle.cip_events.specs.Clock.{longest_tick, clock_end}
use Rattle.cip_fwdopen.specs.Close.{CloseFields}
use Rattle.cip_fwdopen.specs.Open.{OpenFields}
use Rattle.cip_netparams.specs.Word.{is_message_trigger}
use Rattle.cip_router.specs.declared.command.Command.{Command}
use Rattle.cip_router.specs.declared.command.Command.TheVariants as command
use Rattle.cip_router.specs.declared.command.EncapStatus.TheVariants as encap
use Rattle.cip_router.specs.declared.refusal.Refusal.{Refusal}
use Rattle.cip_router.specs.declared.refusal.Status.TheVariants as status
use Rattle.cip_router.specs.Commands.{command_of, is_silent}
use Rattle.cip_router.specs.Frames.{RequestHeader, request_header_of, request_header_in, wrong_length_of, frame_fields, FrameReply, router_reply, connected, protocol_text, frame_reading}
use Rattle.cip_router.specs.Replies.{ReplyFields, own}
use Rattle.cip_router.specs.Requests.{RouterRequestFields, nothing, refused, closing, object, opening, router_request_reading}
use Rattle.messaging.specs.declared.class3.Class3Connection.{Class3Connection}
use Rattle.messaging.specs.declared.requests.Requester.{Requester}
use Rattle.messaging.specs.declared.requests.Requester.TheVariants as asker
use Rattle.messaging.specs.declared.requests.Waiting.{Waiting}
use Rattle.messaging.specs.declared.table.Messaging.{Messaging}
use Rattle.messaging.specs.Askers.{is_over_stream}
use Rattle.messaging.specs.Changes as changes
use Rattle.messaging.specs.Changes.{can_be_answered, referred_elsewhere, has_request_number, waiting_for, with_class3_connections, with_class3, without_class3, executed, repeated, referred, referred_over, answered, replied}
use Rattle.messaging.specs.Class3Connections.{has_class3_id, has_class3_triad, is_on_stream, is_class3, is_last_message, first_changed, executed_class3, repeats_last}
use Rattle.messaging.specs.Lemmas.EachOfLemmas.{each_left, each_more, each_weaker}
use Rattle.messaging.specs.Sound.{EachOf}
use Rattle.messaging.specs.Times.{on_time, without_late_class3_connections, is_late_request, late_waiting, late_text, late_reply, late_replies, without_late_waiting, aged}
use Rattle.adapter_table.specs.Intervals.{whole_request}
use Rattle.adapter_table.specs.declared.profile.InputPoint.{InputPoint}
use Rattle.adapter_table.specs.declared.table.AdapterTable.{AdapterTable}
use Rattle.adapter_table.specs.declared.table.Stream.{Stream}
use Rattle.adapter_table.specs.Connections.{Row}
use Rattle.adapter_table.specs.Answering.{class3_frames, route_frames, rr_header, unit_header, class3_keeps, with_reply, respond}
use Rattle.adapter_table.specs.Checks.{Check, Admitted}
use Rattle.adapter_table.specs.Closing.{closed_table}
use Rattle.adapter_table.specs.Connected.{connected_served, fitted_text, next_deadline, service_in}
use Rattle.adapter_table.specs.Datagrams.{is_for, row_delivery, accepted_table, delivered, found_datagram, datagram_of, received}
use Rattle.adapter_table.specs.Class3Opening.{class3_refusal, class3_view, judged_class3, opened_class3, served_class3, stream_served}
use Rattle.adapter_table.specs.Encapsulation.{Handled, items_for, connected_items_for, refusal, unanswered, session_begun, session_ended, register_session, request_replied, request_handled, packet_replied, message_replied, message_served, message_executed, message_found, unit_replied, handled, reply_frames, framed, frame_answer, stream_answer, frame_of, frame}
use Rattle.adapter_table.specs.Inquiries.{inquiry_reply, inquired_by, inquired}
use Rattle.adapter_table.specs.Messages.{messages_table}
use Rattle.adapter_table.specs.Objects.{ObjectAnswer, said, denied, resetting, answering, refusing, unrouted}
use Rattle.adapter_table.specs.Carrying.{object_answer}
use Rattle.adapter_table.specs.Opening.{opened_table}
use Rattle.adapter_table.specs.Own.{OwnRequest, own_of, cannot_ask, is_own_class}
use Rattle.adapter_table.specs.Profiles.{is_at}
use Rattle.adapter_table.specs.Requests.{Next, Served, counted_once, judged_open, admitted_open, served_open, close_of, served_close, known_class3_close, end_of, served_end, router_refusal, object_served, served_object, served}
use Rattle.adapter_table.specs.Rows.{has_triad}
use Rattle.adapter_table.specs.StatedLimits.{limited_admission, is_wrong_closer, is_wrong_ender}
use Rattle.adapter_table.specs.Step.{written_table, changed_table, written, write_of, write, adapter_step}
use Rattle.adapter_table.specs.Streams.{is_stream, is_taken, with_stream, without_stream, has_session, registered_table, stream_opened, cut_of, stream_cut}
use Rattle.adapter_table.specs.Ticks.{clocked_table, expired_table, produced_table, advanced, late_frames, aged_next, tick}
use Rattle.adapter_table.specs.Lemmas.CountLemmas.{counted_keeps}
use Rattle.adapter_table.specs.Lemmas.ItemLemmas.{items_hold}
use Rattle.adapter_table.specs.Lemmas.PassiveLemmas.{passive_holds}
use Rattle.adapter_table.specs.Lemmas.PlainLemmas.{counters_hold, ids_hold}
use Rattle.adapter_table.specs.Lemmas.FrameLemmas.{answer_has}
use Rattle.answer_sizes.specs.Sizes.{IsShortFrame, IsSmall, AnswersAreSmall}
use Rattle.cip_tables.specs.declared.table.DeviceTable.{DeviceTable}
use Rattle.cip_tables.specs.declared.table.DeviceTable.TheVariants.{Adapter, Scanner}
use Rattle.cip_tables.specs.Step.{DeviceNext, as_adapter, step}
use Rattle.device_laws.specs.Lemmas.InquiryTexts.{IsPlainText, inquiry_plain}
use Rattle.device_laws.specs.Lemmas.Lists.{all_both}
use Rattle.device_laws.specs.Lemmas.MessageSteps.{respond_holds}
use Rattle.device_laws.specs.Lemmas.Texts.{either}
use Rattle.device_laws.specs.Plain.{HasPlainService, PacketHasPlainService, MessageHasPlainService, FrameHasPlainService, IsPlainFrame, SendsPlainly, ArePlain, IsPlainDevice, IsPlainEvent, PlainDevicesStayPlain}
use Rattle.device_laws.specs.Replies.{IsPlainService, PlainFor, IsOfStream}
use Rattle.device_laws.proofs.PlainTexts.{message_plain, bad_plain, frame_reply_plain}
use Rattle.device_laws.proofs.ScannerPlain.{scanner_plain}

-- ---- requests that wait

-- a request that waits is plain for these streams, and came over a stream
record IsRequestedPlainly (ours : ℕ → Bool) (w : Waiting) : Type 0 where
  service : PlainFor ours w.asker w.service
  over : IsOfStream w.asker

abbrev AreRequested : (ℕ → Bool) → Messaging → Type 0
AreRequested ours m = EachOf (IsRequestedPlainly ours) m.waiting

both_requested : (ours : ℕ → Bool) (waiting : List Waiting) → EachOf (λ (w : Waiting). PlainFor ours w.asker w.service) waiting → EachOf (λ (w : Waiting). IsOfStream w.asker) waiting → EachOf (IsRequestedPlainly ours) waiting
both_requested ours [] services over = tt
both_requested ours (w ∷ waiting) services over = (record { service = services.0; over = over.0 }, both_requested ours waiting services.1 over.1)

requested_of : (ours : ℕ → Bool) (m : Messaging) → ArePlain ours m → AreRequested ours m
requested_of ours m plain = both_requested ours m.waiting plain.services plain.over

plain_of : (ours : ℕ → Bool) (m : Messaging) → AreRequested ours m → ArePlain ours m
plain_of ours m requested = record {
  services = each_weaker (IsRequestedPlainly ours) (λ (w : Waiting). PlainFor ours w.asker w.service) (λ w is. is.service) m.waiting requested;
  over = each_weaker (IsRequestedPlainly ours) (λ (w : Waiting). IsOfStream w.asker) (λ w is. is.over) m.waiting requested;
}

-- ---- changes of messages

answered_plain : (ours : ℕ → Bool) (m : Messaging) (number : ℕ) → AreRequested ours m → AreRequested ours (answered m number)
unfolding answered
answered_plain ours m number plain = each_left (IsRequestedPlainly ours) (λ w. not (has_request_number number w)) m.waiting plain

replied_plain : (ours : ℕ → Bool) (m : Messaging) (id : ConnId) (count : ℕ) (reply : List ℕ) → AreRequested ours m → AreRequested ours (replied m id count reply)
unfolding replied
replied_plain ours m id count reply plain = plain

keeps_plain : (ours : ℕ → Bool) (m : Messaging) (id : ConnId) (count service : ℕ) (reply : ReplyFields) (found : Option Class3Connection) → AreRequested ours m → AreRequested ours (class3_keeps m id count service reply found)
keeps_plain ours m id count service reply None plain = plain
keeps_plain ours m id count service reply (Some d) plain = replied_plain ours m id count (fitted_text d service reply) plain

with_reply_plain : (ours : ℕ → Bool) (m : Messaging) (from : Requester) (service : ℕ) (reply : ReplyFields) → AreRequested ours m → AreRequested ours (with_reply m from service reply)
with_reply_plain ours m (asker.Peer node) service reply plain = plain
with_reply_plain ours m (asker.Stream number context) service reply plain = plain
with_reply_plain ours m (asker.Class3Connection id count) service reply plain = keeps_plain ours m id count service reply (find (is_last_message id count) m.class3_connections) plain

late_reply_plain : (ours : ℕ → Bool) (from : Requester) (service : ℕ) (m : Messaging) → AreRequested ours m → AreRequested ours (late_reply from service m)
late_reply_plain ours (asker.Peer node) service m plain = plain
late_reply_plain ours (asker.Stream number context) service m plain = plain
late_reply_plain ours (asker.Class3Connection id count) service m plain = replied_plain ours m id count (late_text service) plain

late_replies_plain : (ours : ℕ → Bool) (waiting : List Waiting) (m : Messaging) → AreRequested ours m → AreRequested ours (late_replies waiting m)
late_replies_plain ours [] m plain = plain
late_replies_plain ours (w ∷ waiting) m plain = late_replies_plain ours waiting (late_reply w.asker w.service m) (late_reply_plain ours w.asker w.service m plain)

left_plain : (ours : ℕ → Bool) (clock : Ms) (m : Messaging) → AreRequested ours m → AreRequested ours (without_late_class3_connections clock m)
unfolding without_late_class3_connections
left_plain ours clock m plain = each_left (IsRequestedPlainly ours) (can_be_answered (on_time clock m.class3_connections)) m.waiting plain

early_plain : (ours : ℕ → Bool) (clock : Ms) (m : Messaging) → AreRequested ours m → AreRequested ours (without_late_waiting clock m)
unfolding without_late_waiting
early_plain ours clock m plain = late_replies_plain ours (late_waiting clock m) _ (each_left (IsRequestedPlainly ours) (λ w. not (is_late_request clock w)) m.waiting plain)

aged_plain : (ours : ℕ → Bool) (clock : Ms) (m : Messaging) → AreRequested ours m → AreRequested ours (aged clock m)
unfolding aged
aged_plain ours clock m plain = early_plain ours clock (without_late_class3_connections clock m) (left_plain ours clock m plain)

-- these are the class 3 connections from now on
connected_plain : (ours : ℕ → Bool) (m : Messaging) (connections : List Class3Connection) → AreRequested ours m → AreRequested ours (with_class3_connections m connections)
connected_plain ours m connections plain = each_left (IsRequestedPlainly ours) (can_be_answered connections) m.waiting plain

off_stream_plain : (ours : ℕ → Bool) (m : Messaging) (number : ℕ) → AreRequested ours m → AreRequested ours (changes.without_stream m number)
unfolding changes.without_stream
off_stream_plain ours m number plain =
    connected_plain ours (record m { waiting = referred_elsewhere number m.waiting }) (filter (λ (d : Class3Connection). not (is_on_stream number d)) m.class3_connections)
    (each_left (IsRequestedPlainly ours) (λ w. not (is_over_stream number w.asker)) m.waiting plain)

closed_class3_plain : (ours : ℕ → Bool) (m : Messaging) (triad : Triad) → AreRequested ours m → AreRequested ours (without_class3 m triad)
unfolding without_class3
closed_class3_plain ours m triad plain = connected_plain ours m (filter (λ (d : Class3Connection). not (has_class3_triad triad d)) m.class3_connections) plain

opened_class3_plain : (ours : ℕ → Bool) (m : Messaging) (d : Class3Connection) → AreRequested ours m → AreRequested ours (with_class3 m d)
unfolding with_class3
opened_class3_plain ours m d plain = plain

executed_plain : (ours : ℕ → Bool) (m : Messaging) (id : ConnId) (count : ℕ) (reply : List ℕ) (deadline : Ms) → AreRequested ours m → AreRequested ours (executed m id count reply deadline)
unfolding executed
executed_plain ours m id count reply deadline plain = connected_plain ours m (first_changed (has_class3_id id) (executed_class3 count reply deadline) m.class3_connections) plain

repeated_plain : (ours : ℕ → Bool) (m : Messaging) (id : ConnId) (deadline : Ms) → AreRequested ours m → AreRequested ours (repeated m id deadline)
unfolding repeated
repeated_plain ours m id deadline plain = plain

referred_plain : (ours : ℕ → Bool) (m : Messaging) (peer : Node) (from : Requester) (service : ℕ) (clock : Ms) → PlainFor ours from service → IsOfStream from → AreRequested ours m → AreRequested ours (referred m peer from service clock)
unfolding referred
referred_plain ours m peer from service clock serves over plain =
    each_more (IsRequestedPlainly ours) m.waiting (waiting_for m.next_number peer from service clock) plain (record { service = serves; over = over })

referred_over_plain : (ours : ℕ → Bool) (m : Messaging) (peer : Node) (id : ConnId) (count service : ℕ) (deadline clock : Ms) → AreRequested ours m → AreRequested ours (referred_over m peer id count service deadline clock)
unfolding referred_over
referred_over_plain ours m peer id count service deadline clock plain =
    referred_plain ours (executed m id count [] deadline) peer (asker.Class3Connection id count) service clock tt tt (executed_plain ours m id count [] deadline plain)

-- ---- tables

abbrev IsPlainTable : (ℕ → Bool) → AdapterTable → Type 0
IsPlainTable ours t = AreRequested ours t.messaging

messages_plain : (ours : ℕ → Bool) (t : AdapterTable) (next_id : ℕ) (m : Messaging) → AreRequested ours m → IsPlainTable ours (messages_table t next_id m)
unfolding messages_table
messages_plain ours t next_id m plain = plain

opened_plain : (ours : ℕ → Bool) (t : AdapterTable) (peer : Node) (large : Bool) (request : OpenFields) (judged : Result Admitted Refusal) → IsPlainTable ours t → IsPlainTable ours (judged_open t peer large request judged).table
unfolding admitted_open opened_table
opened_plain ours t peer large request (Err why) plain = plain
opened_plain ours t peer large request (Ok admitted) plain = plain

abbrev ServedPlainly : (ℕ → Bool) → Served → Type 0
ServedPlainly ours s = IsPlainTable ours s.table

closed_plain : (ours : ℕ → Bool) (t : AdapterTable) (peer : Node) (request : CloseFields) (found : Option Row) → IsPlainTable ours t → ServedPlainly ours (close_of t peer request found)
unfolding closed_table
closed_plain ours t peer request None plain = plain
closed_plain ours t peer request (Some row) plain = either (ServedPlainly ours) (is_wrong_closer t.profile.limits peer row) _ _ plain plain

ended_plain : (ours : ℕ → Bool) (t : AdapterTable) (peer : Node) (request : CloseFields) (found : Option Class3Connection) → IsPlainTable ours t → ServedPlainly ours (end_of t peer request found)
unfolding served_close
ended_plain ours t peer request None plain = closed_plain ours t peer request (find (has_triad request.triad) t.rows) plain
ended_plain ours t peer request (Some d) plain =
    either (ServedPlainly ours) (is_wrong_ender t.profile.limits peer d) _ (known_class3_close t d) plain
    (messages_plain ours t t.next_id (without_class3 t.messaging d.triad) (closed_class3_plain ours t.messaging d.triad plain))

object_plain : (ours : ℕ → Bool) (t : AdapterTable) (service : ℕ) (answer : ObjectAnswer) → IsPlainTable ours t → ServedPlainly ours (object_served t service answer)
object_plain ours t service (said by value) plain = plain
object_plain ours t service (denied why) plain = plain
object_plain ours t service (resetting kind) plain = plain
object_plain ours t service (answering by general content) plain = plain
object_plain ours t service (refusing named why) plain = plain
object_plain ours t service (unrouted words) plain = plain

served_plain : (ours : ℕ → Bool) (t : AdapterTable) (peer : Node) (request : RouterRequestFields) → IsPlainTable ours t → IfSome (served t peer request) (ServedPlainly ours)
unfolding served_open served_end served_object
served_plain ours t peer nothing plain = tt
served_plain ours t peer (refused service why) plain = plain
served_plain ours t peer (closing request) plain = ended_plain ours t peer request (find (has_class3_triad request.triad) t.messaging.class3_connections) plain
served_plain ours t peer (object service class instance attribute body) plain = object_plain ours t service (object_answer t service class instance attribute body) plain
served_plain ours t peer (opening large request) plain = opened_plain ours t peer large (whole_request t.profile.description request) (limited_admission t peer (whole_request t.profile.description request)) plain

class3_judged_plain : (ours : ℕ → Bool) (t : AdapterTable) (stream : Stream) (large : Bool) (request : OpenFields) (judged : Check) → IsPlainTable ours t → ServedPlainly ours (judged_class3 t stream large request judged)
class3_judged_plain ours t stream large request (Some why) plain = plain
class3_judged_plain ours t stream large request None plain =
    messages_plain ours t (t.next_id + 1) (with_class3 t.messaging (opened_class3 t stream request)) (opened_class3_plain ours t.messaging (opened_class3 t stream request) plain)

class3_plain : (ours : ℕ → Bool) (t : AdapterTable) (stream : Stream) (large : Bool) (request : OpenFields) → IsPlainTable ours t → ServedPlainly ours (served_class3 t stream large request)
unfolding served_class3
class3_plain ours t stream large request plain =
    class3_judged_plain ours t stream large (whole_request t.profile.description request) (class3_refusal (class3_view t stream.peer request.triad) (whole_request t.profile.description request)) plain

over_plain : (ours : ℕ → Bool) (t : AdapterTable) (stream : Stream) (request : RouterRequestFields) → IsPlainTable ours t → IfSome (stream_served t stream request) (ServedPlainly ours)
over_plain ours t stream (opening large request) plain =
    either (λ (s : Option Served). IfSome s (ServedPlainly ours)) (is_message_trigger request.trigger) (Some (served_class3 t stream large request)) (served t stream.peer (opening large request))
    (class3_plain ours t stream large request plain) (served_plain ours t stream.peer (opening large request) plain)
over_plain ours t stream nothing plain = served_plain ours t stream.peer nothing plain
over_plain ours t stream (refused service why) plain = served_plain ours t stream.peer (refused service why) plain
over_plain ours t stream (closing request) plain = served_plain ours t stream.peer (closing request) plain
over_plain ours t stream (object service class instance attribute body) plain = served_plain ours t stream.peer (object service class instance attribute body) plain

abbrev HandledPlainly : (ℕ → Bool) → Handled → Type 0
HandledPlainly ours done = IsPlainTable ours done.table

replied_table : (ours : ℕ → Bool) (t : AdapterTable) (s : Option Served) → IsPlainTable ours t → IfSome s (ServedPlainly ours) → HandledPlainly ours (request_replied t s)
replied_table ours t None plain serves = plain
replied_table ours t (Some s) plain serves = serves

-- the service of a request to the maker's own object is that of the request
own_step : (b : Bool) (request asks : OwnRequest) → IsPlainService request.service → cond b (Some request) None ≡ Some asks → IsPlainService asks.service
own_step true request asks serves is = let same : request ≡ asks = cc in subst (λ (r : OwnRequest). IsPlainService r.service) same serves
own_step false request asks serves is = absurd (let e = is in cc)

own_service : (objects : List ℕ) (request : RouterRequestFields) (asks : OwnRequest) → HasPlainService request → own_of objects request ≡ Some asks → IsPlainService asks.service
own_service objects nothing asks serves is = absurd (let e = is in cc)
own_service objects (refused service why) asks serves is = absurd (let e = is in cc)
own_service objects (closing request) asks serves is = absurd (let e = is in cc)
own_service objects (object service class instance attribute body) asks serves is = own_step (is_own_class objects class) _ asks serves is
own_service objects (opening large request) asks serves is = absurd (let e = is in cc)

-- what holds of what came over one of these streams
abbrev OverOurs : (ℕ → Bool) → Stream → Type 0 → Type 0
OverOurs ours stream holds = ours stream.number ≡ true → holds

request_plain : (ours : ℕ → Bool) (t : AdapterTable) (stream : Stream) (context : ℕ) (request : RouterRequestFields) (asks : Option OwnRequest) → own_of t.profile.objects request ≡ asks → OverOurs ours stream (HasPlainService request) → IsPlainTable ours t → HandledPlainly ours (request_handled t stream context request asks)
request_plain ours t stream context request None is serves plain =
    replied_table ours t (counted_once request (stream_served t stream request)) plain (counted_keeps (ServedPlainly ours) (λ s counters has. has) request (stream_served t stream request) (over_plain ours t stream request plain))
request_plain ours t stream context request (Some asks) is serves plain =
    either (HandledPlainly ours) (cannot_ask t stream.peer) (request_replied t (Some (router_refusal t asks.service status.ResourceUnavailable))) _ plain
    (messages_plain ours t t.next_id _ (referred_plain ours t.messaging stream.peer (asker.Stream stream.number context) asks.service t.clock (λ over. own_service t.profile.objects request asks (serves over) is) tt plain))

packet_handled : (ours : ℕ → Bool) (t : AdapterTable) (stream : Stream) (context : ℕ) (reading : Result PacketFields ItemFault) → OverOurs ours stream (PacketHasPlainService reading) → IsPlainTable ours t → HandledPlainly ours (packet_replied t stream context reading)
packet_handled ours t stream context (Err fault) serves plain = plain
packet_handled ours t stream context (Ok packet) serves plain =
    request_plain ours t stream context (router_request_reading packet.payload) (own_of t.profile.objects (router_request_reading packet.payload)) refl serves plain

-- ---- messages of class 3 connections

message_replied_plain : (ours : ℕ → Bool) (d : Class3Connection) (count service : ℕ) (s : Served) → ServedPlainly ours s → HandledPlainly ours (message_replied d count service s)
message_replied_plain ours d count service s plain =
    messages_plain ours s.table s.table.next_id _ (executed_plain ours s.table.messaging d.o_t_id count (fitted_text d service s.reply) (next_deadline s.table d) plain)

connected_served_plain : (ours : ℕ → Bool) (t : AdapterTable) (peer : Node) (request : RouterRequestFields) → IsPlainTable ours t → IfSome (connected_served t peer request) (ServedPlainly ours)
connected_served_plain ours t peer (opening large request) plain = plain
connected_served_plain ours t peer (closing request) plain = plain
connected_served_plain ours t peer nothing plain = served_plain ours t peer nothing plain
connected_served_plain ours t peer (refused service why) plain = served_plain ours t peer (refused service why) plain
connected_served_plain ours t peer (object service class instance attribute body) plain = served_plain ours t peer (object service class instance attribute body) plain

message_served_plain : (ours : ℕ → Bool) (t : AdapterTable) (d : Class3Connection) (count service : ℕ) (s : Option Served) → IsPlainTable ours t → IfSome s (ServedPlainly ours) → HandledPlainly ours (message_served t d count service s)
message_served_plain ours t d count service None plain serves = plain
message_served_plain ours t d count service (Some s) plain serves = message_replied_plain ours d count service s serves

executed_message_plain : (ours : ℕ → Bool) (t : AdapterTable) (d : Class3Connection) (count service : ℕ) (request : RouterRequestFields) (asks : Option OwnRequest) → IsPlainTable ours t → HandledPlainly ours (message_executed t d count service request asks)
executed_message_plain ours t d count service request None plain =
    message_served_plain ours t d count service (counted_once request (connected_served t d.peer request)) plain
    (counted_keeps (ServedPlainly ours) (λ s counters has. has) request (connected_served t d.peer request) (connected_served_plain ours t d.peer request plain))
executed_message_plain ours t d count service request (Some asks) plain =
    either (HandledPlainly ours) (cannot_ask t d.peer) (message_replied d count asks.service (router_refusal t asks.service status.ResourceUnavailable)) _
    (message_replied_plain ours d count asks.service (router_refusal t asks.service status.ResourceUnavailable) plain)
    (messages_plain ours t t.next_id _ (referred_over_plain ours t.messaging d.peer d.o_t_id count asks.service (next_deadline t d) t.clock plain))

message_plain_of : (ours : ℕ → Bool) (t : AdapterTable) (count : ℕ) (message : List ℕ) (found : Option Class3Connection) → IsPlainTable ours t → HandledPlainly ours (message_found t count message found)
message_plain_of ours t count message None plain = plain
message_plain_of ours t count message (Some d) plain =
    either (HandledPlainly ours) (nat_lt d.o_t_size (2 + length message)) _ _ plain
    (either (HandledPlainly ours) (repeats_last d count) _ _
    (messages_plain ours t t.next_id _ (repeated_plain ours t.messaging d.o_t_id (next_deadline t d) plain))
    (executed_message_plain ours t d count (service_in message) (router_request_reading message) (own_of t.profile.objects (router_request_reading message)) plain))

unit_plain : (ours : ℕ → Bool) (t : AdapterTable) (stream : Stream) (reading : Result ConnectedFields ItemFault) → IsPlainTable ours t → HandledPlainly ours (unit_replied t stream reading)
unit_plain ours t stream (Err fault) plain = plain
unit_plain ours t stream (Ok unit) plain =
    message_plain_of ours t unit.count unit.message (find (is_class3 stream.number (record { 0 = unit.connection })) t.messaging.class3_connections) plain

stream_plain : (ours : ℕ → Bool) (t : AdapterTable) (number : ℕ) → IsPlainTable ours t → IsPlainTable ours (without_stream t number)
unfolding without_stream
stream_plain ours t number plain = off_stream_plain ours t.messaging number plain

register_plain : (ours : ℕ → Bool) (t : AdapterTable) (stream : Stream) (body : List ℕ) → IsPlainTable ours t → HandledPlainly ours (register_session t stream body)
unfolding registered_table
register_plain ours t stream body plain =
    either (HandledPlainly ours) (not (length body == 4)) _ _ plain
    (either (HandledPlainly ours) (not (bytes_eq body protocol_text)) _ _ plain
    (either (HandledPlainly ours) stream.registered (refusal t encap.InvalidCommand) (session_begun t stream) plain plain))

handled_plain : (ours : ℕ → Bool) (t : AdapterTable) (stream : Stream) (echo : RequestHeader) (body : List ℕ) (kind : Command) → OverOurs ours stream (PacketHasPlainService (any_packet_reading body)) → IsPlainTable ours t → HandledPlainly ours (handled t stream echo body kind)
unfolding handled
handled_plain ours t stream echo body command.Nop serves plain = plain
handled_plain ours t stream echo body command.ListServices serves plain = plain
handled_plain ours t stream echo body command.RegisterSession serves plain = register_plain ours t stream body plain
handled_plain ours t stream echo body command.UnregisterSession serves plain = either (HandledPlainly ours) (has_session stream echo.session) (session_ended t stream) (unanswered t) (stream_plain ours t stream.number plain) plain
handled_plain ours t stream echo body command.SendRrData serves plain = either (HandledPlainly ours) (has_session stream echo.session) _ _ (packet_handled ours t stream echo.context (items_for t.profile.description body) (λ over. items_hold PacketHasPlainService (λ fault. tt) t.profile.description body (serves over)) plain) plain
handled_plain ours t stream echo body command.SendUnitData serves plain = either (HandledPlainly ours) (has_session stream echo.session) _ _ (unit_plain ours t stream (connected_items_for t.profile.description body) plain) plain
handled_plain ours t stream echo body command.Other serves plain = plain

-- ---- frames

-- the next table is plain, and so are the frames, if they are short
record GoesPlainly (ours : ℕ → Bool) (next : Next) : Type 0 where
  table : IsPlainTable ours next.1
  frames : IsSmall next.0 → AllByRecursion SendsPlainly next.0.frames

abbrev OkPlainly : (ℕ → Bool) → Result Next StepFault → Type 0
OkPlainly ours outcome = IfOk outcome (GoesPlainly ours)

none_sent : (ours : ℕ → Bool) → (t : AdapterTable) (answer : Answer) → IsPlainTable ours t → answer.frames ≡ [] → GoesPlainly ours (answer, t)
none_sent ours t answer plain none = record { table = plain; frames = λ small. subst (AllByRecursion SendsPlainly) (sym none) tt }

replies_plain : ItemsReadBack → (number : ℕ) (echo : RequestHeader) (reply : Option FrameReply) → AllByRecursion IsShortFrame (reply_frames number echo reply) → AllByRecursion SendsPlainly (reply_frames number echo reply)
replies_plain back number echo None few = tt
replies_plain back number echo (Some reply) few = (frame_reply_plain back echo reply few.0, tt)

framed_plain : (ours : ℕ → Bool) → ItemsReadBack → (number : ℕ) (echo : RequestHeader) (done : Handled) → HandledPlainly ours done → GoesPlainly ours (framed number echo done)
framed_plain ours back number echo done plain = record { table = plain; frames = λ small. replies_plain back number echo done.reply small.short_frames }

misfit_plain : (ours : ℕ → Bool) → ItemsReadBack → (t : AdapterTable) (stream : Stream) (header : Option Tailed) → IsPlainTable ours t → GoesPlainly ours (frame_answer t stream (wrong_length_of header))
misfit_plain ours back t stream None plain = none_sent ours t (plain_answer BadFrame) plain refl
misfit_plain ours back t stream (Some h) plain =
    either (GoesPlainly ours) (is_silent (command_of (request_header_in h.0).command)) (plain_answer BadFrame, t) (framed stream.number (request_header_in h.0) (refusal t encap.InvalidLength))
    (none_sent ours t (plain_answer BadFrame) plain refl) (framed_plain ours back stream.number (request_header_in h.0) (refusal t encap.InvalidLength) plain)

read_goes : (ours : ℕ → Bool) → ItemsReadBack → (t : AdapterTable) (stream : Stream) (header : Option Tailed) (reading : Result MessageFields EncapFault) → OverOurs ours stream (MessageHasPlainService reading) → IsPlainTable ours t → GoesPlainly ours (frame_answer t stream (frame_fields header reading))
read_goes ours back t stream header (Err why) serves plain = misfit_plain ours back t stream header plain
read_goes ours back t stream header (Ok m) serves plain =
    framed_plain ours back stream.number (request_header_of m) (handled t stream (request_header_of m) m.payload (command_of m.command)) (handled_plain ours t stream (request_header_of m) m.payload (command_of m.command) serves plain)

text_plain : (text : List ℕ) → IsPlainText text → IsPlainFrame text
text_plain text plain = subst IsPlainFrame (sym plain.is) (message_plain plain.message (bad_plain plain.message.payload plain.bad))

bytes_go : (ours : ℕ → Bool) → ItemsReadBack → (t : AdapterTable) (stream : Stream) (bytes : List ℕ) → OverOurs ours stream (FrameHasPlainService bytes) → IsPlainTable ours t → GoesPlainly ours (frame_answer t stream (frame_reading bytes))
unfolding frame_reading
bytes_go ours back t stream bytes serves plain = read_goes ours back t stream _ (message_reading bytes) serves plain

stream_goes : (ours : ℕ → Bool) → ItemsReadBack → (t : AdapterTable) (stream : Stream) (bytes : List ℕ) (reply : Option (List ℕ)) → IfSome reply IsPlainText → OverOurs ours stream (FrameHasPlainService bytes) → IsPlainTable ours t → GoesPlainly ours (stream_answer t stream bytes reply)
stream_goes ours back t stream bytes None text serves plain =
    answer_has (GoesPlainly ours) t stream bytes (bytes_go ours back t stream bytes serves plain) (misfit_plain ours back t stream (fields_at header_widths bytes) plain) (none_sent ours t (plain_answer Done) plain refl)
stream_goes ours back t stream bytes (Some reply) text serves plain = record { table = plain; frames = λ small. (text_plain reply text, tt) }

frame_goes : (ours : ℕ → Bool) → ItemsReadBack → (t : AdapterTable) (number : ℕ) (bytes : List ℕ) (found : Option Stream) → find (is_stream number) t.streams ≡ found → (ours number ≡ true → FrameHasPlainService bytes) → IsPlainTable ours t → OkPlainly ours (frame_of t bytes found)
frame_goes ours back t number bytes None is serves plain = tt
frame_goes ours back t number bytes (Some stream) is serves plain =
    let same : stream.number ≡ number = eqb-true stream.number number (found_passes (is_stream number) t.streams stream is) in
    stream_goes ours back t stream bytes (inquiry_reply t bytes) (inquiry_plain t bytes) (λ over. serves (ap ours (sym same) ∙ over)) plain

inquired_goes : (ours : ℕ → Bool) → (t : AdapterTable) (peer : Node) (reply : Option (List ℕ)) → IfSome reply IsPlainText → IsPlainTable ours t → GoesPlainly ours (inquired_by t peer reply)
inquired_goes ours t peer None text plain = none_sent ours t (plain_answer BadFrame) plain refl
inquired_goes ours t peer (Some reply) text plain = record { table = plain; frames = λ small. (text_plain reply text, tt) }

-- ---- replies to requests that waited

class3_frames_plain : ItemsReadBack → (count service : ℕ) (reply : ReplyFields) (found : Option Class3Connection) → AllByRecursion IsShortFrame (class3_frames count service reply found) → AllByRecursion SendsPlainly (class3_frames count service reply found)
class3_frames_plain back count service reply None few = tt
class3_frames_plain back count service reply (Some d) few = (frame_reply_plain back (unit_header d.stream) (connected d.t_o_id.0 count (fitted_text d service reply)) few.0, tt)

route_plain : ItemsReadBack → (m : Messaging) (from : Requester) (service : ℕ) (reply : ReplyFields) → IsOfStream from → AllByRecursion IsShortFrame (route_frames m from service reply) → AllByRecursion SendsPlainly (route_frames m from service reply)
route_plain back m (asker.Peer node) service reply over few = absurd over
route_plain back m (asker.Stream number context) service reply over few = (frame_reply_plain back (rr_header number context) (router_reply reply None) few.0, tt)
route_plain back m (asker.Class3Connection id count) service reply over few = class3_frames_plain back count service reply (find (is_last_message id count) m.class3_connections) few

all_parts : (P : Frame → Type 0) (xs ys : List Frame) → AllByRecursion P (xs ++ ys) → AllByRecursion P xs × AllByRecursion P ys
all_parts P [] ys all = (tt, all)
all_parts P (x ∷ xs) ys all = let more = all_parts P xs ys all.1 in ((all.0, more.0), more.1)

late_plain : ItemsReadBack → (m : Messaging) (waiting : List Waiting) → EachOf (λ (w : Waiting). IsOfStream w.asker) waiting → AllByRecursion IsShortFrame (flat_map (late_frames m) waiting) → AllByRecursion SendsPlainly (flat_map (late_frames m) waiting)
late_plain back m [] over few = tt
late_plain back m (w ∷ waiting) over few =
    let parts = all_parts IsShortFrame (late_frames m w) (flat_map (late_frames m) waiting) few in
    all_both SendsPlainly (late_frames m w) (flat_map (late_frames m) waiting) (route_plain back m w.asker w.service (own w.service 0x1F []) over.0 parts.0) (late_plain back m waiting over.1 parts.1)

aged_goes : (ours : ℕ → Bool) → ItemsReadBack → (next : Next) → IsPlainTable ours next.1 → GoesPlainly ours (aged_next next)
aged_goes ours back next plain =
    let left = without_late_class3_connections next.1.clock next.1.messaging in
    let kept = left_plain ours next.1.clock next.1.messaging plain in
    record {
      table = messages_plain ours next.1 next.1.next_id _ (aged_plain ours next.1.clock next.1.messaging plain);
      frames = λ small. late_plain back left (late_waiting next.1.clock left) (each_left (λ (w : Waiting). IsOfStream w.asker) (is_late_request next.1.clock) left.waiting (plain_of ours left kept).over) small.short_frames;
    }

advanced_plain : (ours : ℕ → Bool) → (t : AdapterTable) (ms : ℕ) → IsPlainTable ours t → IsPlainTable ours (advanced (clocked_table t ms)).1
unfolding clocked_table expired_table produced_table
advanced_plain ours t ms plain = plain

tick_goes : (ours : ℕ → Bool) → ItemsReadBack → (t : AdapterTable) (ms : ℕ) → IsPlainTable ours t → OkPlainly ours (tick t ms)
unfolding tick
tick_goes ours back t ms plain =
    either (OkPlainly ours) (nat_lt longest_tick ms) (Err TickTooLong) _ tt
    (either (OkPlainly ours) (nat_lt clock_end (t.clock.0 + ms)) (Err ClockEnd) (Ok (aged_next (advanced (clocked_table t ms)))) tt (aged_goes ours back (advanced (clocked_table t ms)) (advanced_plain ours t ms plain)))

found_waiting : (P : Waiting → Type 0) (p : Waiting → Bool) (xs : List Waiting) → EachOf P xs → IfSome (find p xs) P
found_waiting P p [] all = tt
found_waiting P p (x ∷ xs) all = either (λ found. IfSome found P) (p x) (Some x) (find p xs) all.0 (found_waiting P p xs all.1)

respond_goes : (ours : ℕ → Bool) → ItemsReadBack → (t : AdapterTable) (number general : ℕ) (bytes : List ℕ) → IsPlainTable ours t → OkPlainly ours (respond t number general bytes)
respond_goes ours back t number general bytes plain = respond_holds (OkPlainly ours) t number general bytes (λ why. tt) (λ w found few. record {
  table = messages_plain ours t t.next_id _ (answered_plain ours (with_reply t.messaging w.asker w.service (own w.service general bytes)) w.number (with_reply_plain ours t.messaging w.asker w.service (own w.service general bytes) plain));
  frames = λ small. route_plain back t.messaging w.asker w.service (own w.service general bytes)
      (subst (λ (o : Option Waiting). IfSome o (λ w'. IsOfStream w'.asker)) found (found_waiting (λ (w' : Waiting). IsOfStream w'.asker) (has_request_number number) t.messaging.waiting (plain_of ours t.messaging plain).over)) small.short_frames;
})

-- ---- other events

found_goes : (ours : ℕ → Bool) → (t : AdapterTable) (peer : Node) (d : DatagramFields) (found : Option Row) → IsPlainTable ours t → GoesPlainly ours (found_datagram t peer d found)
unfolding accepted_table
found_goes ours t peer d None plain = record { table = plain; frames = λ small. tt }
found_goes ours t peer d (Some row) plain =
    let delivery = row_delivery t.profile t.clock row d in
    either (GoesPlainly ours) (is_accepted (row_delivery t.profile t.clock row d)) (delivered delivery (accepted_table t peer d row delivery)) (delivered delivery t)
    (record { table = plain; frames = λ small. tt }) (record { table = plain; frames = λ small. tt })

datagram_goes : (ours : ℕ → Bool) → (t : AdapterTable) (peer : Node) (reading : Result DatagramFields DatagramFault) → IsPlainTable ours t → GoesPlainly ours (datagram_of t peer reading)
datagram_goes ours t peer (Err fault) plain = record { table = plain; frames = λ small. tt }
datagram_goes ours t peer (Ok d) plain = found_goes ours t peer d (find (is_for peer d.connection) t.rows) plain

write_goes : (ours : ℕ → Bool) → (t : AdapterTable) (point : ℕ) (bytes : List ℕ) (found : Option InputPoint) → IsPlainTable ours t → OkPlainly ours (write_of t point bytes found)
unfolding written_table changed_table
write_goes ours t point bytes None plain = tt
write_goes ours t point bytes (Some input) plain =
    either (OkPlainly ours) (length bytes == input.len) (Ok (written (written_table t point bytes) point bytes)) (Err WrongLength) (record { table = plain; frames = λ small. tt }) tt

cut_goes : (ours : ℕ → Bool) → (t : AdapterTable) (found : Option Stream) → IsPlainTable ours t → OkPlainly ours (cut_of t found)
cut_goes ours t None plain = tt
cut_goes ours t (Some stream) plain = record { table = stream_plain ours t stream.number plain; frames = λ small. tt }

adapter_plain : (ours : ℕ → Bool) → ItemsReadBack → (t : AdapterTable) (happens : Event) → IsPlainEvent ours happens → IsPlainTable ours t → OkPlainly ours (adapter_step t happens)
unfolding received inquired write frame stream_cut stream_opened with_stream
adapter_plain ours back t (event.Request peer bytes) is plain = absurd is
adapter_plain ours back t (event.StreamOpened number peer) is plain =
    either (OkPlainly ours) (is_taken t.streams number) (Err NotAllowedNow) (Ok (plain_answer Done, with_stream t number peer)) tt (record { table = plain; frames = λ small. tt })
adapter_plain ours back t (event.Frame number bytes) is plain = frame_goes ours back t number bytes (find (is_stream number) t.streams) refl is plain
adapter_plain ours back t (event.StreamCut number) is plain = cut_goes ours t (find (is_stream number) t.streams) plain
adapter_plain ours back t (event.Datagram peer bytes) is plain = datagram_goes ours t peer (datagram_reading bytes) plain
adapter_plain ours back t (event.Inquiry peer bytes) is plain = inquired_goes ours t peer (inquiry_reply t bytes) (inquiry_plain t bytes) plain
adapter_plain ours back t (event.Write point bytes) is plain = write_goes ours t point bytes (find (is_at point) t.profile.inputs) plain
adapter_plain ours back t (event.Tick ms) is plain = tick_goes ours back t ms plain
adapter_plain ours back t (event.Respond number general bytes) is plain = respond_goes ours back t number general bytes plain
adapter_plain ours back t (event.Counters bytes) is plain = counters_hold (OkPlainly ours) t bytes (λ why. tt) (record { table = plain; frames = λ small. tt })
adapter_plain ours back t (event.Ids block) is plain = ids_hold (OkPlainly ours) t block (λ why. tt) (λ may. record { table = plain; frames = λ small. tt })
adapter_plain ours back t other is plain = passive_holds (OkPlainly ours) t (λ why. tt) (λ verdict. record { table = plain; frames = λ small. tt }) other refl

-- ---- the law

abbrev IsPlainOf : (ℕ → Bool) → DeviceTable → Answer → Type 0
IsPlainOf ours next answer = IsPlainDevice ours next × AllByRecursion SendsPlainly answer.frames

device_goes : (ours : ℕ → Bool) → (t : AdapterTable) (happens : Event) (outcome : Result Next StepFault) (answer : Answer) (next : DeviceTable) → as_adapter outcome ≡ Ok (answer, next) → IsSmall answer → OkPlainly ours outcome → IsPlainOf ours next answer
device_goes ours t happens (Err why) answer next is small goes = absurd (let e = is in cc)
device_goes ours t happens (Ok n) answer next is small goes =
    let same = inside (n.0, Adapter n.1) (answer, next) is in
    let first : n.0 ≡ answer = ap (λ (p : DeviceNext). p.0) same in
    let second : Adapter n.1 ≡ next = ap (λ (p : DeviceNext). p.1) same in
    (subst (IsPlainDevice ours) second (plain_of ours n.1.messaging goes.table), subst (λ (a : Answer). AllByRecursion SendsPlainly a.frames) first (goes.frames (subst IsSmall (sym first) small)))
  where
    inside : (x y : DeviceNext) → ◌≡◌ {A = Result DeviceNext StepFault} (Ok x) (Ok y) → x ≡ y
    inside x y e = cc

pub stay_plain : ItemsReadBack → AnswersAreSmall → PlainDevicesStayPlain
unfolding step
stay_plain back few ours (Adapter t) happens answer next is whole event_is plain =
    device_goes ours t happens (adapter_step t happens) answer next is (few (Adapter t) happens answer next whole is) (adapter_plain ours back t happens event_is (requested_of ours t.messaging plain))
stay_plain back few ours (Scanner t) happens answer next is whole event_is plain = scanner_plain back few ours t happens answer next whole is
