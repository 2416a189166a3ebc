-- A step of an adapter carries ids: those of its connections, and those that it sends, were in the table, came with the
-- event, or were allocated.
use Rattle.std.proofs.Common.{◌≡◌, ◌≤◌, ℕ, ◌+◌, ◌==◌, nat_lt, Bool, true, false, cond, not, List, [], ◌∷◌, ◌++◌, length, map, filter, find, Option, Some, None, Result, Ok, Err, refl, sym, ap, subst, arith, length-append}
use Rattle.std.specs.List.{AllByRecursion, filter_map, flat_map}
use Rattle.std.specs.Option.{IfSome, option_map}
use Rattle.std.specs.Result.{result_ok}
use Rattle.std.specs.Str.{bytes_eq}
use Rattle.adapter_table.specs.Intervals.{open_refusal, whole_request}
use Rattle.adapter_table.specs.Lemmas.RefusalLemmas.{refusal_either}
use Rattle.adapter_table.specs.Lemmas.CheckLemmas.{admitted_is, draws_some}
use Rattle.cip_types.specs.Ids.{end_number}
use Rattle.cip_types.specs.declared.names.Ms.{Ms}
use Rattle.cip_types.specs.declared.names.Node.{Node}
use Rattle.cip_types.specs.Fields.{fields_text, fields_at}
use Rattle.cip_types.specs.Order.{in_order}
use Rattle.cip_datagram.specs.declared.datagram.DatagramFault.{DatagramFault}
use Rattle.cip_datagram.specs.Datagram.{DatagramFields}
use Rattle.cip_datagram.specs.Reading.{datagram_reading}
use Rattle.cip_encap.specs.declared.message.EncapFault.{EncapFault}
use Rattle.cip_encap.specs.declared.packet.ItemFault.{ItemFault}
use Rattle.cip_encap.specs.declared.packet.ItemFault.TheVariants.{Bad}
use Rattle.cip_encap.specs.declared.packet.SocketAddress.{SocketAddress}
use Rattle.cip_encap.specs.Message.{MessageFields, header_widths, header_numbers, message_text}
use Rattle.cip_encap.specs.Reading.{message_reading}
use Rattle.cip_encap.specs.Packet.{PacketFields, packet_widths, packet_numbers, socket_count, socket_items, packet_text}
use Rattle.cip_encap.specs.AnyItems.{behind_item, are_items, any_packet_reading}
use Rattle.cip_encap.specs.ReadsBack.{ItemsReadBack}
use Rattle.cip_epath.specs.Path.{PathFields}
use Rattle.adapter_table.specs.Paths.{opening_path}
use Rattle.cip_fwdopen.specs.Open.{OpenFields}
use Rattle.cip_fwdopen.specs.Close.{CloseFields, closed_text}
use Rattle.cip_fwdopen.specs.Reply.{reply_service, opened_text, refused_text, intervals_text}
use Rattle.cip_events.specs.declared.event.Event.{Event}
use Rattle.cip_events.specs.declared.event.Event.TheVariants as event
use Rattle.cip_events.specs.declared.event.StepFault.{StepFault}
use Rattle.cip_events.specs.declared.event.StepFault.TheVariants.{NotAllowedNow, TickTooLong, ClockEnd, WrongLength}
use Rattle.cip_events.specs.declared.event.Frame.{Frame}
use Rattle.cip_events.specs.declared.event.Recipient.{Recipient}
use Rattle.cip_events.specs.declared.event.Recipient.TheVariants.{Peer, Stream as OverStream}
use Rattle.cip_events.specs.declared.event.Verdict.TheVariants.{Done}
use Rattle.cip_events.specs.Answers.{plain_answer, is_accepted}
use Rattle.cip_events.specs.Clock.{longest_tick, clock_end}
use Rattle.cip_netparams.specs.Word.{is_message_trigger}
use Rattle.cip_productions.specs.declared.production.Producer.{Producer}
use Rattle.cip_productions.specs.Productions.{Produced, same_producer, by_number, by_due, sent}
use Rattle.cip_router.specs.declared.command.Command.{Command}
use Rattle.cip_router.specs.declared.command.Command.TheVariants as command
use Rattle.cip_router.specs.declared.command.EncapStatus.TheVariants as encap
use Rattle.cip_router.specs.declared.refusal.Refusal.{Refusal}
use Rattle.cip_router.specs.declared.refusal.Refusal.TheVariants as refused_as
use Rattle.cip_router.specs.declared.object_service.ObjectService.TheVariants.{Reset}
use Rattle.cip_router.specs.declared.refusal.Status.{Status}
use Rattle.cip_router.specs.declared.refusal.Status.TheVariants as status
use Rattle.cip_router.specs.Requests.{RouterRequestFields, nothing, refused, closing, object, opening, router_request_reading}
use Rattle.cip_router.specs.Commands.{command_of, is_silent}
use Rattle.cip_router.specs.Frames.{RequestHeader, request_header_of, wrong_length_of, frame_fields, FrameReply, services, registered, other_version, router_reply, connected, protocol_text, socket_of, reply_message, frame_reading}
use Rattle.cip_router.specs.Frames as frames
use Rattle.cip_router.specs.Refusals.{status_fault, refusal_fault, status_code}
use Rattle.cip_router.specs.Replies.{ReplyFields, opened, closed, object_reply, object_reply_text, own_reply_text, reply_text}
use Rattle.cip_router.specs.Replies as replies
use Rattle.messaging.specs.declared.class3.Class3Connection.{Class3Connection}
use Rattle.messaging.specs.declared.requests.Requester.{Requester}
use Rattle.messaging.specs.declared.requests.Requester.TheVariants as asker
use Rattle.messaging.specs.declared.requests.Waiting.{Waiting}
use Rattle.messaging.specs.declared.table.Messaging.{Messaging}
use Rattle.messaging.specs.Class3Connections.{has_class3_triad, is_last_message}
use Rattle.messaging.specs.Times.{without_late_class3_connections, late_waiting}
use Rattle.adapter_table.specs.declared.profile.InputPoint.{InputPoint}
use Rattle.adapter_table.specs.declared.profile.Profile.{Profile}
use Rattle.adapter_table.specs.Connections.{Row}
use Rattle.adapter_table.specs.declared.row.State.{State}
use Rattle.adapter_table.specs.declared.row.State.TheVariants.{Established, TimedOut}
use Rattle.adapter_table.specs.declared.table.AdapterTable.{AdapterTable}
use Rattle.adapter_table.specs.declared.table.Stream.{Stream}
use Rattle.adapter_table.specs.declared.admission.ConsumedPoint.{ConsumedPoint}
use Rattle.adapter_table.specs.Profiles.{is_at}
use Rattle.adapter_table.specs.Objects.{ObjectAnswer, said, denied, resetting, answering, refusing, unrouted}
use Rattle.adapter_table.specs.Carrying.{object_answer}
use Rattle.adapter_table.specs.Inquiries.{frame_alone, inquiry_reply, inquired_by, inquired}
use Rattle.adapter_table.specs.Rows.{has_triad, is_member, written_state, written_row}
use Rattle.adapter_table.specs.Checks.{Check, Points, Admitted, drawn_ids, group_of, joined, named_points, points_of, path_check, consumed_point_of, input_of, is_multicast, judged, view_of, verdict, admission}
use Rattle.adapter_table.specs.Answering.{class3_frames, route_frames, rr_header, unit_header, responded, respond}
use Rattle.adapter_table.specs.Connected.{fitted_text}
use Rattle.adapter_table.specs.Class3Opening.{class3_view, class3_refusal, opened_class3, judged_class3, served_class3, stream_served}
use Rattle.adapter_table.specs.Messages.{messages_table}
use Rattle.adapter_table.specs.Own.{OwnRequest, own_of, cannot_ask}
use Rattle.adapter_table.specs.Rates.{has_opened_enough_at}
use Rattle.adapter_table.specs.StatedLimits.{exceeds, limited, paced, limited_admission, is_wrong_closer, is_wrong_ender}
use Rattle.adapter_table.specs.declared.maker_limits.MakerLimits.{MakerLimits}
use Rattle.adapter_table.specs.Opening.{opened_t_o_id, opened_row, opened_table}
use Rattle.adapter_table.specs.Counting.{with_counters}
use Rattle.adapter_table.specs.Closing.{stays, without_triad, closed_table}
use Rattle.adapter_table.specs.Datagrams.{is_for, accepted_row, accepted_if_for, row_delivery, accepted_table, delivered, found_datagram, datagram_of, received}
use Rattle.adapter_table.specs.Productions as productions
use Rattle.adapter_table.specs.Productions.{state_producer, producer_in, producers, production_of, is_due, due_producers, produced_state, produced_row, produces_on_change, producers_on_change, changed_state, changed_row}
use Rattle.adapter_table.specs.Requests.{Next, Served, counted_once, open_service, judged_open, admitted_open, served_open, close_of, served_close, end_of, served_end, router_refusal, object_served, served_object, served}
use Rattle.adapter_table.specs.Streams.{is_stream, is_taken, with_stream, without_stream, has_session, registered_table, stream_opened, cut_of, stream_cut}
use Rattle.adapter_table.specs.Encapsulation.{Handled, items_for, connected_items_for, refusal, unanswered, session_begun, session_ended, register_session, request_replied, request_handled, packet_replied, unit_replied, handled, reply_frames, framed, frame_answer, stream_answer, frame_of, frame, outside_session}
use Rattle.adapter_table.specs.Ticks.{has_expired, expired_row, expired_rows, clocked_table, expired_table, produced_table, advanced, late_frames, aged_next, tick}
use Rattle.adapter_table.specs.Step.{written_table, changed_table, written, write_of, write, adapter_step}
use Rattle.answer_sizes.specs.Sizes.{IsShortFrame, IsSmall}
use Rattle.device_laws.specs.Ids.{RequestIds, PayloadIds, PacketIds, MessageIds, FrameIds, HasFrameIds, HasDatagramId, AnswerIds, RowIds, FromTo, EventIds, WayIds, AnsweredIds, IdsWithin}
use Rattle.device_laws.specs.Lemmas.Lists.{all_both, all_more, all_filtered, all_mapped, all_found, all_ordered, all_firsts, all_made}
use Rattle.device_laws.specs.Lemmas.Texts.{either, Cuts, message_ids, packet_ids, datagram_id}
use Rattle.device_laws.specs.Lemmas.Payloads.{opened_ids, closed_ids, object_ids, refused_ids, unacceptable_ids, own_refused_ids, own_object_ids, no_route_ids}
use Rattle.device_laws.specs.Lemmas.ConnectedTexts.{connected_bad}
use Rattle.device_laws.specs.Lemmas.MessageSteps.{IsItemless, IsOfMessages, unit_of, respond_holds}
use Rattle.device_laws.specs.Lemmas.InquiryTexts.{IsPlainText, plain_services, plain_ids, inquiry_plain}
use Rattle.adapter_table.specs.Lemmas.CountLemmas.{counted_by_keeps}
use Rattle.adapter_table.specs.Lemmas.LimitLemmas.{limited_is}
use Rattle.adapter_table.specs.Lemmas.MessageLemmas.{admitted_class3_is}
use Rattle.adapter_table.specs.Lemmas.ItemLemmas.{items_hold}
use Rattle.adapter_table.specs.Lemmas.PassiveLemmas.{passive_holds}
use Rattle.adapter_table.specs.Lemmas.PlainLemmas.{counters_hold, ids_hold}
use Rattle.adapter_table.specs.Lemmas.FrameLemmas.{answer_has}
use Rattle.adapter_table.specs.Describing.{is_variable, fixed}

abbrev pub RowsHold : (P Q : ℕ → Type 0) → List Row → Type 0
RowsHold P Q rows = AllByRecursion (RowIds P Q) rows

-- ---- connections that change

same_ids : (P Q : ℕ → Type 0) (b : Bool) (row : Row) (state : State) → RowIds P Q row → RowIds P Q (cond b (record row { state = state }) row)
same_ids P Q true row state holds = record { o_t = holds.o_t; t_o = holds.t_o; opening = holds.opening }
same_ids P Q false row state holds = holds

written_holds : (P Q : ℕ → Type 0) (point : ℕ) (row : Row) → RowIds P Q row → RowIds P Q (written_row point row)
written_holds P Q point row holds = same_ids P Q (row.produced == point) row (written_state row.state) holds

changed_holds : (P Q : ℕ → Type 0) (clock : Ms) (point : ℕ) (row : Row) → RowIds P Q row → RowIds P Q (changed_row clock point row)
changed_holds P Q clock point row holds = same_ids P Q (row.produced == point) row (changed_state clock row.t_o_api_ms row.state) holds

produced_holds : (P Q : ℕ → Type 0) (clock : Ms) (row : Row) → RowIds P Q row → RowIds P Q (produced_row clock row)
produced_holds P Q clock row holds = same_ids P Q true row (produced_state clock row.t_o_api_ms row.state) holds

expired_holds : (P Q : ℕ → Type 0) (clock : Ms) (row : Row) → RowIds P Q row → RowIds P Q (expired_row clock row)
expired_holds P Q clock row holds = same_ids P Q (has_expired clock row) row TimedOut holds

accepted_holds : (P Q : ℕ → Type 0) (clock : Ms) (peer : Node) (d : DatagramFields) (row : Row) → RowIds P Q row → RowIds P Q (accepted_if_for clock peer d row)
accepted_holds P Q clock peer d row holds =
    either (RowIds P Q) (is_for peer d.connection row) (accepted_row clock d row) row (record { o_t = holds.o_t; t_o = holds.t_o; opening = holds.opening }) holds

-- ---- an opening

-- the id of the group that the connection joins, if it joins one
abbrev GroupHolds : (ℕ → Type 0) → Option Row → Type 0
GroupHolds P group = IfSome group (λ row. P row.t_o_id.0)

joined_holds : (P : ℕ → Type 0) (b : Bool) (group : Option Row) → GroupHolds P group → GroupHolds P (joined b group)
joined_holds P true group holds = holds
joined_holds P false group holds = tt

abbrev PointsHold : (ℕ → Type 0) → Result Points Refusal → Type 0
PointsHold P (Ok points) = GroupHolds P points.group
PointsHold P (Err why) = Unit {0}

named_hold : (P : ℕ → Type 0) (path : PathFields) (group : Option Row) (said : Check) (consumer : Option ConsumedPoint) (input : Option InputPoint) → GroupHolds P group → PointsHold P (named_points path group said consumer input)
named_hold P path group (Some why) consumer input holds = tt
named_hold P path group None None input holds = tt
named_hold P path group None (Some consumer) None holds = tt
named_hold P path group None (Some consumer) (Some input) holds = holds

points_hold : (P Q : ℕ → Type 0) (t : AdapterTable) (request : OpenFields) (path : Option PathFields) → RowsHold P Q t.rows → PointsHold P (points_of (view_of t request.triad) request path)
points_hold P Q t request None rows = tt
points_hold P Q t request (Some path) rows =
    let found = all_found (λ (row : Row). P row.t_o_id.0) (is_member path.produced) t.rows (all_more (RowIds P Q) (λ (row : Row). P row.t_o_id.0) (λ row holds. holds.t_o) t.rows rows) in
    named_hold P path (joined (is_multicast request.t_o_params.kind) (group_of t.rows path.produced)) (path_check t.profile path) (consumed_point_of t.profile path.consumed) (input_of t.profile path.produced)
    (joined_holds P (is_multicast request.t_o_params.kind) (group_of t.rows path.produced) found)

abbrev AdmittedHolds : (ℕ → Type 0) → Result Admitted Refusal → Type 0
AdmittedHolds P (Ok admitted) = GroupHolds P admitted.group
AdmittedHolds P (Err why) = Unit {0}

judged_holds : (P : ℕ → Type 0) (request : OpenFields) (points : Result Points Refusal) (said : Check) → PointsHold P points → AdmittedHolds P (judged request points said)
judged_holds P request points (Some why) holds = tt
judged_holds P request (Err why) None holds = tt
judged_holds P request (Ok points) None holds = holds

admission_holds : (P Q : ℕ → Type 0) (t : AdapterTable) (request : OpenFields) → RowsHold P Q t.rows → AdmittedHolds P (admission t request)
unfolding verdict
admission_holds P Q t request rows =
    judged_holds P request (points_of (view_of t request.triad) request (result_ok (opening_path t.profile.description request.path))) _ (points_hold P Q t request (result_ok (opening_path t.profile.description request.path)) rows)

fixed_step : (P : ℕ → Type 0) (a b : Bool) (admitted : Admitted) → GroupHolds P admitted.group → AdmittedHolds P (cond a (Err refused_as.ConsumedSize) (cond b (Err refused_as.ProducedSize) (Ok admitted)))
fixed_step P true b admitted holds = tt
fixed_step P false true admitted holds = tt
fixed_step P false false admitted holds = holds

fixed_holds : (P : ℕ → Type 0) (t : AdapterTable) (request : OpenFields) (said : Result Admitted Refusal) → AdmittedHolds P said → AdmittedHolds P (fixed t.profile.description request said)
fixed_holds P t request (Err why) holds = tt
fixed_holds P t request (Ok admitted) holds = fixed_step P (is_variable t.profile.description request.o_t_params) (is_variable t.profile.description request.t_o_params) admitted holds

limited_step : (P : ℕ → Type 0) (b : Bool) (admitted : Admitted) → GroupHolds P admitted.group → AdmittedHolds P (cond b (Err refused_as.OutOfConnections) (Ok admitted))
limited_step P true admitted holds = tt
limited_step P false admitted holds = holds

limited_holds : (P : ℕ → Type 0) (limits : MakerLimits) (rows : List Row) (peer : Node) (said : Result Admitted Refusal) → AdmittedHolds P said → AdmittedHolds P (limited limits rows peer said)
limited_holds P limits rows peer (Err why) holds = tt
limited_holds P limits rows peer (Ok admitted) holds = limited_step P (exceeds limits rows peer admitted.kind) admitted holds

paced_holds : (P : ℕ → Type 0) (enough : Bool) (said : Result Admitted Refusal) → AdmittedHolds P said → AdmittedHolds P (paced enough said)
paced_holds P enough (Err why) holds = tt
paced_holds P enough (Ok admitted) holds = limited_step P enough admitted holds

-- the ids of the new connection
t_o_holds : (P : ℕ → Type 0) (t : AdapterTable) (request : OpenFields) (multicast : Bool) (group : Option Row) (to : ℕ) → GroupHolds P group → P request.t_o_id.0 → IdsWithin P t.ids t.next_id to → t.next_id + drawn_ids multicast group ≤ to → t.next_id + drawn_ids multicast group ≤ end_number t.ids → P (opened_t_o_id t request multicast group).0
t_o_holds P t request true None to joins requested drawn in_range left = drawn (t.next_id + 1) (omega arith) (omega (arith, in_range)) (omega (arith, left))
t_o_holds P t request false None to joins requested drawn in_range left = requested
t_o_holds P t request multicast (Some member) to joins requested drawn in_range left = joins

-- ---- what is replied

abbrev ServedHolds : (P Q : ℕ → Type 0) → Served → Type 0
ServedHolds P Q s = PayloadIds P (reply_text s.reply) × RowsHold P Q s.table.rows

pub nonzero : (why : Status) → (status_code why == 0) ≡ false
nonzero status.PathSegment = refl
nonzero status.PathDestination = refl
nonzero status.Service = refl
nonzero status.NotEnoughData = refl
nonzero status.Attribute = refl
nonzero status.TooMuchData = refl
nonzero status.NotSettable = refl
nonzero status.PrivilegeViolation = refl
nonzero status.StateConflict = refl
nonzero status.InvalidParameter = refl
nonzero status.ResourceUnavailable = refl
nonzero status.ReplyTooLarge = refl
nonzero status.VendorSpecific = refl

refusal_holds : (P Q : ℕ → Type 0) (t : AdapterTable) (service : ℕ) (why : Status) → RowsHold P Q t.rows → ServedHolds P Q (router_refusal t service why)
refusal_holds P Q t service why rows = (refused_ids P service (status_fault why) None (nonzero why), rows)

-- the ids and opening numbers that a step allocates have the properties
abbrev pub HasDrawn : (P Q : ℕ → Type 0) → AdapterTable → ℕ → Type 0
HasDrawn P Q t to = IdsWithin P t.ids t.next_id to × FromTo Q t.next_id to

-- a request to open that is refused has a reply with no id
refusal_ids : (P : ℕ → Type 0) (profile : Profile) (rows : List Row) (service : ℕ) (request : OpenFields) (why : Refusal) → PayloadIds P (reply_text (open_refusal profile rows service request why))
refusal_ids P profile rows service request why =
    refusal_either (λ reply. PayloadIds P (reply_text reply)) profile rows service request why (λ fault fails. refused_ids P service fault (Some request.triad) fails) (λ a. unacceptable_ids P service a request.triad)

open_holds : (P Q : ℕ → Type 0) → Cuts P → (t : AdapterTable) (peer : Node) (large : Bool) (request : OpenFields) (said : Result Admitted Refusal) (to : ℕ) → limited_admission t peer request ≡ said → (judged_open t peer large request said).table.next_id ≤ to → HasDrawn P Q t to → AdmittedHolds P said → P request.t_o_id.0 → RowsHold P Q t.rows → ServedHolds P Q (judged_open t peer large request said)
unfolding admitted_open opened_table opened_row
open_holds P Q cuts t peer large request (Err why) to is below drawn joins requested rows = (refusal_ids P t.profile t.rows (open_service large) request why, rows)
open_holds P Q cuts t peer large request (Ok admitted) to is below drawn joins requested rows =
    let one = draws_some admitted.multicast admitted.group in
    let left = (admitted_is t request admitted (limited_is t peer request admitted is).admitted).ids_are_left in
    let o_t = drawn.0 t.next_id (omega arith) (omega (arith, below, one)) (omega (arith, left, one)) in
    let t_o = t_o_holds P t request admitted.multicast admitted.group to joins requested drawn.0 below left in
    let opening_holds = drawn.1 t.next_id (omega arith) (omega (arith, below, one)) in (
      opened_ids P large _ (cuts _ o_t) (cuts _ t_o),
      all_both (RowIds P Q) _ _ (all_filtered (RowIds P Q) _ t.rows rows) (record { o_t = o_t; t_o = t_o; opening = opening_holds }, tt),
    )

close_holds : (P Q : ℕ → Type 0) (t : AdapterTable) (peer : Node) (request : CloseFields) (found : Option Row) → RowsHold P Q t.rows → ServedHolds P Q (close_of t peer request found)
unfolding closed_table
close_holds P Q t peer request None rows = (refused_ids P 0x4E (refusal_fault refused_as.NotFound) (Some request.triad) refl, rows)
close_holds P Q t peer request (Some row) rows =
    either (ServedHolds P Q) (is_wrong_closer t.profile.limits peer row) _ _
    (refused_ids P 0x4E (status_fault status.PrivilegeViolation) (Some request.triad) refl, rows)
    (closed_ids P row.triad, all_filtered (RowIds P Q) (stays (without_triad row.triad t.rows)) (without_triad row.triad t.rows) (all_filtered (RowIds P Q) _ t.rows rows))

end_holds : (P Q : ℕ → Type 0) (t : AdapterTable) (peer : Node) (request : CloseFields) (found : Option Class3Connection) → RowsHold P Q t.rows → ServedHolds P Q (end_of t peer request found)
unfolding served_close messages_table
end_holds P Q t peer request None rows = close_holds P Q t peer request (find (has_triad request.triad) t.rows) rows
end_holds P Q t peer request (Some d) rows =
    either (ServedHolds P Q) (is_wrong_ender t.profile.limits peer d) _ _ (refused_ids P 0x4E (status_fault status.PrivilegeViolation) (Some request.triad) refl, rows) (closed_ids P d.triad, rows)

object_holds : (P Q : ℕ → Type 0) (t : AdapterTable) (service : ℕ) (answer : ObjectAnswer) → RowsHold P Q t.rows → ServedHolds P Q (object_served t service answer)
object_holds P Q t service (said by value) rows = (object_ids P by value, rows)
object_holds P Q t service (denied why) rows = refusal_holds P Q t service why rows
object_holds P Q t service (resetting kind) rows = (object_ids P Reset [], rows)
object_holds P Q t service (answering by general content) rows = (own_object_ids P by general content, rows)
object_holds P Q t service (refusing named why) rows = refusal_holds P Q t named why rows
object_holds P Q t service (unrouted words) rows = (no_route_ids P words, rows)

-- the same, if something is served
abbrev AnyHolds : (P Q : ℕ → Type 0) → Option Served → Type 0
AnyHolds P Q s = IfSome s (ServedHolds P Q)

abbrev next_of : ℕ → Option Served → ℕ
next_of next None = next
next_of next (Some s) = s.table.next_id

served_holds : (P Q : ℕ → Type 0) → Cuts P → (t : AdapterTable) (peer : Node) (request : RouterRequestFields) (to : ℕ) → next_of to (served t peer request) ≤ to → HasDrawn P Q t to → RequestIds P request → RowsHold P Q t.rows → AnyHolds P Q (served t peer request)
unfolding served_open served_end served_object
served_holds P Q cuts t peer nothing to below drawn ids rows = tt
served_holds P Q cuts t peer (refused service why) to below drawn ids rows = refusal_holds P Q t service why rows
served_holds P Q cuts t peer (closing request) to below drawn ids rows = end_holds P Q t peer request (find (has_class3_triad request.triad) t.messaging.class3_connections) rows
served_holds P Q cuts t peer (object service class instance attribute body) to below drawn ids rows = object_holds P Q t service (object_answer t service class instance attribute body) rows
served_holds P Q cuts t peer (opening large request) to below drawn ids rows =
    let whole : OpenFields = whole_request t.profile.description request in
    open_holds P Q cuts t peer large whole (limited_admission t peer whole) to refl below drawn
    (paced_holds P (has_opened_enough_at t peer) _ (limited_holds P t.profile.limits t.rows peer _ (fixed_holds P t whole (admission t whole) (admission_holds P Q t whole rows)))) ids rows

-- ---- what is replied over a stream

class3_holds : (P Q : ℕ → Type 0) → Cuts P → (t : AdapterTable) (stream : Stream) (large : Bool) (request : OpenFields) (c : Check) (to : ℕ) → class3_refusal (class3_view t stream.peer request.triad) request ≡ c → (judged_class3 t stream large request c).table.next_id ≤ to → HasDrawn P Q t to → P request.t_o_id.0 → RowsHold P Q t.rows → ServedHolds P Q (judged_class3 t stream large request c)
unfolding messages_table opened_class3
class3_holds P Q cuts t stream large request (Some why) to is below drawn requested rows = (refusal_ids P t.profile t.rows (open_service large) request why, rows)
class3_holds P Q cuts t stream large request None to is below drawn requested rows =
    let left = (admitted_class3_is t stream.peer request is).ids in
    let o_t = drawn.0 t.next_id (omega arith) (omega (arith, below)) (omega (arith, left)) in
    (opened_ids P large _ (cuts _ o_t) (cuts _ requested), rows)

over_stream_step : (P Q : ℕ → Type 0) → Cuts P → (b : Bool) (t : AdapterTable) (stream : Stream) (large : Bool) (request : OpenFields) (to : ℕ) → next_of to (cond b (Some (served_class3 t stream large request)) (served t stream.peer (opening large request))) ≤ to → HasDrawn P Q t to → P request.t_o_id.0 → RowsHold P Q t.rows → AnyHolds P Q (cond b (Some (served_class3 t stream large request)) (served t stream.peer (opening large request)))
unfolding served_class3
over_stream_step P Q cuts true t stream large request to below drawn requested rows =
    class3_holds P Q cuts t stream large (whole_request t.profile.description request) (class3_refusal (class3_view t stream.peer request.triad) (whole_request t.profile.description request)) to refl below drawn requested rows
over_stream_step P Q cuts false t stream large request to below drawn requested rows = served_holds P Q cuts t stream.peer (opening large request) to below drawn requested rows

over_stream_holds : (P Q : ℕ → Type 0) → Cuts P → (t : AdapterTable) (stream : Stream) (request : RouterRequestFields) (to : ℕ) → next_of to (stream_served t stream request) ≤ to → HasDrawn P Q t to → RequestIds P request → RowsHold P Q t.rows → AnyHolds P Q (stream_served t stream request)
over_stream_holds P Q cuts t stream (opening large request) to below drawn ids rows = over_stream_step P Q cuts (is_message_trigger request.trigger) t stream large request to below drawn ids rows
over_stream_holds P Q cuts t stream nothing to below drawn ids rows = served_holds P Q cuts t stream.peer nothing to below drawn ids rows
over_stream_holds P Q cuts t stream (refused service why) to below drawn ids rows = served_holds P Q cuts t stream.peer (refused service why) to below drawn ids rows
over_stream_holds P Q cuts t stream (closing request) to below drawn ids rows = served_holds P Q cuts t stream.peer (closing request) to below drawn ids rows
over_stream_holds P Q cuts t stream (object service class instance attribute body) to below drawn ids rows = served_holds P Q cuts t stream.peer (object service class instance attribute body) to below drawn ids rows

-- ---- messages

abbrev SaysIds : (ℕ → Type 0) → FrameReply → Type 0
SaysIds P (router_reply reply address) = PayloadIds P (reply_text reply)
SaysIds P services = Unit {0}
SaysIds P (registered session) = Unit {0}
SaysIds P other_version = Unit {0}
SaysIds P (frames.refused why) = Unit {0}
SaysIds P (connected connection count text) = Unit {0}

-- the answer to a message, if the counter stays within the limit
abbrev HandledHolds : (P Q : ℕ → Type 0) → ℕ → Handled → Type 0
HandledHolds P Q to done = done.table.next_id ≤ to → IfSome done.reply (SaysIds P) × RowsHold P Q done.table.rows

register_holds : (P Q : ℕ → Type 0) (to : ℕ) (t : AdapterTable) (stream : Stream) (body : List ℕ) → RowsHold P Q t.rows → HandledHolds P Q to (register_session t stream body)
unfolding registered_table
register_holds P Q to t stream body rows =
    either (HandledHolds P Q to) (not (length body == 4)) _ _ (λ below. (tt, rows))
    (either (HandledHolds P Q to) (not (bytes_eq body protocol_text)) _ _ (λ below. (tt, rows))
    (either (HandledHolds P Q to) stream.registered (refusal t encap.InvalidCommand) (session_begun t stream) (λ below. (tt, rows)) (λ below. (tt, rows))))

replied_holds : (P Q : ℕ → Type 0) (to : ℕ) (t : AdapterTable) (s : Option Served) → RowsHold P Q t.rows → (next_of to s ≤ to → AnyHolds P Q s) → HandledHolds P Q to (request_replied t s)
replied_holds P Q to t None rows holds = λ below. (tt, rows)
replied_holds P Q to t (Some s) rows holds = holds

-- what is counted has the same ids
counted_holds : (P Q : ℕ → Type 0) (to : ℕ) (request : RouterRequestFields) (s : Option Served) → (next_of to s ≤ to → AnyHolds P Q s) → next_of to (counted_once request s) ≤ to → AnyHolds P Q (counted_once request s)
counted_holds P Q to request None holds below = holds below
counted_holds P Q to request (Some s) holds below = counted_by_keeps (λ (u : Served). u.table.next_id ≤ to → ServedHolds P Q u) (λ u counters keeps. keeps) request s holds below

request_holds : (P Q : ℕ → Type 0) → Cuts P → (to : ℕ) (t : AdapterTable) (stream : Stream) (context : ℕ) (request : RouterRequestFields) (asks : Option OwnRequest) → HasDrawn P Q t to → RequestIds P request → RowsHold P Q t.rows → HandledHolds P Q to (request_handled t stream context request asks)
unfolding messages_table
request_holds P Q cuts to t stream context request None drawn ids rows =
    replied_holds P Q to t (counted_once request (stream_served t stream request)) rows
    (counted_holds P Q to request (stream_served t stream request) (λ below. over_stream_holds P Q cuts t stream request to below drawn ids rows))
request_holds P Q cuts to t stream context request (Some own) drawn ids rows =
    either (HandledHolds P Q to) (cannot_ask t stream.peer) (request_replied t (Some (router_refusal t own.service status.ResourceUnavailable))) _
    (λ below. refusal_holds P Q t own.service status.ResourceUnavailable rows) (λ below. (tt, rows))

packet_holds : (P Q : ℕ → Type 0) → Cuts P → (to : ℕ) (t : AdapterTable) (stream : Stream) (context : ℕ) (reading : Result PacketFields ItemFault) → HasDrawn P Q t to → PacketIds P reading → RowsHold P Q t.rows → HandledHolds P Q to (packet_replied t stream context reading)
packet_holds P Q cuts to t stream context (Err fault) drawn ids rows = λ below. (tt, rows)
packet_holds P Q cuts to t stream context (Ok packet) drawn ids rows =
    request_holds P Q cuts to t stream context (router_request_reading packet.payload) (own_of t.profile.objects (router_request_reading packet.payload)) drawn ids.requested rows

messages_hold : (P Q : ℕ → Type 0) (t : AdapterTable) (next_id : ℕ) (m : Messaging) → RowsHold P Q t.rows → RowsHold P Q (messages_table t next_id m).rows
unfolding messages_table
messages_hold P Q t next_id m rows = rows

itemless_ids : (P : ℕ → Type 0) (reply : Option FrameReply) → IfSome reply IsItemless → IfSome reply (SaysIds P)
itemless_ids P None none = tt
itemless_ids P (Some services) none = absurd none
itemless_ids P (Some (registered session)) none = absurd none
itemless_ids P (Some other_version) none = absurd none
itemless_ids P (Some (router_reply reply address)) none = absurd none
itemless_ids P (Some (frames.refused why)) none = tt
itemless_ids P (Some (connected connection count text)) none = tt

-- what becomes of a connected message
of_messages : (P Q : ℕ → Type 0) (to : ℕ) (t : AdapterTable) (done : Handled) → IsOfMessages t done → RowsHold P Q t.rows → HandledHolds P Q to done
of_messages P Q to t done is rows = λ below.
    (itemless_ids P done.reply is.reply, subst (λ (u : AdapterTable). RowsHold P Q u.rows) (sym is.table) (messages_hold P Q (with_counters t is.counters) t.next_id is.messages rows))

handled_holds : (P Q : ℕ → Type 0) → Cuts P → (to : ℕ) (t : AdapterTable) (stream : Stream) (request_header : RequestHeader) (body : List ℕ) (kind : Command) → HasDrawn P Q t to → PacketIds P (any_packet_reading body) → RowsHold P Q t.rows → HandledHolds P Q to (handled t stream request_header body kind)
unfolding handled without_stream
handled_holds P Q cuts to t stream request_header body command.RegisterSession drawn ids rows = register_holds P Q to t stream body rows
handled_holds P Q cuts to t stream request_header body command.UnregisterSession drawn ids rows =
    either (HandledHolds P Q to) (has_session stream request_header.session) (session_ended t stream) (unanswered t) (λ below. (tt, rows)) (λ below. (tt, rows))
handled_holds P Q cuts to t stream request_header body command.SendRrData drawn ids rows =
    either (HandledHolds P Q to) (has_session stream request_header.session) _ _ (packet_holds P Q cuts to t stream request_header.context (items_for t.profile.description body) drawn (items_hold (PacketIds P) (λ fault. tt) t.profile.description body ids) rows) (λ below. (tt, rows))
handled_holds P Q cuts to t stream request_header body command.SendUnitData drawn ids rows =
    either (HandledHolds P Q to) (has_session stream request_header.session) (unit_replied t stream (connected_items_for t.profile.description body)) (refusal t (outside_session t.profile.description))
    (of_messages P Q to t (unit_replied t stream (connected_items_for t.profile.description body)) (unit_of t stream (connected_items_for t.profile.description body)) rows) (λ below. (tt, rows))
handled_holds P Q cuts to t stream request_header body _ drawn ids rows = λ below. (tt, rows)

-- ---- frames

pub plain_protocol : any_packet_reading protocol_text ≡ Err Bad
unfolding any_packet_reading are_items behind_item
plain_protocol = refl

pub plain_none : any_packet_reading [] ≡ Err Bad
unfolding any_packet_reading are_items behind_item
plain_none = refl

pub some_bytes : (reply : ReplyFields) → 1 ≤ length (reply_text reply)
unfolding opened_text closed_text object_reply_text refused_text own_reply_text intervals_text
some_bytes (opened large o) = omega arith
some_bytes (closed triad) = omega arith
some_bytes (object_reply by value) = omega arith
some_bytes (replies.refused service fault triad) = omega arith
some_bytes (replies.unacceptable service a triad) = omega arith
some_bytes (replies.own service general content) = omega arith
some_bytes (replies.no_route words) = omega arith

pub few_bytes : (m : MessageFields) (payload : List ℕ) (socket : Option SocketAddress) → m.payload ≡ packet_text payload socket → length (message_text m) ≤ 2048 → length payload ≤ 65535
few_bytes m payload socket is short =
    let header = fields_text header_widths (header_numbers m) in
    let front = fields_text packet_widths (packet_numbers (record { timeout = 0; payload = payload }) (socket_count socket)) in
    let same : length m.payload ≡ length (packet_text payload socket) = ap length is in
    omega (arith, short, same, length-append header m.payload, length-append front (payload ++ socket_items socket), length-append payload (socket_items socket))

reply_ids : ItemsReadBack → (P : ℕ → Type 0) (request_header : RequestHeader) (reply : FrameReply) → SaysIds P reply → length (message_text (reply_message request_header reply)) ≤ 2048 → PacketIds P (any_packet_reading (reply_message request_header reply).payload)
reply_ids back P request_header (router_reply reply address) ids short =
    packet_ids back P (reply_text reply) (option_map socket_of address) (some_bytes reply) (few_bytes (reply_message request_header (router_reply reply address)) (reply_text reply) (option_map socket_of address) refl short) ids
reply_ids back P request_header services ids short = subst (PacketIds P) (sym plain_services) tt
reply_ids back P request_header (registered session) ids short = subst (PacketIds P) (sym plain_protocol) tt
reply_ids back P request_header other_version ids short = subst (PacketIds P) (sym plain_protocol) tt
reply_ids back P request_header (frames.refused why) ids short = subst (PacketIds P) (sym plain_none) tt
reply_ids back P request_header (connected connection count text) ids short = subst (PacketIds P) (sym (connected_bad connection count text)) tt

replies_hold : ItemsReadBack → (P : ℕ → Type 0) (number : ℕ) (request_header : RequestHeader) (reply : Option FrameReply) → IfSome reply (SaysIds P) → AllByRecursion IsShortFrame (reply_frames number request_header reply) → AllByRecursion (HasFrameIds P) (reply_frames number request_header reply)
replies_hold back P number request_header None ids short = tt
replies_hold back P number request_header (Some reply) ids short = (message_ids P (reply_message request_header reply) (reply_ids back P request_header reply ids short.0), tt)

-- ---- answers

-- an answer and the next table, if the counter stays within the limit and the answer is small
abbrev pub NextHolds : (P Q : ℕ → Type 0) → ℕ → Next → Type 0
NextHolds P Q to next = next.1.next_id ≤ to → IsSmall next.0 → AnswerIds P next.0 × RowsHold P Q next.1.rows

framed_holds : ItemsReadBack → (P Q : ℕ → Type 0) (to number : ℕ) (request_header : RequestHeader) (done : Handled) → HandledHolds P Q to done → NextHolds P Q to (framed number request_header done)
framed_holds back P Q to number request_header done holds = λ below small.
    let both = holds below in
    (record { frames = replies_hold back P number request_header done.reply both.0 small.short_frames; datagrams = tt }, both.1)

wrong_length_holds : ItemsReadBack → (P Q : ℕ → Type 0) (to : ℕ) (t : AdapterTable) (stream : Stream) (header : Option (List ℕ × List ℕ)) → RowsHold P Q t.rows → NextHolds P Q to (frame_answer t stream (wrong_length_of header))
wrong_length_holds back P Q to t stream None rows = (λ below small. (record { frames = tt; datagrams = tt }, rows))
wrong_length_holds back P Q to t stream (Some h) rows =
    either (NextHolds P Q to) (is_silent (command_of (frames.request_header_in h.0).command)) _ _ (λ below small. (record { frames = tt; datagrams = tt }, rows))
    (framed_holds back P Q to stream.number (frames.request_header_in h.0) (refusal t encap.InvalidLength) (λ below. (tt, rows)))

message_holds : ItemsReadBack → (P Q : ℕ → Type 0) → Cuts P → (to : ℕ) (t : AdapterTable) (stream : Stream) (header : Option (List ℕ × List ℕ)) (reading : Result MessageFields EncapFault) → HasDrawn P Q t to → MessageIds P reading → RowsHold P Q t.rows → NextHolds P Q to (frame_answer t stream (frame_fields header reading))
message_holds back P Q cuts to t stream header (Err fault) drawn ids rows = wrong_length_holds back P Q to t stream header rows
message_holds back P Q cuts to t stream header (Ok m) drawn ids rows =
    framed_holds back P Q to stream.number (request_header_of m) (handled t stream (request_header_of m) m.payload (command_of m.command)) (handled_holds P Q cuts to t stream (request_header_of m) m.payload (command_of m.command) drawn ids rows)

-- if the step gives an answer
abbrev pub OkHolds : (P Q : ℕ → Type 0) → ℕ → Result Next StepFault → Type 0
OkHolds P Q to (Ok next) = NextHolds P Q to next
OkHolds P Q to (Err fault) = Unit {0}

-- an answer of the reply to an inquiry alone
inquiry_holds : (P Q : ℕ → Type 0) (to : Recipient) (t : AdapterTable) (text : List ℕ) → IsPlainText text → RowsHold P Q t.rows → AnswerIds P (frame_alone to text) × RowsHold P Q t.rows
inquiry_holds P Q to t text plain rows = (record { frames = (plain_ids P text plain, tt); datagrams = tt }, rows)

read_holds : ItemsReadBack → (P Q : ℕ → Type 0) → Cuts P → (to : ℕ) (t : AdapterTable) (stream : Stream) (bytes : List ℕ) → HasDrawn P Q t to → FrameIds P bytes → RowsHold P Q t.rows → NextHolds P Q to (frame_answer t stream (frame_reading bytes))
unfolding frame_reading
read_holds back P Q cuts to t stream bytes drawn ids rows = message_holds back P Q cuts to t stream _ (message_reading bytes) drawn ids rows

stream_holds : ItemsReadBack → (P Q : ℕ → Type 0) → Cuts P → (to : ℕ) (t : AdapterTable) (stream : Stream) (bytes : List ℕ) (reply : Option (List ℕ)) → IfSome reply IsPlainText → HasDrawn P Q t to → FrameIds P bytes → RowsHold P Q t.rows → NextHolds P Q to (stream_answer t stream bytes reply)
stream_holds back P Q cuts to t stream bytes None plain drawn ids rows =
    answer_has (NextHolds P Q to) t stream bytes (read_holds back P Q cuts to t stream bytes drawn ids rows) (wrong_length_holds back P Q to t stream (fields_at header_widths bytes) rows)
    (λ below small. (record { frames = tt; datagrams = tt }, rows))
stream_holds back P Q cuts to t stream bytes (Some text) plain drawn ids rows = λ below small. inquiry_holds P Q (OverStream stream.number) t text plain rows

inquired_holds : (P Q : ℕ → Type 0) (to : ℕ) (t : AdapterTable) (peer : Node) (reply : Option (List ℕ)) → IfSome reply IsPlainText → RowsHold P Q t.rows → NextHolds P Q to (inquired_by t peer reply)
inquired_holds P Q to t peer None plain rows = λ below small. (record { frames = tt; datagrams = tt }, rows)
inquired_holds P Q to t peer (Some text) plain rows = λ below small. inquiry_holds P Q (Peer peer) t text plain rows

frame_holds : ItemsReadBack → (P Q : ℕ → Type 0) → Cuts P → (to : ℕ) (t : AdapterTable) (bytes : List ℕ) (found : Option Stream) → HasDrawn P Q t to → FrameIds P bytes → RowsHold P Q t.rows → OkHolds P Q to (frame_of t bytes found)
frame_holds back P Q cuts to t bytes None drawn ids rows = tt
frame_holds back P Q cuts to t bytes (Some stream) drawn ids rows = stream_holds back P Q cuts to t stream bytes (inquiry_reply t bytes) (inquiry_plain t bytes) drawn ids rows

-- ---- datagrams received

found_holds : (P Q : ℕ → Type 0) (to : ℕ) (t : AdapterTable) (peer : Node) (d : DatagramFields) (found : Option Row) → RowsHold P Q t.rows → NextHolds P Q to (found_datagram t peer d found)
unfolding accepted_table
found_holds P Q to t peer d None rows = (λ below small. (record { frames = tt; datagrams = tt }, rows))
found_holds P Q to t peer d (Some row) rows =
    let delivery = row_delivery t.profile t.clock row d in
    either (NextHolds P Q to) (is_accepted (row_delivery t.profile t.clock row d)) (delivered delivery (accepted_table t peer d row delivery)) (delivered delivery t)
    (λ below small. (record { frames = tt; datagrams = tt }, (all_mapped (RowIds P Q) (RowIds P Q) (accepted_if_for t.clock peer d) (accepted_holds P Q t.clock peer d) t.rows rows))) (λ below small. (record { frames = tt; datagrams = tt }, rows))

datagram_holds : (P Q : ℕ → Type 0) (to : ℕ) (t : AdapterTable) (peer : Node) (reading : Result DatagramFields DatagramFault) → RowsHold P Q t.rows → NextHolds P Q to (datagram_of t peer reading)
datagram_holds P Q to t peer (Err fault) rows = (λ below small. (record { frames = tt; datagrams = tt }, rows))
datagram_holds P Q to t peer (Ok d) rows = found_holds P Q to t peer d (find (is_for peer d.connection) t.rows) rows

-- ---- datagrams sent

abbrev ProducerHolds : (ℕ → Type 0) → Producer → Type 0
ProducerHolds P producer = P producer.id.0

abbrev ProducedHolds : (ℕ → Type 0) → Produced → Type 0
ProducedHolds P production = P production.datagram.connection

producer_holds : (P Q : ℕ → Type 0) (row : Row) (state : State) → RowIds P Q row → IfSome (state_producer row state) (ProducerHolds P)
producer_holds P Q row (Established production) holds = holds.t_o
producer_holds P Q row TimedOut holds = tt

producers_hold : (P Q : ℕ → Type 0) (p : Row → Bool) (before : Producer → Producer → Bool) (rows : List Row) → RowsHold P Q rows → AllByRecursion (ProducerHolds P) (in_order before (producers (filter p rows)))
producers_hold P Q p before rows holds =
    all_ordered (ProducerHolds P) before (producers (filter p rows))
    (all_firsts (ProducerHolds P) same_producer (filter_map producer_in (filter p rows))
    (all_made (RowIds P Q) (ProducerHolds P) producer_in (λ row ids. producer_holds P Q row row.state ids) (filter p rows) (all_filtered (RowIds P Q) p rows holds)))

sent_hold : (P Q : ℕ → Type 0) → Cuts P → (rows : List Row) (input : Producer → List ℕ) (ps : List Producer) → AllByRecursion (ProducerHolds P) ps → AllByRecursion (HasDatagramId P) (map sent (map (λ producer. production_of rows (input producer) producer) ps))
sent_hold P Q cuts rows input ps holds =
    all_mapped (ProducedHolds P) (HasDatagramId P) sent (λ p id. datagram_id P p.datagram (cuts _ id)) (map (λ producer. production_of rows (input producer) producer) ps)
    (all_mapped (ProducerHolds P) (ProducedHolds P) (λ producer. production_of rows (input producer) producer) (λ producer id. id) ps holds)

advanced_holds : (P Q : ℕ → Type 0) → Cuts P → (t : AdapterTable) (ms : ℕ) → RowsHold P Q t.rows → AllByRecursion (HasDatagramId P) (advanced (clocked_table t ms)).0.datagrams × RowsHold P Q (advanced (clocked_table t ms)).1.rows
unfolding clocked_table expired_table produced_table
advanced_holds P Q cuts t ms rows =
    let clock : Ms = record { 0 = t.clock.0 + ms } in
    let after = expired_rows clock t.rows in
    let left = all_filtered (RowIds P Q) (stays (expired_rows clock t.rows)) (expired_rows clock t.rows) (all_mapped (RowIds P Q) (RowIds P Q) (expired_row clock) (expired_holds P Q clock) t.rows rows) in (
      sent_hold P Q cuts (filter (stays after) after) (productions.input_of t.values) (due_producers clock (filter (stays after) after)) (producers_hold P Q (is_due clock) by_due (filter (stays after) after) left),
      all_mapped (RowIds P Q) (RowIds P Q) (produced_row clock) (produced_holds P Q clock) (filter (stays after) after) left,
    )

-- ---- replies of the application, and those in its place

-- a text of four bytes is no message
four_bytes : (P : ℕ → Type 0) (a b c d : ℕ) → FrameIds P (a ∷ b ∷ c ∷ d ∷ [])
unfolding message_reading
four_bytes P a b c d = tt

class3_frames_hold : (P : ℕ → Type 0) (count service : ℕ) (reply : ReplyFields) (found : Option Class3Connection) → AllByRecursion (HasFrameIds P) (class3_frames count service reply found)
class3_frames_hold P count service reply None = tt
class3_frames_hold P count service reply (Some d) =
    let text : FrameReply = connected d.t_o_id.0 count (fitted_text d service reply) in
    (message_ids P (reply_message (unit_header d.stream) text) (subst (PacketIds P) (sym (connected_bad d.t_o_id.0 count (fitted_text d service reply))) tt), tt)

route_hold : ItemsReadBack → (P : ℕ → Type 0) (m : Messaging) (from : Requester) (service : ℕ) (reply : ReplyFields) → WayIds P from (reply_text reply) → AllByRecursion IsShortFrame (route_frames m from service reply) → AllByRecursion (HasFrameIds P) (route_frames m from service reply)
route_hold back P m (asker.Peer node) service reply ids short = (ids, tt)
route_hold back P m (asker.Stream number context) service reply ids short = replies_hold back P number (rr_header number context) (Some (router_reply reply None)) ids short
route_hold back P m (asker.Class3Connection id count) service reply ids short = class3_frames_hold P count service reply (find (is_last_message id count) m.class3_connections)

late_ids : (P : ℕ → Type 0) (from : Requester) (service : ℕ) → WayIds P from (own_reply_text service 0x1F [])
unfolding own_reply_text
late_ids P (asker.Peer node) service = four_bytes P (reply_service service) 0 0x1F 0
late_ids P (asker.Stream number context) service = own_refused_ids P service 0x1F [] refl
late_ids P (asker.Class3Connection id count) service = tt

all_front : (P : Frame → Type 0) (xs ys : List Frame) → AllByRecursion P (xs ++ ys) → AllByRecursion P xs × AllByRecursion P ys
all_front P [] ys all = (tt, all)
all_front P (x ∷ xs) ys all = let more = all_front P xs ys all.1 in ((all.0, more.0), more.1)

late_hold : ItemsReadBack → (P : ℕ → Type 0) (m : Messaging) (waiting : List Waiting) → AllByRecursion IsShortFrame (flat_map (late_frames m) waiting) → AllByRecursion (HasFrameIds P) (flat_map (late_frames m) waiting)
late_hold back P m [] short = tt
late_hold back P m (w ∷ waiting) short =
    let parts = all_front IsShortFrame (late_frames m w) (flat_map (late_frames m) waiting) short in
    all_both (HasFrameIds P) (late_frames m w) (flat_map (late_frames m) waiting) (route_hold back P m w.asker w.service (replies.own w.service 0x1F []) (late_ids P w.asker w.service) parts.0)
    (late_hold back P m waiting parts.1)

-- time at class 3 connections and at requests that wait
aged_holds : ItemsReadBack → (P Q : ℕ → Type 0) (to : ℕ) (next : Next) → (next.1.next_id ≤ to → AllByRecursion (HasDatagramId P) next.0.datagrams × RowsHold P Q next.1.rows) → NextHolds P Q to (aged_next next)
unfolding messages_table
aged_holds back P Q to next holds = λ below small.
    let both = holds below in
    (record { frames = late_hold back P (without_late_class3_connections next.1.clock next.1.messaging) (late_waiting next.1.clock (without_late_class3_connections next.1.clock next.1.messaging)) small.short_frames; datagrams = both.0 }, both.1)

tick_holds : ItemsReadBack → (P Q : ℕ → Type 0) → Cuts P → (to : ℕ) (t : AdapterTable) (ms : ℕ) → RowsHold P Q t.rows → OkHolds P Q to (tick t ms)
unfolding tick
tick_holds back P Q cuts to t ms rows =
    either (OkHolds P Q to) (nat_lt longest_tick ms) (Err TickTooLong) _ tt
    (either (OkHolds P Q to) (nat_lt clock_end (t.clock.0 + ms)) (Err ClockEnd) (Ok (aged_next (advanced (clocked_table t ms)))) tt
    (aged_holds back P Q to (advanced (clocked_table t ms)) (λ below. advanced_holds P Q cuts t ms rows)))

-- an answer of the application
responded_holds : ItemsReadBack → (P Q : ℕ → Type 0) (to : ℕ) (t : AdapterTable) (w : Waiting) (general : ℕ) (bytes : List ℕ) → WayIds P w.asker (own_reply_text w.service general bytes) → RowsHold P Q t.rows → NextHolds P Q to (responded t w (replies.own w.service general bytes))
responded_holds back P Q to t w general bytes ids rows = λ below small. (
  record { frames = route_hold back P t.messaging w.asker w.service (replies.own w.service general bytes) ids small.short_frames; datagrams = tt },
  messages_hold P Q t t.next_id _ rows,
)

respond_hold : ItemsReadBack → (P Q : ℕ → Type 0) (to : ℕ) (t : AdapterTable) (number general : ℕ) (bytes : List ℕ) → AnsweredIds P t (event.Respond number general bytes) → RowsHold P Q t.rows → OkHolds P Q to (respond t number general bytes)
respond_hold back P Q to t number general bytes ids rows =
    respond_holds (OkHolds P Q to) t number general bytes (λ why. tt)
    (λ w found few. responded_holds back P Q to t w general bytes (subst (λ (o : Option Waiting). IfSome o (λ w'. WayIds P w'.asker (own_reply_text w'.service general bytes))) found ids) rows)

write_holds : (P Q : ℕ → Type 0) → Cuts P → (to : ℕ) (t : AdapterTable) (point : ℕ) (bytes : List ℕ) → RowsHold P Q t.rows → NextHolds P Q to (written (written_table t point bytes) point bytes)
unfolding written_table changed_table
write_holds P Q cuts to t point bytes rows = λ below small.
    let was = map (written_row point) t.rows in
    let now = all_mapped (RowIds P Q) (RowIds P Q) (written_row point) (written_holds P Q point) t.rows rows in (
      record {
        frames = tt;
        datagrams = sent_hold P Q cuts was (λ producer. bytes) (producers_on_change t.clock point was) (producers_hold P Q (produces_on_change t.clock point) by_number was now);
      },
      all_mapped (RowIds P Q) (RowIds P Q) (changed_row t.clock point) (changed_holds P Q t.clock point) was now,
    )

found_write : (P Q : ℕ → Type 0) → Cuts P → (to : ℕ) (t : AdapterTable) (point : ℕ) (bytes : List ℕ) (found : Option InputPoint) → RowsHold P Q t.rows → OkHolds P Q to (write_of t point bytes found)
found_write P Q cuts to t point bytes None rows = tt
found_write P Q cuts to t point bytes (Some input) rows =
    either (OkHolds P Q to) (length bytes == input.len) (Ok (written (written_table t point bytes) point bytes)) (Err WrongLength) (write_holds P Q cuts to t point bytes rows) tt

-- ---- the step

cut_holds : (P Q : ℕ → Type 0) (to : ℕ) (t : AdapterTable) (found : Option Stream) → RowsHold P Q t.rows → OkHolds P Q to (cut_of t found)
unfolding without_stream
cut_holds P Q to t None rows = tt
cut_holds P Q to t (Some stream) rows = (λ below small. (record { frames = tt; datagrams = tt }, rows))

pub adapter_holds : ItemsReadBack → (P Q : ℕ → Type 0) → Cuts P → (to : ℕ) (t : AdapterTable) (happens : Event) → HasDrawn P Q t to → EventIds P happens → AnsweredIds P t happens → RowsHold P Q t.rows → OkHolds P Q to (adapter_step t happens)
unfolding received inquired write frame stream_cut stream_opened with_stream
adapter_holds back P Q cuts to t (event.Request peer bytes) drawn ids answered rows = absurd ids
adapter_holds back P Q cuts to t (event.StreamOpened number peer) drawn ids answered rows =
    either (OkHolds P Q to) (is_taken t.streams number) (Err NotAllowedNow) (Ok (plain_answer Done, with_stream t number peer)) tt (λ below small. (record { frames = tt; datagrams = tt }, rows))
adapter_holds back P Q cuts to t (event.Frame number bytes) drawn ids answered rows = frame_holds back P Q cuts to t bytes (find (is_stream number) t.streams) drawn ids rows
adapter_holds back P Q cuts to t (event.StreamCut number) drawn ids answered rows = cut_holds P Q to t (find (is_stream number) t.streams) rows
adapter_holds back P Q cuts to t (event.Datagram peer bytes) drawn ids answered rows = datagram_holds P Q to t peer (datagram_reading bytes) rows
adapter_holds back P Q cuts to t (event.Inquiry peer bytes) drawn ids answered rows = inquired_holds P Q to t peer (inquiry_reply t bytes) (inquiry_plain t bytes) rows
adapter_holds back P Q cuts to t (event.Write point bytes) drawn ids answered rows = found_write P Q cuts to t point bytes (find (is_at point) t.profile.inputs) rows
adapter_holds back P Q cuts to t (event.Tick ms) drawn ids answered rows = tick_holds back P Q cuts to t ms rows
adapter_holds back P Q cuts to t (event.Respond number general bytes) drawn ids answered rows = respond_hold back P Q to t number general bytes answered rows
adapter_holds back P Q cuts to t (event.Counters bytes) drawn ids answered rows = counters_hold (OkHolds P Q to) t bytes (λ why. tt) (λ below small. (record { frames = tt; datagrams = tt }, rows))
adapter_holds back P Q cuts to t (event.Ids block) drawn ids answered rows = ids_hold (OkHolds P Q to) t block (λ why. tt) (λ may below small. (record { frames = tt; datagrams = tt }, rows))
adapter_holds back P Q cuts to t other drawn ids answered rows = passive_holds (OkHolds P Q to) t (λ why. tt) (λ verdict below small. (record { frames = tt; datagrams = tt }, rows)) other refl
