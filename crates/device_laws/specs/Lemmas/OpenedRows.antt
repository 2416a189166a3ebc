-- What holds of each connection of an adapter holds after a frame, if it holds of the connection that the frame opens.
use Rattle.std.proofs.Common.{◌≡◌, ℕ, ◌+◌, ◌==◌, not, Bool, List, [], ◌∷◌, length, find, Option, Some, None, Result, Ok, Err, IfOk, refl, sym, subst}
use Rattle.std.specs.List.{AllByRecursion}
use Rattle.std.specs.Option.{IfSome}
use Rattle.std.specs.Str.{bytes_eq}
use Rattle.cip_types.specs.declared.names.Node.{Node}
use Rattle.cip_types.specs.Texts.{Tailed}
use Rattle.cip_types.specs.Fields.{fields_at}
use Rattle.cip_encap.specs.declared.message.EncapFault.{EncapFault}
use Rattle.cip_encap.specs.declared.packet.ItemFault.{ItemFault}
use Rattle.cip_encap.specs.Message.{MessageFields, header_widths}
use Rattle.cip_encap.specs.Packet.{PacketFields}
use Rattle.cip_encap.specs.AnyItems.{any_packet_reading}
use Rattle.cip_encap.specs.Reading.{message_reading}
use Rattle.cip_events.specs.declared.event.Verdict.TheVariants.{BadFrame}
use Rattle.cip_events.specs.Answers.{plain_answer}
use Rattle.cip_fwdopen.specs.Close.{CloseFields}
use Rattle.cip_fwdopen.specs.Open.{OpenFields}
use Rattle.cip_router.specs.declared.command.Command.{Command}
use Rattle.cip_router.specs.declared.command.Command.TheVariants as command
use Rattle.cip_router.specs.declared.command.EncapStatus.TheVariants as encap
use Rattle.cip_netparams.specs.Word.{is_message_trigger}
use Rattle.cip_router.specs.declared.refusal.Refusal.{Refusal}
use Rattle.cip_router.specs.declared.refusal.Status.TheVariants as status
use Rattle.cip_router.specs.Requests.{RouterRequestFields, nothing, refused, closing, object, opening, router_request_reading}
use Rattle.cip_router.specs.Commands.{command_of, is_silent}
use Rattle.cip_router.specs.Frames.{RequestHeader, request_header_of, request_header_in, wrong_length_of, frame_fields, protocol_text, frame_reading}
use Rattle.messaging.specs.declared.class3.Class3Connection.{Class3Connection}
use Rattle.messaging.specs.declared.table.Messaging.{Messaging}
use Rattle.messaging.specs.Class3Connections.{has_class3_triad}
use Rattle.adapter_table.specs.Intervals.{whole_request}
use Rattle.adapter_table.specs.declared.table.AdapterTable.{AdapterTable}
use Rattle.adapter_table.specs.declared.table.Stream.{Stream}
use Rattle.adapter_table.specs.Checks.{Check, Admitted, admission}
use Rattle.adapter_table.specs.Class3Opening.{class3_view, class3_refusal, judged_class3, served_class3, stream_served}
use Rattle.adapter_table.specs.Messages.{messages_table}
use Rattle.adapter_table.specs.Own.{OwnRequest, own_of, cannot_ask}
use Rattle.adapter_table.specs.Closing.{stays, without_triad, closed_table}
use Rattle.adapter_table.specs.Connections.{Row}
use Rattle.adapter_table.specs.Counting.{with_counters}
use Rattle.adapter_table.specs.Encapsulation.{Handled, items_for, connected_items_for, refusal, unanswered, session_begun, session_ended, register_session, request_replied, request_handled, packet_replied, unit_replied, handled, framed, frame_answer, stream_answer, frame_of, outside_session}
use Rattle.adapter_table.specs.Inquiries.{inquiry_reply}
use Rattle.adapter_table.specs.Objects.{ObjectAnswer}
use Rattle.adapter_table.specs.Carrying.{object_answer}
use Rattle.adapter_table.specs.Objects as objects
use Rattle.adapter_table.specs.Opening.{opened_row, opened_table}
use Rattle.adapter_table.specs.Requests.{Next, Served, counted_once, judged_open, admitted_open, served_open, close_of, served_close, end_of, served_end, router_refusal, object_served, served_object, served}
use Rattle.adapter_table.specs.Rows.{has_triad}
use Rattle.adapter_table.specs.StatedLimits.{limited_admission, is_wrong_closer, is_wrong_ender}
use Rattle.adapter_table.specs.Streams.{without_stream, has_session, registered_table}
use Rattle.adapter_table.specs.Lemmas.CountLemmas.{counted_keeps}
use Rattle.adapter_table.specs.Lemmas.ItemLemmas.{items_any}
use Rattle.adapter_table.specs.Lemmas.LimitLemmas.{limited_is}
use Rattle.adapter_table.specs.Lemmas.FrameLemmas.{answer_has}
use Rattle.device_laws.specs.Lemmas.Lists.{all_both, all_filtered}
use Rattle.device_laws.specs.Lemmas.MessageSteps.{IsOfMessages, unit_of}
use Rattle.device_laws.specs.Lemmas.Texts.{either}

-- ---- what holds of a request that opens

-- it holds of each connection that a request to open makes
abbrev pub Makes : (Row → Type 0) → AdapterTable → RouterRequestFields → Type 0
Makes O t requested = (large : Bool) (request : OpenFields) → requested ≡ opening large request → (peer : Node) (admitted : Admitted) → admission t (whole_request t.profile.description request) ≡ Ok admitted → O (opened_row t peer (whole_request t.profile.description request) admitted)

abbrev pub RowsAre : (Row → Type 0) → AdapterTable → Type 0
RowsAre O t = AllByRecursion O t.rows

open_rows : (O : Row → Type 0) (t : AdapterTable) (peer : Node) (large : Bool) (request : OpenFields) (said : Result Admitted Refusal) → limited_admission t peer request ≡ said → ((admitted : Admitted) → admission t request ≡ Ok admitted → O (opened_row t peer request admitted)) → RowsAre O t → RowsAre O (judged_open t peer large request said).table
unfolding admitted_open opened_table
open_rows O t peer large request (Err why) is makes rows = rows
open_rows O t peer large request (Ok admitted) is makes rows = all_both O _ (opened_row t peer request admitted ∷ []) (all_filtered O _ t.rows rows) (makes admitted (limited_is t peer request admitted is).admitted, tt)

abbrev ServedRows : (Row → Type 0) → Served → Type 0
ServedRows O s = RowsAre O s.table

close_rows : (O : Row → Type 0) (t : AdapterTable) (peer : Node) (request : CloseFields) (found : Option Row) → RowsAre O t → RowsAre O (close_of t peer request found).table
unfolding closed_table
close_rows O t peer request None rows = rows
close_rows O t peer request (Some row) rows =
    either (ServedRows O) (is_wrong_closer t.profile.limits peer row) _ _ rows
    (all_filtered O (stays (without_triad row.triad t.rows)) (without_triad row.triad t.rows) (all_filtered O _ t.rows rows))

messages_rows : (O : Row → Type 0) (t : AdapterTable) (next_id : ℕ) (m : Messaging) → RowsAre O t → RowsAre O (messages_table t next_id m)
unfolding messages_table
messages_rows O t next_id m rows = rows

end_rows : (O : Row → Type 0) (t : AdapterTable) (peer : Node) (request : CloseFields) (found : Option Class3Connection) → RowsAre O t → ServedRows O (end_of t peer request found)
unfolding served_close
end_rows O t peer request None rows = close_rows O t peer request (find (has_triad request.triad) t.rows) rows
end_rows O t peer request (Some d) rows = either (ServedRows O) (is_wrong_ender t.profile.limits peer d) _ _ rows (messages_rows O t t.next_id _ rows)

object_rows : (O : Row → Type 0) (t : AdapterTable) (service : ℕ) (answer : ObjectAnswer) → RowsAre O t → ServedRows O (object_served t service answer)
object_rows O t service (objects.said by value) rows = rows
object_rows O t service (objects.denied why) rows = rows
object_rows O t service (objects.resetting kind) rows = rows
object_rows O t service (objects.answering by general content) rows = rows
object_rows O t service (objects.refusing named why) rows = rows
object_rows O t service (objects.unrouted words) rows = rows

served_rows : (O : Row → Type 0) (t : AdapterTable) (peer : Node) (requested : RouterRequestFields) → Makes O t requested → RowsAre O t → IfSome (served t peer requested) (ServedRows O)
unfolding served_open served_end served_object
served_rows O t peer nothing makes rows = tt
served_rows O t peer (refused service why) makes rows = rows
served_rows O t peer (closing request) makes rows = end_rows O t peer request (find (has_class3_triad request.triad) t.messaging.class3_connections) rows
served_rows O t peer (object service class instance attribute body) makes rows = object_rows O t service (object_answer t service class instance attribute body) rows
served_rows O t peer (opening large request) makes rows = open_rows O t peer large (whole_request t.profile.description request) (limited_admission t peer (whole_request t.profile.description request)) refl (makes large request refl peer) rows

-- ---- a frame

abbrev HandledRows : (Row → Type 0) → Handled → Type 0
HandledRows O done = RowsAre O done.table

registered_rows : (O : Row → Type 0) (t : AdapterTable) (number : ℕ) → RowsAre O t → RowsAre O (registered_table t number)
unfolding registered_table
registered_rows O t number rows = rows

pub without_rows : (O : Row → Type 0) (t : AdapterTable) (number : ℕ) → RowsAre O t → RowsAre O (without_stream t number)
unfolding without_stream
without_rows O t number rows = rows

register_rows : (O : Row → Type 0) (t : AdapterTable) (stream : Stream) (body : List ℕ) → RowsAre O t → HandledRows O (register_session t stream body)
register_rows O t stream body rows =
    either (HandledRows O) (not (length body == 4)) _ _ rows
    (either (HandledRows O) (not (bytes_eq body protocol_text)) _ _ rows
    (either (HandledRows O) stream.registered (refusal t encap.InvalidCommand) (session_begun t stream) rows (registered_rows O t stream.number rows)))

replied_rows : (O : Row → Type 0) (t : AdapterTable) (s : Option Served) → IfSome s (ServedRows O) → RowsAre O t → HandledRows O (request_replied t s)
replied_rows O t None goes rows = rows
replied_rows O t (Some s) goes rows = goes

abbrev pub PacketMakes : (Row → Type 0) → AdapterTable → Result PacketFields ItemFault → Type 0
PacketMakes O t reading = (packet : PacketFields) → reading ≡ Ok packet → Makes O t (router_request_reading packet.payload)

class3_rows : (O : Row → Type 0) (t : AdapterTable) (stream : Stream) (large : Bool) (request : OpenFields) (c : Check) → RowsAre O t → ServedRows O (judged_class3 t stream large request c)
class3_rows O t stream large request (Some why) rows = rows
class3_rows O t stream large request None rows = messages_rows O t (t.next_id + 1) _ rows

over_stream_rows : (O : Row → Type 0) (t : AdapterTable) (stream : Stream) (requested : RouterRequestFields) → Makes O t requested → RowsAre O t → IfSome (stream_served t stream requested) (ServedRows O)
unfolding served_class3
over_stream_rows O t stream (opening large request) makes rows =
    either (λ (s : Option Served). IfSome s (ServedRows O)) (is_message_trigger request.trigger) (Some (served_class3 t stream large request)) (served t stream.peer (opening large request))
    (class3_rows O t stream large (whole_request t.profile.description request) (class3_refusal (class3_view t stream.peer request.triad) (whole_request t.profile.description request)) rows) (served_rows O t stream.peer (opening large request) makes rows)
over_stream_rows O t stream nothing makes rows = served_rows O t stream.peer nothing makes rows
over_stream_rows O t stream (refused service why) makes rows = served_rows O t stream.peer (refused service why) makes rows
over_stream_rows O t stream (closing request) makes rows = served_rows O t stream.peer (closing request) makes rows
over_stream_rows O t stream (object service class instance attribute body) makes rows = served_rows O t stream.peer (object service class instance attribute body) makes rows

request_rows : (O : Row → Type 0) (t : AdapterTable) (stream : Stream) (context : ℕ) (requested : RouterRequestFields) (own : Option OwnRequest) → Makes O t requested → RowsAre O t → HandledRows O (request_handled t stream context requested own)
request_rows O t stream context requested None makes rows =
    replied_rows O t (counted_once requested (stream_served t stream requested)) (counted_keeps (ServedRows O) (λ s counters kept. kept) requested (stream_served t stream requested) (over_stream_rows O t stream requested makes rows)) rows
request_rows O t stream context requested (Some own) makes rows =
    either (HandledRows O) (cannot_ask t stream.peer) (request_replied t (Some (router_refusal t own.service status.ResourceUnavailable))) _ rows (messages_rows O t t.next_id _ rows)

packet_rows : (O : Row → Type 0) (t : AdapterTable) (stream : Stream) (context : ℕ) (reading : Result PacketFields ItemFault) → PacketMakes O t reading → RowsAre O t → HandledRows O (packet_replied t stream context reading)
packet_rows O t stream context (Err why) makes rows = rows
packet_rows O t stream context (Ok packet) makes rows = request_rows O t stream context (router_request_reading packet.payload) (own_of t.profile.objects (router_request_reading packet.payload)) (makes packet refl) rows

unit_rows : (O : Row → Type 0) (t : AdapterTable) (done : Handled) → IsOfMessages t done → RowsAre O t → HandledRows O done
unit_rows O t done is rows = subst (RowsAre O) (sym is.table) (messages_rows O (with_counters t is.counters) t.next_id is.messages rows)

handled_rows : (O : Row → Type 0) (t : AdapterTable) (stream : Stream) (echo : RequestHeader) (body : List ℕ) (requested : Command) → PacketMakes O t (any_packet_reading body) → RowsAre O t → HandledRows O (handled t stream echo body requested)
unfolding handled
handled_rows O t stream echo body command.Nop makes rows = rows
handled_rows O t stream echo body command.ListServices makes rows = rows
handled_rows O t stream echo body command.RegisterSession makes rows = register_rows O t stream body rows
handled_rows O t stream echo body command.UnregisterSession makes rows =
    either (HandledRows O) (has_session stream echo.session) (session_ended t stream) (unanswered t) (without_rows O t stream.number rows) rows
handled_rows O t stream echo body command.SendRrData makes rows =
    either (HandledRows O) (has_session stream echo.session) _ _
    (packet_rows O t stream echo.context (items_for t.profile.description body) (λ packet is. makes packet (items_any t.profile.description body packet is)) rows) rows
handled_rows O t stream echo body command.SendUnitData makes rows =
    either (HandledRows O) (has_session stream echo.session) (unit_replied t stream (connected_items_for t.profile.description body)) (refusal t (outside_session t.profile.description))
    (unit_rows O t (unit_replied t stream (connected_items_for t.profile.description body)) (unit_of t stream (connected_items_for t.profile.description body)) rows) rows
handled_rows O t stream echo body command.Other makes rows = rows

abbrev pub NextRows : (Row → Type 0) → Next → Type 0
NextRows O next = RowsAre O next.1

wrong_length_rows : (O : Row → Type 0) (t : AdapterTable) (stream : Stream) (header : Option Tailed) → RowsAre O t → NextRows O (frame_answer t stream (wrong_length_of header))
wrong_length_rows O t stream None rows = rows
wrong_length_rows O t stream (Some h) rows =
    either (NextRows O) (is_silent (command_of (request_header_in h.0).command)) (plain_answer BadFrame, t) (framed stream.number (request_header_in h.0) (refusal t encap.InvalidLength)) rows rows

abbrev pub MessageMakes : (Row → Type 0) → AdapterTable → Result MessageFields EncapFault → Type 0
MessageMakes O t reading = (m : MessageFields) → reading ≡ Ok m → PacketMakes O t (any_packet_reading m.payload)

message_rows : (O : Row → Type 0) (t : AdapterTable) (stream : Stream) (header : Option Tailed) (reading : Result MessageFields EncapFault) → MessageMakes O t reading → RowsAre O t → NextRows O (frame_answer t stream (frame_fields header reading))
message_rows O t stream header (Err why) makes rows = wrong_length_rows O t stream header rows
message_rows O t stream header (Ok m) makes rows = handled_rows O t stream (request_header_of m) m.payload (command_of m.command) (makes m refl) rows

read_rows : (O : Row → Type 0) (t : AdapterTable) (stream : Stream) (bytes : List ℕ) → MessageMakes O t (message_reading bytes) → RowsAre O t → NextRows O (frame_answer t stream (frame_reading bytes))
unfolding frame_reading
read_rows O t stream bytes makes rows = message_rows O t stream _ (message_reading bytes) makes rows

stream_rows : (O : Row → Type 0) (t : AdapterTable) (stream : Stream) (bytes : List ℕ) (reply : Option (List ℕ)) → MessageMakes O t (message_reading bytes) → RowsAre O t → NextRows O (stream_answer t stream bytes reply)
stream_rows O t stream bytes None makes rows =
    answer_has (NextRows O) t stream bytes (read_rows O t stream bytes makes rows) (wrong_length_rows O t stream (fields_at header_widths bytes) rows) rows
stream_rows O t stream bytes (Some text) makes rows = rows

pub frame_rows : (O : Row → Type 0) (t : AdapterTable) (bytes : List ℕ) (found : Option Stream) → MessageMakes O t (message_reading bytes) → RowsAre O t → IfOk (frame_of t bytes found) (NextRows O)
frame_rows O t bytes None makes rows = tt
frame_rows O t bytes (Some stream) makes rows = stream_rows O t stream bytes (inquiry_reply t bytes) makes rows
