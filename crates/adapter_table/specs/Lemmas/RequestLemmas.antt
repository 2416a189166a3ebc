-- What a peer's requests and frames do to a table: nothing, or one of few things.
use Rattle.std.proofs.Common.{◌≡◌, ℕ, ◌+◌, ◌==◌, ◌&&◌, nat_lt, Bool, true, false, cond, not, List, [], length, find, Option, Some, None, Result, Ok, Err, refl, subst}
use Rattle.std.specs.List.{list_any}
use Rattle.std.specs.Str.{bytes_eq}
use Rattle.std.proofs.lemmas.Bool.{and_parts, or_parts}
use Rattle.cip_types.specs.declared.names.Node.{Node}
use Rattle.cip_types.specs.declared.names.Triad.{Triad}
use Rattle.cip_types.specs.declared.ids.IdBlock.{IdBlock}
use Rattle.cip_types.specs.Ids.{may_take}
use Rattle.cip_fwdopen.specs.Open.{OpenFields}
use Rattle.cip_fwdopen.specs.Close.{CloseFields}
use Rattle.cip_encap.specs.declared.packet.ItemFault.{ItemFault}
use Rattle.cip_encap.specs.Connected.{ConnectedFields}
use Rattle.cip_encap.specs.Packet.{PacketFields}
use Rattle.cip_router.specs.declared.command.Command.{Command}
use Rattle.cip_router.specs.declared.command.Command.TheVariants as command
use Rattle.cip_router.specs.declared.command.EncapStatus.TheVariants as encap
use Rattle.cip_events.specs.declared.event.StepFault.{StepFault}
use Rattle.cip_events.specs.declared.event.StepFault.TheVariants.{NotAllowedNow, WrongLength}
use Rattle.cip_events.specs.declared.event.Verdict.TheVariants.{Done, BadFrame}
use Rattle.cip_router.specs.declared.refusal.Refusal.{Refusal}
use Rattle.cip_router.specs.declared.refusal.Status.TheVariants as status
use Rattle.cip_router.specs.Refusals.{status_fault}
use Rattle.cip_netparams.specs.Word.{is_message_trigger}
use Rattle.cip_router.specs.Replies.{ReplyFields, own}
use Rattle.messaging.specs.declared.class3.Class3Connection as kept
use Rattle.messaging.specs.declared.requests.Requester.TheVariants as asker
use Rattle.messaging.specs.declared.requests.Waiting.{Waiting}
use Rattle.messaging.specs.declared.table.Messaging.{Messaging}
use Rattle.messaging.specs.Class3Connections.{has_class3_triad, has_class3_id, is_class3, repeats_last}
use Rattle.messaging.specs.Changes.{longest_answer, has_request_number, lacks_room}
use Rattle.adapter_table.specs.Intervals.{whole_request}
use Rattle.adapter_table.specs.Connections.{Row}
use Rattle.adapter_table.specs.declared.opening_rates.rates.NodeOpenings.{NodeOpenings}
use Rattle.adapter_table.specs.declared.table.Stream.{Stream}
use Rattle.adapter_table.specs.declared.table.AdapterTable.{AdapterTable}
use Rattle.adapter_table.specs.Rates.{with_openings}
use Rattle.adapter_table.specs.Rows.{has_triad}
use Rattle.adapter_table.specs.Checks.{Check, Admitted, admission}
use Rattle.adapter_table.specs.StatedLimits.{limited_admission, is_wrong_closer, is_wrong_ender}
use Rattle.adapter_table.specs.Messages.{messages_table}
use Rattle.adapter_table.specs.MessagesSound.{carries, IsCarried, MessagesGoOn}
use Rattle.adapter_table.specs.Own.{OwnRequest, own_of, cannot_ask, referred_verdict, referred_table}
use Rattle.adapter_table.specs.Class3Opening.{class3_view, class3_refusal, opened_class3, class3_table, judged_class3, served_class3, stream_served}
use Rattle.adapter_table.specs.Connected.{service_in, fitted_text, connected_served, next_deadline, executed_table, asking_table}
use Rattle.adapter_table.specs.Answering.{responded, respond_of, respond}
use Rattle.adapter_table.specs.Opening.{opened_row, opened_table}
use Rattle.adapter_table.specs.Closing.{closed_table}
use Rattle.adapter_table.specs.Objects.{ObjectAnswer, said, denied, resetting, answering, refusing, unrouted}
use Rattle.adapter_table.specs.Carrying.{object_answer}
use Rattle.cip_router.specs.Requests.{RouterRequestFields, nothing, refused, closing, object, opening, router_request_reading}
use Rattle.adapter_table.specs.Requests.{Next, Served, counted_once, open_service, served_open, judged_open, admitted_open, served_close, close_of, refused_close, known_close, known_class3_close, end_of, served_end, router_refusal, object_served, served_object, served, replied, answered, requested_by, requested}
use Rattle.cip_events.specs.Answers.{plain_answer}
use Rattle.adapter_table.specs.Streams.{is_stream, is_taken, with_stream, without_stream, has_session, registered_table, stream_opened, cut_of, stream_cut}
use Rattle.cip_router.specs.Commands.{command_of, is_silent}
use Rattle.cip_router.specs.Frames.{RequestHeader, FrameFields, without_header, wrong_length, whole, protocol_text}
use Rattle.adapter_table.specs.declared.counters.DeviceCounters.{DeviceCounters}
use Rattle.adapter_table.specs.declared.counters.Tally.{Tally}
use Rattle.adapter_table.specs.declared.counters.Tally.TheVariants as tally
use Rattle.adapter_table.specs.Counters.{counted, refused_tally, tally_of}
use Rattle.adapter_table.specs.Counting.{tallied, with_counters}
use Rattle.adapter_table.specs.Encapsulation.{Handled, items_for, connected_items_for, refusal, session_begun, register_session, request_replied, request_handled, packet_replied, message_replied, message_served, message_executed, message_found, unit_replied, handled, framed, frame_for, frame_answer, stream_answer, frame_of, frame}
use Rattle.adapter_table.specs.Inquiries.{inquiry_reply}
use Rattle.adapter_table.specs.Step.{taken_table, take_ids}
use Rattle.adapter_table.specs.Lemmas.LimitLemmas.{limited_is}
use Rattle.adapter_table.specs.Lemmas.MessageLemmas.{found_any, same_number, fitted_short, goes_closed, goes_repeated, goes_executed, goes_referred, goes_referred_over, goes_answered, goes_opened}

-- a request changes nothing, opens a connection, or closes one; a frame may also end a stream, or register a session on one;
-- either may change class 3 connections and waiting requests; and the device may be given a further block of connection ids
pub record RequestsDo (R : AdapterTable → AdapterTable → Type 0) : Type 0 where
  pub stays : (t : AdapterTable) → R t t
  pub opened : (t : AdapterTable) (peer : Node) (request : OpenFields) (admitted : Admitted) → admission t request ≡ Ok admitted → R t (opened_table t (opened_row t peer request admitted) admitted)
  pub closed : (t : AdapterTable) (triad : Triad) (row : Row) → find (has_triad triad) t.rows ≡ Some row → R t (closed_table t row)
  pub unstreamed : (t : AdapterTable) (number : ℕ) → R t (without_stream t number)
  pub registered : (t : AdapterTable) (number : ℕ) → R t (registered_table t number)
  pub messaged : (t : AdapterTable) (next_id : ℕ) (m : Messaging) → MessagesGoOn t next_id m → R t (messages_table t next_id m)
  pub counted : (t next : AdapterTable) (openings : List NodeOpenings) → R t next → R t (with_openings next openings)
  pub tallied : (t next : AdapterTable) (counters : DeviceCounters) → R t next → R t (with_counters next counters)
  pub taken : (t : AdapterTable) (block : IdBlock) → may_take t.ids block ≡ true → R t (taken_table t block)

-- the same, where each connection that is opened is within the limits that the maker states
pub record LimitedDo (R : AdapterTable → AdapterTable → Type 0) : Type 0 where
  pub stays : (t : AdapterTable) → R t t
  pub opened : (t : AdapterTable) (peer : Node) (request : OpenFields) (admitted : Admitted) → limited_admission t peer request ≡ Ok admitted → R t (opened_table t (opened_row t peer request admitted) admitted)
  pub closed : (t : AdapterTable) (triad : Triad) (row : Row) → find (has_triad triad) t.rows ≡ Some row → R t (closed_table t row)
  pub unstreamed : (t : AdapterTable) (number : ℕ) → R t (without_stream t number)
  pub registered : (t : AdapterTable) (number : ℕ) → R t (registered_table t number)
  pub messaged : (t : AdapterTable) (next_id : ℕ) (m : Messaging) → MessagesGoOn t next_id m → R t (messages_table t next_id m)
  pub connected : (t : AdapterTable) (stream : Stream) (request : OpenFields) → class3_refusal (class3_view t stream.peer request.triad) request ≡ None → IsCarried t.streams stream.number → R t (class3_table t (opened_class3 t stream request))
  pub tallied : (t next : AdapterTable) (counters : DeviceCounters) → R t next → R t (with_counters next counters)

pub limited_do : (R : AdapterTable → AdapterTable → Type 0) → RequestsDo R → LimitedDo R
limited_do R does = record {
  stays = does.stays;
  opened = λ t peer request admitted is. does.opened t peer request admitted (limited_is t peer request admitted is).admitted;
  closed = does.closed;
  unstreamed = does.unstreamed;
  registered = does.registered;
  messaged = does.messaged;
  connected = λ t stream request passes carried. does.counted t _ _ (does.messaged t (t.next_id + 1) _ (goes_opened t stream request passes carried));
  tallied = does.tallied;
}

pub next_is : (x y : Next) → ◌≡◌ {A = Result Next StepFault} (Ok x) (Ok y) → x ≡ y
next_is x y h = cc

-- ---- requests

does_judged : (R : AdapterTable → AdapterTable → Type 0) → LimitedDo R → (t : AdapterTable) (peer : Node) (large : Bool) (request : OpenFields) (judged : Result Admitted Refusal) → limited_admission t peer request ≡ judged → R t (judged_open t peer large request judged).table
unfolding admitted_open
does_judged R does t peer large request (Err why) is = does.stays t
does_judged R does t peer large request (Ok admitted) is = does.opened t peer request admitted is

does_found : (R : AdapterTable → AdapterTable → Type 0) → LimitedDo R → (t : AdapterTable) (peer : Node) (request : CloseFields) (row : Row) (b : Bool) → find (has_triad request.triad) t.rows ≡ Some row → R t (cond b (refused_close t request (status_fault status.PrivilegeViolation)) (known_close t row)).table
does_found R does t peer request row true is = does.stays t
does_found R does t peer request row false is = does.closed t request.triad row is

does_close : (R : AdapterTable → AdapterTable → Type 0) → LimitedDo R → (t : AdapterTable) (peer : Node) (request : CloseFields) (found : Option Row) → find (has_triad request.triad) t.rows ≡ found → R t (close_of t peer request found).table
does_close R does t peer request None is = does.stays t
does_close R does t peer request (Some row) is = does_found R does t peer request row (is_wrong_closer t.profile.limits peer row) is

-- a class 3 connection is closed

does_ended : (R : AdapterTable → AdapterTable → Type 0) → LimitedDo R → (t : AdapterTable) (request : CloseFields) (d : kept.Class3Connection) (b : Bool) → R t (cond b (refused_close t request (status_fault status.PrivilegeViolation)) (known_class3_close t d)).table
does_ended R does t request d true = does.stays t
does_ended R does t request d false = does.messaged t t.next_id _ (goes_closed t d)

does_end : (R : AdapterTable → AdapterTable → Type 0) → LimitedDo R → (t : AdapterTable) (peer : Node) (request : CloseFields) (found : Option kept.Class3Connection) → R t (end_of t peer request found).table
unfolding served_close
does_end R does t peer request None = does_close R does t peer request (find (has_triad request.triad) t.rows) refl
does_end R does t peer request (Some d) = does_ended R does t request d (is_wrong_ender t.profile.limits peer d)

does_object : (R : AdapterTable → AdapterTable → Type 0) → LimitedDo R → (t : AdapterTable) (service : ℕ) (answer : ObjectAnswer) → R t (object_served t service answer).table
does_object R does t service (said by value) = does.stays t
does_object R does t service (denied why) = does.stays t
does_object R does t service (resetting kind) = does.stays t
does_object R does t service (answering by general content) = does.stays t
does_object R does t service (refusing named why) = does.stays t
does_object R does t service (unrouted words) = does.stays t

-- the table after what is served of a request, where there is one
abbrev pub served_table : AdapterTable → Option Served → AdapterTable
served_table t None = t
served_table t (Some s) = s.table

served_does : (R : AdapterTable → AdapterTable → Type 0) → LimitedDo R → (t : AdapterTable) (peer : Node) (router_request : RouterRequestFields) → R t (served_table t (served t peer router_request))
unfolding served_open served_end served_object
served_does R does t peer nothing = does.stays t
served_does R does t peer (refused service why) = does.stays t
served_does R does t peer (closing request) = does_end R does t peer request (find (has_class3_triad request.triad) t.messaging.class3_connections)
served_does R does t peer (object service class instance attribute body) = does_object R does t service (object_answer t service class instance attribute body)
served_does R does t peer (opening large request) = does_judged R does t peer large (whole_request t.profile.description request) (limited_admission t peer (whole_request t.profile.description request)) refl

-- the count of a request

tallied_does : (R : AdapterTable → AdapterTable → Type 0) → LimitedDo R → (t next : AdapterTable) (kind : Option Tally) → R t next → R t (tallied kind next)
tallied_does R does t next None has = has
tallied_does R does t next (Some kind) has = does.tallied t next (record next.counters { manager = counted kind next.counters.manager }) has

pub counted_does : (R : AdapterTable → AdapterTable → Type 0) → LimitedDo R → (t : AdapterTable) (request : RouterRequestFields) (s : Option Served) → R t (served_table t s) → R t (served_table t (counted_once request s))
counted_does R does t request None has = has
counted_does R does t request (Some s) has = tallied_does R does t s.table (tally_of request s.reply) has

answered_by : (P : AdapterTable → Type 0) (t : AdapterTable) (peer : Node) (s : Option Served) → P (served_table t s) → P (answered t peer s).1
answered_by P t peer None does = does
answered_by P t peer (Some s) does = does

pub answered_does : (R : AdapterTable → AdapterTable → Type 0) → LimitedDo R → (t : AdapterTable) (peer : Node) (router_request : RouterRequestFields) → R t (answered t peer (counted_once router_request (served t peer router_request))).1
answered_does R does t peer router_request =
    answered_by (R t) t peer (counted_once router_request (served t peer router_request)) (counted_does R does t router_request (served t peer router_request) (served_does R does t peer router_request))

-- where a request of a node can wait, the application can be asked
pub leaves_room : (t : AdapterTable) (peer : Node) → cannot_ask t peer ≡ false → lacks_room t.messaging ≡ false
leaves_room t peer is = (or_parts (lacks_room t.messaging) _ is).0

does_own : (R : AdapterTable → AdapterTable → Type 0) → LimitedDo R → (t : AdapterTable) (peer : Node) (asks : OwnRequest) (b : Bool) → cannot_ask t peer ≡ b → R t (cond b (replied peer (router_refusal t asks.service status.ResourceUnavailable)) (plain_answer (referred_verdict t asks), referred_table t peer (asker.Peer peer) asks)).1
does_own R does t peer asks true room = does.stays t
does_own R does t peer asks false room = does.messaged t t.next_id _ (goes_referred t peer (asker.Peer peer) asks.service (leaves_room t peer room) refl tt)

requested_by_does : (R : AdapterTable → AdapterTable → Type 0) → LimitedDo R → (t : AdapterTable) (peer : Node) (router_request : RouterRequestFields) (asks : Option OwnRequest) → R t (requested_by t peer router_request asks).1
requested_by_does R does t peer router_request None = answered_does R does t peer router_request
requested_by_does R does t peer router_request (Some asks) = does_own R does t peer asks (cannot_ask t peer) refl

-- each request of a peer
pub requested_does : (R : AdapterTable → AdapterTable → Type 0) → LimitedDo R → (t : AdapterTable) (peer : Node) (bytes : List ℕ) → R t (requested t peer bytes).1
unfolding requested
requested_does R does t peer bytes = requested_by_does R does t peer (router_request_reading bytes) (own_of t.profile.objects (router_request_reading bytes))

-- ---- frames

-- a choice between two things that become of a message
either_does : (P : AdapterTable → Type 0) (b : Bool) (x y : Handled) → P x.table → P y.table → P (cond b x y).table
either_does P true x y first second = first
either_does P false x y first second = second

does_register : (R : AdapterTable → AdapterTable → Type 0) → LimitedDo R → (t : AdapterTable) (stream : Stream) (body : List ℕ) → R t (register_session t stream body).table
does_register R does t stream body =
    either_does (R t) (not (length body == 4)) _ _ (does.stays t)
    (either_does (R t) (not (bytes_eq body protocol_text)) _ _ (does.stays t)
    (either_does (R t) stream.registered (refusal t encap.InvalidCommand) (session_begun t stream) (does.stays t) (does.registered t stream.number)))

replied_by : (P : AdapterTable → Type 0) (t : AdapterTable) (s : Option Served) → P (served_table t s) → P (request_replied t s).table
replied_by P t None does = does
replied_by P t (Some s) does = does

-- the stream of a session is open, and has the session
abbrev pub IsOpenStream : AdapterTable → Stream → Type 0
IsOpenStream t stream = stream.registered ≡ true → IsCarried t.streams stream.number

-- what becomes of a message within its session
within_session : (P : AdapterTable → Type 0) (stream : Stream) (session : ℕ) (b : Bool) (x y : Handled) → has_session stream session ≡ b → (stream.registered ≡ true → P x.table) → P y.table → P (cond b x y).table
within_session P stream session true x y has first second = first (and_parts stream.registered _ has).0
within_session P stream session false x y has first second = second

does_class3 : (R : AdapterTable → AdapterTable → Type 0) → LimitedDo R → (t : AdapterTable) (stream : Stream) (large : Bool) (request : OpenFields) (c : Check) → class3_refusal (class3_view t stream.peer request.triad) request ≡ c → IsCarried t.streams stream.number → R t (judged_class3 t stream large request c).table
does_class3 R does t stream large request (Some why) is carried = does.stays t
does_class3 R does t stream large request None is carried = does.connected t stream request is carried

does_stream_open : (R : AdapterTable → AdapterTable → Type 0) → LimitedDo R → (t : AdapterTable) (stream : Stream) (large : Bool) (request : OpenFields) (b : Bool) → IsCarried t.streams stream.number → R t (served_table t (cond b (Some (served_class3 t stream large request)) (served t stream.peer (opening large request))))
unfolding served_class3
does_stream_open R does t stream large request true carried = does_class3 R does t stream large (whole_request t.profile.description request) (class3_refusal (class3_view t stream.peer request.triad) (whole_request t.profile.description request)) refl carried
does_stream_open R does t stream large request false carried = served_does R does t stream.peer (opening large request)

stream_served_does : (R : AdapterTable → AdapterTable → Type 0) → LimitedDo R → (t : AdapterTable) (stream : Stream) (router_request : RouterRequestFields) → IsCarried t.streams stream.number → R t (served_table t (stream_served t stream router_request))
stream_served_does R does t stream (opening large request) carried = does_stream_open R does t stream large request (is_message_trigger request.trigger) carried
stream_served_does R does t stream other carried = served_does R does t stream.peer other

does_own_over : (R : AdapterTable → AdapterTable → Type 0) → LimitedDo R → (t : AdapterTable) (stream : Stream) (context : ℕ) (asks : OwnRequest) (b : Bool) → cannot_ask t stream.peer ≡ b → IsCarried t.streams stream.number → R t (cond b (request_replied t (Some (router_refusal t asks.service status.ResourceUnavailable))) (record { reply = None; verdict = referred_verdict t asks; notices = []; table = referred_table t stream.peer (asker.Stream stream.number context) asks })).table
does_own_over R does t stream context asks true room carried = does.stays t
does_own_over R does t stream context asks false room carried = does.messaged t t.next_id _ (goes_referred t stream.peer (asker.Stream stream.number context) asks.service (leaves_room t stream.peer room) refl carried)

does_request : (R : AdapterTable → AdapterTable → Type 0) → LimitedDo R → (t : AdapterTable) (stream : Stream) (context : ℕ) (router_request : RouterRequestFields) (asks : Option OwnRequest) → IsCarried t.streams stream.number → R t (request_handled t stream context router_request asks).table
does_request R does t stream context router_request None carried =
    replied_by (R t) t (counted_once router_request (stream_served t stream router_request))
    (counted_does R does t router_request (stream_served t stream router_request) (stream_served_does R does t stream router_request carried))
does_request R does t stream context router_request (Some asks) carried = does_own_over R does t stream context asks (cannot_ask t stream.peer) refl carried

does_packet : (R : AdapterTable → AdapterTable → Type 0) → LimitedDo R → (t : AdapterTable) (stream : Stream) (context : ℕ) (reading : Result PacketFields ItemFault) → IsCarried t.streams stream.number → R t (packet_replied t stream context reading).table
does_packet R does t stream context (Err fault) carried = does.stays t
does_packet R does t stream context (Ok packet) carried = does_request R does t stream context (router_request_reading packet.payload) (own_of t.profile.objects (router_request_reading packet.payload)) carried

-- ---- connected messages

executed_does : (R : AdapterTable → AdapterTable → Type 0) → LimitedDo R → (t : AdapterTable) (d : kept.Class3Connection) (count service : ℕ) (reply : ReplyFields) → R t (executed_table t d count (fitted_text d service reply))
executed_does R does t d count service reply = does.messaged t t.next_id _ (goes_executed t d.o_t_id count (fitted_text d service reply) (next_deadline t d) (fitted_short d service reply))

-- a message that is executed is counted, if it is a request to open or to close a connection
counted_over : (t : AdapterTable) (d : kept.Class3Connection) (count : ℕ) (text : List ℕ) (counters : DeviceCounters) → with_counters (executed_table t d count text) counters ≡ executed_table (with_counters t counters) d count text
unfolding messages_table
counted_over t d count text counters = refl

executed_counted : (R : AdapterTable → AdapterTable → Type 0) → LimitedDo R → (t : AdapterTable) (d : kept.Class3Connection) (count service : ℕ) (reply : ReplyFields) (kind : Option Tally) → R t (executed_table (tallied kind t) d count (fitted_text d service reply))
executed_counted R does t d count service reply None = executed_does R does t d count service reply
executed_counted R does t d count service reply (Some kind) =
    let counters : DeviceCounters = record t.counters { manager = counted kind t.counters.manager } in
    subst (R t) (counted_over t d count (fitted_text d service reply) counters)
    (does.tallied t (executed_table t d count (fitted_text d service reply)) counters (executed_does R does t d count service reply))

message_object : (R : AdapterTable → AdapterTable → Type 0) → LimitedDo R → (t : AdapterTable) (d : kept.Class3Connection) (count first service : ℕ) (answer : ObjectAnswer) → R t (message_replied d count first (object_served t service answer)).table
message_object R does t d count first service (said by value) = executed_does R does t d count first (object_served t service (said by value)).reply
message_object R does t d count first service (denied why) = executed_does R does t d count first (object_served t service (denied why)).reply
message_object R does t d count first service (resetting kind) = executed_does R does t d count first (object_served t service (resetting kind)).reply
message_object R does t d count first service (answering by general content) = executed_does R does t d count first (object_served t service (answering by general content)).reply
message_object R does t d count first service (refusing named why) = executed_does R does t d count first (object_served t service (refusing named why)).reply
message_object R does t d count first service (unrouted words) = executed_does R does t d count first (object_served t service (unrouted words)).reply

message_served_does : (R : AdapterTable → AdapterTable → Type 0) → LimitedDo R → (t : AdapterTable) (d : kept.Class3Connection) (count first : ℕ) (router_request : RouterRequestFields) → R t (message_served t d count first (counted_once router_request (connected_served t d.peer router_request))).table
unfolding served_object
message_served_does R does t d count first nothing = does.stays t
message_served_does R does t d count first (refused service why) = executed_counted R does t d count first (router_refusal t service why).reply (refused_tally service why)
message_served_does R does t d count first (closing request) = executed_counted R does t d count first (router_refusal t 0x4E status.Service).reply (Some tally.CloseOther)
message_served_does R does t d count first (object service class instance attribute body) = message_object R does t d count first service (object_answer t service class instance attribute body)
message_served_does R does t d count first (opening large request) = executed_counted R does t d count first (router_refusal t (open_service large) status.Service).reply (Some tally.OpenOther)

does_own_message : (R : AdapterTable → AdapterTable → Type 0) → LimitedDo R → (t : AdapterTable) (d : kept.Class3Connection) (count : ℕ) (asks : OwnRequest) (b : Bool) → cannot_ask t d.peer ≡ b → list_any (has_class3_id d.o_t_id) t.messaging.class3_connections ≡ true → R t (cond b (message_replied d count asks.service (router_refusal t asks.service status.ResourceUnavailable)) (record { reply = None; verdict = referred_verdict t asks; notices = []; table = asking_table t d count asks })).table
does_own_message R does t d count asks true room there = executed_does R does t d count asks.service (router_refusal t asks.service status.ResourceUnavailable).reply
does_own_message R does t d count asks false room there = does.messaged t t.next_id _ (goes_referred_over t d.peer d.o_t_id count asks.service (next_deadline t d) there (leaves_room t d.peer room))

message_executed_does : (R : AdapterTable → AdapterTable → Type 0) → LimitedDo R → (t : AdapterTable) (d : kept.Class3Connection) (count first : ℕ) (router_request : RouterRequestFields) (asks : Option OwnRequest) → list_any (has_class3_id d.o_t_id) t.messaging.class3_connections ≡ true → R t (message_executed t d count first router_request asks).table
message_executed_does R does t d count first router_request None there = message_served_does R does t d count first router_request
message_executed_does R does t d count first router_request (Some asks) there = does_own_message R does t d count asks (cannot_ask t d.peer) refl there

message_found_does : (R : AdapterTable → AdapterTable → Type 0) → LimitedDo R → (t : AdapterTable) (count : ℕ) (message : List ℕ) (p : kept.Class3Connection → Bool) (found : Option kept.Class3Connection) → find p t.messaging.class3_connections ≡ found → R t (message_found t count message found).table
message_found_does R does t count message p None is = does.stays t
message_found_does R does t count message p (Some d) is =
    either_does (R t) (nat_lt d.o_t_size (2 + length message)) _ _ (does.stays t)
    (either_does (R t) (repeats_last d count) _ (message_executed t d count (service_in message) (router_request_reading message) (own_of t.profile.objects (router_request_reading message)))
    (does.messaged t t.next_id _ (goes_repeated t d.o_t_id (next_deadline t d)))
    (message_executed_does R does t d count (service_in message) (router_request_reading message) (own_of t.profile.objects (router_request_reading message))
    (found_any p (has_class3_id d.o_t_id) t.messaging.class3_connections d is (same_number d.o_t_id.0))))

does_unit : (R : AdapterTable → AdapterTable → Type 0) → LimitedDo R → (t : AdapterTable) (stream : Stream) (reading : Result ConnectedFields ItemFault) → R t (unit_replied t stream reading).table
does_unit R does t stream (Err fault) = does.stays t
does_unit R does t stream (Ok unit) =
    message_found_does R does t unit.count unit.message (is_class3 stream.number (record { 0 = unit.connection }))
    (find (is_class3 stream.number (record { 0 = unit.connection })) t.messaging.class3_connections) refl

-- ---- messages

pub handled_does : (R : AdapterTable → AdapterTable → Type 0) → LimitedDo R → (t : AdapterTable) (stream : Stream) (request_header : RequestHeader) (body : List ℕ) (router_request : Command) → IsOpenStream t stream → R t (handled t stream request_header body router_request).table
unfolding handled
handled_does R does t stream request_header body command.Nop opens = does.stays t
handled_does R does t stream request_header body command.ListServices opens = does.stays t
handled_does R does t stream request_header body command.RegisterSession opens = does_register R does t stream body
handled_does R does t stream request_header body command.UnregisterSession opens = either_does (R t) (has_session stream request_header.session) _ _ (does.unstreamed t stream.number) (does.stays t)
handled_does R does t stream request_header body command.SendRrData opens =
    within_session (R t) stream request_header.session (has_session stream request_header.session) _ _ refl (λ registered. does_packet R does t stream request_header.context (items_for t.profile.description body) (opens registered)) (does.stays t)
handled_does R does t stream request_header body command.SendUnitData opens =
    either_does (R t) (has_session stream request_header.session) _ _ (does_unit R does t stream (connected_items_for t.profile.description body)) (does.stays t)
handled_does R does t stream request_header body command.Other opens = does.stays t

does_misfit : (b : Bool) (R : AdapterTable → AdapterTable → Type 0) → LimitedDo R → (t : AdapterTable) (number : ℕ) (request_header : RequestHeader) → R t (cond b (plain_answer BadFrame, t) (framed number request_header (refusal t encap.InvalidLength))).1
does_misfit true R does t number request_header = does.stays t
does_misfit false R does t number request_header = does.stays t

does_frame : (R : AdapterTable → AdapterTable → Type 0) → LimitedDo R → (t : AdapterTable) (stream : Stream) (fields : FrameFields) → IsOpenStream t stream → R t (frame_answer t stream fields).1
does_frame R does t stream without_header opens = does.stays t
does_frame R does t stream (wrong_length request_header) opens = does_misfit (is_silent (command_of request_header.command)) R does t stream.number request_header
does_frame R does t stream (whole request_header body) opens = handled_does R does t stream request_header body (command_of request_header.command) opens

does_message : (R : AdapterTable → AdapterTable → Type 0) → LimitedDo R → (t : AdapterTable) (stream : Stream) (bytes : List ℕ) (inquiry : Option (List ℕ)) → IsOpenStream t stream → R t (stream_answer t stream bytes inquiry).1
does_message R does t stream bytes None opens = does_frame R does t stream (frame_for t.profile.description bytes) opens
does_message R does t stream bytes (Some text) opens = does.stays t

both_hold : (a b : Bool) → a ≡ true → b ≡ true → (a && b) ≡ true
both_hold true b first second = second
both_hold false b first second = absurd cc

pub found_open : (t : AdapterTable) (number : ℕ) (stream : Stream) → find (is_stream number) t.streams ≡ Some stream → IsOpenStream t stream
found_open t number stream is = λ registered.
    found_any (is_stream number) (carries stream.number) t.streams stream is (both_hold (stream.number == stream.number) stream.registered (same_number stream.number) registered)

frame_by : (R : AdapterTable → AdapterTable → Type 0) → LimitedDo R → (t : AdapterTable) (number : ℕ) (bytes : List ℕ) (found : Option Stream) (next : Next) → find (is_stream number) t.streams ≡ found → frame_of t bytes found ≡ Ok next → R t next.1
frame_by R does t number bytes None next found is = absurd cc
frame_by R does t number bytes (Some stream) next found is = subst (λ (n : Next). R t n.1) (next_is _ _ is) (does_message R does t stream bytes (inquiry_reply t bytes) (found_open t number stream found))

-- each frame that is dealt with
pub frame_does : (R : AdapterTable → AdapterTable → Type 0) → LimitedDo R → (t : AdapterTable) (number : ℕ) (bytes : List ℕ) (next : Next) → frame t number bytes ≡ Ok next → R t next.1
unfolding frame
frame_does R does t number bytes next is = frame_by R does t number bytes (find (is_stream number) t.streams) next refl is

-- ---- answers of the application

responded_by : (R : AdapterTable → AdapterTable → Type 0) → LimitedDo R → (t : AdapterTable) (status : ℕ) (bytes : List ℕ) (w : Waiting) (b : Bool) (next : Next) → ◌≡◌ {A = Result Next StepFault} (cond b (Err WrongLength) (Ok (responded t w (own w.service status bytes)))) (Ok next) → R t next.1
responded_by R does t status bytes w true next is = absurd cc
responded_by R does t status bytes w false next is = subst (λ (n : Next). R t n.1) (next_is _ _ is) (does.messaged t t.next_id _ (goes_answered t w (own w.service status bytes)))

respond_by : (R : AdapterTable → AdapterTable → Type 0) → LimitedDo R → (t : AdapterTable) (status : ℕ) (bytes : List ℕ) (found : Option Waiting) (next : Next) → respond_of t status bytes found ≡ Ok next → R t next.1
respond_by R does t status bytes None next is = absurd cc
respond_by R does t status bytes (Some w) next is = responded_by R does t status bytes w (nat_lt longest_answer (length bytes)) next is

-- each answer that is given
pub respond_does : (R : AdapterTable → AdapterTable → Type 0) → LimitedDo R → (t : AdapterTable) (number status : ℕ) (bytes : List ℕ) (next : Next) → respond t number status bytes ≡ Ok next → R t next.1
unfolding respond
respond_does R does t number status bytes next is = respond_by R does t status bytes (find (has_request_number number) t.messaging.waiting) next is

-- ---- streams

-- a stream that is opened has a number of its own, and fewer than 16 are open
pub record IsStreamed (t : AdapterTable) (number : ℕ) (peer : Node) (next : Next) : Type 0 where
  pub free : is_taken t.streams number ≡ false
  pub said : (plain_answer Done, with_stream t number peer) ≡ next

streamed_by : (b : Bool) (t : AdapterTable) (number : ℕ) (peer : Node) (next : Next) → is_taken t.streams number ≡ b → ◌≡◌ {A = Result Next StepFault} (cond b (Err NotAllowedNow) (Ok (plain_answer Done, with_stream t number peer))) (Ok next) → IsStreamed t number peer next
streamed_by true t number peer next taken is = absurd cc
streamed_by false t number peer next taken is = record { free = taken; said = next_is _ _ is }

pub streamed_is : (t : AdapterTable) (number : ℕ) (peer : Node) (next : Next) → stream_opened t number peer ≡ Ok next → IsStreamed t number peer next
unfolding stream_opened
streamed_is t number peer next is = streamed_by (is_taken t.streams number) t number peer next refl is

cut_by : (R : AdapterTable → AdapterTable → Type 0) → LimitedDo R → (t : AdapterTable) (found : Option Stream) (next : Next) → cut_of t found ≡ Ok next → R t next.1
cut_by R does t None next is = absurd cc
cut_by R does t (Some stream) next is = subst (λ (n : Next). R t n.1) (next_is _ _ is) (does.unstreamed t stream.number)

-- a further block that is taken has no id of the device's
pub record IsTaken (t : AdapterTable) (block : IdBlock) (next : Next) : Type 0 where
  pub may : may_take t.ids block ≡ true
  pub said : ◌≡◌ {A = Next} (plain_answer Done, taken_table t block) next

taken_by : (b : Bool) (t : AdapterTable) (block : IdBlock) (next : Next) → may_take t.ids block ≡ b → ◌≡◌ {A = Result Next StepFault} (cond b (Ok (plain_answer Done, taken_table t block)) (Err NotAllowedNow)) (Ok next) → IsTaken t block next
taken_by true t block next may is = record { may = may; said = next_is _ _ is }
taken_by false t block next may is = absurd cc

pub taken_is : (t : AdapterTable) (block : IdBlock) (next : Next) → take_ids t block ≡ Ok next → IsTaken t block next
unfolding take_ids
taken_is t block next is = taken_by (may_take t.ids block) t block next refl is

-- each stream that is cut
pub cut_does : (R : AdapterTable → AdapterTable → Type 0) → LimitedDo R → (t : AdapterTable) (number : ℕ) (next : Next) → stream_cut t number ≡ Ok next → R t next.1
unfolding stream_cut
cut_does R does t number next is = cut_by R does t (find (is_stream number) t.streams) next is
