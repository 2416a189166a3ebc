-- What requests and frames leave of a message of a class 3 connection.
use Rattle.std.proofs.Common.{◌≡◌, inl, inr, ℕ, ◌+◌, ◌==◌, ◌&&◌, not, Bool, true, false, cond, List, [], length, find, Option, Some, None, Result, Ok, Err, refl, sym, ◌∙◌, ap, subst, arith, eqb-true}
use Rattle.std.specs.Option.{IfSome, option_map}
use Rattle.std.specs.Str.{bytes_eq}
use Rattle.std.proofs.lemmas.Bool.{and_parts}
use Rattle.base_lemmas.specs.Booleans.{either}
use Rattle.cip_types.specs.declared.names.ConnId.{ConnId}
use Rattle.cip_types.specs.declared.names.Ms.{Ms}
use Rattle.cip_types.specs.declared.names.Node.{Node}
use Rattle.cip_types.specs.declared.names.Triad.{Triad}
use Rattle.cip_types.specs.Fields.{fields_at}
use Rattle.cip_types.specs.Texts.{Tailed}
use Rattle.cip_encap.specs.declared.message.EncapFault.{EncapFault}
use Rattle.cip_encap.specs.declared.packet.ItemFault.{ItemFault}
use Rattle.cip_encap.specs.Connected.{ConnectedFields}
use Rattle.cip_encap.specs.Message.{MessageFields, header_widths}
use Rattle.cip_encap.specs.Packet.{PacketFields}
use Rattle.cip_encap.specs.Reading.{message_reading}
use Rattle.cip_events.specs.declared.event.Frame.{Frame}
use Rattle.cip_events.specs.declared.event.StepFault.TheVariants.{NotAllowedNow}
use Rattle.cip_fwdopen.specs.Close.{CloseFields}
use Rattle.cip_fwdopen.specs.Open.{OpenFields}
use Rattle.cip_netparams.specs.Word.{is_message_trigger}
use Rattle.cip_router.specs.declared.command.Command.{Command}
use Rattle.cip_router.specs.declared.command.Command.TheVariants as command
use Rattle.cip_router.specs.declared.command.EncapStatus.TheVariants as encap
use Rattle.cip_router.specs.declared.refusal.Refusal.{Refusal}
use Rattle.cip_router.specs.declared.refusal.Status.TheVariants as status
use Rattle.cip_router.specs.Commands.{command_of, is_silent}
use Rattle.cip_router.specs.Frames.{RequestHeader, FrameFields, without_header, wrong_length, whole, protocol_text, frame_fields, frame_reading, wrong_length_of}
use Rattle.cip_router.specs.Requests.{RouterRequestFields, nothing, refused, closing, object, opening, router_request_reading}
use Rattle.list_identity.specs.declared.inquiry.Inquiry.{Inquiry}
use Rattle.list_identity.specs.declared.inquiry.Inquiry.TheVariants as inquiry
use Rattle.list_identity.specs.Inquiries.{InquiryMessage, is_bare, inquiry_read, inquiry_in, inquiry_text}
use Rattle.messaging.specs.declared.class3.Class3Connection.{Class3Connection}
use Rattle.messaging.specs.declared.requests.Requester.{Requester}
use Rattle.messaging.specs.declared.requests.Requester.TheVariants as asker
use Rattle.messaging.specs.declared.table.Messaging.{Messaging}
use Rattle.messaging.specs.Class3Connections.{has_class3_triad, is_on_stream, is_class3}
use Rattle.messaging.specs.Changes.{with_class3, without_class3, referred}
use Rattle.messaging.specs.Changes as changes
use Rattle.adapter_table.specs.Intervals.{whole_request}
use Rattle.adapter_table.specs.declared.profile.Description.{Description}
use Rattle.adapter_table.specs.declared.counters.DeviceCounters.{DeviceCounters}
use Rattle.adapter_table.specs.declared.table.AdapterTable.{AdapterTable}
use Rattle.adapter_table.specs.declared.table.Stream.{Stream}
use Rattle.adapter_table.specs.Connections.{Row}
use Rattle.adapter_table.specs.Checks.{Check, Admitted}
use Rattle.adapter_table.specs.Class3Opening.{class3_view, class3_refusal, opened_class3, class3_table, judged_class3, served_class3, stream_served}
use Rattle.adapter_table.specs.Closing.{closed_table}
use Rattle.adapter_table.specs.Encapsulation.{Handled, items_for, connected_items_for, refusal, unanswered, session_begun, session_ended, register_session, request_replied, request_handled, packet_replied, unit_replied, handled, reply_frames, frame_answer, stream_answer, frame_of, outside_session, frame_for}
use Rattle.adapter_table.specs.Inquiries.{identity_of, address_of, inquiry_reply_of, inquiry_reply}
use Rattle.adapter_table.specs.Messages.{messages_table}
use Rattle.adapter_table.specs.Objects.{ObjectAnswer, said, denied, resetting, answering, refusing, unrouted}
use Rattle.adapter_table.specs.Carrying.{object_answer}
use Rattle.adapter_table.specs.Opening.{opened_table}
use Rattle.adapter_table.specs.Own.{OwnRequest, own_of, cannot_ask}
use Rattle.adapter_table.specs.Requests.{Next, Served, counted_once, judged_open, admitted_open, served_open, close_of, served_close, end_of, served_end, router_refusal, object_served, served_object, served}
use Rattle.adapter_table.specs.Rows.{has_triad}
use Rattle.adapter_table.specs.StatedLimits.{limited_admission, is_wrong_closer, is_wrong_ender}
use Rattle.adapter_table.specs.Streams.{without_stream, has_session, registered_table}
use Rattle.adapter_table.specs.Counting.{with_counters}
use Rattle.adapter_table.specs.Lemmas.CountLemmas.{counted_keeps}
use Rattle.adapter_table.specs.Lemmas.FrameLemmas.{frame_has}
use Rattle.message_laws.specs.Repetitions.{Message, message_read, message_of_command, message_of_frame, if_message, is_message_of, has_count, is_counted, is_next}
use Rattle.message_laws.proofs.Found.{Found, Leaves, same, leaves_same, filter_leaves, appended}
use Rattle.message_laws.proofs.Going.{Holds, Goes, Differ, stays, quiet, unchanged, alone, Leads, leads_refused}
use Rattle.message_laws.proofs.Steps.{sends_nothing, message_serves}

-- ---- changes of messages

abbrev pub Stays : ConnId → Messaging → Messaging → Type 0
Stays id m n = Leaves id same m.class3_connections n.class3_connections

without_class3_stays : (id : ConnId) (m : Messaging) (triad : Triad) → Differ m → Stays id m (without_class3 m triad)
unfolding without_class3
without_class3_stays id m triad differ = filter_leaves id (λ d. not (has_class3_triad triad d)) m.class3_connections differ

without_stream_stays : (id : ConnId) (m : Messaging) (stream : ℕ) → Differ m → Stays id m (changes.without_stream m stream)
unfolding changes.without_stream
without_stream_stays id m stream differ = filter_leaves id (λ d. not (is_on_stream stream d)) m.class3_connections differ

pub referred_stays : (id : ConnId) (m : Messaging) (peer : Node) (from : Requester) (service : ℕ) (clock : Ms) → Stays id m (referred m peer from service clock)
unfolding referred
referred_stays id m peer from service clock = leaves_same id m.class3_connections

pub messages_go : (d : Class3Connection) (count : ℕ) (t : AdapterTable) (m : Messaging) → Stays d.o_t_id t.messaging m → Goes d count t [] (messages_table t t.next_id m)
unfolding messages_table
messages_go d count t m stay = quiet d count t (messages_table t t.next_id m) (omega arith) refl stay

-- ---- requests

id_is : (a b : ℕ) → (a == b) ≡ true → b ≡ a
id_is a b is = sym (eqb-true a b is)

opened_goes : (d : Class3Connection) (count : ℕ) (t : AdapterTable) (stream : Stream) (request : OpenFields) → Goes d count t [] (class3_table t (opened_class3 t stream request))
unfolding messages_table with_class3 opened_class3
opened_goes d count t stream request = record {
  later = omega arith;
  profile = refl;
  stands = λ e found. elim (appended d.o_t_id t.messaging.class3_connections (opened_class3 t stream request) e found) [
    | inl old ↦ inl (stays d count t.messaging.class3_connections e (record { old = e; found = old; is = refl }))
    | inr new ↦ inr (record { fresh = id_is _ d.o_t_id.0 new; drawn = omega arith })
  ];
}

-- what is counted says nothing of it
pub recounted : (d : Class3Connection) (count : ℕ) (t u : AdapterTable) (counters : DeviceCounters) → Goes d count t [] u → Goes d count t [] (with_counters u counters)
recounted d count t u counters goes = record {
  later = goes.later;
  profile = goes.profile;
  stands = λ e found. elim (goes.stands e found) [
    | inl old ↦ inl old
    | inr new ↦ inr (record { fresh = new.fresh; drawn = new.drawn })
  ];
}

abbrev pub ServedGoes : Class3Connection → ℕ → AdapterTable → Served → Type 0
ServedGoes d count t s = Goes d count t [] s.table

judged_goes : (d : Class3Connection) (count : ℕ) (t : AdapterTable) (peer : Node) (large : Bool) (request : OpenFields) (judged : Result Admitted Refusal) → ServedGoes d count t (judged_open t peer large request judged)
unfolding admitted_open opened_table
judged_goes d count t peer large request (Err why) = unchanged d count t
judged_goes d count t peer large request (Ok admitted) = quiet d count t _ (omega arith) refl (leaves_same d.o_t_id t.messaging.class3_connections)

closed_goes : (d : Class3Connection) (count : ℕ) (t : AdapterTable) (peer : Node) (request : CloseFields) (found : Option Row) → ServedGoes d count t (close_of t peer request found)
unfolding closed_table
closed_goes d count t peer request None = unchanged d count t
closed_goes d count t peer request (Some row) =
    either (ServedGoes d count t) (is_wrong_closer t.profile.limits peer row) _ _ (unchanged d count t) (quiet d count t (closed_table t row) (omega arith) refl (leaves_same d.o_t_id t.messaging.class3_connections))

ended_goes : (d : Class3Connection) (count : ℕ) (t : AdapterTable) (peer : Node) (request : CloseFields) (found : Option Class3Connection) → Differ t.messaging → ServedGoes d count t (end_of t peer request found)
unfolding served_close
ended_goes d count t peer request None differ = closed_goes d count t peer request (find (has_triad request.triad) t.rows)
ended_goes d count t peer request (Some x) differ =
    either (ServedGoes d count t) (is_wrong_ender t.profile.limits peer x) _ _ (unchanged d count t) (messages_go d count t _ (without_class3_stays d.o_t_id t.messaging x.triad differ))

object_goes : (d : Class3Connection) (count : ℕ) (t : AdapterTable) (service : ℕ) (answer : ObjectAnswer) → ServedGoes d count t (object_served t service answer)
object_goes d count t service (said by value) = unchanged d count t
object_goes d count t service (denied why) = unchanged d count t
object_goes d count t service (resetting kind) = unchanged d count t
object_goes d count t service (answering by general content) = unchanged d count t
object_goes d count t service (refusing named why) = unchanged d count t
object_goes d count t service (unrouted words) = unchanged d count t

pub served_goes : (d : Class3Connection) (count : ℕ) (t : AdapterTable) (peer : Node) (request : RouterRequestFields) → Differ t.messaging → IfSome (served t peer request) (ServedGoes d count t)
unfolding served_open served_end served_object
served_goes d count t peer nothing differ = tt
served_goes d count t peer (refused service why) differ = unchanged d count t
served_goes d count t peer (closing request) differ = ended_goes d count t peer request (find (has_class3_triad request.triad) t.messaging.class3_connections) differ
served_goes d count t peer (object service class instance attribute body) differ = object_goes d count t service (object_answer t service class instance attribute body)
served_goes d count t peer (opening large request) differ = judged_goes d count t peer large (whole_request t.profile.description request) (limited_admission t peer (whole_request t.profile.description request))

class3_goes : (d : Class3Connection) (count : ℕ) (t : AdapterTable) (stream : Stream) (large : Bool) (request : OpenFields) (c : Check) → ServedGoes d count t (judged_class3 t stream large request c)
class3_goes d count t stream large request (Some why) = unchanged d count t
class3_goes d count t stream large request None = opened_goes d count t stream request

over_goes : (d : Class3Connection) (count : ℕ) (t : AdapterTable) (stream : Stream) (request : RouterRequestFields) → Differ t.messaging → IfSome (stream_served t stream request) (ServedGoes d count t)
unfolding served_class3
over_goes d count t stream (opening large request) differ =
    either (λ (s : Option Served). IfSome s (ServedGoes d count t)) (is_message_trigger request.trigger) (Some (served_class3 t stream large request)) (served t stream.peer (opening large request))
    (class3_goes d count t stream large (whole_request t.profile.description request) (class3_refusal (class3_view t stream.peer request.triad) (whole_request t.profile.description request))) (served_goes d count t stream.peer (opening large request) differ)
over_goes d count t stream nothing differ = served_goes d count t stream.peer nothing differ
over_goes d count t stream (refused service why) differ = served_goes d count t stream.peer (refused service why) differ
over_goes d count t stream (closing request) differ = served_goes d count t stream.peer (closing request) differ
over_goes d count t stream (object service class instance attribute body) differ = served_goes d count t stream.peer (object service class instance attribute body) differ

-- ---- frames without a connected message

abbrev HandledGoes : Class3Connection → ℕ → AdapterTable → Handled → Type 0
HandledGoes d count t done = Goes d count t [] done.table

replied_goes : (d : Class3Connection) (count : ℕ) (t : AdapterTable) (s : Option Served) → IfSome s (ServedGoes d count t) → HandledGoes d count t (request_replied t s)
replied_goes d count t None goes = unchanged d count t
replied_goes d count t (Some s) goes = goes

request_goes : (d : Class3Connection) (count : ℕ) (t : AdapterTable) (stream : Stream) (context : ℕ) (request : RouterRequestFields) (asks : Option OwnRequest) → Differ t.messaging → HandledGoes d count t (request_handled t stream context request asks)
request_goes d count t stream context request None differ =
    replied_goes d count t (counted_once request (stream_served t stream request))
    (counted_keeps (ServedGoes d count t) (λ s counters goes. recounted d count t s.table counters goes) request (stream_served t stream request) (over_goes d count t stream request differ))
request_goes d count t stream context request (Some asks) differ =
    either (HandledGoes d count t) (cannot_ask t stream.peer) (request_replied t (Some (router_refusal t asks.service status.ResourceUnavailable))) _ (unchanged d count t)
    (messages_go d count t _ (referred_stays d.o_t_id t.messaging stream.peer (asker.Stream stream.number context) asks.service t.clock))

packet_goes : (d : Class3Connection) (count : ℕ) (t : AdapterTable) (stream : Stream) (context : ℕ) (reading : Result PacketFields ItemFault) → Differ t.messaging → HandledGoes d count t (packet_replied t stream context reading)
packet_goes d count t stream context (Err fault) differ = unchanged d count t
packet_goes d count t stream context (Ok packet) differ = request_goes d count t stream context (router_request_reading packet.payload) (own_of t.profile.objects (router_request_reading packet.payload)) differ

registered_goes : (d : Class3Connection) (count : ℕ) (t : AdapterTable) (number : ℕ) → Goes d count t [] (registered_table t number)
unfolding registered_table
registered_goes d count t number = quiet d count t (registered_table t number) (omega arith) refl (leaves_same d.o_t_id t.messaging.class3_connections)

pub stream_goes : (d : Class3Connection) (count : ℕ) (t : AdapterTable) (number : ℕ) → Differ t.messaging → Goes d count t [] (without_stream t number)
unfolding without_stream
stream_goes d count t number differ = quiet d count t (without_stream t number) (omega arith) refl (without_stream_stays d.o_t_id t.messaging number differ)

register_goes : (d : Class3Connection) (count : ℕ) (t : AdapterTable) (stream : Stream) (body : List ℕ) → HandledGoes d count t (register_session t stream body)
register_goes d count t stream body =
    either (HandledGoes d count t) (not (length body == 4)) _ _ (unchanged d count t)
    (either (HandledGoes d count t) (not (bytes_eq body protocol_text)) _ _ (unchanged d count t)
    (either (HandledGoes d count t) stream.registered (refusal t encap.InvalidCommand) (session_begun t stream) (unchanged d count t) (registered_goes d count t stream.number)))

-- ---- frames with one

-- what a frame's message says of the count, and whether it asks by another
abbrev pub has_it : Class3Connection → ℕ → Option Message → Bool
has_it d count m = if_message (is_counted d count) m

abbrev pub has_next : Class3Connection → ℕ → Option Message → Bool
has_next d count m = if_message (is_next d count) m

abbrev FrameGoes : Class3Connection → ℕ → AdapterTable → ℕ → RequestHeader → Option Message → Handled → Type 0
FrameGoes d count t number header m done = Goes d count t (cond (has_it d count m) (reply_frames number header done.reply) []) done.table

-- each connection of the stream has its session
abbrev pub HasSession : AdapterTable → Stream → Type 0
HasSession t stream = (e : Class3Connection) (id : ConnId) → Found id t.messaging.class3_connections e → e.stream ≡ stream.number → stream.registered ≡ true

unregistered : (d : Class3Connection) (count : ℕ) (t : AdapterTable) (stream : Stream) (m : Option Message) (frames : List Frame) → HasSession t stream → stream.registered ≡ false → ((x : Message) → m ≡ Some x → x.stream ≡ stream.number) → Goes d count t (cond (has_it d count m) frames []) t
unregistered d count t stream m frames session none over = alone d count t (cond (has_it d count m) frames []) (λ e sent found h. silent m over e sent found h) where
  silent : (n : Option Message) → ((x : Message) → n ≡ Some x → x.stream ≡ stream.number) → (e : Class3Connection) (sent : Option Frame) → Found d.o_t_id t.messaging.class3_connections e → Holds d count sent e → cond (has_it d count n) frames [] ≡ []
  silent None over2 e sent found h = refl
  silent (Some x) over2 e sent found h = by_test (is_message_of d x) (has_count count x) refl where
    by_test : (a b : Bool) → is_message_of d x ≡ a → cond (a && b) frames [] ≡ []
    by_test true b is =
        let parts = and_parts _ _ is in
        let there : e.stream ≡ stream.number = h.stream ∙ sym (eqb-true x.stream d.stream parts.0) ∙ over2 x refl in
        absurd (let never : true ≡ false = sym (session e d.o_t_id found there) ∙ none in cc)
    by_test false b is = refl

unit_goes : (d : Class3Connection) (count : ℕ) (t : AdapterTable) (stream : Stream) (header : RequestHeader) (reading : Result ConnectedFields ItemFault) → Differ t.messaging → header.session ≡ stream.number + 1 → has_next d count (message_read stream.number reading) ≡ false → FrameGoes d count t stream.number header (message_read stream.number reading) (unit_replied t stream reading)
unit_goes d count t stream header (Err fault) differ session none = unchanged d count t
unit_goes d count t stream header (Ok unit) differ session none =
    message_serves d count t stream.number header unit (find (is_class3 stream.number (record { 0 = unit.connection })) t.messaging.class3_connections) differ session refl none

read_over : (number : ℕ) (reading : Result ConnectedFields ItemFault) (x : Message) → message_read number reading ≡ Some x → x.stream ≡ number
read_over number (Err fault) x is = absurd (let y = is in cc)
read_over number (Ok unit) x is = ap_stream (record { stream = number; unit = unit }) x is where
  ap_stream : (a b : Message) → ◌≡◌ {A = Option Message} (Some a) (Some b) → b.stream ≡ a.stream
  ap_stream a b is2 = let e : a ≡ b = cc in ap (λ (m : Message). m.stream) (sym e)

-- SendUnitData: within the session or not
sent_goes : (a s : Bool) (d : Class3Connection) (count : ℕ) (t : AdapterTable) (stream : Stream) (header : RequestHeader) (reading : Result ConnectedFields ItemFault) → HasSession t stream → stream.registered ≡ a → (header.session == stream.number + 1) ≡ s → Differ t.messaging → has_next d count (cond s (message_read stream.number reading) None) ≡ false → FrameGoes d count t stream.number header (cond s (message_read stream.number reading) None) (cond (a && s) (unit_replied t stream reading) (refusal t (outside_session t.profile.description)))
sent_goes true true d count t stream header reading session has is differ none = unit_goes d count t stream header reading differ (eqb-true _ _ is) none
sent_goes true false d count t stream header reading session has is differ none = unchanged d count t
sent_goes false true d count t stream header reading session has is differ none =
    unregistered d count t stream (message_read stream.number reading) (reply_frames stream.number header (refusal t (outside_session t.profile.description)).reply) session has (λ x read. read_over stream.number reading x read)
sent_goes false false d count t stream header reading session has is differ none = unchanged d count t

handled_goes : (d : Class3Connection) (count : ℕ) (t : AdapterTable) (stream : Stream) (header : RequestHeader) (body : List ℕ) (kind : Command) → HasSession t stream → Differ t.messaging → has_next d count (message_of_command t.profile.description stream.number header.session body kind) ≡ false → FrameGoes d count t stream.number header (message_of_command t.profile.description stream.number header.session body kind) (handled t stream header body kind)
unfolding handled
handled_goes d count t stream header body command.Nop session differ none = unchanged d count t
handled_goes d count t stream header body command.ListServices session differ none = unchanged d count t
handled_goes d count t stream header body command.RegisterSession session differ none = register_goes d count t stream body
handled_goes d count t stream header body command.UnregisterSession session differ none = either (HandledGoes d count t) (has_session stream header.session) (session_ended t stream) (unanswered t) (stream_goes d count t stream.number differ) (unchanged d count t)
handled_goes d count t stream header body command.SendRrData session differ none = either (HandledGoes d count t) (has_session stream header.session) _ _ (packet_goes d count t stream header.context (items_for t.profile.description body) differ) (unchanged d count t)
handled_goes d count t stream header body command.SendUnitData session differ none =
    sent_goes stream.registered (header.session == stream.number + 1) d count t stream header (connected_items_for t.profile.description body) session refl refl differ none
handled_goes d count t stream header body command.Other session differ none = unchanged d count t

fields_go : (d : Class3Connection) (count : ℕ) (t : AdapterTable) (stream : Stream) (fields : FrameFields) → HasSession t stream → Differ t.messaging → has_next d count (message_of_frame t.profile.description stream.number fields) ≡ false → Leads d count t (has_it d count (message_of_frame t.profile.description stream.number fields)) (Ok (frame_answer t stream fields))
fields_go d count t stream without_header session differ none = unchanged d count t
fields_go d count t stream (wrong_length header) session differ none =
    either (λ (n : Next). Goes d count t [] n.1) (is_silent (command_of header.command)) _ _ (unchanged d count t) (unchanged d count t)
fields_go d count t stream (whole header body) session differ none = handled_goes d count t stream header body (command_of header.command) session differ none

-- ---- an inquiry is no connected message

unit_none : (described : Option Description) (number session : ℕ) (body : List ℕ) (kind : Command) → (kind ≡ command.SendUnitData → ⊥) → message_of_command described number session body kind ≡ None
unit_none described number session body command.Nop not_unit = refl
unit_none described number session body command.ListServices not_unit = refl
unit_none described number session body command.RegisterSession not_unit = refl
unit_none described number session body command.UnregisterSession not_unit = refl
unit_none described number session body command.SendRrData not_unit = refl
unit_none described number session body command.SendUnitData not_unit = absurd (not_unit refl)
unit_none described number session body command.Other not_unit = refl

none_at : (described : Option Description) (number session : ℕ) (body : List ℕ) (code k : ℕ) → (code == k) ≡ true → message_of_command described number session body (command_of k) ≡ None → message_of_command described number session body (command_of code) ≡ None
none_at described number session body code k is none = subst (λ (n : ℕ). message_of_command described number session body (command_of n) ≡ None) (sym (eqb-true code k is)) none

by_code : (described : Option Description) (bare a b c : Bool) (number : ℕ) (m : MessageFields) (q : InquiryMessage) → (m.command == 0x0004) ≡ a → (m.command == 0x0063) ≡ b → (m.command == 0x0064) ≡ c → option_map (λ (i : Inquiry). (i, m)) (cond bare (cond a (Some inquiry.Services) (cond b (Some inquiry.Identity) (cond c (Some inquiry.Interfaces) None))) None) ≡ Some q → message_of_command described number m.session m.payload (command_of m.command) ≡ None
by_code described true true b c number m q first second third is = none_at described number m.session m.payload m.command 0x0004 first refl
by_code described true false true c number m q first second third is = none_at described number m.session m.payload m.command 0x0063 second refl
by_code described true false false true number m q first second third is = none_at described number m.session m.payload m.command 0x0064 third refl
by_code described true false false false number m q first second third is = absurd (let x = is in cc)
by_code described false a b c number m q first second third is = absurd (let x = is in cc)

inquiry_is_none : (described : Option Description) (number : ℕ) (header : Option Tailed) (reading : Result MessageFields EncapFault) (q : InquiryMessage) → inquiry_read reading ≡ Some q → message_of_frame described number (frame_fields header reading) ≡ None
inquiry_is_none described number header (Err fault) q is = absurd (let x = is in cc)
inquiry_is_none described number header (Ok m) q is = by_code described (is_bare m) (m.command == 0x0004) (m.command == 0x0063) (m.command == 0x0064) number m q refl refl refl is

answered_inquiry : (t : AdapterTable) (x : Description) (found : Option InquiryMessage) (text : List ℕ) → option_map (inquiry_text (identity_of t x) (address_of t x)) found ≡ Some text → (q : InquiryMessage) × (found ≡ Some q)
answered_inquiry t x None text is = absurd (let y = is in cc)
answered_inquiry t x (Some q) text is = (q, refl)

described_none : (reader : Option Description) (t : AdapterTable) (number : ℕ) (bytes : List ℕ) (described : Option Description) (text : List ℕ) → inquiry_reply_of t bytes described ≡ Some text → message_of_frame reader number (frame_reading bytes) ≡ None
unfolding frame_reading
described_none reader t number bytes None text is = absurd (let x = is in cc)
described_none reader t number bytes (Some x) text is =
    let found = answered_inquiry t x (inquiry_in bytes) text is in
    inquiry_is_none reader number (fields_at header_widths bytes) (message_reading bytes) found.0 found.1

misfit_none : (described : Option Description) (number : ℕ) (header : Option Tailed) → message_of_frame described number (wrong_length_of header) ≡ None
misfit_none described number None = refl
misfit_none described number (Some h) = refl

-- an inquiry that is answered brings no connected message
pub answered_none : (t : AdapterTable) (number : ℕ) (bytes : List ℕ) (text : List ℕ) → inquiry_reply t bytes ≡ Some text → message_of_frame t.profile.description number (frame_for t.profile.description bytes) ≡ None
unfolding inquiry_reply
answered_none t number bytes text is =
    frame_has (λ (fields : FrameFields). message_of_frame t.profile.description number fields ≡ None) t.profile.description bytes (described_none t.profile.description t number bytes t.profile.description text is) (misfit_none t.profile.description number (fields_at header_widths bytes)) (λ m. refl)

bytes_go : (d : Class3Connection) (count : ℕ) (t : AdapterTable) (stream : Stream) (bytes : List ℕ) (reply : Option (List ℕ)) → inquiry_reply t bytes ≡ reply → HasSession t stream → Differ t.messaging → has_next d count (message_of_frame t.profile.description stream.number (frame_for t.profile.description bytes)) ≡ false → Leads d count t (has_it d count (message_of_frame t.profile.description stream.number (frame_for t.profile.description bytes))) (Ok (stream_answer t stream bytes reply))
bytes_go d count t stream bytes None is session differ none = fields_go d count t stream (frame_for t.profile.description bytes) session differ none
bytes_go d count t stream bytes (Some text) is session differ none =
    sends_nothing d count t t (has_it d count (message_of_frame t.profile.description stream.number (frame_for t.profile.description bytes))) _ (ap (has_it d count) (answered_none t stream.number bytes text is)) (unchanged d count t)

-- a frame of a stream
pub frame_goes : (d : Class3Connection) (count : ℕ) (t : AdapterTable) (number : ℕ) (bytes : List ℕ) (found : Option Stream) → IfSome found (λ s. (s.number ≡ number) × HasSession t s) → Differ t.messaging → has_next d count (message_of_frame t.profile.description number (frame_for t.profile.description bytes)) ≡ false → Leads d count t (has_it d count (message_of_frame t.profile.description number (frame_for t.profile.description bytes))) (frame_of t bytes found)
frame_goes d count t number bytes None session differ none = leads_refused d count t (has_it d count (message_of_frame t.profile.description number (frame_for t.profile.description bytes))) NotAllowedNow
frame_goes d count t number bytes (Some stream) session differ none =
    subst (λ (n : ℕ). has_next d count (message_of_frame t.profile.description n (frame_for t.profile.description bytes)) ≡ false → Leads d count t (has_it d count (message_of_frame t.profile.description n (frame_for t.profile.description bytes))) (Ok (stream_answer t stream bytes (inquiry_reply t bytes)))) session.0
    (λ no. bytes_go d count t stream bytes (inquiry_reply t bytes) refl session.1 differ no) none
