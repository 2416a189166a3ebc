-- Each step leaves an output its owner, unless a notice of its answer reports that the owner has ended.
use Rattle.std.proofs.Common.{◌≡◌, ℕ, ◌+◌, ◌==◌, ◌||◌, nat_lt, Bool, true, false, not, List, [], ◌∷◌, ◌++◌, length, map, find, Option, Some, None, Result, Ok, Err, refl, sym, subst}
use Rattle.std.proofs.lemmas.Bool.{or_parts}
use Rattle.std.specs.List.{list_any}
use Rattle.std.specs.Result.{result_ok}
use Rattle.std.specs.Str.{bytes_eq}
use Rattle.cip_types.specs.declared.names.Node.{Node}
use Rattle.cip_datagram.specs.declared.datagram.DatagramFault.{DatagramFault}
use Rattle.cip_datagram.specs.Datagram.{DatagramFields}
use Rattle.cip_datagram.specs.Reading.{datagram_reading}
use Rattle.cip_encap.specs.declared.packet.ItemFault.{ItemFault}
use Rattle.cip_encap.specs.Packet.{PacketFields}
use Rattle.adapter_table.specs.Intervals.{whole_request}
use Rattle.adapter_table.specs.Paths.{opening_path}
use Rattle.cip_events.specs.declared.event.Event.{Event}
use Rattle.cip_events.specs.declared.event.Event.TheVariants.{Request, StreamOpened, Frame, StreamCut, Datagram, Inquiry, Write, Tick, Respond, Counters, Ids}
use Rattle.cip_events.specs.declared.event.Notice.{Notice}
use Rattle.cip_events.specs.declared.event.Notice.TheVariants.{Opened, Closed, StreamClosed, Reset}
use Rattle.cip_events.specs.declared.event.StepFault.{StepFault}
use Rattle.cip_events.specs.declared.event.StepFault.TheVariants.{NotAllowedNow, TickTooLong, ClockEnd, WrongLength}
use Rattle.cip_events.specs.declared.event.Verdict.TheVariants.{Done}
use Rattle.cip_events.specs.Answers.{plain_answer, is_accepted}
use Rattle.cip_events.specs.Clock.{longest_tick, clock_end}
use Rattle.cip_fwdopen.specs.Open.{OpenFields}
use Rattle.cip_fwdopen.specs.Close.{CloseFields}
use Rattle.cip_router.specs.declared.command.Command.{Command}
use Rattle.cip_router.specs.declared.command.Command.TheVariants as command
use Rattle.cip_router.specs.declared.command.EncapStatus.TheVariants as encap
use Rattle.cip_netparams.specs.Word.{is_message_trigger}
use Rattle.cip_router.specs.declared.refusal.Refusal.{Refusal}
use Rattle.cip_router.specs.declared.refusal.Status.TheVariants as status
use Rattle.cip_router.specs.declared.refusal.Refusal.TheVariants.{InUse}
use Rattle.cip_router.specs.Requests.{RouterRequestFields, nothing, refused, closing, object, opening, router_request_reading}
use Rattle.cip_router.specs.Commands.{command_of, is_silent}
use Rattle.cip_router.specs.Frames.{RequestHeader, FrameFields, without_header, wrong_length, whole, protocol_text}
use Rattle.messaging.specs.declared.class3.Class3Connection.{Class3Connection}
use Rattle.messaging.specs.declared.table.Messaging.{Messaging}
use Rattle.messaging.specs.Times.{late_class3_connections, aged}
use Rattle.messaging.specs.Class3Connections.{has_class3_triad}
use Rattle.adapter_table.specs.declared.profile.InputPoint.{InputPoint}
use Rattle.adapter_table.specs.Connections.{Row}
use Rattle.adapter_table.specs.declared.table.AdapterTable.{AdapterTable}
use Rattle.adapter_table.specs.declared.table.Stream.{Stream}
use Rattle.adapter_table.specs.Profiles.{is_at}
use Rattle.adapter_table.specs.Objects.{ObjectAnswer, said, denied, resetting, answering, refusing, unrouted}
use Rattle.adapter_table.specs.Carrying.{object_answer}
use Rattle.adapter_table.specs.Inquiries.{inquiry_reply, inquired_by, inquired}
use Rattle.adapter_table.specs.Rows.{has_triad, holds_triad}
use Rattle.adapter_table.specs.Checks.{Check, check, first_of, segment_check, points_of, Points, judged, view_of, verdict, Admitted, admission}
use Rattle.adapter_table.specs.Class3Opening.{class3_view, class3_refusal, opened_class3, judged_class3, served_class3, stream_served}
use Rattle.adapter_table.specs.Messages.{messages_table}
use Rattle.adapter_table.specs.Own.{OwnRequest, own_of, cannot_ask}
use Rattle.adapter_table.specs.StatedLimits.{limited_admission, is_wrong_closer, is_wrong_ender}
use Rattle.adapter_table.specs.Opening.{opened_row, opened_table, opened_notices}
use Rattle.adapter_table.specs.Requests.{Next, Served, counted_once, judged_open, admitted_open, served_open, close_of, served_close, end_of, served_end, router_refusal, object_served, served_object, served, replied, answered, requested_by, requested}
use Rattle.adapter_table.specs.Streams.{is_stream, is_taken, with_stream, without_stream, has_session, registered_table, ended_notices, stream_opened, cut_of, stream_cut}
use Rattle.adapter_table.specs.Encapsulation.{Handled, items_for, connected_items_for, refusal, unanswered, session_begun, session_ended, register_session, request_replied, request_handled, packet_replied, unit_replied, handled, frame_answer, stream_answer, frame_of, frame, outside_session, frame_for}
use Rattle.adapter_table.specs.Datagrams.{is_for, row_delivery, accepted_table, delivered, found_datagram, datagram_of, received}
use Rattle.adapter_table.specs.Ticks.{clocked_table, expiry_notices, advanced, late_notice, aged_next, tick}
use Rattle.adapter_table.specs.Step.{adapter_step, write, write_of, written, written_table}
use Rattle.adapter_table.specs.Whole.{IsWhole}
use Rattle.adapter_table.specs.Laws.{EffectsKeep}
use Rattle.device_laws.specs.Lemmas.MessageSteps.{IsOfMessages, unit_of, respond_holds}
use Rattle.device_laws.specs.Turns.{reports_end}
use Rattle.device_laws.proofs.OwnerEffects.{KeepsOwner, unchanged, keeps_fed, keeps_written, keeps_closed, keeps_opened, keeps_advanced}
use Rattle.adapter_table.specs.Counting.{with_counters}
use Rattle.adapter_table.specs.Lemmas.CountLemmas.{counted_by_keeps}
use Rattle.adapter_table.specs.Lemmas.LimitLemmas.{limited_is}
use Rattle.adapter_table.specs.Lemmas.PassiveLemmas.{passive_holds}
use Rattle.adapter_table.specs.Lemmas.PlainLemmas.{counters_hold, ids_hold}
use Rattle.base_lemmas.specs.Booleans.{either}

-- ---- an opening that is admitted

judged_passes : (request : OpenFields) (points : Result Points Refusal) (c : Check) (admitted : Admitted) → judged request points c ≡ Ok admitted → c ≡ None
judged_passes request points (Some why) admitted is = absurd cc
judged_passes request points None admitted is = refl

second_passes : (first : Check) (fails : Bool) (why : Refusal) (rest : List Check) → first_of (first ∷ check fails why ∷ rest) ≡ None → fails ≡ false
second_passes None false why rest none = refl
second_passes None true why rest none = absurd cc
second_passes (Some other) fails why rest none = absurd cc

-- no established connection has its triad, by the second check
triad_is_free : (t : AdapterTable) (request : OpenFields) (admitted : Admitted) → admission t request ≡ Ok admitted → list_any (holds_triad request.triad) t.rows ≡ false
unfolding verdict
triad_is_free t request admitted is =
    let points = points_of (view_of t request.triad) request (result_ok (opening_path t.profile.description request.path)) in
    let talks = list_any (has_class3_triad request.triad) t.messaging.class3_connections in
    let free = second_passes (segment_check (opening_path t.profile.description request.path)) (list_any (holds_triad request.triad) t.rows || list_any (has_class3_triad request.triad) t.messaging.class3_connections) InUse _ (judged_passes request points _ admitted is) in
    (or_parts (list_any (holds_triad request.triad) t.rows) talks free).0

-- each opening that is admitted keeps the owner
abbrev OpeningsKeep : ℕ → AdapterTable → Type 0
OpeningsKeep point t =
    (peer : Node) (request : OpenFields) (admitted : Admitted) → admission t request ≡ Ok admitted →
    KeepsOwner point t (opened_notices t.rows (opened_row t peer request admitted)) (opened_table t (opened_row t peer request admitted) admitted)

openings_keep : EffectsKeep IsWhole → (point : ℕ) (t : AdapterTable) → IsWhole t → OpeningsKeep point t
openings_keep effects point t holds = λ peer request admitted is.
    keeps_opened point t peer request admitted (opened_notices t.rows (opened_row t peer request admitted))
    (triad_is_free t request admitted is) holds.sound.producers.openings_rise ((effects.opened t peer request admitted is holds).sound.one_owner point)

-- ---- requests

abbrev ServedKeeps : ℕ → AdapterTable → Served → Type 0
ServedKeeps point t s = KeepsOwner point t s.notices s.table

keeps_judged : (point : ℕ) (t : AdapterTable) → OpeningsKeep point t → (peer : Node) (large : Bool) (request : OpenFields) (said : Result Admitted Refusal) → limited_admission t peer request ≡ said → ServedKeeps point t (judged_open t peer large request said)
unfolding admitted_open
keeps_judged point t opens peer large request (Err why) is = unchanged point t []
keeps_judged point t opens peer large request (Ok admitted) is = opens peer request admitted (limited_is t peer request admitted is).admitted

keeps_close : (point : ℕ) (t : AdapterTable) (peer : Node) (request : CloseFields) (found : Option Row) → ServedKeeps point t (close_of t peer request found)
keeps_close point t peer request None = unchanged point t []
keeps_close point t peer request (Some row) = either (ServedKeeps point t) (is_wrong_closer t.profile.limits peer row) _ _ (unchanged point t []) (keeps_closed point t row)

-- other class 3 connections and requests that wait
keeps_messages : (point : ℕ) (t : AdapterTable) (next_id : ℕ) (m : Messaging) (notices : List Notice) → KeepsOwner point t notices (messages_table t next_id m)
unfolding messages_table
keeps_messages point t next_id m notices = unchanged point t notices

keeps_end : (point : ℕ) (t : AdapterTable) (peer : Node) (request : CloseFields) (found : Option Class3Connection) → ServedKeeps point t (end_of t peer request found)
unfolding served_close
keeps_end point t peer request None = keeps_close point t peer request (find (has_triad request.triad) t.rows)
keeps_end point t peer request (Some d) =
    either (ServedKeeps point t) (is_wrong_ender t.profile.limits peer d) _ _ (unchanged point t []) (keeps_messages point t t.next_id _ (Closed d.triad ∷ []))

keeps_object : (point : ℕ) (t : AdapterTable) (service : ℕ) (answer : ObjectAnswer) → ServedKeeps point t (object_served t service answer)
keeps_object point t service (said by value) = unchanged point t []
keeps_object point t service (denied why) = unchanged point t []
keeps_object point t service (resetting kind) = unchanged point t (Reset kind ∷ [])
keeps_object point t service (answering by general content) = unchanged point t []
keeps_object point t service (refusing named why) = unchanged point t []
keeps_object point t service (unrouted words) = unchanged point t []

-- the same of what is served, if something is
abbrev AnyKeeps : ℕ → AdapterTable → Option Served → Type 0
AnyKeeps point t None = Unit {0}
AnyKeeps point t (Some s) = ServedKeeps point t s

keeps_served : (point : ℕ) (t : AdapterTable) → OpeningsKeep point t → (peer : Node) (request : RouterRequestFields) → AnyKeeps point t (served t peer request)
unfolding served_open served_end served_object
keeps_served point t opens peer nothing = tt
keeps_served point t opens peer (refused service why) = unchanged point t []
keeps_served point t opens peer (closing request) = keeps_end point t peer request (find (has_class3_triad request.triad) t.messaging.class3_connections)
keeps_served point t opens peer (object service class instance attribute body) = keeps_object point t service (object_answer t service class instance attribute body)
keeps_served point t opens peer (opening large request) = keeps_judged point t opens peer large (whole_request t.profile.description request) (limited_admission t peer (whole_request t.profile.description request)) refl

-- what is counted keeps it too
keeps_counted : (point : ℕ) (t : AdapterTable) (request : RouterRequestFields) (s : Option Served) → AnyKeeps point t s → AnyKeeps point t (counted_once request s)
keeps_counted point t request None keeps = keeps
keeps_counted point t request (Some s) keeps = counted_by_keeps (ServedKeeps point t) (λ u counters same. same) request s keeps

-- an answer and the next table keep the owner
abbrev NextKeeps : ℕ → AdapterTable → Next → Type 0
NextKeeps point t next = KeepsOwner point t next.0.notices next.1

keeps_answered : (point : ℕ) (t : AdapterTable) (peer : Node) (s : Option Served) → AnyKeeps point t s → NextKeeps point t (answered t peer s)
keeps_answered point t peer None keeps = unchanged point t []
keeps_answered point t peer (Some s) keeps = keeps

keeps_requested : (point : ℕ) (t : AdapterTable) → OpeningsKeep point t → (peer : Node) (request : RouterRequestFields) (asks : Option OwnRequest) → NextKeeps point t (requested_by t peer request asks)
keeps_requested point t opens peer request None =
    keeps_answered point t peer (counted_once request (served t peer request)) (keeps_counted point t request (served t peer request) (keeps_served point t opens peer request))
keeps_requested point t opens peer request (Some own) =
    either (NextKeeps point t) (cannot_ask t peer) (replied peer (router_refusal t own.service status.ResourceUnavailable)) _ (unchanged point t []) (keeps_messages point t t.next_id _ [])

-- ---- frames

abbrev HandledKeeps : ℕ → AdapterTable → Handled → Type 0
HandledKeeps point t done = KeepsOwner point t done.notices done.table

keeps_register : (point : ℕ) (t : AdapterTable) (stream : Stream) (body : List ℕ) → HandledKeeps point t (register_session t stream body)
unfolding registered_table
keeps_register point t stream body =
    let same = unchanged point t [] in
    either (HandledKeeps point t) (not (length body == 4)) _ _ same
    (either (HandledKeeps point t) (not (bytes_eq body protocol_text)) _ _ same
    (either (HandledKeeps point t) stream.registered (refusal t encap.InvalidCommand) (session_begun t stream) same same))

keeps_replied : (point : ℕ) (t : AdapterTable) (s : Option Served) → AnyKeeps point t s → HandledKeeps point t (request_replied t s)
keeps_replied point t None keeps = unchanged point t []
keeps_replied point t (Some s) keeps = keeps

keeps_class3 : (point : ℕ) (t : AdapterTable) (stream : Stream) (large : Bool) (request : OpenFields) (c : Check) → ServedKeeps point t (judged_class3 t stream large request c)
keeps_class3 point t stream large request (Some why) = unchanged point t []
keeps_class3 point t stream large request None =
    keeps_messages point t (t.next_id + 1) _ (Opened (opened_class3 t stream request).triad (opened_class3 t stream request).o_t_id ∷ [])

keeps_over : (point : ℕ) (t : AdapterTable) → OpeningsKeep point t → (stream : Stream) (request : RouterRequestFields) → AnyKeeps point t (stream_served t stream request)
unfolding served_class3
keeps_over point t opens stream (opening large request) =
    either (AnyKeeps point t) (is_message_trigger request.trigger) (Some (served_class3 t stream large request)) (served t stream.peer (opening large request))
    (keeps_class3 point t stream large (whole_request t.profile.description request) (class3_refusal (class3_view t stream.peer request.triad) (whole_request t.profile.description request))) (keeps_served point t opens stream.peer (opening large request))
keeps_over point t opens stream nothing = keeps_served point t opens stream.peer nothing
keeps_over point t opens stream (refused service why) = keeps_served point t opens stream.peer (refused service why)
keeps_over point t opens stream (closing request) = keeps_served point t opens stream.peer (closing request)
keeps_over point t opens stream (object service class instance attribute body) = keeps_served point t opens stream.peer (object service class instance attribute body)

keeps_referred : (point : ℕ) (t : AdapterTable) → OpeningsKeep point t → (stream : Stream) (context : ℕ) (request : RouterRequestFields) (asks : Option OwnRequest) → HandledKeeps point t (request_handled t stream context request asks)
keeps_referred point t opens stream context request None =
    keeps_replied point t (counted_once request (stream_served t stream request)) (keeps_counted point t request (stream_served t stream request) (keeps_over point t opens stream request))
keeps_referred point t opens stream context request (Some own) =
    either (HandledKeeps point t) (cannot_ask t stream.peer) (request_replied t (Some (router_refusal t own.service status.ResourceUnavailable))) _ (unchanged point t []) (keeps_messages point t t.next_id _ [])

keeps_packet : (point : ℕ) (t : AdapterTable) → OpeningsKeep point t → (stream : Stream) (context : ℕ) (reading : Result PacketFields ItemFault) → HandledKeeps point t (packet_replied t stream context reading)
keeps_packet point t opens stream context (Err fault) = unchanged point t []
keeps_packet point t opens stream context (Ok packet) = keeps_referred point t opens stream context (router_request_reading packet.payload) (own_of t.profile.objects (router_request_reading packet.payload))

keeps_unit : (point : ℕ) (t : AdapterTable) (done : Handled) → IsOfMessages t done → HandledKeeps point t done
keeps_unit point t done is = subst (KeepsOwner point t done.notices) (sym is.table) (keeps_messages point (with_counters t is.counters) t.next_id is.messages done.notices)

keeps_handled : (point : ℕ) (t : AdapterTable) → OpeningsKeep point t → (stream : Stream) (request_header : RequestHeader) (body : List ℕ) (kind : Command) → HandledKeeps point t (handled t stream request_header body kind)
unfolding handled without_stream
keeps_handled point t opens stream request_header body command.RegisterSession = keeps_register point t stream body
keeps_handled point t opens stream request_header body command.UnregisterSession =
    either (HandledKeeps point t) (has_session stream request_header.session) (session_ended t stream) (unanswered t) (unchanged point t (StreamClosed stream.number ∷ ended_notices t stream.number)) (unchanged point t [])
keeps_handled point t opens stream request_header body command.SendRrData =
    either (HandledKeeps point t) (has_session stream request_header.session) _ _ (keeps_packet point t opens stream request_header.context (items_for t.profile.description body)) (unchanged point t [])
keeps_handled point t opens stream request_header body command.SendUnitData =
    either (HandledKeeps point t) (has_session stream request_header.session) (unit_replied t stream (connected_items_for t.profile.description body)) (refusal t (outside_session t.profile.description))
    (keeps_unit point t (unit_replied t stream (connected_items_for t.profile.description body)) (unit_of t stream (connected_items_for t.profile.description body))) (unchanged point t [])
keeps_handled point t opens stream request_header body _ = unchanged point t []

keeps_frame : (point : ℕ) (t : AdapterTable) → OpeningsKeep point t → (stream : Stream) (fields : FrameFields) → NextKeeps point t (frame_answer t stream fields)
keeps_frame point t opens stream without_header = unchanged point t []
keeps_frame point t opens stream (wrong_length request_header) = either (NextKeeps point t) (is_silent (command_of request_header.command)) _ _ (unchanged point t []) (unchanged point t [])
keeps_frame point t opens stream (whole request_header body) = keeps_handled point t opens stream request_header body (command_of request_header.command)

-- ---- datagrams

keeps_found : (point : ℕ) (t : AdapterTable) (peer : Node) (d : DatagramFields) (found : Option Row) → NextKeeps point t (found_datagram t peer d found)
keeps_found point t peer d None = unchanged point t []
keeps_found point t peer d (Some row) =
    let delivery = row_delivery t.profile t.clock row d in
    either (NextKeeps point t) (is_accepted (row_delivery t.profile t.clock row d)) (delivered delivery (accepted_table t peer d row delivery)) (delivered delivery t)
    (keeps_fed point t peer d row delivery []) (unchanged point t [])

keeps_datagram : (point : ℕ) (t : AdapterTable) (peer : Node) (reading : Result DatagramFields DatagramFault) → NextKeeps point t (datagram_of t peer reading)
keeps_datagram point t peer (Err fault) = unchanged point t []
keeps_datagram point t peer (Ok d) = keeps_found point t peer d (find (is_for peer d.connection) t.rows)

-- ---- a step that gives an answer

-- if the step gives an answer, it keeps the owner
abbrev OkKeeps : ℕ → AdapterTable → Result Next StepFault → Type 0
OkKeeps point t (Ok next) = NextKeeps point t next
OkKeeps point t (Err fault) = Unit {0}

keeps_stream : (point : ℕ) (t : AdapterTable) → OpeningsKeep point t → (stream : Stream) (bytes : List ℕ) (reply : Option (List ℕ)) → NextKeeps point t (stream_answer t stream bytes reply)
keeps_stream point t opens stream bytes None = keeps_frame point t opens stream (frame_for t.profile.description bytes)
keeps_stream point t opens stream bytes (Some text) = unchanged point t []

keeps_inquired : (point : ℕ) (t : AdapterTable) (peer : Node) (reply : Option (List ℕ)) → NextKeeps point t (inquired_by t peer reply)
keeps_inquired point t peer None = unchanged point t []
keeps_inquired point t peer (Some text) = unchanged point t []

ok_framed : (point : ℕ) (t : AdapterTable) → OpeningsKeep point t → (bytes : List ℕ) (found : Option Stream) → OkKeeps point t (frame_of t bytes found)
ok_framed point t opens bytes None = tt
ok_framed point t opens bytes (Some stream) = keeps_stream point t opens stream bytes (inquiry_reply t bytes)

ok_cut : (point : ℕ) (t : AdapterTable) (found : Option Stream) → OkKeeps point t (cut_of t found)
unfolding without_stream
ok_cut point t None = tt
ok_cut point t (Some stream) = unchanged point t (ended_notices t stream.number)

ok_written : (point : ℕ) (t : AdapterTable) (input : ℕ) (bytes : List ℕ) (found : Option InputPoint) → OkKeeps point t (write_of t input bytes found)
ok_written point t input bytes None = tt
ok_written point t input bytes (Some there) =
    either (OkKeeps point t) (length bytes == there.len) (Ok (written (written_table t input bytes) input bytes)) (Err WrongLength) (keeps_written point t input bytes []) tt

-- more notices, and other messages
keeps_more : (point : ℕ) (t next : AdapterTable) (notices more : List Notice) (next_id : ℕ) (m : Messaging) → KeepsOwner point t notices next → KeepsOwner point t (notices ++ more) (messages_table next next_id m)
unfolding messages_table
keeps_more point t next notices more next_id m keeps = λ row alone lasts. keeps row alone (any_front (reports_end row.triad) notices more lasts) where
  any_front : (test : Notice → Bool) (xs ys : List Notice) → list_any test (xs ++ ys) ≡ false → list_any test xs ≡ false
  any_front test [] ys none = refl
  any_front test (x ∷ xs) ys none = let parts = or_parts (test x) (list_any test (xs ++ ys)) none in both_none (test x) (list_any test xs) parts.0 (any_front test xs ys parts.1)
    where
      both_none : (a b : Bool) → a ≡ false → b ≡ false → (a || b) ≡ false
      both_none true b first second = first
      both_none false b first second = second

ok_ticked : (point : ℕ) (t : AdapterTable) (ms : ℕ) → OkKeeps point t (tick t ms)
unfolding tick
ok_ticked point t ms =
    let later = (advanced (clocked_table t ms)).1 in
    either (OkKeeps point t) (nat_lt longest_tick ms) (Err TickTooLong) _ tt
    (either (OkKeeps point t) (nat_lt clock_end (t.clock.0 + ms)) (Err ClockEnd) (Ok (aged_next (advanced (clocked_table t ms)))) tt
    (keeps_more point t later (expiry_notices (clocked_table t ms).clock (clocked_table t ms).rows) (map late_notice (late_class3_connections later.clock later.messaging)) later.next_id (aged later.clock later.messaging) (keeps_advanced point t ms)))

ok_step : (point : ℕ) (t : AdapterTable) → OpeningsKeep point t → (event : Event) → OkKeeps point t (adapter_step t event)
unfolding requested received inquired write frame stream_cut stream_opened with_stream
ok_step point t opens (Request peer bytes) = keeps_requested point t opens peer (router_request_reading bytes) (own_of t.profile.objects (router_request_reading bytes))
ok_step point t opens (StreamOpened number peer) =
    either (OkKeeps point t) (is_taken t.streams number) (Err NotAllowedNow) (Ok (plain_answer Done, with_stream t number peer)) tt (unchanged point t [])
ok_step point t opens (Frame number bytes) = ok_framed point t opens bytes (find (is_stream number) t.streams)
ok_step point t opens (StreamCut number) = ok_cut point t (find (is_stream number) t.streams)
ok_step point t opens (Datagram peer bytes) = keeps_datagram point t peer (datagram_reading bytes)
ok_step point t opens (Inquiry peer bytes) = keeps_inquired point t peer (inquiry_reply t bytes)
ok_step point t opens (Write input bytes) = ok_written point t input bytes (find (is_at input) t.profile.inputs)
ok_step point t opens (Tick ms) = ok_ticked point t ms
ok_step point t opens (Respond number general bytes) = respond_holds (OkKeeps point t) t number general bytes (λ why. tt) (λ w found few. keeps_messages point t t.next_id _ [])
ok_step point t opens (Counters bytes) = counters_hold (OkKeeps point t) t bytes (λ why. tt) (unchanged point t [])
ok_step point t opens (Ids block) = ids_hold (OkKeeps point t) t block (λ why. tt) (λ may. unchanged point t [])
ok_step point t opens other = passive_holds (OkKeeps point t) t (λ why. tt) (λ verdict. unchanged point t []) other refl

-- each step from a whole table that gives an answer keeps the owner, unless the answer reports its end
pub step_keeps : EffectsKeep IsWhole → (point : ℕ) (t : AdapterTable) (event : Event) (next : Next) → IsWhole t → adapter_step t event ≡ Ok next → KeepsOwner point t next.0.notices next.1
step_keeps effects point t event next holds is = subst (OkKeeps point t) is (ok_step point t (openings_keep effects point t holds) event)
