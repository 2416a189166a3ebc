-- The law of an adapter's replies: a success in a frame is of the connection that the event opened.
use Rattle.std.proofs.Common.{◌≡◌, ◌≤◌, ◌⊎◌, inl, inr, ℕ, ◌+◌, ◌==◌, ◌&&◌, ◌||◌, not, Bool, true, false, cond, List, [], ◌∷◌, ◌++◌, length, filter, find, Option, Some, None, Result, Ok, Err, IfOk, refl, sym, ◌∙◌, ap, subst, eqb-true}
use Rattle.std.specs.List.{AllByRecursion, list_any, flat_map}
use Rattle.std.specs.Option.{IfSome}
use Rattle.cip_types.specs.Texts.{Tailed}
use Rattle.cip_encap.specs.declared.message.EncapFault.{EncapFault}
use Rattle.cip_encap.specs.Message.{MessageFields, message_text, header_widths}
use Rattle.cip_encap.specs.Reading.{message_reading}
use Rattle.cip_encap.specs.ReadsBack.{ItemsReadBack}
use Rattle.cip_events.specs.declared.event.Event.TheVariants as event
use Rattle.cip_events.specs.declared.event.StepFault.{StepFault}
use Rattle.cip_events.specs.declared.event.Verdict.TheVariants.{BadFrame}
use Rattle.cip_events.specs.Answers.{plain_answer}
use Rattle.cip_events.specs.declared.event.Frame.{Frame}
use Rattle.cip_events.specs.declared.event.Recipient.TheVariants as recipient
use Rattle.cip_fwdopen.specs.declared.reply.Opened.{Opened}
use Rattle.cip_fwdopen.specs.Reply.{reply_service}
use Rattle.cip_router.specs.declared.refusal.Status.TheVariants as status
use Rattle.cip_router.specs.Replies.{ReplyFields, own, own_reply_text}
use Rattle.cip_types.specs.declared.names.Ms.{Ms}
use Rattle.messaging.specs.declared.class3.Class3Connection.{Class3Connection}
use Rattle.messaging.specs.declared.requests.Requester.{Requester}
use Rattle.messaging.specs.declared.requests.Requester.TheVariants as asker
use Rattle.messaging.specs.declared.requests.Waiting.{Waiting}
use Rattle.messaging.specs.declared.table.Messaging.{Messaging}
use Rattle.messaging.specs.Changes.{can_be_answered, has_request_number}
use Rattle.messaging.specs.Class3Connections.{is_last_message}
use Rattle.messaging.specs.Lemmas.EachOfLemmas.{each_left, each_weaker}
use Rattle.messaging.specs.Sound.{EachOf}
use Rattle.messaging.specs.Times.{is_late_class3, on_time, without_late_class3_connections, is_late_request, late_waiting}
use Rattle.adapter_table.specs.Answering.{class3_frames, route_frames, rr_header, unit_header, respond}
use Rattle.adapter_table.specs.Connected.{fitted_text}
use Rattle.adapter_table.specs.MessagesSound.{carries, IsCarried, IsInPlace, RouteIsOpen, CanGoBack}
use Rattle.adapter_table.specs.Own.{OwnRequest, own_of, cannot_ask}
use Rattle.adapter_table.specs.Whole.{IsWhole}
use Rattle.cip_router.specs.Commands.{command_of, is_silent}
use Rattle.cip_router.specs.declared.command.EncapStatus.{EncapStatus}
use Rattle.cip_router.specs.declared.command.EncapStatus.TheVariants as encap
use Rattle.cip_router.specs.Frames.{RequestHeader, request_header_of, FrameReply, router_reply, connected, reply_message, request_header_in, wrong_length_of, frame_fields, frame_reading}
use Rattle.cip_router.specs.Frames as frames
use Rattle.adapter_table.specs.declared.table.AdapterTable.{AdapterTable}
use Rattle.adapter_table.specs.declared.table.Stream.{Stream}
use Rattle.adapter_table.specs.Requests.{Next}
use Rattle.adapter_table.specs.Streams.{is_stream}
use Rattle.adapter_table.specs.Encapsulation.{refusal, handled, reply_frames, framed, frame_answer, stream_answer, frame_of, frame}
use Rattle.adapter_table.specs.Inquiries.{inquiry_reply, inquired_by, inquired}
use Rattle.adapter_table.specs.Sound.{IdsAreDrawn}
use Rattle.adapter_table.specs.Step.{adapter_step}
use Rattle.answer_sizes.specs.Sizes.{IsShortFrame, IsSmall}
use Rattle.device_laws.specs.Lemmas.Texts.{either}
use Rattle.cip_events.specs.declared.event.Event.{Event}
use Rattle.adapter_table.specs.declared.profile.InputPoint.{InputPoint}
use Rattle.cip_events.specs.Clock.{longest_tick, clock_end}
use Rattle.cip_events.specs.declared.event.StepFault.TheVariants.{TickTooLong, ClockEnd, WrongLength}
use Rattle.cip_router.specs.Requests.{RouterRequestFields, router_request_reading}
use Rattle.cip_types.specs.declared.names.Node.{Node}
use Rattle.cip_types.specs.Fields.{fields_at}
use Rattle.std.proofs.Common.{nat_lt}
use Rattle.device_laws.specs.Lemmas.AdapterIds.{few_bytes, plain_none, some_bytes}
use Rattle.device_laws.specs.Lemmas.ConnectedTexts.{connected_bad}
use Rattle.device_laws.specs.Lemmas.Lists.{all_both}
use Rattle.device_laws.specs.Lemmas.MessageSteps.{respond_holds}
use Rattle.device_laws.specs.Lemmas.Payloads.{AnswersNone}
use Rattle.adapter_table.specs.Profiles.{is_at}
use Rattle.adapter_table.specs.Requests.{Served, counted_once, router_refusal, served, replied, answered, requested_by, requested}
use Rattle.adapter_table.specs.Step.{written_table, written, write_of, write}
use Rattle.adapter_table.specs.Ticks.{clocked_table, expired_table, produced_table, advanced, late_frames, aged_next, tick}
use Rattle.answer_sizes.specs.Sizes.{AnswersAreSmall}
use Rattle.cip_tables.specs.declared.table.DeviceTable.TheVariants.{Adapter}
use Rattle.cip_tables.specs.Step.{as_adapter, step}
use Rattle.device_laws.specs.Frames.{SuccessesAre, IsNoOpening}
use Rattle.device_laws.specs.Replies.{IsSuccessOf, IsReplyTo, PlainFor, AsksPlainly, IsOfStream, AsksOverStreams, IsReplyOverStream, IsLateReply, IsAnswerTo, RepliesCarryOpenedIds}
use Rattle.device_laws.specs.Lemmas.ReplyTexts.{MessageBack, message_back, context_fits, PayloadSays, reply_says, own_opens_none}
use Rattle.device_laws.proofs.Framing.{ReplyHas, handled_has, reply_frame_says, frame_says, PacketSays, none_packet, written_packet, plain_says, plain_context}
use Rattle.device_laws.specs.Lemmas.InquiryTexts.{IsPlainText, inquiry_plain}
use Rattle.adapter_table.specs.Lemmas.PlainLemmas.{plain_holds}
use Rattle.adapter_table.specs.Lemmas.FrameLemmas.{answer_has}

abbrev NextReplies : AdapterTable → ℕ → List ℕ → Next → Type 0
NextReplies t number bytes next = IsSmall next.0 → AllByRecursion (IsReplyTo t next.1 number bytes) next.0.frames

-- a refusal is no success
refused_says : (Q : ℕ → Opened → Type 0) (echo : RequestHeader) (why : EncapStatus) → SuccessesAre Q (message_text (reply_message echo (frames.refused why))) × IsNoOpening (message_text (reply_message echo (frames.refused why)))
refused_says Q echo why = frame_says Q (message_text (reply_message echo (frames.refused why))) (λ m is.
    let same : MessageBack (reply_message echo (frames.refused why)) m = message_back (reply_message echo (frames.refused why)) m is in
    subst (PacketSays (Q m.context)) (sym same.payload) (none_packet (Q m.context) [] plain_none))

replies_say : ItemsReadBack → (t next : AdapterTable) (number : ℕ) (bytes : List ℕ) (request : MessageFields) (reply : Option FrameReply) → message_reading bytes ≡ Ok request → IfSome reply (ReplyHas t next request.payload) → AllByRecursion IsShortFrame (reply_frames number (request_header_of request) reply) → AllByRecursion (IsReplyTo t next number bytes) (reply_frames number (request_header_of request) reply)
replies_say back t next number bytes request None reads says short = tt
replies_say back t next number bytes request (Some reply) reads says short = let said = reply_frame_says back t next bytes request reply reads says short.0 in (record { to = refl; successes = said.0; opens_nothing = said.1; context = context_fits (reply_message (request_header_of request) reply) }, tt)

wrong_length_replies : (t : AdapterTable) (stream : Stream) (bytes : List ℕ) (header : Option Tailed) → NextReplies t stream.number bytes (frame_answer t stream (wrong_length_of header))
wrong_length_replies t stream bytes None = λ small. tt
wrong_length_replies t stream bytes (Some h) =
    either (NextReplies t stream.number bytes) (is_silent (command_of (request_header_in h.0).command)) (plain_answer BadFrame, t) (framed stream.number (request_header_in h.0) (refusal t encap.InvalidLength)) (λ small. tt)
    (λ small. let said = refused_says (IsSuccessOf t t bytes) (request_header_in h.0) encap.InvalidLength in (record { to = refl; successes = said.0; opens_nothing = said.1; context = context_fits (reply_message (request_header_in h.0) (frames.refused encap.InvalidLength)) }, tt))

message_answer : ItemsReadBack → (t : AdapterTable) (stream : Stream) (bytes : List ℕ) (header : Option Tailed) (reading : Result MessageFields EncapFault) → message_reading bytes ≡ reading → IdsAreDrawn t.ids t.next_id t.rows → NextReplies t stream.number bytes (frame_answer t stream (frame_fields header reading))
message_answer back t stream bytes header (Err why) reads drawn = wrong_length_replies t stream bytes header
message_answer back t stream bytes header (Ok m) reads drawn = λ small.
    replies_say back t (handled t stream (request_header_of m) m.payload (command_of m.command)).table stream.number bytes m (handled t stream (request_header_of m) m.payload (command_of m.command)).reply reads
    (handled_has t stream (request_header_of m) m.payload (command_of m.command) drawn) small.short_frames

found_number : (number : ℕ) (streams : List Stream) (s : Stream) → find (is_stream number) streams ≡ Some s → s.number ≡ number
found_number number [] s is = absurd (let e = is in cc)
found_number number (x ∷ streams) s is = step (is_stream number x) refl is (found_number number streams s) where
  same_stream : (a b : Stream) → Some a ≡ Some b → a ≡ b
  same_stream a b e = cc

  step : (b : Bool) → is_stream number x ≡ b → cond b (Some x) (find (is_stream number) streams) ≡ Some s → (find (is_stream number) streams ≡ Some s → s.number ≡ number) → s.number ≡ number
  step true passes found more = ap (λ (y : Stream). y.number) (sym (same_stream x s found)) ∙ eqb-true x.number number passes
  step false passes found more = more found

read_replies : ItemsReadBack → (t : AdapterTable) (stream : Stream) (bytes : List ℕ) → IdsAreDrawn t.ids t.next_id t.rows → NextReplies t stream.number bytes (frame_answer t stream (frame_reading bytes))
unfolding frame_reading
read_replies back t stream bytes drawn = message_answer back t stream bytes _ (message_reading bytes) refl drawn

stream_replies : ItemsReadBack → (t : AdapterTable) (stream : Stream) (bytes : List ℕ) (reply : Option (List ℕ)) → IfSome reply IsPlainText → IdsAreDrawn t.ids t.next_id t.rows → NextReplies t stream.number bytes (stream_answer t stream bytes reply)
stream_replies back t stream bytes None plain drawn =
    answer_has (NextReplies t stream.number bytes) t stream bytes (read_replies back t stream bytes drawn) (wrong_length_replies t stream bytes (fields_at header_widths bytes)) (λ small. tt)
stream_replies back t stream bytes (Some text) plain drawn = λ small.
    let says = plain_says (IsSuccessOf t t bytes) text plain in
    (record { to = refl; successes = says.0; opens_nothing = says.1; context = plain_context text plain }, tt)

frame_of_replies : ItemsReadBack → (t : AdapterTable) (number : ℕ) (bytes : List ℕ) (found : Option Stream) → find (is_stream number) t.streams ≡ found → IdsAreDrawn t.ids t.next_id t.rows → IfOk (frame_of t bytes found) (NextReplies t number bytes)
frame_of_replies back t number bytes None is drawn = tt
frame_of_replies back t number bytes (Some stream) is drawn =
    subst (λ (n : ℕ). NextReplies t n bytes (stream_answer t stream bytes (inquiry_reply t bytes))) (found_number number t.streams stream is) (stream_replies back t stream bytes (inquiry_reply t bytes) (inquiry_plain t bytes) drawn)

frame_replies : ItemsReadBack → (t : AdapterTable) (number : ℕ) (bytes : List ℕ) → IdsAreDrawn t.ids t.next_id t.rows → IfOk (adapter_step t (event.Frame number bytes)) (NextReplies t number bytes)
unfolding frame
frame_replies back t number bytes drawn = frame_of_replies back t number bytes (find (is_stream number) t.streams) refl drawn

-- ---- other events

abbrev OkAnswers : AdapterTable → Event → Result Next StepFault → Type 0
OkAnswers t happens said = IfOk said (λ next. IsSmall next.0 → AllByRecursion (IsAnswerTo t next.1 happens) next.0.frames)

answered_peer : (t : AdapterTable) (peer : Node) (bytes : List ℕ) (s : Option Served) → OkAnswers t (event.Request peer bytes) (Ok (answered t peer s))
answered_peer t peer bytes None = λ small. tt
answered_peer t peer bytes (Some s) = λ small. (refl, tt)

requested_answers : (t : AdapterTable) (peer : Node) (bytes : List ℕ) (request : RouterRequestFields) (asks : Option OwnRequest) → OkAnswers t (event.Request peer bytes) (Ok (requested_by t peer request asks))
requested_answers t peer bytes request None = answered_peer t peer bytes (counted_once request (served t peer request))
requested_answers t peer bytes request (Some asks) =
    either (λ (next : Next). OkAnswers t (event.Request peer bytes) (Ok next)) (cannot_ask t peer) (replied peer (router_refusal t asks.service status.ResourceUnavailable)) _ (λ small. (refl, tt)) (λ small. tt)

inquired_answers : (t : AdapterTable) (peer : Node) (bytes : List ℕ) (reply : Option (List ℕ)) → IfSome reply IsPlainText → OkAnswers t (event.Inquiry peer bytes) (Ok (inquired_by t peer reply))
inquired_answers t peer bytes None plain = λ small. tt
inquired_answers t peer bytes (Some text) plain = λ small.
    let says = plain_says (λ context opened. ⊥) text plain in
    (record { to = refl; successes = says.0; opens_nothing = says.1; context = plain_context text plain }, tt)

write_answers : (t : AdapterTable) (point : ℕ) (bytes : List ℕ) (found : Option InputPoint) → OkAnswers t (event.Write point bytes) (write_of t point bytes found)
write_answers t point bytes None = tt
write_answers t point bytes (Some input) =
    either (OkAnswers t (event.Write point bytes)) (length bytes == input.len) (Ok (written (written_table t point bytes) point bytes)) (Err WrongLength) (λ small. tt) tt

-- ---- requests that wait

-- the stream of a message that came is open
carried_open : (number : ℕ) (streams : List Stream) → IsCarried streams number → list_any (is_stream number) streams ≡ true
carried_open number [] is = absurd (let e : false ≡ true = is in cc)
carried_open number (stream ∷ streams) is = carried_step (is_stream number stream) stream.registered is (carried_open number streams) where
  carried_step : (a b : Bool) → ((a && b) || list_any (carries number) streams) ≡ true → (IsCarried streams number → list_any (is_stream number) streams ≡ true) → (a || list_any (is_stream number) streams) ≡ true
  carried_step true b is rest = refl
  carried_step false b is rest = rest is

each_found : {A : Type 0} (P : A → Type 0) (p : A → Bool) (xs : List A) → EachOf P xs → IfSome (find p xs) P
each_found P p [] all = tt
each_found P p (x ∷ xs) all = either (λ found. IfSome found P) (p x) (Some x) (find p xs) all.0 (each_found P p xs all.1)

-- a frame over an open stream that can be read as nothing
unit_replies : (t : AdapterTable) (d : Class3Connection) (count service : ℕ) (reply : ReplyFields) → IsCarried t.streams d.stream → IsReplyOverStream t (record { to = recipient.Stream d.stream; bytes = message_text (reply_message (unit_header d.stream) (connected d.t_o_id.0 count (fitted_text d service reply))) })
unit_replies t d count service reply carried =
    let m0 = reply_message (unit_header d.stream) (connected d.t_o_id.0 count (fitted_text d service reply)) in
    let bad = connected_bad d.t_o_id.0 count (fitted_text d service reply) in
    let says = frame_says (λ context opened. ⊥) (message_text m0) (λ m is.
    let same : MessageBack m0 m = message_back m0 m is in
    subst (PacketSays (λ opened. ⊥)) (sym same.payload) (none_packet (λ opened. ⊥) m0.payload bad)) in
    record { number = d.stream; to = refl; over = carried_open d.stream t.streams carried; successes = λ ours plain own. says.0; opens_nothing = says.1; context = context_fits m0 }

class3_replies : (t : AdapterTable) (count service : ℕ) (reply : ReplyFields) (found : Option Class3Connection) → IfSome found (λ d. IsCarried t.streams d.stream) → AllByRecursion (IsLateReply t) (class3_frames count service reply found)
class3_replies t count service reply None carried = tt
class3_replies t count service reply (Some d) carried = (inr (unit_replies t d count service reply carried), tt)

-- what the frame of a reply over a stream can be read as
own_frame_says : ItemsReadBack → (Q : Opened → Type 0) (number context service general : ℕ) (content : List ℕ) → PayloadSays Q (own_reply_text service general content) → length (message_text (reply_message (rr_header number context) (router_reply (own service general content) None))) ≤ 2048 → SuccessesAre (λ c opened. Q opened) (message_text (reply_message (rr_header number context) (router_reply (own service general content) None))) × IsNoOpening (message_text (reply_message (rr_header number context) (router_reply (own service general content) None)))
own_frame_says back Q number context service general content says short =
    let reply : FrameReply = router_reply (own service general content) None in
    let m0 = reply_message (rr_header number context) (router_reply (own service general content) None) in
    frame_says (λ c opened. Q opened) (message_text m0) (λ m is.
    let same : MessageBack m0 m = message_back m0 m is in
    subst (PacketSays Q) (sym same.payload)
    (written_packet back Q (own_reply_text service general content) None (some_bytes (own service general content)) (few_bytes m0 (own_reply_text service general content) None refl short) says))

-- a reply whose text is no success
abbrev NoSuccess : ℕ → ℕ → Type 0
NoSuccess service general = AnswersNone (reply_service service) ⊎ ((general == 0) ≡ false)

stream_replies_own : ItemsReadBack → (t : AdapterTable) (number context service general : ℕ) (content : List ℕ) → IsCarried t.streams number → ((ours : ℕ → Bool) → AsksPlainly ours t.messaging → ours number ≡ true → NoSuccess service general) → length (message_text (reply_message (rr_header number context) (router_reply (own service general content) None))) ≤ 2048 → IsReplyOverStream t (record { to = recipient.Stream number; bytes = message_text (reply_message (rr_header number context) (router_reply (own service general content) None)) })
stream_replies_own back t number context service general content carried plain short =
    let m0 = reply_message (rr_header number context) (router_reply (own service general content) None) in
    let opens = own_frame_says back (λ opened. Unit {0}) number context service general content (own_opens_none service general content) short in
    record {
      number = number;
      to = refl;
      over = carried_open number t.streams carried;
      successes = λ ours asks over. let says = own_frame_says back (λ opened. ⊥) number context service general content (reply_says (λ opened. ⊥) (own service general content) (plain ours asks over)) short in says.0;
      opens_nothing = opens.1;
      context = context_fits m0;
    }

-- .. where the request came over one of these streams
abbrev NoSuccessFor : (ℕ → Bool) → Requester → ℕ → ℕ → Type 0
NoSuccessFor ours (asker.Peer node) service general = Unit {0}
NoSuccessFor ours (asker.Stream number context) service general = ours number ≡ true → NoSuccess service general
NoSuccessFor ours (asker.Class3Connection id count) service general = Unit {0}

-- the class3_connections of the messages live on streams of the table
abbrev Class3ConnectionsCarried : AdapterTable → Messaging → Type 0
Class3ConnectionsCarried t m = EachOf (λ (d : Class3Connection). IsCarried t.streams d.stream) m.class3_connections

route_replies : ItemsReadBack → (t : AdapterTable) (m : Messaging) (from : Requester) (service general : ℕ) (content : List ℕ) → RouteIsOpen t.streams from → Class3ConnectionsCarried t m → ((ours : ℕ → Bool) → AsksPlainly ours t.messaging → NoSuccessFor ours from service general) → (AsksOverStreams t.messaging → IsOfStream from) → AllByRecursion IsShortFrame (route_frames m from service (own service general content)) → AllByRecursion (IsLateReply t) (route_frames m from service (own service general content))
route_replies back t m (asker.Peer node) service general content opens carried plain over short = (inl (record { peer = node; to = refl; over_none = over }), tt)
route_replies back t m (asker.Stream number context) service general content opens carried plain over short = (inr (stream_replies_own back t number context service general content opens plain short.0), tt)
route_replies back t m (asker.Class3Connection id count) service general content opens carried plain over short =
    class3_replies t count service (own service general content) (find (is_last_message id count) m.class3_connections) (each_found (λ (d : Class3Connection). IsCarried t.streams d.stream) (is_last_message id count) m.class3_connections carried)

all_parts : (P : Frame → Type 0) (xs ys : List Frame) → AllByRecursion P (xs ++ ys) → AllByRecursion P xs × AllByRecursion P ys
all_parts P [] ys all = (tt, all)
all_parts P (x ∷ xs) ys all = let more = all_parts P xs ys all.1 in ((all.0, more.0), more.1)

-- what holds of each request that waits holds of each of these
abbrev AreOf : AdapterTable → List Waiting → Type 0
AreOf t waiting = (AsksOverStreams t.messaging → EachOf (λ (w : Waiting). IsOfStream w.asker) waiting)

-- a late reply is no success
late_for : (ours : ℕ → Bool) (from : Requester) (service : ℕ) → NoSuccessFor ours from service 0x1F
late_for ours (asker.Peer node) service = tt
late_for ours (asker.Stream number context) service = λ over. inr refl
late_for ours (asker.Class3Connection id count) service = tt

late_replies : ItemsReadBack → (t : AdapterTable) (m : Messaging) (waiting : List Waiting) → AreOf t waiting → EachOf (CanGoBack t.streams) waiting → Class3ConnectionsCarried t m → AllByRecursion IsShortFrame (flat_map (late_frames m) waiting) → AllByRecursion (IsLateReply t) (flat_map (late_frames m) waiting)
late_replies back t m [] are back_open carried short = tt
late_replies back t m (w ∷ waiting) are back_open carried short =
    let parts = all_parts IsShortFrame (late_frames m w) (flat_map (late_frames m) waiting) short in
    all_both (IsLateReply t) (late_frames m w) (flat_map (late_frames m) waiting) (route_replies back t m w.asker w.service 0x1F [] back_open.0 carried (λ ours asks. late_for ours w.asker w.service) (λ over. (are over).0) parts.0)
    (late_replies back t m waiting (λ over. (are over).1) back_open.1 carried parts.1)

-- what is left of the messages when late connections have ended
left_carried : (t : AdapterTable) (clock : Ms) (m : Messaging) → Class3ConnectionsCarried t m → Class3ConnectionsCarried t (without_late_class3_connections clock m)
unfolding without_late_class3_connections
left_carried t clock m carried = each_left (λ (d : Class3Connection). IsCarried t.streams d.stream) (λ d. not (is_late_class3 clock d)) m.class3_connections carried

left_each : (P : Waiting → Type 0) (clock : Ms) (m : Messaging) → EachOf P m.waiting → EachOf P (late_waiting clock (without_late_class3_connections clock m))
unfolding without_late_class3_connections
left_each P clock m all =
    each_left P (is_late_request clock) (filter (can_be_answered (on_time clock m.class3_connections)) m.waiting) (each_left P (can_be_answered (on_time clock m.class3_connections)) m.waiting all)

carried_of : (t : AdapterTable) → IsWhole t → Class3ConnectionsCarried t t.messaging
carried_of t whole = each_weaker (IsInPlace t.rows t.streams) (λ (d : Class3Connection). IsCarried t.streams d.stream) (λ d is. is.stream) t.messaging.class3_connections whole.messages.class3_connections

same_messaging : (t : AdapterTable) (ms : ℕ) → (advanced (clocked_table t ms)).1.messaging ≡ t.messaging
unfolding clocked_table expired_table produced_table
same_messaging t ms = refl

aged_answers : ItemsReadBack → (t : AdapterTable) (clock : Ms) (m : Messaging) → m ≡ t.messaging → IsWhole t → AllByRecursion IsShortFrame (flat_map (late_frames (without_late_class3_connections clock m)) (late_waiting clock (without_late_class3_connections clock m))) → AllByRecursion (IsLateReply t) (flat_map (late_frames (without_late_class3_connections clock m)) (late_waiting clock (without_late_class3_connections clock m)))
aged_answers back t clock m same whole short =
    late_replies back t (without_late_class3_connections clock m) (late_waiting clock (without_late_class3_connections clock m))
    (λ over. left_each (λ w. IsOfStream w.asker) clock m (subst AsksOverStreams (sym same) over))
    (left_each (CanGoBack t.streams) clock m (subst (λ (n : Messaging). EachOf (CanGoBack t.streams) n.waiting) (sym same) whole.messages.waiting))
    (left_carried t clock m (subst (Class3ConnectionsCarried t) (sym same) (carried_of t whole))) short

tick_answers : ItemsReadBack → (t : AdapterTable) (ms : ℕ) → IsWhole t → OkAnswers t (event.Tick ms) (tick t ms)
unfolding tick
tick_answers back t ms whole =
    let later = (advanced (clocked_table t ms)).1 in
    either (OkAnswers t (event.Tick ms)) (nat_lt longest_tick ms) (Err TickTooLong) _ tt
    (either (OkAnswers t (event.Tick ms)) (nat_lt clock_end (t.clock.0 + ms)) (Err ClockEnd) (Ok (aged_next (advanced (clocked_table t ms)))) tt
    (λ small. aged_answers back t later.clock later.messaging (same_messaging t ms) whole small.short_frames))

respond_answers : ItemsReadBack → (t : AdapterTable) (number general : ℕ) (bytes : List ℕ) → IsWhole t → OkAnswers t (event.Respond number general bytes) (respond t number general bytes)
respond_answers back t number general bytes whole =
    respond_holds (OkAnswers t (event.Respond number general bytes)) t number general bytes (λ why. tt)
    (λ w found few small. route_replies back t t.messaging w.asker w.service general bytes
    (subst (λ (o : Option Waiting). IfSome o (CanGoBack t.streams)) found (each_found (CanGoBack t.streams) (has_request_number number) t.messaging.waiting whole.messages.waiting))
    (carried_of t whole)
    (λ ours asks. plain_for ours w.asker w.service (subst (λ (o : Option Waiting). IfSome o (λ w'. PlainFor ours w'.asker w'.service)) found (each_found (λ (w' : Waiting). PlainFor ours w'.asker w'.service) (has_request_number number) t.messaging.waiting asks)))
    (λ over. subst (λ (o : Option Waiting). IfSome o (λ w'. IsOfStream w'.asker)) found (each_found (λ (w' : Waiting). IsOfStream w'.asker) (has_request_number number) t.messaging.waiting over))
    small.short_frames)
  where
    plain_for : (ours : ℕ → Bool) (from : Requester) (service : ℕ) → PlainFor ours from service → NoSuccessFor ours from service general
    plain_for ours (asker.Peer node) service plain = tt
    plain_for ours (asker.Stream n context) service plain = λ over. let is = plain over in inl (record { small = is.small; large = is.large })
    plain_for ours (asker.Class3Connection id count) service plain = tt

step_answers : ItemsReadBack → (t : AdapterTable) (happens : Event) → IsWhole t → OkAnswers t happens (adapter_step t happens)
unfolding requested inquired write
step_answers back t (event.Request peer bytes) whole = requested_answers t peer bytes (router_request_reading bytes) (own_of t.profile.objects (router_request_reading bytes))
step_answers back t (event.Frame number bytes) whole = frame_replies back t number bytes whole.sound.ids_are_drawn
step_answers back t (event.Inquiry peer bytes) whole = inquired_answers t peer bytes (inquiry_reply t bytes) (inquiry_plain t bytes)
step_answers back t (event.Write point bytes) whole = write_answers t point bytes (find (is_at point) t.profile.inputs)
step_answers back t (event.Tick ms) whole = tick_answers back t ms whole
step_answers back t (event.Respond number general bytes) whole = respond_answers back t number general bytes whole
step_answers back t other whole = plain_holds (OkAnswers t other) t (λ why. tt) (λ verdict notices u small. tt) other refl

pub replies_carry : ItemsReadBack → AnswersAreSmall → RepliesCarryOpenedIds
unfolding step
replies_carry back few t happens answer next is whole =
    let small = few (Adapter t) happens answer (Adapter next) whole (ap as_adapter is) in
    (subst (OkAnswers t happens) is (step_answers back t happens whole)) small
