-- What an event leaves of a message of a class 3 connection, unless it asks on the connection by another count.
use Rattle.std.proofs.Common.{◌≡◌, ℕ, ◌==◌, false, List, [], length, find, Option, Some, None, Result, Ok, Err, refl, ◌∙◌, subst, arith, eqb-true}
use Rattle.std.specs.Option.{IfSome}
use Rattle.base_lemmas.specs.Booleans.{either}
use Rattle.base_lemmas.specs.Lists.{found_passes}
use Rattle.cip_types.specs.declared.names.Node.{Node}
use Rattle.cip_datagram.specs.declared.datagram.DatagramFault.{DatagramFault}
use Rattle.cip_datagram.specs.Datagram.{DatagramFields}
use Rattle.cip_datagram.specs.Reading.{datagram_reading}
use Rattle.cip_events.specs.declared.event.Event.{Event}
use Rattle.cip_events.specs.declared.event.Event.TheVariants as event
use Rattle.cip_events.specs.declared.event.StepFault.{StepFault}
use Rattle.cip_events.specs.declared.event.StepFault.TheVariants.{NotAllowedNow, WrongLength}
use Rattle.cip_events.specs.declared.event.Verdict.TheVariants.{Done}
use Rattle.cip_events.specs.Answers.{plain_answer, is_accepted}
use Rattle.cip_router.specs.declared.refusal.Status.TheVariants as status
use Rattle.cip_router.specs.Requests.{RouterRequestFields, router_request_reading}
use Rattle.messaging.specs.declared.class3.Class3Connection.{Class3Connection}
use Rattle.messaging.specs.declared.requests.Requester.TheVariants as asker
use Rattle.messaging.specs.Class3Connections.{has_class3_id}
use Rattle.adapter_table.specs.declared.profile.InputPoint.{InputPoint}
use Rattle.adapter_table.specs.declared.table.AdapterTable.{AdapterTable}
use Rattle.adapter_table.specs.declared.table.Stream.{Stream}
use Rattle.adapter_table.specs.Connections.{Row}
use Rattle.adapter_table.specs.Datagrams.{is_for, row_delivery, accepted_table, delivered, found_datagram, datagram_of, received}
use Rattle.adapter_table.specs.Encapsulation.{frame}
use Rattle.adapter_table.specs.Inquiries.{inquiry_reply, inquired_by, inquired}
use Rattle.adapter_table.specs.Counting.{counted_link}
use Rattle.adapter_table.specs.Lemmas.CountLemmas.{counted_keeps}
use Rattle.adapter_table.specs.Lemmas.PassiveLemmas.{passive_holds}
use Rattle.adapter_table.specs.Lemmas.PlainLemmas.{counters_hold, ids_hold}
use Rattle.adapter_table.specs.MessagesSound.{IsCarried, IsInPlace}
use Rattle.adapter_table.specs.Own.{OwnRequest, own_of, cannot_ask}
use Rattle.adapter_table.specs.Profiles.{is_at}
use Rattle.adapter_table.specs.Requests.{Next, Served, counted_once, router_refusal, served, requested_by, requested}
use Rattle.adapter_table.specs.Requests as router
use Rattle.adapter_table.specs.Step.{written_table, changed_table, taken_table, written, write_of, write, adapter_step}
use Rattle.adapter_table.specs.Streams.{is_stream, is_taken, with_stream, stream_opened, cut_of, stream_cut}
use Rattle.adapter_table.specs.Whole.{IsWhole}
use Rattle.message_laws.specs.Repetitions.{asks_next, sent_at}
use Rattle.message_laws.proofs.Found.{leaves_same, each_found, registered}
use Rattle.message_laws.proofs.Going.{Goes, Differ, quiet, unchanged, left_of}
use Rattle.message_laws.proofs.Requests.{ServedGoes, HasSession, recounted, served_goes, messages_go, referred_stays, stream_goes, frame_goes}
use Rattle.message_laws.proofs.Answers.{respond_goes, tick_goes}

-- it sends nothing for the message
abbrev Quietly : Class3Connection → ℕ → AdapterTable → Result Next StepFault → Type 0
Quietly d count t outcome = Goes d count t [] (left_of t outcome)

requested_goes : (d : Class3Connection) (count : ℕ) (t : AdapterTable) (peer : Node) (request : RouterRequestFields) (asks : Option OwnRequest) → Differ t.messaging → Quietly d count t (Ok (requested_by t peer request asks))
requested_goes d count t peer request None differ =
    answered_goes (counted_once request (served t peer request)) (counted_keeps (ServedGoes d count t) (λ s counters goes. recounted d count t s.table counters goes) request (served t peer request) (served_goes d count t peer request differ))
  where
    answered_goes : (s : Option Served) → IfSome s (ServedGoes d count t) → Quietly d count t (Ok (router.answered t peer s))
    answered_goes None goes = unchanged d count t
    answered_goes (Some s) goes = goes
requested_goes d count t peer request (Some asks) differ =
    either (λ (n : Next). Goes d count t [] n.1) (cannot_ask t peer) (router.replied peer (router_refusal t asks.service status.ResourceUnavailable)) _ (unchanged d count t)
    (messages_go d count t _ (referred_stays d.o_t_id t.messaging peer (asker.Peer peer) asks.service t.clock))

inquired_goes : (d : Class3Connection) (count : ℕ) (t : AdapterTable) (peer : Node) (reply : Option (List ℕ)) → Quietly d count t (Ok (inquired_by t peer reply))
inquired_goes d count t peer None = unchanged d count t
inquired_goes d count t peer (Some text) = unchanged d count t

cut_goes : (d : Class3Connection) (count : ℕ) (t : AdapterTable) (found : Option Stream) → Differ t.messaging → Quietly d count t (cut_of t found)
cut_goes d count t None differ = unchanged d count t
cut_goes d count t (Some stream) differ = stream_goes d count t stream.number differ

found_goes : (d : Class3Connection) (count : ℕ) (t : AdapterTable) (peer : Node) (arrived : DatagramFields) (found : Option Row) → Quietly d count t (Ok (found_datagram t peer arrived found))
unfolding accepted_table
found_goes d count t peer arrived None = unchanged d count t
found_goes d count t peer arrived (Some row) =
    let delivery = row_delivery t.profile t.clock row arrived in
    either (λ (n : Next). Goes d count t [] n.1) (is_accepted (row_delivery t.profile t.clock row arrived)) (delivered delivery (accepted_table t peer arrived row delivery)) (delivered delivery t)
    (quiet d count t (accepted_table t peer arrived row delivery) (omega arith) refl (leaves_same d.o_t_id t.messaging.class3_connections)) (unchanged d count t)

datagram_goes : (d : Class3Connection) (count : ℕ) (t : AdapterTable) (peer : Node) (reading : Result DatagramFields DatagramFault) → Quietly d count t (Ok (datagram_of t peer reading))
datagram_goes d count t peer (Err fault) = unchanged d count t
datagram_goes d count t peer (Ok arrived) = found_goes d count t peer arrived (find (is_for peer arrived.connection) t.rows)

write_goes : (d : Class3Connection) (count : ℕ) (t : AdapterTable) (point : ℕ) (bytes : List ℕ) (found : Option InputPoint) → Quietly d count t (write_of t point bytes found)
unfolding written_table changed_table
write_goes d count t point bytes None = unchanged d count t
write_goes d count t point bytes (Some input) =
    either (Quietly d count t) (length bytes == input.len) (Ok (written (written_table t point bytes) point bytes)) (Err WrongLength)
    (quiet d count t (changed_table (written_table t point bytes) point) (omega arith) refl (leaves_same d.o_t_id t.messaging.class3_connections)) (unchanged d count t)

with_goes : (d : Class3Connection) (count : ℕ) (t : AdapterTable) (number : ℕ) (peer : Node) → Goes d count t [] (with_stream t number peer)
unfolding with_stream
with_goes d count t number peer = quiet d count t (with_stream t number peer) (omega arith) refl (leaves_same d.o_t_id t.messaging.class3_connections)

-- ---- the session of an open stream

sessions : (t : AdapterTable) (number : ℕ) (found : Option Stream) → find (is_stream number) t.streams ≡ found → IsWhole t → IfSome found (λ s. (s.number ≡ number) × HasSession t s)
sessions t number None is whole = tt
sessions t number (Some s) is whole =
    let here : s.number ≡ number = eqb-true s.number number (found_passes (is_stream number) t.streams s is) in (
      here,
      λ e id there alike.
          registered number t.streams s whole.sound.streams_differ
          (subst (IsCarried t.streams) (alike ∙ here) (each_found (IsInPlace t.rows t.streams) (has_class3_id id) t.messaging.class3_connections e there whole.messages.class3_connections).stream) is,
    )

-- ---- one event

pub event_goes : (d : Class3Connection) (count : ℕ) (t : AdapterTable) (happens : Event) → IsWhole t → asks_next t.profile.description d count happens ≡ false → Goes d count t (sent_at d count t happens) (left_of t (adapter_step t happens))
unfolding requested received inquired write frame stream_cut stream_opened
event_goes d count t (event.Request peer bytes) whole none = requested_goes d count t peer (router_request_reading bytes) (own_of t.profile.objects (router_request_reading bytes)) whole.messages.own.ids_differ
event_goes d count t (event.StreamOpened number peer) whole none =
    either (Quietly d count t) (is_taken t.streams number) (Err NotAllowedNow) (Ok (plain_answer Done, with_stream t number peer)) (unchanged d count t) (with_goes d count t number peer)
event_goes d count t (event.Frame number bytes) whole none =
    frame_goes d count t number bytes (find (is_stream number) t.streams) (sessions t number (find (is_stream number) t.streams) refl whole) whole.messages.own.ids_differ none
event_goes d count t (event.StreamCut number) whole none = cut_goes d count t (find (is_stream number) t.streams) whole.messages.own.ids_differ
event_goes d count t (event.Datagram peer bytes) whole none = datagram_goes d count t peer (datagram_reading bytes)
event_goes d count t (event.Inquiry peer bytes) whole none = inquired_goes d count t peer (inquiry_reply t bytes)
event_goes d count t (event.Write point bytes) whole none = write_goes d count t point bytes (find (is_at point) t.profile.inputs)
event_goes d count t (event.Tick ms) whole none = tick_goes d count t ms whole.messages.own.ids_differ
event_goes d count t (event.Respond number general bytes) whole none = respond_goes d count t number general bytes
event_goes d count t (event.Counters bytes) whole none =
    counters_hold (Quietly d count t) t bytes (λ why. unchanged d count t) (quiet d count t (counted_link t bytes) (omega arith) refl (leaves_same d.o_t_id t.messaging.class3_connections))
event_goes d count t (event.Ids block) whole none =
    ids_hold (Quietly d count t) t block (λ why. unchanged d count t) (λ may. quiet d count t (taken_table t block) (omega arith) refl (leaves_same d.o_t_id t.messaging.class3_connections))
event_goes d count t other whole none = passive_holds (Quietly d count t) t (λ why. unchanged d count t) (λ verdict. unchanged d count t) other refl
