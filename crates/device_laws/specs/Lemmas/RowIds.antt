-- Connections and streams of an adapter from step to step.
use Rattle.std.proofs.Common.{◌≡◌, ◌⊎◌, inl, inr, ℕ, ◌+◌, ◌==◌, not, nat_lt, Bool, true, false, List, [], ◌∷◌, ◌++◌, length, map, find, Option, Some, None, Result, Ok, Err, IfOk, refl, sym, ◌∙◌, subst, append_assoc}
use Rattle.std.specs.List.{AllByRecursion, Contains}
use Rattle.std.specs.Option.{IfSome}
use Rattle.std.specs.Str.{bytes_eq}
use Rattle.std.proofs.lemmas.List.Elements.{Contains-append_left, Contains-append_right, Contains-push}
use Rattle.cip_types.specs.declared.names.Ms.{Ms}
use Rattle.cip_types.specs.declared.names.Node.{Node}
use Rattle.cip_datagram.specs.declared.datagram.DatagramFault.{DatagramFault}
use Rattle.cip_datagram.specs.Datagram.{DatagramFields}
use Rattle.cip_datagram.specs.Reading.{datagram_reading}
use Rattle.cip_encap.specs.declared.message.EncapFault.{EncapFault}
use Rattle.cip_encap.specs.declared.packet.ItemFault.{ItemFault}
use Rattle.cip_encap.specs.Message.{MessageFields, header_widths}
use Rattle.cip_encap.specs.Reading.{message_reading}
use Rattle.cip_types.specs.Texts.{Tailed}
use Rattle.cip_types.specs.Fields.{fields_at}
use Rattle.cip_encap.specs.Packet.{PacketFields}
use Rattle.cip_encap.specs.AnyItems.{any_packet_reading}
use Rattle.cip_events.specs.declared.event.Event.{Event}
use Rattle.cip_events.specs.declared.event.Event.TheVariants as event
use Rattle.cip_events.specs.declared.event.StepFault.{StepFault}
use Rattle.cip_events.specs.declared.event.StepFault.TheVariants.{NotAllowedNow, TickTooLong, ClockEnd, WrongLength}
use Rattle.cip_events.specs.declared.event.Verdict.TheVariants.{Done, BadFrame}
use Rattle.cip_events.specs.Answers.{plain_answer, is_accepted}
use Rattle.cip_events.specs.Clock.{longest_tick, clock_end}
use Rattle.cip_fwdopen.specs.Close.{CloseFields}
use Rattle.cip_fwdopen.specs.Open.{OpenFields}
use Rattle.cip_productions.specs.declared.production.Production.{Production}
use Rattle.cip_netparams.specs.Word.{is_message_trigger}
use Rattle.cip_netparams.specs.declared.Trigger.{Trigger}
use Rattle.cip_netparams.specs.declared.Trigger.TheVariants.{Cyclic, ChangeOfState}
use Rattle.cip_productions.specs.Productions.{produced, deferred, is_free, changed_by, is_production_due}
use Rattle.cip_router.specs.declared.command.Command.{Command}
use Rattle.cip_router.specs.declared.command.Command.TheVariants as command
use Rattle.cip_router.specs.declared.command.EncapStatus.TheVariants as encap
use Rattle.cip_router.specs.declared.refusal.Refusal.{Refusal}
use Rattle.cip_router.specs.declared.refusal.Status.TheVariants as status
use Rattle.cip_router.specs.Requests.{RouterRequestFields, nothing, refused, closing, object, opening, router_request_reading}
use Rattle.cip_router.specs.Commands.{command_of, is_silent}
use Rattle.cip_router.specs.Frames.{RequestHeader, request_header_of, request_header_in, wrong_length_of, frame_fields, protocol_text, frame_reading}
use Rattle.messaging.specs.declared.class3.Class3Connection.{Class3Connection}
use Rattle.messaging.specs.declared.table.Messaging.{Messaging}
use Rattle.messaging.specs.Class3Connections.{has_class3_triad}
use Rattle.adapter_table.specs.declared.profile.Description.{Description}
use Rattle.adapter_table.specs.Intervals.{whole_request}
use Rattle.adapter_table.specs.declared.profile.InputPoint.{InputPoint}
use Rattle.adapter_table.specs.Connections.{Row}
use Rattle.adapter_table.specs.declared.row.State.{State}
use Rattle.adapter_table.specs.declared.row.State.TheVariants.{Established, TimedOut}
use Rattle.adapter_table.specs.declared.opening_rates.rates.NodeOpenings.{NodeOpenings}
use Rattle.adapter_table.specs.declared.counters.DeviceCounters.{DeviceCounters}
use Rattle.adapter_table.specs.declared.table.AdapterTable.{AdapterTable}
use Rattle.adapter_table.specs.Counting.{with_counters, counted_link}
use Rattle.adapter_table.specs.Rates.{with_openings}
use Rattle.adapter_table.specs.declared.table.Stream.{Stream}
use Rattle.adapter_table.specs.Checks.{Check, Admitted}
use Rattle.adapter_table.specs.Class3Opening.{class3_view, class3_refusal, judged_class3, served_class3, stream_served}
use Rattle.adapter_table.specs.Messages.{messages_table}
use Rattle.adapter_table.specs.Own.{OwnRequest, own_of, cannot_ask}
use Rattle.adapter_table.specs.StatedLimits.{limited_admission, is_wrong_closer, is_wrong_ender}
use Rattle.adapter_table.specs.Closing.{stays, without_triad, closed_table}
use Rattle.adapter_table.specs.Datagrams.{is_for, accepted_row, accepted_if_for, row_delivery, accepted_table, delivered, found_datagram, datagram_of, received}
use Rattle.adapter_table.specs.Encapsulation.{Handled, items_for, connected_items_for, refusal, unanswered, session_begun, session_ended, register_session, request_replied, request_handled, packet_replied, unit_replied, handled, framed, frame_answer, stream_answer, frame_of, frame, outside_session, frame_for}
use Rattle.adapter_table.specs.Newest.{was_opened_as}
use Rattle.adapter_table.specs.Opening.{opened_row, opened_table}
use Rattle.adapter_table.specs.Objects.{ObjectAnswer}
use Rattle.adapter_table.specs.Carrying.{object_answer}
use Rattle.adapter_table.specs.Objects as objects
use Rattle.adapter_table.specs.Inquiries.{inquiry_reply, inquired_by, inquired}
use Rattle.adapter_table.specs.Productions.{producer_of, produced_state, produced_row, changed_state, changed_row}
use Rattle.adapter_table.specs.Profiles.{is_at}
use Rattle.adapter_table.specs.Requests.{Next, Served, counted_once, judged_open, admitted_open, served_open, close_of, served_close, end_of, served_end, router_refusal, object_served, served_object, served, replied, answered, requested_by, requested}
use Rattle.adapter_table.specs.Rows.{lives, has_triad, written_state, written_row}
use Rattle.adapter_table.specs.Sound.{IdsAreDrawn}
use Rattle.adapter_table.specs.Step.{written_table, changed_table, written, write_of, write, taken_table, adapter_step}
use Rattle.adapter_table.specs.Streams.{is_stream, is_other_stream, is_taken, new_stream, with_stream, without_stream, has_session, registered_stream, registered_table, stream_opened, cut_of, stream_cut}
use Rattle.adapter_table.specs.Ticks.{has_expired, expired_row, expired_rows, clocked_table, expired_table, produced_table, advanced, aged_next, tick}
use Rattle.device_laws.specs.Lemmas.Lists.{all_both, all_more, all_filtered, all_mapped}
use Rattle.device_laws.specs.Lemmas.Texts.{either}
use Rattle.device_laws.specs.Frames.{IsOpening}
use Rattle.device_laws.specs.RowIds.{IsSameRow, WasThere, IsNewOf, IsProduced, RowCame, WasOpen, StreamCame, Came, ConnectionsKeepTheirIds}
use Rattle.device_laws.specs.Lemmas.MessageSteps.{IsOfMessages, unit_of, respond_holds}
use Rattle.device_laws.specs.Lemmas.Admissions.{opening_produced}
use Rattle.device_laws.specs.Lemmas.Serving.{new_row_found}
use Rattle.adapter_table.specs.Lemmas.LimitLemmas.{limited_is}
use Rattle.adapter_table.specs.Lemmas.CountLemmas.{counted_keeps}
use Rattle.adapter_table.specs.Lemmas.ItemLemmas.{items_any}
use Rattle.adapter_table.specs.Lemmas.PassiveLemmas.{passive_holds}
use Rattle.adapter_table.specs.Lemmas.PlainLemmas.{counters_hold, ids_hold}
use Rattle.adapter_table.specs.Lemmas.FrameLemmas.{answer_has}

-- ---- a list and its elements

pub all_contained : {X : Type 0} (all before rest : List X) → all ≡ before ++ rest → AllByRecursion (λ x. Contains all x) rest
all_contained all before [] is = tt
all_contained all before (x ∷ rest) is = (
  subst (λ l. Contains l x) (sym is) (Contains-append_right before (x ∷ rest) x (Contains-append_left (x ∷ []) rest x (Contains-push [] x))),
  all_contained all (before ++ x ∷ []) rest (is ∙ sym (append_assoc before (x ∷ []) rest)),
)

-- ---- one connection

same_row : (row : Row) → IsSameRow row row
same_row row = record { opening = refl; peer = refl; kind = refl; consumed = refl; produced = refl; o_t = refl; t_o = refl; established = λ is. is; producer = λ is. refl }

pub same_then : (a b c : Row) → IsSameRow a b → IsSameRow b c → IsSameRow a c
same_then a b c first next = record {
  opening = next.opening ∙ first.opening;
  peer = next.peer ∙ first.peer;
  kind = next.kind ∙ first.kind;
  consumed = next.consumed ∙ first.consumed;
  produced = next.produced ∙ first.produced;
  o_t = next.o_t ∙ first.o_t;
  t_o = next.t_o ∙ first.t_o;
  established = λ is. first.established (next.established is);
  producer = λ is. next.producer is ∙ first.producer (next.established is);
}

-- a state of the same producer
record IsSameState (old state : State) : Type 0 where
  living : lives state ≡ true → lives old ≡ true
  producer : lives state ≡ true → producer_of state ≡ producer_of old

same_state : (row : Row) (state : State) → IsSameState row.state state → IsSameRow row (record row { state = state })
same_state row state same = record { opening = refl; peer = refl; kind = refl; consumed = refl; produced = refl; o_t = refl; t_o = refl; established = same.living; producer = same.producer }

written_same : (state : State) → IsSameState state (written_state state)
written_same (Established p) = record { living = λ is. refl; producer = λ is. refl }
written_same TimedOut = record { living = λ is. is; producer = λ is. refl }

produced_same : (clock : Ms) (api : ℕ) (state : State) → IsSameState state (produced_state clock api state)
produced_same clock api TimedOut = record { living = λ is. is; producer = λ is. refl }
produced_same clock api (Established p) =
    either (λ (s : State). IsSameState (Established p) s) (is_production_due clock p) (Established (produced clock api p)) (Established p)
    (record { living = λ is. refl; producer = λ is. refl }) (record { living = λ is. refl; producer = λ is. refl })

changed_producer : (trigger : Trigger) (clock : Ms) (api : ℕ) (p : Production) → (changed_by trigger clock api p).producer ≡ p.producer
changed_producer Cyclic clock api p = refl
changed_producer ChangeOfState clock api p = either (λ (q : Production). q.producer ≡ p.producer) (is_free clock p) (produced clock api p) (deferred p) refl refl

changed_same : (clock : Ms) (api : ℕ) (state : State) → IsSameState state (changed_state clock api state)
changed_same clock api TimedOut = record { living = λ is. is; producer = λ is. refl }
changed_same clock api (Established p) = record { living = λ is. refl; producer = λ is. changed_producer p.trigger clock api p }

timed_same : (state : State) → IsSameState state TimedOut
timed_same state = record { living = λ is. absurd (let e : false ≡ true = is in cc); producer = λ is. absurd (let e : false ≡ true = is in cc) }

pub written_row_same : (point : ℕ) (row : Row) → IsSameRow row (written_row point row)
written_row_same point row = either (IsSameRow row) (row.produced == point) (record row { state = written_state row.state }) row (same_state row (written_state row.state) (written_same row.state)) (same_row row)

changed_row_same : (clock : Ms) (point : ℕ) (row : Row) → IsSameRow row (changed_row clock point row)
changed_row_same clock point row = either (IsSameRow row) (row.produced == point) (record row { state = changed_state clock row.t_o_api_ms row.state }) row (same_state row (changed_state clock row.t_o_api_ms row.state) (changed_same clock row.t_o_api_ms row.state)) (same_row row)

produced_row_same : (clock : Ms) (row : Row) → IsSameRow row (produced_row clock row)
produced_row_same clock row = same_state row (produced_state clock row.t_o_api_ms row.state) (produced_same clock row.t_o_api_ms row.state)

pub expired_row_same : (clock : Ms) (row : Row) → IsSameRow row (expired_row clock row)
expired_row_same clock row = either (IsSameRow row) (has_expired clock row) (record row { state = TimedOut }) row (same_state row TimedOut (timed_same row.state)) (same_row row)

accepted_row_same : (clock : Ms) (peer : Node) (d : DatagramFields) (row : Row) → IsSameRow row (accepted_if_for clock peer d row)
accepted_row_same clock peer d row = either (IsSameRow row) (is_for peer d.connection row) (accepted_row clock d row) row
    (record { opening = refl; peer = refl; kind = refl; consumed = refl; produced = refl; o_t = refl; t_o = refl; established = λ is. is; producer = λ is. refl }) (same_row row)

-- ---- connections that stay

were_there : (t : AdapterTable) → AllByRecursion (WasThere t) t.rows
were_there t = all_more (λ (row : Row). Contains t.rows row) (WasThere t) (λ row there. record { old = row; there = there; same = same_row row }) t.rows (all_contained t.rows [] t.rows refl)

there_on : (t : AdapterTable) (f : Row → Row) → ((row : Row) → IsSameRow row (f row)) → (rows : List Row) → AllByRecursion (WasThere t) rows → AllByRecursion (WasThere t) (map f rows)
there_on t f same rows all = all_mapped (WasThere t) (WasThere t) f (λ row was. record { old = was.old; there = was.there; same = same_then was.old row (f row) was.same (same row) }) rows all

were_open : (t : AdapterTable) → AllByRecursion (WasOpen t) t.streams
were_open t = all_more (λ (s : Stream). Contains t.streams s) (WasOpen t) (λ s there. record { old = s; there = there; number = refl; peer = refl }) t.streams (all_contained t.streams [] t.streams refl)

-- a table after a request of a peer
-- what holds where a request opened a connection
record Opens (t next : AdapterTable) (peer : Node) (O : OpenFields → Type 0) (row : Row) : Type 0 where
  new : IsNewOf t next peer row
  request : OpenFields
  so : O request
  produced : IsProduced t next request row

abbrev RowAfter : (OpenFields → Type 0) → AdapterTable → AdapterTable → Node → Row → Type 0
RowAfter O t next peer row = WasThere t row ⊎ Opens t next peer O row

record TableAfter (O : OpenFields → Type 0) (t : AdapterTable) (peer : Node) (next : AdapterTable) : Type 0 where
  rows : AllByRecursion (RowAfter O t next peer) next.rows
  streams : AllByRecursion (WasOpen t) next.streams

old_rows : (O : OpenFields → Type 0) (t next : AdapterTable) (peer : Node) (rows : List Row) → AllByRecursion (WasThere t) rows → AllByRecursion (RowAfter O t next peer) rows
old_rows O t next peer rows all = all_more (WasThere t) (RowAfter O t next peer) (λ row was. inl was) rows all

stays_so : (O : OpenFields → Type 0) (t : AdapterTable) (peer : Node) → TableAfter O t peer t
stays_so O t peer = record { rows = old_rows O t t peer t.rows (were_there t); streams = were_open t }

-- ---- requests

new_peer : (t : AdapterTable) (peer : Node) (request : OpenFields) (admitted : Admitted) → (opened_row t peer request admitted).peer ≡ peer
unfolding opened_row
new_peer t peer request admitted = refl

opened_rows : (O : OpenFields → Type 0) (t : AdapterTable) (peer : Node) (request : OpenFields) (row : Row) (admitted : Admitted) → O request → IsProduced t (opened_table t row admitted) request row → find (was_opened_as t.next_id) (opened_table t row admitted).rows ≡ Some row → row.peer ≡ peer → TableAfter O t peer (opened_table t row admitted)
unfolding opened_table
opened_rows O t peer request row admitted so produced new is = record {
  rows = all_both (RowAfter O t (opened_table t row admitted) peer) _ (row ∷ []) (old_rows O t (opened_table t row admitted) peer _ (all_filtered (WasThere t) _ t.rows (were_there t)))
      (inr (record { new = record { new = new; peer_is = is }; request = request; so = so; produced = produced }), tt);
  streams = were_open t;
}

-- what the device takes a request for asks for the same id
as_requested : (d : Option Description) (t next : AdapterTable) (request : OpenFields) (row : Row) → IsProduced t next (whole_request d request) row → IsProduced t next request row
as_requested d t next request row (inl joins) = inl joins
as_requested d t next request row (inr (inl starts)) = inr (inl starts)
as_requested d t next request row (inr (inr single)) = inr (inr (record { single = single.single; t_o = single.t_o; producer = single.producer }))

open_after : (O : OpenFields → Type 0) (t : AdapterTable) (peer : Node) (large : Bool) (request : OpenFields) (said : Result Admitted Refusal) → limited_admission t peer (whole_request t.profile.description request) ≡ said → O request → IdsAreDrawn t.ids t.next_id t.rows → TableAfter O t peer (judged_open t peer large (whole_request t.profile.description request) said).table
unfolding admitted_open
open_after O t peer large request (Err why) is so drawn = stays_so O t peer
open_after O t peer large request (Ok admitted) is so drawn =
    opened_rows O t peer request (opened_row t peer (whole_request t.profile.description request) admitted) admitted so
    (as_requested t.profile.description t (opened_table t (opened_row t peer (whole_request t.profile.description request) admitted) admitted) request (opened_row t peer (whole_request t.profile.description request) admitted)
    (opening_produced t peer (whole_request t.profile.description request) admitted (all_contained t.rows [] t.rows refl) (limited_is t peer (whole_request t.profile.description request) admitted is).admitted))
    (new_row_found t peer (whole_request t.profile.description request) admitted drawn) (new_peer t peer (whole_request t.profile.description request) admitted)

abbrev ServedAfter : (OpenFields → Type 0) → AdapterTable → Node → Served → Type 0
ServedAfter O t peer s = TableAfter O t peer s.table

close_after : (O : OpenFields → Type 0) (t : AdapterTable) (peer : Node) (request : CloseFields) (found : Option Row) → TableAfter O t peer (close_of t peer request found).table
unfolding closed_table
close_after O t peer request None = stays_so O t peer
close_after O t peer request (Some row) =
    either (ServedAfter O t peer) (is_wrong_closer t.profile.limits peer row) _ _ (stays_so O t peer)
    (record {
      rows = old_rows O t (closed_table t row) peer _ (all_filtered (WasThere t) (stays (without_triad row.triad t.rows)) (without_triad row.triad t.rows) (all_filtered (WasThere t) _ t.rows (were_there t)));
      streams = were_open t;
    })

-- other class 3 connections and requests that wait
messages_after : (O : OpenFields → Type 0) (t : AdapterTable) (peer : Node) (next_id : ℕ) (m : Messaging) → TableAfter O t peer (messages_table t next_id m)
unfolding messages_table
messages_after O t peer next_id m = record { rows = old_rows O t (messages_table t next_id m) peer t.rows (were_there t); streams = were_open t }

end_after : (O : OpenFields → Type 0) (t : AdapterTable) (peer : Node) (request : CloseFields) (found : Option Class3Connection) → ServedAfter O t peer (end_of t peer request found)
unfolding served_close
end_after O t peer request None = close_after O t peer request (find (has_triad request.triad) t.rows)
end_after O t peer request (Some d) = either (ServedAfter O t peer) (is_wrong_ender t.profile.limits peer d) _ _ (stays_so O t peer) (messages_after O t peer t.next_id _)

object_after : (O : OpenFields → Type 0) (t : AdapterTable) (peer : Node) (service : ℕ) (answer : ObjectAnswer) → ServedAfter O t peer (object_served t service answer)
object_after O t peer service (objects.said by value) = stays_so O t peer
object_after O t peer service (objects.denied why) = stays_so O t peer
object_after O t peer service (objects.resetting kind) = stays_so O t peer
object_after O t peer service (objects.answering by general content) = stays_so O t peer
object_after O t peer service (objects.refusing named why) = stays_so O t peer
object_after O t peer service (objects.unrouted words) = stays_so O t peer

served_after : (O : OpenFields → Type 0) (t : AdapterTable) (peer : Node) (requested : RouterRequestFields) → ((large : Bool) (request : OpenFields) → requested ≡ opening large request → O request) → IdsAreDrawn t.ids t.next_id t.rows → IfSome (served t peer requested) (ServedAfter O t peer)
unfolding served_open served_end served_object
served_after O t peer nothing asks drawn = tt
served_after O t peer (refused service why) asks drawn = stays_so O t peer
served_after O t peer (closing request) asks drawn = end_after O t peer request (find (has_class3_triad request.triad) t.messaging.class3_connections)
served_after O t peer (object service class instance attribute body) asks drawn = object_after O t peer service (object_answer t service class instance attribute body)
served_after O t peer (opening large request) asks drawn = open_after O t peer large request (limited_admission t peer (whole_request t.profile.description request)) refl (asks large request refl) drawn

-- what is counted changes neither connections nor streams

recounted_source : (t next : AdapterTable) (counters : DeviceCounters) (request : OpenFields) (row : Row) → IsProduced t next request row → IsProduced t (with_counters next counters) request row
recounted_source t next counters request row (inl joins) = inl joins
recounted_source t next counters request row (inr (inl starts)) = inr (inl (record { t_o = starts.t_o; producer = starts.producer; drawn = starts.drawn }))
recounted_source t next counters request row (inr (inr single)) = inr (inr single)

recounted_row : (O : OpenFields → Type 0) (t next : AdapterTable) (peer : Node) (counters : DeviceCounters) (row : Row) → RowAfter O t next peer row → RowAfter O t (with_counters next counters) peer row
recounted_row O t next peer counters row (inl was) = inl was
recounted_row O t next peer counters row (inr opens) = inr (record {
  new = record { new = opens.new.new; peer_is = opens.new.peer_is };
  request = opens.request;
  so = opens.so;
  produced = recounted_source t next counters opens.request row opens.produced;
})

recounted : (O : OpenFields → Type 0) (t : AdapterTable) (peer : Node) (next : AdapterTable) (counters : DeviceCounters) → TableAfter O t peer next → TableAfter O t peer (with_counters next counters)
recounted O t peer next counters goes = record {
  rows = all_more (RowAfter O t next peer) (RowAfter O t (with_counters next counters) peer) (recounted_row O t next peer counters) next.rows goes.rows;
  streams = goes.streams;
}

both_after : (O : OpenFields → Type 0) (t : AdapterTable) (peer : Node) (counters : DeviceCounters) (next_id : ℕ) (m : Messaging) → TableAfter O t peer (messages_table (with_counters t counters) next_id m)
unfolding messages_table
both_after O t peer counters next_id m = record { rows = old_rows O t (messages_table (with_counters t counters) next_id m) peer t.rows (were_there t); streams = were_open t }

-- ---- messages

abbrev HandledAfter : (OpenFields → Type 0) → AdapterTable → Node → Handled → Type 0
HandledAfter O t peer done = TableAfter O t peer done.table

registered_after : (O : OpenFields → Type 0) (t : AdapterTable) (peer : Node) (number : ℕ) → TableAfter O t peer (registered_table t number)
unfolding registered_table
registered_after O t peer number = record {
  rows = old_rows O t (registered_table t number) peer t.rows (were_there t);
  streams = all_mapped (WasOpen t) (WasOpen t) (registered_stream number) (λ s was. either (WasOpen t) (is_stream number s) (record s { registered = true }) s (record { old = was.old; there = was.there; number = was.number; peer = was.peer }) was) t.streams (were_open t);
}

without_after : (O : OpenFields → Type 0) (t : AdapterTable) (peer : Node) (number : ℕ) → TableAfter O t peer (without_stream t number)
unfolding without_stream
without_after O t peer number = record {
  rows = old_rows O t (without_stream t number) peer t.rows (were_there t);
  streams = all_filtered (WasOpen t) (is_other_stream number) t.streams (were_open t);
}

register_after : (O : OpenFields → Type 0) (t : AdapterTable) (stream : Stream) (body : List ℕ) → HandledAfter O t stream.peer (register_session t stream body)
register_after O t stream body =
    either (HandledAfter O t stream.peer) (not (length body == 4)) _ _ (stays_so O t stream.peer)
    (either (HandledAfter O t stream.peer) (not (bytes_eq body protocol_text)) _ _ (stays_so O t stream.peer)
    (either (HandledAfter O t stream.peer) stream.registered (refusal t encap.InvalidCommand) (session_begun t stream) (stays_so O t stream.peer) (registered_after O t stream.peer stream.number)))

replied_after : (O : OpenFields → Type 0) (t : AdapterTable) (peer : Node) (s : Option Served) → IfSome s (ServedAfter O t peer) → HandledAfter O t peer (request_replied t s)
replied_after O t peer None goes = stays_so O t peer
replied_after O t peer (Some s) goes = goes

-- what holds where the packet is a request to open
abbrev PacketRequests : (OpenFields → Type 0) → Result PacketFields ItemFault → Type 0
PacketRequests O reading = (packet : PacketFields) → reading ≡ Ok packet → (large : Bool) (request : OpenFields) → router_request_reading packet.payload ≡ opening large request → O request

-- an opening is counted, too
counted_after : (O : OpenFields → Type 0) (t : AdapterTable) (peer : Node) (next_id : ℕ) (m : Messaging) (openings : List NodeOpenings) → TableAfter O t peer (with_openings (messages_table t next_id m) openings)
unfolding messages_table
counted_after O t peer next_id m openings = record { rows = old_rows O t (with_openings (messages_table t next_id m) openings) peer t.rows (were_there t); streams = were_open t }

class3_after : (O : OpenFields → Type 0) (t : AdapterTable) (stream : Stream) (large : Bool) (request : OpenFields) (c : Check) → ServedAfter O t stream.peer (judged_class3 t stream large request c)
class3_after O t stream large request (Some why) = stays_so O t stream.peer
class3_after O t stream large request None = counted_after O t stream.peer (t.next_id + 1) _ _

over_stream_after : (O : OpenFields → Type 0) (t : AdapterTable) (stream : Stream) (requested : RouterRequestFields) → ((large : Bool) (request : OpenFields) → requested ≡ opening large request → O request) → IdsAreDrawn t.ids t.next_id t.rows → IfSome (stream_served t stream requested) (ServedAfter O t stream.peer)
unfolding served_class3
over_stream_after O t stream (opening large request) asks drawn =
    either (λ (s : Option Served). IfSome s (ServedAfter O t stream.peer)) (is_message_trigger request.trigger) (Some (served_class3 t stream large request)) (served t stream.peer (opening large request))
    (class3_after O t stream large (whole_request t.profile.description request) (class3_refusal (class3_view t stream.peer request.triad) (whole_request t.profile.description request))) (served_after O t stream.peer (opening large request) asks drawn)
over_stream_after O t stream nothing asks drawn = served_after O t stream.peer nothing asks drawn
over_stream_after O t stream (refused service why) asks drawn = served_after O t stream.peer (refused service why) asks drawn
over_stream_after O t stream (closing request) asks drawn = served_after O t stream.peer (closing request) asks drawn
over_stream_after O t stream (object service class instance attribute body) asks drawn = served_after O t stream.peer (object service class instance attribute body) asks drawn

request_after : (O : OpenFields → Type 0) (t : AdapterTable) (stream : Stream) (context : ℕ) (requested : RouterRequestFields) (own : Option OwnRequest) → ((large : Bool) (request : OpenFields) → requested ≡ opening large request → O request) → IdsAreDrawn t.ids t.next_id t.rows → HandledAfter O t stream.peer (request_handled t stream context requested own)
request_after O t stream context requested None asks drawn =
    replied_after O t stream.peer (counted_once requested (stream_served t stream requested))
    (counted_keeps (ServedAfter O t stream.peer) (λ s counters goes. recounted O t stream.peer s.table counters goes) requested (stream_served t stream requested) (over_stream_after O t stream requested asks drawn))
request_after O t stream context requested (Some own) asks drawn =
    either (HandledAfter O t stream.peer) (cannot_ask t stream.peer) (request_replied t (Some (router_refusal t own.service status.ResourceUnavailable))) _ (stays_so O t stream.peer) (messages_after O t stream.peer t.next_id _)

packet_after : (O : OpenFields → Type 0) (t : AdapterTable) (stream : Stream) (context : ℕ) (reading : Result PacketFields ItemFault) → PacketRequests O reading → IdsAreDrawn t.ids t.next_id t.rows → HandledAfter O t stream.peer (packet_replied t stream context reading)
packet_after O t stream context (Err fault) asks drawn = stays_so O t stream.peer
packet_after O t stream context (Ok packet) asks drawn =
    request_after O t stream context (router_request_reading packet.payload) (own_of t.profile.objects (router_request_reading packet.payload)) (asks packet refl) drawn

unit_after : (O : OpenFields → Type 0) (t : AdapterTable) (peer : Node) (done : Handled) → IsOfMessages t done → HandledAfter O t peer done
unit_after O t peer done is = subst (TableAfter O t peer) (sym is.table) (both_after O t peer is.counters t.next_id is.messages)

handled_after : (O : OpenFields → Type 0) (t : AdapterTable) (stream : Stream) (echo : RequestHeader) (body : List ℕ) (requested : Command) → PacketRequests O (any_packet_reading body) → IdsAreDrawn t.ids t.next_id t.rows → HandledAfter O t stream.peer (handled t stream echo body requested)
unfolding handled
handled_after O t stream echo body command.Nop asks drawn = stays_so O t stream.peer
handled_after O t stream echo body command.ListServices asks drawn = stays_so O t stream.peer
handled_after O t stream echo body command.RegisterSession asks drawn = register_after O t stream body
handled_after O t stream echo body command.UnregisterSession asks drawn =
    either (HandledAfter O t stream.peer) (has_session stream echo.session) (session_ended t stream) (unanswered t) (without_after O t stream.peer stream.number) (stays_so O t stream.peer)
handled_after O t stream echo body command.SendRrData asks drawn =
    either (HandledAfter O t stream.peer) (has_session stream echo.session) _ _ (packet_after O t stream echo.context (items_for t.profile.description body) (λ packet is. asks packet (items_any t.profile.description body packet is)) drawn) (stays_so O t stream.peer)
handled_after O t stream echo body command.SendUnitData asks drawn =
    either (HandledAfter O t stream.peer) (has_session stream echo.session) (unit_replied t stream (connected_items_for t.profile.description body)) (refusal t (outside_session t.profile.description))
    (unit_after O t stream.peer (unit_replied t stream (connected_items_for t.profile.description body)) (unit_of t stream (connected_items_for t.profile.description body))) (stays_so O t stream.peer)
handled_after O t stream echo body command.Other asks drawn = stays_so O t stream.peer

abbrev NextAfter : (OpenFields → Type 0) → AdapterTable → Node → Next → Type 0
NextAfter O t peer next = TableAfter O t peer next.1

misfit_after : (O : OpenFields → Type 0) (t : AdapterTable) (stream : Stream) (header : Option Tailed) → NextAfter O t stream.peer (frame_answer t stream (wrong_length_of header))
misfit_after O t stream None = stays_so O t stream.peer
misfit_after O t stream (Some h) =
    either (NextAfter O t stream.peer) (is_silent (command_of (request_header_in h.0).command)) (plain_answer BadFrame, t) (framed stream.number (request_header_in h.0) (refusal t encap.InvalidLength)) (stays_so O t stream.peer) (stays_so O t stream.peer)

-- what holds where the message is a request to open
abbrev MessageRequests : (OpenFields → Type 0) → Result MessageFields EncapFault → Type 0
MessageRequests O reading = (m : MessageFields) → reading ≡ Ok m → PacketRequests O (any_packet_reading m.payload)

message_after : (O : OpenFields → Type 0) (t : AdapterTable) (stream : Stream) (header : Option Tailed) (reading : Result MessageFields EncapFault) → MessageRequests O reading → IdsAreDrawn t.ids t.next_id t.rows → NextAfter O t stream.peer (frame_answer t stream (frame_fields header reading))
message_after O t stream header (Err why) asks drawn = misfit_after O t stream header
message_after O t stream header (Ok m) asks drawn = handled_after O t stream (request_header_of m) m.payload (command_of m.command) (asks m refl) drawn

read_after : (O : OpenFields → Type 0) (t : AdapterTable) (stream : Stream) (bytes : List ℕ) → MessageRequests O (message_reading bytes) → IdsAreDrawn t.ids t.next_id t.rows → NextAfter O t stream.peer (frame_answer t stream (frame_reading bytes))
unfolding frame_reading
read_after O t stream bytes asks drawn = message_after O t stream _ (message_reading bytes) asks drawn

frame_after : (O : OpenFields → Type 0) (t : AdapterTable) (stream : Stream) (bytes : List ℕ) → MessageRequests O (message_reading bytes) → IdsAreDrawn t.ids t.next_id t.rows → NextAfter O t stream.peer (frame_answer t stream (frame_for t.profile.description bytes))
frame_after O t stream bytes asks drawn =
    answer_has (NextAfter O t stream.peer) t stream bytes (read_after O t stream bytes asks drawn) (misfit_after O t stream (fields_at header_widths bytes)) (stays_so O t stream.peer)

-- a frame that opens a connection can be read as the request to open it
frame_requests : (bytes : List ℕ) → MessageRequests (IsOpening bytes) (message_reading bytes)
frame_requests bytes m reads packet is large request opens = record { message = m; reads = reads; packet = packet; packet_is = is; large = large; opens = opens }

-- ---- events

abbrev OkCame : AdapterTable → Event → Result Next StepFault → Type 0
OkCame t happens said = IfOk said (λ next. Came t next.1 happens)

old_streams : (t : AdapterTable) (happens : Event) (streams : List Stream) → AllByRecursion (WasOpen t) streams → AllByRecursion (StreamCame t happens) streams
old_streams t happens streams all = all_more (WasOpen t) (StreamCame t happens) (λ s was. inl was) streams all

-- nothing is new
rows_stay : (t next : AdapterTable) (happens : Event) → AllByRecursion (WasThere t) next.rows → next.streams ≡ t.streams → Came t next happens
rows_stay t next happens rows same = record {
  rows = all_more (WasThere t) (RowCame t next happens) (λ row was. inl was) next.rows rows;
  streams = old_streams t happens next.streams (subst (AllByRecursion (WasOpen t)) (sym same) (were_open t));
}

table_stays : (t : AdapterTable) (happens : Event) → Came t t happens
table_stays t happens = rows_stay t t happens (were_there t) refl

stream_came : (t : AdapterTable) (number : ℕ) (bytes : List ℕ) (stream : Stream) (reply : Option (List ℕ)) → find (is_stream number) t.streams ≡ Some stream → IdsAreDrawn t.ids t.next_id t.rows → Came t (stream_answer t stream bytes reply).1 (event.Frame number bytes)
stream_came t number bytes stream (Some text) is drawn = table_stays t (event.Frame number bytes)
stream_came t number bytes stream None is drawn =
    let next = (frame_answer t stream (frame_for t.profile.description bytes)).1 in
    let goes : TableAfter (IsOpening bytes) t stream.peer next = frame_after (IsOpening bytes) t stream bytes (frame_requests bytes) drawn in
    record { rows = all_more (RowAfter (IsOpening bytes) t next stream.peer) (RowCame t next (event.Frame number bytes)) news next.rows goes.rows; streams = old_streams t (event.Frame number bytes) next.streams goes.streams }
  where
    news : (row : Row) → RowAfter (IsOpening bytes) t (frame_answer t stream (frame_for t.profile.description bytes)).1 stream.peer row → RowCame t (frame_answer t stream (frame_for t.profile.description bytes)).1 (event.Frame number bytes) row
    news row (inl was) = inl was
    news row (inr new) = inr (record { stream = stream; found = is; new = new.new; request = new.request; requested = new.so; produced = new.produced })

frame_of_came : (t : AdapterTable) (number : ℕ) (bytes : List ℕ) (found : Option Stream) → find (is_stream number) t.streams ≡ found → IdsAreDrawn t.ids t.next_id t.rows → OkCame t (event.Frame number bytes) (frame_of t bytes found)
frame_of_came t number bytes None is drawn = tt
frame_of_came t number bytes (Some stream) is drawn = stream_came t number bytes stream (inquiry_reply t bytes) is drawn

inquired_came : (t : AdapterTable) (peer : Node) (bytes : List ℕ) (reply : Option (List ℕ)) → OkCame t (event.Inquiry peer bytes) (Ok (inquired_by t peer reply))
inquired_came t peer bytes None = table_stays t (event.Inquiry peer bytes)
inquired_came t peer bytes (Some text) = table_stays t (event.Inquiry peer bytes)

-- nothing need hold of a request
abbrev Anything : OpenFields → Type 0
Anything request = Unit {0}

peer_came : (t next : AdapterTable) (peer : Node) (bytes : List ℕ) → TableAfter Anything t peer next → Came t next (event.Request peer bytes)
peer_came t next peer bytes goes = record { rows = all_more (RowAfter Anything t next peer) (RowCame t next (event.Request peer bytes)) news next.rows goes.rows; streams = old_streams t (event.Request peer bytes) next.streams goes.streams }
  where
    news : (row : Row) → RowAfter Anything t next peer row → RowCame t next (event.Request peer bytes) row
    news row (inl was) = inl was
    news row (inr new) = inr new.new

answered_came : (t : AdapterTable) (peer : Node) (bytes : List ℕ) (s : Option Served) → IfSome s (ServedAfter Anything t peer) → OkCame t (event.Request peer bytes) (Ok (answered t peer s))
answered_came t peer bytes None goes = table_stays t (event.Request peer bytes)
answered_came t peer bytes (Some s) goes = peer_came t s.table peer bytes goes

request_came : (t : AdapterTable) (peer : Node) (bytes : List ℕ) (requested : RouterRequestFields) (own : Option OwnRequest) → IdsAreDrawn t.ids t.next_id t.rows → OkCame t (event.Request peer bytes) (Ok (requested_by t peer requested own))
request_came t peer bytes requested None drawn =
    answered_came t peer bytes (counted_once requested (served t peer requested))
    (counted_keeps (ServedAfter Anything t peer) (λ s counters goes. recounted Anything t peer s.table counters goes) requested (served t peer requested) (served_after Anything t peer requested (λ large request is. tt) drawn))
request_came t peer bytes requested (Some own) drawn =
    either (λ (next : Next). Came t next.1 (event.Request peer bytes)) (cannot_ask t peer) (replied peer (router_refusal t own.service status.ResourceUnavailable)) _
    (table_stays t (event.Request peer bytes)) (peer_came t _ peer bytes (messages_after Anything t peer t.next_id _))

opened_came : (t : AdapterTable) (number : ℕ) (peer : Node) → Came t (with_stream t number peer) (event.StreamOpened number peer)
unfolding with_stream
opened_came t number peer = record {
  rows = all_more (WasThere t) (RowCame t (with_stream t number peer) (event.StreamOpened number peer)) (λ row was. inl was) t.rows (were_there t);
  streams = all_both (StreamCame t (event.StreamOpened number peer)) t.streams (new_stream number peer ∷ []) (old_streams t (event.StreamOpened number peer) t.streams (were_open t)) (inr refl, tt);
}

without_came : (t : AdapterTable) (number n : ℕ) → Came t (without_stream t n) (event.StreamCut number)
unfolding without_stream
without_came t number n = record {
  rows = all_more (WasThere t) (RowCame t (without_stream t n) (event.StreamCut number)) (λ row was. inl was) t.rows (were_there t);
  streams = old_streams t (event.StreamCut number) _ (all_filtered (WasOpen t) (is_other_stream n) t.streams (were_open t));
}

cut_came : (t : AdapterTable) (number : ℕ) (found : Option Stream) → OkCame t (event.StreamCut number) (cut_of t found)
cut_came t number None = tt
cut_came t number (Some stream) = without_came t number stream.number

accepted_came : (t : AdapterTable) (peer : Node) (bytes : List ℕ) (d : DatagramFields) (found : Option Row) → OkCame t (event.Datagram peer bytes) (Ok (found_datagram t peer d found))
unfolding accepted_table
accepted_came t peer bytes d None = table_stays t (event.Datagram peer bytes)
accepted_came t peer bytes d (Some row) =
    let delivery = row_delivery t.profile t.clock row d in
    either (λ (next : Next). Came t next.1 (event.Datagram peer bytes)) (is_accepted (row_delivery t.profile t.clock row d)) (delivered delivery (accepted_table t peer d row delivery)) (delivered delivery t)
    (rows_stay t (accepted_table t peer d row delivery) (event.Datagram peer bytes) (there_on t (accepted_if_for t.clock peer d) (accepted_row_same t.clock peer d) t.rows (were_there t)) refl)
    (table_stays t (event.Datagram peer bytes))

datagram_came : (t : AdapterTable) (peer : Node) (bytes : List ℕ) (reading : Result DatagramFields DatagramFault) → OkCame t (event.Datagram peer bytes) (Ok (datagram_of t peer reading))
datagram_came t peer bytes (Err fault) = table_stays t (event.Datagram peer bytes)
datagram_came t peer bytes (Ok d) = accepted_came t peer bytes d (find (is_for peer d.connection) t.rows)

written_came : (t : AdapterTable) (point : ℕ) (bytes : List ℕ) → Came t (changed_table (written_table t point bytes) point) (event.Write point bytes)
unfolding written_table changed_table
written_came t point bytes =
    rows_stay t (changed_table (written_table t point bytes) point) (event.Write point bytes)
    (there_on t (changed_row t.clock point) (changed_row_same t.clock point) (map (written_row point) t.rows) (there_on t (written_row point) (written_row_same point) t.rows (were_there t))) refl

write_came : (t : AdapterTable) (point : ℕ) (bytes : List ℕ) (found : Option InputPoint) → OkCame t (event.Write point bytes) (write_of t point bytes found)
write_came t point bytes None = tt
write_came t point bytes (Some input) =
    either (OkCame t (event.Write point bytes)) (length bytes == input.len) (Ok (written (written_table t point bytes) point bytes)) (Err WrongLength) (written_came t point bytes) tt

advanced_rows : (t : AdapterTable) (ms : ℕ) → AllByRecursion (WasThere t) (advanced (clocked_table t ms)).1.rows
unfolding clocked_table expired_table produced_table
advanced_rows t ms =
    let clock : Ms = record { 0 = t.clock.0 + ms } in
    there_on t (produced_row clock) (produced_row_same clock) _
    (all_filtered (WasThere t) (stays (expired_rows clock t.rows)) (expired_rows clock t.rows)
    (there_on t (expired_row clock) (expired_row_same clock) t.rows (were_there t)))

advanced_streams : (t : AdapterTable) (ms : ℕ) → (advanced (clocked_table t ms)).1.streams ≡ t.streams
unfolding clocked_table expired_table produced_table
advanced_streams t ms = refl

-- then class 3 connections and requests that wait change
messages_came : (t next : AdapterTable) (happens : Event) (next_id : ℕ) (m : Messaging) → AllByRecursion (WasThere t) next.rows → next.streams ≡ t.streams → Came t (messages_table next next_id m) happens
unfolding messages_table
messages_came t next happens next_id m rows same = rows_stay t (messages_table next next_id m) happens rows same

tick_came : (t : AdapterTable) (ms : ℕ) → OkCame t (event.Tick ms) (tick t ms)
unfolding tick
tick_came t ms =
    either (OkCame t (event.Tick ms)) (nat_lt longest_tick ms) (Err TickTooLong) _ tt
    (either (OkCame t (event.Tick ms)) (nat_lt clock_end (t.clock.0 + ms)) (Err ClockEnd) (Ok (aged_next (advanced (clocked_table t ms)))) tt
    (messages_came t (advanced (clocked_table t ms)).1 (event.Tick ms) _ _ (advanced_rows t ms) (advanced_streams t ms)))

step_came : (t : AdapterTable) (happens : Event) → IdsAreDrawn t.ids t.next_id t.rows → OkCame t happens (adapter_step t happens)
unfolding requested received inquired write frame stream_cut stream_opened
step_came t (event.Request peer bytes) drawn = request_came t peer bytes (router_request_reading bytes) (own_of t.profile.objects (router_request_reading bytes)) drawn
step_came t (event.StreamOpened number peer) drawn =
    either (OkCame t (event.StreamOpened number peer)) (is_taken t.streams number) (Err NotAllowedNow) (Ok (plain_answer Done, with_stream t number peer)) tt (opened_came t number peer)
step_came t (event.Frame number bytes) drawn = frame_of_came t number bytes (find (is_stream number) t.streams) refl drawn
step_came t (event.StreamCut number) drawn = cut_came t number (find (is_stream number) t.streams)
step_came t (event.Datagram peer bytes) drawn = datagram_came t peer bytes (datagram_reading bytes)
step_came t (event.Inquiry peer bytes) drawn = inquired_came t peer bytes (inquiry_reply t bytes)
step_came t (event.Write point bytes) drawn = write_came t point bytes (find (is_at point) t.profile.inputs)
step_came t (event.Tick ms) drawn = tick_came t ms
step_came t (event.Respond number general bytes) drawn =
    respond_holds (OkCame t (event.Respond number general bytes)) t number general bytes (λ why. tt)
    (λ w found few. messages_came t t (event.Respond number general bytes) t.next_id _ (were_there t) refl)
step_came t (event.Counters bytes) drawn = counters_hold (OkCame t (event.Counters bytes)) t bytes (λ why. tt) (rows_stay t (counted_link t bytes) (event.Counters bytes) (were_there t) refl)
step_came t (event.Ids block) drawn = ids_hold (OkCame t (event.Ids block)) t block (λ why. tt) (λ may. rows_stay t (taken_table t block) (event.Ids block) (were_there t) refl)
step_came t other drawn = passive_holds (OkCame t other) t (λ why. tt) (λ verdict. table_stays t other) other refl

pub connections_keep : ConnectionsKeepTheirIds
connections_keep t happens answer next is whole = subst (OkCame t happens) is (step_came t happens whole.sound.ids_are_drawn)
