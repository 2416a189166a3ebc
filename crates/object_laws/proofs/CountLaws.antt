-- A request is counted once on each route.
use Rattle.std.proofs.Common.{◌≡◌, inl, inr, ℕ, Bool, List, find, Option, Some, None, Result, Ok, Err, refl, sym, ◌∙◌, ap, subst}
use Rattle.std.specs.Option.{IfSome}
use Rattle.base_lemmas.specs.Booleans.{either}
use Rattle.cip_types.specs.declared.names.Node.{Node}
use Rattle.cip_events.specs.declared.event.Event.TheVariants as event
use Rattle.cip_fwdopen.specs.Close.{CloseFields}
use Rattle.cip_fwdopen.specs.Open.{OpenFields}
use Rattle.cip_netparams.specs.Word.{is_message_trigger}
use Rattle.cip_router.specs.declared.refusal.Refusal.{Refusal}
use Rattle.cip_router.specs.Frames.{RequestHeader}
use Rattle.cip_router.specs.Requests.{RouterRequestFields, nothing, refused, closing, object, opening, router_request_reading}
use Rattle.messaging.specs.declared.class3.Class3Connection.{Class3Connection}
use Rattle.messaging.specs.Class3Connections.{has_class3_triad}
use Rattle.adapter_table.specs.declared.counters.DeviceCounters.{DeviceCounters}
use Rattle.adapter_table.specs.declared.counters.Tally.{Tally}
use Rattle.adapter_table.specs.declared.table.AdapterTable.{AdapterTable}
use Rattle.adapter_table.specs.declared.table.Stream.{Stream}
use Rattle.adapter_table.specs.Carrying.{object_answer}
use Rattle.adapter_table.specs.Checks.{Admitted, Check}
use Rattle.adapter_table.specs.Class3Opening.{class3_refusal, class3_view, judged_class3, served_class3, stream_served}
use Rattle.adapter_table.specs.Closing.{closed_table}
use Rattle.adapter_table.specs.Connected.{connected_served, executed_table, fitted_text, service_in}
use Rattle.adapter_table.specs.Connections.{Row}
use Rattle.adapter_table.specs.Counters.{counted, counted_if, tally_of}
use Rattle.adapter_table.specs.Counting.{tallied}
use Rattle.adapter_table.specs.Encapsulation.{framed, message_executed, message_served, request_handled, request_replied}
use Rattle.adapter_table.specs.Intervals.{whole_request}
use Rattle.adapter_table.specs.Lemmas.CountLemmas.{connected_stays, object_table}
use Rattle.adapter_table.specs.Lemmas.RequestLemmas.{next_is}
use Rattle.adapter_table.specs.Messages.{messages_table}
use Rattle.adapter_table.specs.Opening.{opened_table}
use Rattle.adapter_table.specs.Own.{OwnRequest, own_of}
use Rattle.adapter_table.specs.Requests.{Served, admitted_open, answered, close_of, counted_by, counted_once, end_of, judged_open, requested, requested_by, served, served_close, served_end, served_object, served_open}
use Rattle.adapter_table.specs.Rows.{has_triad}
use Rattle.adapter_table.specs.StatedLimits.{is_wrong_closer, is_wrong_ender, limited_admission}
use Rattle.object_laws.proofs.RouteLaws.{framed_holds}
use Rattle.object_laws.proofs.RouteSteps.{frame_is, message_is, request_is}
use Rattle.object_laws.specs.Counts.{IsCountedOnce, IsRequest, RequestsAreCountedOnce}

-- ---- what is served counts nothing by itself

abbrev Uncounted : AdapterTable → Served → Type 0
Uncounted t s = s.table.counters ≡ t.counters

judged_uncounted : (t : AdapterTable) (peer : Node) (large : Bool) (request : OpenFields) (judged : Result Admitted Refusal) → Uncounted t (judged_open t peer large request judged)
unfolding admitted_open opened_table
judged_uncounted t peer large request (Err why) = refl
judged_uncounted t peer large request (Ok admitted) = refl

close_uncounted : (t : AdapterTable) (peer : Node) (request : CloseFields) (found : Option Row) → Uncounted t (close_of t peer request found)
unfolding closed_table
close_uncounted t peer request None = refl
close_uncounted t peer request (Some row) = either (Uncounted t) (is_wrong_closer t.profile.limits peer row) _ _ refl refl

end_uncounted : (t : AdapterTable) (peer : Node) (request : CloseFields) (found : Option Class3Connection) → Uncounted t (end_of t peer request found)
unfolding served_close messages_table
end_uncounted t peer request None = close_uncounted t peer request (find (has_triad request.triad) t.rows)
end_uncounted t peer request (Some d) = either (Uncounted t) (is_wrong_ender t.profile.limits peer d) _ _ refl refl

served_uncounted : (t : AdapterTable) (peer : Node) (request : RouterRequestFields) → IfSome (served t peer request) (Uncounted t)
unfolding served_open served_end served_object
served_uncounted t peer nothing = tt
served_uncounted t peer (refused service why) = refl
served_uncounted t peer (closing request) = end_uncounted t peer request (find (has_class3_triad request.triad) t.messaging.class3_connections)
served_uncounted t peer (object service class instance attribute body) =
    ap (λ (u : AdapterTable). u.counters) (object_table t service (object_answer t service class instance attribute body))
served_uncounted t peer (opening large request) =
    judged_uncounted t peer large (whole_request t.profile.description request) (limited_admission t peer (whole_request t.profile.description request))

class3_uncounted : (t : AdapterTable) (stream : Stream) (large : Bool) (request : OpenFields) (c : Check) → Uncounted t (judged_class3 t stream large request c)
unfolding messages_table
class3_uncounted t stream large request (Some why) = refl
class3_uncounted t stream large request None = refl

over_uncounted : (t : AdapterTable) (stream : Stream) (request : RouterRequestFields) → IfSome (stream_served t stream request) (Uncounted t)
unfolding served_class3
over_uncounted t stream (opening large request) =
    either (λ (s : Option Served). IfSome s (Uncounted t)) (is_message_trigger request.trigger) (Some (served_class3 t stream large request)) (served t stream.peer (opening large request))
    (class3_uncounted t stream large (whole_request t.profile.description request) (class3_refusal (class3_view t stream.peer request.triad) (whole_request t.profile.description request)))
    (served_uncounted t stream.peer (opening large request))
over_uncounted t stream nothing = served_uncounted t stream.peer nothing
over_uncounted t stream (refused service why) = served_uncounted t stream.peer (refused service why)
over_uncounted t stream (closing request) = served_uncounted t stream.peer (closing request)
over_uncounted t stream (object service class instance attribute body) = served_uncounted t stream.peer (object service class instance attribute body)

stays_uncounted : (t : AdapterTable) (s : Option Served) → IfSome s (λ u. u.table ≡ t) → IfSome s (Uncounted t)
stays_uncounted t None stays = tt
stays_uncounted t (Some s) stays = ap (λ (u : AdapterTable). u.counters) stays

-- ---- there is a reply to each request

abbrev IsThere : Option Served → Type 0
IsThere None = ⊥
IsThere (Some s) = Unit {0}

served_there : (t : AdapterTable) (peer : Node) (request : RouterRequestFields) → IsRequest request → IsThere (served t peer request)
served_there t peer nothing asks = absurd asks
served_there t peer (refused service why) asks = tt
served_there t peer (closing request) asks = tt
served_there t peer (object service class instance attribute body) asks = tt
served_there t peer (opening large request) asks = tt

over_there : (t : AdapterTable) (stream : Stream) (request : RouterRequestFields) → IsRequest request → IsThere (stream_served t stream request)
over_there t stream nothing asks = absurd asks
over_there t stream (refused service why) asks = tt
over_there t stream (closing request) asks = tt
over_there t stream (object service class instance attribute body) asks = tt
over_there t stream (opening large request) asks =
    either IsThere (is_message_trigger request.trigger) (Some (served_class3 t stream large request)) (served t stream.peer (opening large request)) tt tt

connected_there : (t : AdapterTable) (peer : Node) (request : RouterRequestFields) → IsRequest request → IsThere (connected_served t peer request)
connected_there t peer nothing asks = absurd asks
connected_there t peer (refused service why) asks = tt
connected_there t peer (closing request) asks = tt
connected_there t peer (object service class instance attribute body) asks = tt
connected_there t peer (opening large request) asks = tt

-- ---- the count, on each route

counts : (t u : AdapterTable) (kind : Option Tally) → u.counters ≡ t.counters → (tallied kind u).counters ≡ record t.counters { manager = counted_if kind t.counters.manager }
counts t u None same = same
counts t u (Some kind) same = ap (λ (c : DeviceCounters). record c { manager = counted kind c.manager }) same

peer_counts : (t : AdapterTable) (peer : Node) (request : RouterRequestFields) (s : Option Served) → IfSome s (Uncounted t) → IsThere s → IsCountedOnce t request (answered t peer (counted_once request s))
peer_counts t peer request None same there = absurd there
peer_counts t peer request (Some s) same there =
    record { served = counted_by request s; is = inl (record { peer = peer; is = refl }); counters = counts t s.table (tally_of request s.reply) same }

stream_counts : (t : AdapterTable) (number : ℕ) (header : RequestHeader) (request : RouterRequestFields) (s : Option Served) → IfSome s (Uncounted t) → IsThere s → IsCountedOnce t request (framed number header (request_replied t (counted_once request s)))
stream_counts t number header request None same there = absurd there
stream_counts t number header request (Some s) same there = record {
  served = counted_by request s;
  is = inr (inl (record { number = number; header = header; is = refl }));
  counters = counts t s.table (tally_of request s.reply) same;
}

-- the connection keeps the reply, which counts nothing
kept_counters : (u : AdapterTable) (d : Class3Connection) (count : ℕ) (text : List ℕ) → (executed_table u d count text).counters ≡ u.counters
unfolding messages_table
kept_counters u d count text = refl

message_counts : (t : AdapterTable) (d : Class3Connection) (number count service : ℕ) (header : RequestHeader) (request : RouterRequestFields) (s : Option Served) → IfSome s (Uncounted t) → IsThere s → IsCountedOnce t request (framed number header (message_served t d count service (counted_once request s)))
message_counts t d number count service header request None same there = absurd there
message_counts t d number count service header request (Some s) same there = record {
  served = counted_by request s;
  is = inr (inr (record { number = number; header = header; connection = d; count = count; service = service; is = refl }));
  counters = kept_counters (counted_by request s).table d count (fitted_text d service s.reply) ∙ counts t s.table (tally_of request s.reply) same;
}

-- ---- the law

requested_counts : (t : AdapterTable) (peer : Node) (bytes request : List ℕ) → bytes ≡ request → IsRequest (router_request_reading request) → own_of t.profile.objects (router_request_reading request) ≡ None → IsCountedOnce t (router_request_reading request) (requested t peer bytes)
unfolding requested
requested_counts t peer bytes request is asks own =
    subst (λ (b : List ℕ). IsCountedOnce t (router_request_reading request) (requested_by t peer (router_request_reading b) (own_of t.profile.objects (router_request_reading b)))) (sym is)
    (subst (λ (o : Option OwnRequest). IsCountedOnce t (router_request_reading request) (requested_by t peer (router_request_reading request) o)) (sym own)
    (peer_counts t peer (router_request_reading request) (served t peer (router_request_reading request)) (served_uncounted t peer (router_request_reading request)) (served_there t peer (router_request_reading request) asks)))

pub counted_on_each : RequestsAreCountedOnce
counted_on_each t (event.Request peer bytes) request next steps brings asks own =
    subst (IsCountedOnce t (router_request_reading request)) (next_is _ _ steps) (requested_counts t peer bytes request brings asks own)
counted_on_each t (event.Frame number bytes) request next steps (inl sends) asks own =
    let f = sends.frame in
    framed_holds (IsCountedOnce t (router_request_reading request)) t number bytes next f.stream.number f.header _ _ steps (frame_is t number bytes f)
    (request_is t number bytes request sends ∙ ap (request_handled t f.stream f.header.context (router_request_reading request)) own)
    (stream_counts t f.stream.number f.header (router_request_reading request) (stream_served t f.stream (router_request_reading request)) (over_uncounted t f.stream (router_request_reading request)) (over_there t f.stream (router_request_reading request) asks))
counted_on_each t (event.Frame number bytes) request next steps (inr sends) asks own =
    let f = sends.frame in
    framed_holds (IsCountedOnce t (router_request_reading request)) t number bytes next f.stream.number f.header _ _ steps (frame_is t number bytes f)
    (message_is t number bytes request sends ∙ ap (message_executed t sends.connection sends.unit.count (service_in request) (router_request_reading request)) own)
    (message_counts t sends.connection f.stream.number sends.unit.count (service_in request) f.header (router_request_reading request) (connected_served t sends.connection.peer (router_request_reading request))
    (stays_uncounted t (connected_served t sends.connection.peer (router_request_reading request)) (connected_stays t sends.connection.peer (router_request_reading request)))
    (connected_there t sends.connection.peer (router_request_reading request) asks))
counted_on_each t other request next steps brings asks own = absurd brings
