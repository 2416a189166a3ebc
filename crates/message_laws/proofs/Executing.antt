-- A message that is executed: its connection notes the count, and keeps the reply that goes out, if one does.
use Rattle.std.proofs.Common.{◌<◌, ◌≡◌, ℕ, ◌==◌, Bool, true, false, List, [], ◌∷◌, length, Option, Some, None, Result, Ok, Err, refl, sym, ap, subst, arith}
use Rattle.base_lemmas.specs.Booleans.{either}
use Rattle.cip_fwdopen.specs.declared.fault.ReadFault.{ReadFault}
use Rattle.cip_fwdopen.specs.Close.{CloseFields, closed_text}
use Rattle.cip_fwdopen.specs.Open.{OpenFields}
use Rattle.cip_fwdopen.specs.Reply.{opened_text, refused_text, intervals_text}
use Rattle.cip_fwdopen.specs.Request.{RequestFields, request_reading}
use Rattle.cip_fwdopen.specs.Services.{forward_close, forward_open, large_forward_open}
use Rattle.cip_router.specs.declared.refusal.Status.TheVariants as status
use Rattle.cip_router.specs.Frames.{connected}
use Rattle.cip_router.specs.Replies.{ReplyFields, opened, closed, object_reply, own, refused as refused_reply, unacceptable, reply_text, object_reply_text, own_reply_text, no_route}
use Rattle.cip_router.specs.Requests.{RouterRequestFields, nothing, refused, closing, object, opening, is_manager, request_to_open, request_to_close, request_to_manager, router_request_of, router_request_reading, unconnected_send}
use Rattle.messaging.specs.declared.class3.Class3Connection.{Class3Connection}
use Rattle.messaging.specs.declared.table.Messaging.{Messaging}
use Rattle.messaging.specs.Changes.{executed, referred, referred_over}
use Rattle.messaging.specs.Class3Connections.{has_class3_id, first_changed, executed_class3}
use Rattle.adapter_table.specs.declared.counters.DeviceCounters.{DeviceCounters}
use Rattle.adapter_table.specs.declared.table.AdapterTable.{AdapterTable}
use Rattle.adapter_table.specs.Counting.{with_counters}
use Rattle.adapter_table.specs.Lemmas.CountLemmas.{connected_stays, counted_table}
use Rattle.adapter_table.specs.Connected.{service_in, fitted, fitted_text, connected_served, next_deadline}
use Rattle.adapter_table.specs.Encapsulation.{Handled, kept_reply, message_replied, message_served, message_executed}
use Rattle.adapter_table.specs.Messages.{messages_table}
use Rattle.adapter_table.specs.Own.{OwnRequest, own_of, cannot_ask}
use Rattle.adapter_table.specs.Requests.{Served, counted_by, counted_once, open_service, router_refusal, served_object}
use Rattle.message_laws.specs.Repetitions.{has_bytes}

-- ---- replies have bytes

pub text_some : (reply : ReplyFields) → 0 < length (reply_text reply)
unfolding opened_text closed_text object_reply_text own_reply_text refused_text intervals_text
text_some (opened large o) = omega arith
text_some (closed triad) = omega arith
text_some (object_reply service value) = omega arith
text_some (unacceptable service intervals triad) = omega arith
text_some (own service status content) = omega arith
text_some (no_route words) = omega arith
text_some (refused_reply service fault triad) = omega arith

pub kept_text : (d : Class3Connection) (count : ℕ) (text : List ℕ) → 0 < length text → kept_reply d count text ≡ Some (connected d.t_o_id.0 count text)
kept_text d count [] some = absurd (omega (arith, some))
kept_text d count (first ∷ rest) some = refl

-- ---- what executing leaves

pub record IsExecuted (t : AdapterTable) (d : Class3Connection) (count : ℕ) (done : Handled) : Type 0 where
  pub messages : Messaging
  pub reply : List ℕ
  pub counters : DeviceCounters
  pub table : done.table ≡ messages_table (with_counters t counters) t.next_id messages
  pub connections : messages.class3_connections ≡ first_changed (has_class3_id d.o_t_id) (executed_class3 count reply (next_deadline t d)) t.messaging.class3_connections
  pub kept : done.reply ≡ kept_reply d count reply

executed_connections : (m : Messaging) (d : Class3Connection) (t : AdapterTable) (count : ℕ) (reply : List ℕ) → (executed m d.o_t_id count reply (next_deadline t d)).class3_connections ≡ first_changed (has_class3_id d.o_t_id) (executed_class3 count reply (next_deadline t d)) m.class3_connections
unfolding executed
executed_connections m d t count reply = refl

asking_connections : (m : Messaging) (d : Class3Connection) (t : AdapterTable) (count service : ℕ) → (referred_over m d.peer d.o_t_id count service (next_deadline t d) t.clock).class3_connections ≡ first_changed (has_class3_id d.o_t_id) (executed_class3 count [] (next_deadline t d)) m.class3_connections
unfolding referred_over referred executed
asking_connections m d t count service = refl

-- a reply from the same table, but for its counters
replied_is : (t : AdapterTable) (d : Class3Connection) (count service : ℕ) (s : Served) (counters : DeviceCounters) → s.table ≡ with_counters t counters → IsExecuted t d count (message_replied d count service s)
replied_is t d count service s counters at = record {
  messages = executed s.table.messaging d.o_t_id count (fitted_text d service s.reply) (next_deadline s.table d);
  reply = fitted_text d service s.reply;
  counters = counters;
  table = ap (λ (u : AdapterTable). messages_table u u.next_id (executed s.table.messaging d.o_t_id count (fitted_text d service s.reply) (next_deadline s.table d))) at;
  connections = subst (λ (u : AdapterTable). (executed u.messaging d.o_t_id count (fitted_text d service s.reply) (next_deadline u d)).class3_connections ≡ first_changed (has_class3_id d.o_t_id) (executed_class3 count (fitted_text d service s.reply) (next_deadline t d)) t.messaging.class3_connections) (sym at) (executed_connections t.messaging d t count (fitted_text d service s.reply));
  kept = sym (kept_text d count (fitted_text d service s.reply) (text_some (fitted d.t_o_size service s.reply)));
}

abbrev IsRequest : RouterRequestFields → Type 0
IsRequest nothing = ⊥
IsRequest other = Unit {0}

-- what is served of a message that has a request is counted
counted_is : (t : AdapterTable) (d : Class3Connection) (count first : ℕ) (request : RouterRequestFields) (s : Served) → s.table ≡ t → IsExecuted t d count (message_replied d count first (counted_by request s))
counted_is t d count first request s stays = replied_is t d count first (counted_by request s) (counted_by request s).table.counters (counted_table t request s stays)

served_is : (t : AdapterTable) (d : Class3Connection) (count first : ℕ) (request : RouterRequestFields) → IsRequest request → IsExecuted t d count (message_served t d count first (counted_once request (connected_served t d.peer request)))
served_is t d count first nothing some = absurd some
served_is t d count first (refused service why) some = counted_is t d count first (refused service why) (router_refusal t service why) (connected_stays t d.peer (refused service why))
served_is t d count first (closing request) some = counted_is t d count first (closing request) (router_refusal t forward_close status.Service) (connected_stays t d.peer (closing request))
served_is t d count first (object service class instance attribute body) some = counted_is t d count first (object service class instance attribute body) (served_object t service class instance attribute body) (connected_stays t d.peer (object service class instance attribute body))
served_is t d count first (opening large request) some = counted_is t d count first (opening large request) (router_refusal t (open_service large) status.Service) (connected_stays t d.peer (opening large request))

request_is_executed : (t : AdapterTable) (d : Class3Connection) (count first : ℕ) (request : RouterRequestFields) (asks : Option OwnRequest) → IsRequest request → IsExecuted t d count (message_executed t d count first request asks)
request_is_executed t d count first request None some = served_is t d count first request some
request_is_executed t d count first request (Some asks) some =
    either (IsExecuted t d count) (cannot_ask t d.peer) (message_replied d count asks.service (router_refusal t asks.service status.ResourceUnavailable)) _
    (replied_is t d count asks.service (router_refusal t asks.service status.ResourceUnavailable) t.counters refl)
    (record { messages = referred_over t.messaging d.peer d.o_t_id count asks.service (next_deadline t d) t.clock; reply = []; counters = t.counters; table = refl; connections = asking_connections t.messaging d t count asks.service; kept = refl })

-- ---- a message that has bytes is a request

open_is : (service : ℕ) (large : Bool) (reading : Result OpenFields ReadFault) → IsRequest (request_to_open service large reading)
open_is service large (Ok request) = tt
open_is service large (Err fault) = tt

close_is : (service : ℕ) (reading : Result CloseFields ReadFault) → IsRequest (request_to_close service reading)
close_is service (Ok request) = tt
close_is service (Err fault) = tt

manager_is : (service : ℕ) (attribute : Option ℕ) (body : List ℕ) → IsRequest (request_to_manager service attribute body)
manager_is service attribute body =
    either IsRequest (service == forward_open) _ _ (open_is service false _)
    (either IsRequest (service == large_forward_open) _ _ (open_is service true _)
    (either IsRequest (service == forward_close) _ _ (close_is service _)
    (either IsRequest (service == unconnected_send) (object service 6 1 None body) (object service 6 1 attribute body) tt tt)))

reading_is : (service : ℕ) (reading : Result RequestFields ReadFault) → IsRequest (router_request_of service reading)
reading_is service (Err fault) = tt
reading_is service (Ok request) =
    either IsRequest (is_manager request.target) (request_to_manager request.service request.target.attribute request.body) (object request.service request.target.class request.target.instance request.target.attribute request.body)
    (manager_is request.service request.target.attribute request.body) tt

message_is : (message : List ℕ) → has_bytes message ≡ true → IsRequest (router_request_reading message)
unfolding router_request_reading
message_is [] some = absurd (let x = some in cc)
message_is (service ∷ rest) some = reading_is service (request_reading (service ∷ rest))

pub is_executed : (t : AdapterTable) (d : Class3Connection) (count : ℕ) (message : List ℕ) → has_bytes message ≡ true → IsExecuted t d count (message_executed t d count (service_in message) (router_request_reading message) (own_of t.profile.objects (router_request_reading message)))
is_executed t d count message some =
    request_is_executed t d count (service_in message) (router_request_reading message) (own_of t.profile.objects (router_request_reading message)) (message_is message some)

-- without bytes it is refused
pub nothing_is : router_request_reading [] ≡ nothing
unfolding router_request_reading
nothing_is = refl
