-- What connected messages, requests to the maker's own objects, answers of the application and time do to class 3 connections
-- and to requests that wait: all else of an adapter's table stays, but what is counted of a message.
use Rattle.std.proofs.Common.{◌≡◌, ℕ, ◌+◌, nat_lt, Bool, true, false, cond, List, [], ◌∷◌, length, find, Option, Some, None, Result, Ok, Err, refl, ap}
use Rattle.std.specs.Option.{IfSome}
use Rattle.base_lemmas.specs.Booleans.{either}
use Rattle.cip_encap.specs.declared.packet.ItemFault.{ItemFault}
use Rattle.cip_encap.specs.Connected.{ConnectedFields}
use Rattle.cip_events.specs.declared.event.Delivery.{Delivery}
use Rattle.cip_events.specs.declared.event.Delivery.TheVariants.{UnknownId, WrongSize}
use Rattle.cip_events.specs.declared.event.StepFault.{StepFault}
use Rattle.cip_events.specs.declared.event.StepFault.TheVariants.{NotAllowedNow, WrongLength}
use Rattle.cip_router.specs.declared.command.EncapStatus.{EncapStatus}
use Rattle.cip_router.specs.declared.command.EncapStatus.TheVariants as encap
use Rattle.cip_router.specs.declared.refusal.Status.TheVariants as router
use Rattle.cip_router.specs.Frames.{FrameReply, services, registered, other_version, router_reply, connected}
use Rattle.cip_router.specs.Frames as frames
use Rattle.cip_router.specs.Replies.{own}
use Rattle.cip_router.specs.Requests.{RouterRequestFields, router_request_reading}
use Rattle.messaging.specs.declared.class3.Class3Connection.{Class3Connection}
use Rattle.messaging.specs.declared.requests.Waiting.{Waiting}
use Rattle.messaging.specs.declared.table.Messaging.{Messaging}
use Rattle.messaging.specs.Changes.{longest_answer, has_request_number, executed, repeated, referred_over}
use Rattle.messaging.specs.Class3Connections.{is_class3, repeats_last}
use Rattle.adapter_table.specs.declared.counters.DeviceCounters.{DeviceCounters}
use Rattle.adapter_table.specs.declared.table.AdapterTable.{AdapterTable}
use Rattle.adapter_table.specs.declared.table.Stream.{Stream}
use Rattle.adapter_table.specs.Answering.{responded, respond_of, respond}
use Rattle.adapter_table.specs.Counting.{with_counters}
use Rattle.adapter_table.specs.Lemmas.CountLemmas.{connected_stays, counted_table}
use Rattle.adapter_table.specs.Connected.{service_in, fitted_text, connected_served, next_deadline, executed_table}
use Rattle.adapter_table.specs.Encapsulation.{Handled, refusal, undelivered, kept_reply, message_repeated, message_replied, message_served, message_executed, message_found, unit_replied}
use Rattle.adapter_table.specs.Messages.{messages_table}
use Rattle.adapter_table.specs.Own.{OwnRequest, own_of, cannot_ask}
use Rattle.adapter_table.specs.Requests.{Next, Served, counted_by, counted_once, router_refusal}

-- ---- connected messages

-- the reply has no items of an unconnected message
abbrev pub IsItemless : FrameReply → Type 0
IsItemless services = ⊥
IsItemless (registered session) = ⊥
IsItemless other_version = ⊥
IsItemless (router_reply reply address) = ⊥
IsItemless (frames.refused why) = Unit {0}
IsItemless (connected connection count text) = Unit {0}

-- all of the table but its messages and its counters stays, and the reply is such a one
pub record IsOfMessages (t : AdapterTable) (done : Handled) : Type 0 where
  pub messages : Messaging
  pub counters : DeviceCounters
  pub table : done.table ≡ messages_table (with_counters t counters) t.next_id messages
  pub reply : IfSome done.reply IsItemless

pub same_table : (t : AdapterTable) → t ≡ messages_table (with_counters t t.counters) t.next_id t.messaging
unfolding messages_table
same_table t = refl

refusal_of : (t : AdapterTable) (why : EncapStatus) → IsOfMessages t (refusal t why)
refusal_of t why = record { messages = t.messaging; counters = t.counters; table = same_table t; reply = tt }

undelivered_of : (t : AdapterTable) (why : Delivery) → IsOfMessages t (undelivered t why)
undelivered_of t why = record { messages = t.messaging; counters = t.counters; table = same_table t; reply = tt }

replied_of : (t : AdapterTable) (d : Class3Connection) (count service : ℕ) (s : Served) (counters : DeviceCounters) → s.table ≡ with_counters t counters → IsOfMessages t (message_replied d count service s)
replied_of t d count service s counters same = record {
  messages = executed t.messaging d.o_t_id count (fitted_text d service s.reply) (next_deadline t d);
  counters = counters;
  table = ap (λ (u : AdapterTable). executed_table u d count (fitted_text d service s.reply)) same;
  reply = tt;
}

-- what is served of a message is counted
counted_of : (t : AdapterTable) (d : Class3Connection) (count first : ℕ) (request : RouterRequestFields) (s : Option Served) → IfSome s (λ u. u.table ≡ t) → IsOfMessages t (message_served t d count first (counted_once request s))
counted_of t d count first request None stays = refusal_of t encap.IncorrectData
counted_of t d count first request (Some s) stays = replied_of t d count first (counted_by request s) (counted_by request s).table.counters (counted_table t request s stays)

served_of : (t : AdapterTable) (d : Class3Connection) (count first : ℕ) (request : RouterRequestFields) → IsOfMessages t (message_served t d count first (counted_once request (connected_served t d.peer request)))
served_of t d count first request = counted_of t d count first request (connected_served t d.peer request) (connected_stays t d.peer request)

executed_of : (t : AdapterTable) (d : Class3Connection) (count first : ℕ) (request : RouterRequestFields) (asks : Option OwnRequest) → IsOfMessages t (message_executed t d count first request asks)
executed_of t d count first request None = served_of t d count first request
executed_of t d count first request (Some asks) =
    either (IsOfMessages t) (cannot_ask t d.peer) (message_replied d count asks.service (router_refusal t asks.service router.ResourceUnavailable)) _
    (replied_of t d count asks.service (router_refusal t asks.service router.ResourceUnavailable) t.counters refl)
    (record { messages = referred_over t.messaging d.peer d.o_t_id count asks.service (next_deadline t d) t.clock; counters = t.counters; table = refl; reply = tt })

kept_itemless : (d : Class3Connection) (count : ℕ) (text : List ℕ) → IfSome (kept_reply d count text) IsItemless
kept_itemless d count [] = tt
kept_itemless d count (first ∷ rest) = tt

repeated_of : (t : AdapterTable) (d : Class3Connection) (count : ℕ) → IsOfMessages t (message_repeated t d count)
repeated_of t d count = record { messages = repeated t.messaging d.o_t_id (next_deadline t d); counters = t.counters; table = refl; reply = kept_itemless d count d.reply }

found_of : (t : AdapterTable) (count : ℕ) (message : List ℕ) (found : Option Class3Connection) → IsOfMessages t (message_found t count message found)
found_of t count message None = undelivered_of t UnknownId
found_of t count message (Some d) =
    let new = message_executed t d count (service_in message) (router_request_reading message) (own_of t.profile.objects (router_request_reading message)) in
    either (IsOfMessages t) (nat_lt d.o_t_size (2 + length message)) (undelivered t WrongSize) _ (undelivered_of t WrongSize)
    (either (IsOfMessages t) (repeats_last d count) (message_repeated t d count) new (repeated_of t d count)
    (executed_of t d count (service_in message) (router_request_reading message) (own_of t.profile.objects (router_request_reading message))))

-- what becomes of each of them
pub unit_of : (t : AdapterTable) (stream : Stream) (reading : Result ConnectedFields ItemFault) → IsOfMessages t (unit_replied t stream reading)
unit_of t stream (Err fault) = refusal_of t encap.IncorrectData
unit_of t stream (Ok unit) = found_of t unit.count unit.message (find (is_class3 stream.number (record { 0 = unit.connection })) t.messaging.class3_connections)

-- ---- answers of the application

-- an answer that is given is to a request that waits, and short
abbrev pub WhenAnswered : (Result Next StepFault → Type 0) → AdapterTable → ℕ → ℕ → List ℕ → Type 0
WhenAnswered Q t number status bytes =
    (w : Waiting) → find (has_request_number number) t.messaging.waiting ≡ Some w → nat_lt longest_answer (length bytes) ≡ false → Q (Ok (responded t w (own w.service status bytes)))

sized_holds : (Q : Result Next StepFault → Type 0) (t : AdapterTable) (number status : ℕ) (bytes : List ℕ) (w : Waiting) (b : Bool) → ((why : StepFault) → Q (Err why)) → WhenAnswered Q t number status bytes → find (has_request_number number) t.messaging.waiting ≡ Some w → nat_lt longest_answer (length bytes) ≡ b → Q (cond b (Err WrongLength) (Ok (responded t w (own w.service status bytes))))
sized_holds Q t number status bytes w true refuses answers found long = refuses WrongLength
sized_holds Q t number status bytes w false refuses answers found long = answers w found long

waiting_holds : (Q : Result Next StepFault → Type 0) (t : AdapterTable) (number status : ℕ) (bytes : List ℕ) (found : Option Waiting) → ((why : StepFault) → Q (Err why)) → WhenAnswered Q t number status bytes → find (has_request_number number) t.messaging.waiting ≡ found → Q (respond_of t status bytes found)
waiting_holds Q t number status bytes None refuses answers is = refuses NotAllowedNow
waiting_holds Q t number status bytes (Some w) refuses answers is = sized_holds Q t number status bytes w (nat_lt longest_answer (length bytes)) refuses answers is refl

-- what holds of a refusal, and of an answer that is given, holds of the event
pub respond_holds : (Q : Result Next StepFault → Type 0) (t : AdapterTable) (number status : ℕ) (bytes : List ℕ) → ((why : StepFault) → Q (Err why)) → WhenAnswered Q t number status bytes → Q (respond t number status bytes)
unfolding respond
respond_holds Q t number status bytes refuses answers = waiting_holds Q t number status bytes (find (has_request_number number) t.messaging.waiting) refuses answers refl
