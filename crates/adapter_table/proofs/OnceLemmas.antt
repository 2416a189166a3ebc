-- A message of a class 3 connection is executed once, and a request to the application is answered once.
use Rattle.std.proofs.Common.{◌≡◌, ◌≢◌, ◌≤◌, ◌<◌, ℕ, ◌+◌, ◌==◌, nat_lt, Bool, true, false, cond, not, List, [], ◌∷◌, length, find, Option, Some, None, Result, Ok, Err, refl, ap, subst, arith}
use Rattle.std.proofs.lemmas.Bool.{eqb-true, not-true}
use Rattle.std.proofs.lemmas.Bool.Decides.{nat_tests}
use Rattle.base_lemmas.specs.Booleans.{either}
use Rattle.base_lemmas.specs.Lists.{found_passes}
use Rattle.cip_types.specs.declared.names.ConnId.{ConnId}
use Rattle.cip_encap.specs.Connected.{ConnectedFields}
use Rattle.cip_events.specs.declared.event.Delivery.TheVariants.{Duplicate}
use Rattle.cip_events.specs.declared.event.StepFault.{StepFault}
use Rattle.cip_events.specs.declared.event.StepFault.TheVariants.{WrongLength}
use Rattle.cip_events.specs.declared.event.Verdict.TheVariants.{Delivered}
use Rattle.cip_fwdopen.specs.declared.fault.ReadFault.{ReadFault}
use Rattle.cip_fwdopen.specs.Close.{CloseFields, closed_text}
use Rattle.cip_fwdopen.specs.Open.{OpenFields}
use Rattle.cip_fwdopen.specs.Reply.{opened_text, refused_text, intervals_text}
use Rattle.cip_fwdopen.specs.Request.{RequestFields, request_reading}
use Rattle.cip_fwdopen.specs.Services.{forward_close, forward_open, large_forward_open}
use Rattle.cip_router.specs.declared.refusal.Status.TheVariants as status
use Rattle.cip_router.specs.Frames.{FrameReply, connected}
use Rattle.cip_router.specs.Replies.{ReplyFields, opened, closed, object_reply, own, refused as refused_reply, unacceptable, reply_text, object_reply_text, own_reply_text, no_route}
use Rattle.cip_router.specs.Requests.{RouterRequestFields, nothing, refused, closing, object, opening, is_manager, request_to_open, request_to_close, request_to_manager, router_request_of, router_request_reading, unconnected_send}
use Rattle.messaging.specs.declared.class3.Class3Connection.{Class3Connection}
use Rattle.messaging.specs.declared.requests.Waiting.{Waiting}
use Rattle.messaging.specs.declared.table.Messaging.{Messaging}
use Rattle.messaging.specs.Class3Connections.{has_class3_id, is_class3, repeats_last, first_changed, executed_class3, repeated_class3}
use Rattle.messaging.specs.Changes.{longest_answer, has_request_number, executed, repeated, referred, referred_over, answered}
use Rattle.messaging.specs.Sound.{EachOf, EachTwoOf, IdsDiffer, IsNumberedBelow}
use Rattle.messaging.specs.Lemmas.EachOfLemmas.{each_weaker}
use Rattle.messaging.specs.Lemmas.KeptLemmas.{without_stream_keeps, answered_once}
use Rattle.adapter_table.specs.declared.counters.DeviceCounters.{DeviceCounters}
use Rattle.adapter_table.specs.declared.counters.Tally.{Tally}
use Rattle.adapter_table.specs.declared.counters.Tally.TheVariants as tally
use Rattle.adapter_table.specs.Counters.{refused_tally}
use Rattle.adapter_table.specs.Counting.{tallied, with_counters}
use Rattle.adapter_table.specs.declared.table.AdapterTable.{AdapterTable}
use Rattle.adapter_table.specs.declared.table.Stream as streams
use Rattle.adapter_table.specs.Answering.{with_reply, responded, respond_of, respond}
use Rattle.adapter_table.specs.Closing.{closed_table}
use Rattle.adapter_table.specs.Connected.{service_in, fitted, fitted_text, connected_served, next_deadline, repeated_table, executed_table, asking_table}
use Rattle.adapter_table.specs.Datagrams.{accepted_table}
use Rattle.adapter_table.specs.Encapsulation.{Handled, kept_reply, message_repeated, message_replied, message_served, message_executed, unit_replied}
use Rattle.adapter_table.specs.Laws.{StepsKeep, EffectsKeep}
use Rattle.adapter_table.specs.MessageLaws.{MessagesExecuteOnce, AnswersSettle, SettledAreRefused, StreamsCarry, IsNamedAlone, NamesDiffer}
use Rattle.adapter_table.specs.Messages.{messages_table}
use Rattle.adapter_table.specs.MessagesSound.{IsCarried, IsInPlace, IsSettled}
use Rattle.adapter_table.specs.Objects.{ObjectAnswer, said, denied, resetting, answering, refusing, unrouted}
use Rattle.adapter_table.specs.Carrying.{object_answer}
use Rattle.adapter_table.specs.Opening.{opened_table}
use Rattle.adapter_table.specs.Own.{OwnRequest, own_of, cannot_ask, referred_verdict}
use Rattle.adapter_table.specs.Requests.{counted_once, Next, open_service, router_refusal, object_served, served_object}
use Rattle.adapter_table.specs.Step.{written_table, changed_table}
use Rattle.adapter_table.specs.Streams.{with_stream, without_stream, registered_table}
use Rattle.adapter_table.specs.Ticks.{clocked_table, expired_table, produced_table}
use Rattle.adapter_table.specs.Whole.{IsWhole}
use Rattle.adapter_table.specs.Lemmas.EffectLemmas.{adapter_keeps}
use Rattle.adapter_table.specs.Lemmas.MessageLemmas.{WaitsNot, same_number, reply_asks}
use Rattle.adapter_table.specs.Lemmas.RequestLemmas.{next_is}

-- ---- what is found among each

found_step : {A : Type 0} (P : A → Type 0) (b : Bool) (first x : A) (rest : Option A) → cond b (Some first) rest ≡ Some x → P first → (rest ≡ Some x → P x) → P x
found_step P true first x rest is here later = let same : first ≡ x = cc in subst P same here
found_step P false first x rest is here later = later is

each_found : {A : Type 0} (P : A → Type 0) (p : A → Bool) (xs : List A) (x : A) → find p xs ≡ Some x → EachOf P xs → P x
each_found P p [] x is all = absurd cc
each_found P p (first ∷ xs) x is all = found_step P (p first) first x (find p xs) is all.0 (λ later. each_found P p xs x later all.1)

-- ---- the connection of a message, after a change of it

-- a change that leaves the stream, the ids and the O->T size
record KeepsRoute (f : Class3Connection → Class3Connection) : Type 0 where
  stream : (d : Class3Connection) → (f d).stream ≡ d.stream
  id : (d : Class3Connection) → (f d).o_t_id ≡ d.o_t_id

changed_here : (number : ℕ) (id : ConnId) (f : Class3Connection → Class3Connection) → KeepsRoute f → (x d : Class3Connection) (rest : List Class3Connection) → is_class3 number id x ≡ true → x ≡ d → find (is_class3 number id) (f x ∷ rest) ≡ Some (f d)
changed_here number id f keeps x d rest is same = here_step (is_class3 number id (f x)) (f x) (f d) (find (is_class3 number id) rest) (rw (keeps.stream x, keeps.id x) is) (ap f same) where
  here_step : (b : Bool) (a c : Class3Connection) (later : Option Class3Connection) → b ≡ true → a ≡ c → cond b (Some a) later ≡ Some c
  here_step true a c later is same = ap (λ (d : Class3Connection). Some d) same
  here_step false a c later is same = absurd cc

changed_step : (b c : Bool) (number : ℕ) (id : ConnId) (f : Class3Connection → Class3Connection) → KeepsRoute f → (x d : Class3Connection) (rest new : List Class3Connection) → is_class3 number id x ≡ b → has_class3_id d.o_t_id x ≡ c → cond b (Some x) (find (is_class3 number id) rest) ≡ Some d → (find (is_class3 number id) rest ≡ Some d → has_class3_id x.o_t_id d ≡ false) → (find (is_class3 number id) rest ≡ Some d → find (is_class3 number id) new ≡ Some (f d)) → find (is_class3 number id) (cond c (f x ∷ rest) (x ∷ new)) ≡ Some (f d)
changed_step true true number id f keeps x d rest new is has found other later = changed_here number id f keeps x d rest is cc
changed_step true false number id f keeps x d rest new is has found other later =
    let same : x ≡ d = cc in absurd (let own : has_class3_id d.o_t_id d ≡ false = subst (λ (y : Class3Connection). has_class3_id d.o_t_id y ≡ false) same has in let yes = same_number d.o_t_id.0 in cc)
changed_step false true number id f keeps x d rest new is has found other later = absurd (apart (other found)) where
  apart : has_class3_id x.o_t_id d ≡ false → ⊥
  apart differs = grind (arith, nat_tests)
changed_step false false number id f keeps x d rest new is has found other later = rw is (later found)

found_changed : (number : ℕ) (id : ConnId) (f : Class3Connection → Class3Connection) → KeepsRoute f → (class3_connections : List Class3Connection) (d : Class3Connection) → EachTwoOf IdsDiffer class3_connections → find (is_class3 number id) class3_connections ≡ Some d → find (is_class3 number id) (first_changed (has_class3_id d.o_t_id) f class3_connections) ≡ Some (f d)
found_changed number id f keeps [] d differ found = absurd cc
found_changed number id f keeps (x ∷ class3_connections) d differ found =
    changed_step (is_class3 number id x) (has_class3_id d.o_t_id x) number id f keeps x d class3_connections (first_changed (has_class3_id d.o_t_id) f class3_connections) refl refl found
    (λ later. each_found (IdsDiffer x) (is_class3 number id) class3_connections d later differ.0)
    (λ later. found_changed number id f keeps class3_connections d differ.1 later)

-- ---- the message comes again

-- the message, once more: this reply, and nothing but the deadline of its connection changes
abbrev Again : streams.Stream → ConnectedFields → Option FrameReply → AdapterTable → Type 0
Again stream unit reply table =
    (d : Class3Connection) ×
    ((find (is_class3 stream.number (record { 0 = unit.connection })) table.messaging.class3_connections ≡ Some d) ×
    (unit_replied table stream (Ok unit) ≡ record { reply = reply; verdict = Delivered Duplicate; notices = []; table = repeated_table table d }))

again_by : (table : AdapterTable) (stream : streams.Stream) (unit : ConnectedFields) (d : Class3Connection) (reply : Option FrameReply) → find (is_class3 stream.number (record { 0 = unit.connection })) table.messaging.class3_connections ≡ Some d → nat_lt d.o_t_size (2 + length unit.message) ≡ false → repeats_last d unit.count ≡ true → kept_reply d unit.count d.reply ≡ reply → Again stream unit reply table
again_by table stream unit d reply found fits repeats kept = (d, (found, rw (found, fits, repeats, kept) refl))

-- a message that is executed or comes again: its connection is found, and has room for it
record Comes (t : AdapterTable) (stream : streams.Stream) (unit : ConnectedFields) (d : Class3Connection) : Type 0 where
  differ : EachTwoOf IdsDiffer t.messaging.class3_connections
  found : find (is_class3 stream.number (record { 0 = unit.connection })) t.messaging.class3_connections ≡ Some d
  fits : nat_lt d.o_t_size (2 + length unit.message) ≡ false

text_some : (reply : ReplyFields) → 1 ≤ length (reply_text reply)
unfolding opened_text closed_text object_reply_text own_reply_text refused_text intervals_text
text_some (opened large o) = omega arith
text_some (closed triad) = omega arith
text_some (object_reply service value) = omega arith
text_some (unacceptable service intervals triad) = omega arith
text_some (own service status content) = omega arith
text_some (no_route words) = omega arith
text_some (refused_reply service fault triad) = omega arith

kept_text : (d : Class3Connection) (count : ℕ) (text : List ℕ) → 1 ≤ length text → kept_reply d count text ≡ Some (connected d.t_o_id.0 count text)
kept_text d count [] some = absurd (omega (arith, some))
kept_text d count (first ∷ rest) some = refl

again_executed : (t : AdapterTable) (stream : streams.Stream) (unit : ConnectedFields) (d : Class3Connection) (text : List ℕ) → Comes t stream unit d → 1 ≤ length text → Again stream unit (Some (connected d.t_o_id.0 unit.count text)) (executed_table t d unit.count text)
unfolding messages_table executed
again_executed t stream unit d text comes some =
    let f = executed_class3 unit.count text (next_deadline t d) in
    again_by (executed_table t d unit.count text) stream unit (f d) _
    (found_changed stream.number (record { 0 = unit.connection }) f (record { stream = λ d. refl; id = λ d. refl }) t.messaging.class3_connections d comes.differ comes.found)
    comes.fits (same_number unit.count) (kept_text (f d) unit.count text some)

again_asking : (t : AdapterTable) (stream : streams.Stream) (unit : ConnectedFields) (d : Class3Connection) (asks : OwnRequest) → Comes t stream unit d → Again stream unit None (asking_table t d unit.count asks)
unfolding messages_table referred_over referred executed
again_asking t stream unit d asks comes =
    let f = executed_class3 unit.count [] (next_deadline t d) in
    again_by (asking_table t d unit.count asks) stream unit (f d) None
    (found_changed stream.number (record { 0 = unit.connection }) f (record { stream = λ d. refl; id = λ d. refl }) t.messaging.class3_connections d comes.differ comes.found)
    comes.fits (same_number unit.count) refl

again_repeated : (t : AdapterTable) (stream : streams.Stream) (unit : ConnectedFields) (d : Class3Connection) → Comes t stream unit d → repeats_last d unit.count ≡ true → Again stream unit (kept_reply d unit.count d.reply) (repeated_table t d)
unfolding messages_table repeated
again_repeated t stream unit d comes repeats =
    let f = repeated_class3 (next_deadline t d) in
    again_by (repeated_table t d) stream unit (f d) _
    (found_changed stream.number (record { 0 = unit.connection }) f (record { stream = λ d. refl; id = λ d. refl }) t.messaging.class3_connections d comes.differ comes.found)
    comes.fits repeats refl

-- ---- whatever became of it

abbrev AgainAfter : streams.Stream → ConnectedFields → Handled → Type 0
AgainAfter stream unit done = Again stream unit done.reply done.table

again_fitted : (t : AdapterTable) (stream : streams.Stream) (unit : ConnectedFields) (d : Class3Connection) (service : ℕ) (reply : ReplyFields) → Comes t stream unit d → Again stream unit (Some (connected d.t_o_id.0 unit.count (fitted_text d service reply))) (executed_table t d unit.count (fitted_text d service reply))
again_fitted t stream unit d service reply comes = again_executed t stream unit d (fitted_text d service reply) comes (text_some (fitted d.t_o_size service reply))

-- what is counted changes nothing of it
comes_counted : (t : AdapterTable) (counters : DeviceCounters) (stream : streams.Stream) (unit : ConnectedFields) (d : Class3Connection) → Comes t stream unit d → Comes (with_counters t counters) stream unit d
comes_counted t counters stream unit d comes = record { differ = comes.differ; found = comes.found; fits = comes.fits }

again_counted : (t : AdapterTable) (stream : streams.Stream) (unit : ConnectedFields) (d : Class3Connection) (service : ℕ) (reply : ReplyFields) (kind : Option Tally) → Comes t stream unit d → Again stream unit (Some (connected d.t_o_id.0 unit.count (fitted_text d service reply))) (executed_table (tallied kind t) d unit.count (fitted_text d service reply))
again_counted t stream unit d service reply None comes = again_fitted t stream unit d service reply comes
again_counted t stream unit d service reply (Some kind) comes = again_fitted (tallied (Some kind) t) stream unit d service reply (comes_counted t _ stream unit d comes)

again_object : (t : AdapterTable) (stream : streams.Stream) (unit : ConnectedFields) (d : Class3Connection) (first service : ℕ) (answer : ObjectAnswer) → Comes t stream unit d → AgainAfter stream unit (message_replied d unit.count first (object_served t service answer))
again_object t stream unit d first service (said by value) comes = again_fitted t stream unit d first (object_served t service (said by value)).reply comes
again_object t stream unit d first service (denied why) comes = again_fitted t stream unit d first (object_served t service (denied why)).reply comes
again_object t stream unit d first service (resetting kind) comes = again_fitted t stream unit d first (object_served t service (resetting kind)).reply comes
again_object t stream unit d first service (answering by general content) comes = again_fitted t stream unit d first (object_served t service (answering by general content)).reply comes
again_object t stream unit d first service (refusing named why) comes = again_fitted t stream unit d first (object_served t service (refusing named why)).reply comes
again_object t stream unit d first service (unrouted words) comes = again_fitted t stream unit d first (object_served t service (unrouted words)).reply comes

-- there is a request
abbrev IsRequest : RouterRequestFields → Type 0
IsRequest nothing = ⊥
IsRequest other = Unit {0}

again_served : (t : AdapterTable) (stream : streams.Stream) (unit : ConnectedFields) (d : Class3Connection) (first : ℕ) (request : RouterRequestFields) → IsRequest request → Comes t stream unit d → AgainAfter stream unit (message_served t d unit.count first (counted_once request (connected_served t d.peer request)))
unfolding served_object
again_served t stream unit d first nothing some comes = absurd some
again_served t stream unit d first (refused service why) some comes = again_counted t stream unit d first (router_refusal t service why).reply (refused_tally service why) comes
again_served t stream unit d first (closing request) some comes = again_counted t stream unit d first (router_refusal t 0x4E status.Service).reply (Some tally.CloseOther) comes
again_served t stream unit d first (object service class instance attribute body) some comes = again_object t stream unit d first service (object_answer t service class instance attribute body) comes
again_served t stream unit d first (opening large request) some comes = again_counted t stream unit d first (router_refusal t (open_service large) status.Service).reply (Some tally.OpenOther) comes

again_own : (t : AdapterTable) (stream : streams.Stream) (unit : ConnectedFields) (d : Class3Connection) (asks : OwnRequest) (b : Bool) → Comes t stream unit d → AgainAfter stream unit (cond b (message_replied d unit.count asks.service (router_refusal t asks.service status.ResourceUnavailable)) (record { reply = None; verdict = referred_verdict t asks; notices = []; table = asking_table t d unit.count asks }))
again_own t stream unit d asks true comes = again_fitted t stream unit d asks.service (router_refusal t asks.service status.ResourceUnavailable).reply comes
again_own t stream unit d asks false comes = again_asking t stream unit d asks comes

again_new : (t : AdapterTable) (stream : streams.Stream) (unit : ConnectedFields) (d : Class3Connection) (first : ℕ) (request : RouterRequestFields) (asks : Option OwnRequest) → IsRequest request → Comes t stream unit d → AgainAfter stream unit (message_executed t d unit.count first request asks)
again_new t stream unit d first request None some comes = again_served t stream unit d first request some comes
again_new t stream unit d first request (Some asks) some comes = again_own t stream unit d asks (cannot_ask t d.peer) comes

again_either : (b : Bool) (t : AdapterTable) (stream : streams.Stream) (unit : ConnectedFields) (d : Class3Connection) (new : Handled) → repeats_last d unit.count ≡ b → Comes t stream unit d → AgainAfter stream unit new → AgainAfter stream unit (cond b (message_repeated t d unit.count) new)
again_either true t stream unit d new repeats comes executes = again_repeated t stream unit d comes repeats
again_either false t stream unit d new repeats comes executes = executes

-- ---- a message that has bytes is a request

open_is : (service : ℕ) (large : Bool) (reading : Result OpenFields ReadFault) → IsRequest (request_to_open service large reading)
open_is service large (Ok request) = tt
open_is service large (Err fault) = tt

close_is : (service : ℕ) (reading : Result CloseFields ReadFault) → IsRequest (request_to_close service reading)
close_is service (Ok request) = tt
close_is service (Err fault) = tt

manager_is : (service : ℕ) (attribute : Option ℕ) (body : List ℕ) → IsRequest (request_to_manager service attribute body)
manager_is service attribute body =
    either IsRequest (service == forward_open) _ _ (open_is service false _)
    (either IsRequest (service == large_forward_open) _ _ (open_is service true _)
    (either IsRequest (service == forward_close) _ _ (close_is service _)
    (either IsRequest (service == unconnected_send) (object service 6 1 None body) (object service 6 1 attribute body) tt tt)))

request_is : (service : ℕ) (reading : Result RequestFields ReadFault) → IsRequest (router_request_of service reading)
request_is service (Err fault) = tt
request_is service (Ok request) =
    either IsRequest (is_manager request.target) (request_to_manager request.service request.target.attribute request.body) (object request.service request.target.class request.target.instance request.target.attribute request.body)
    (manager_is request.service request.target.attribute request.body) tt

message_is : (message : List ℕ) → message ≢ [] → IsRequest (router_request_reading message)
unfolding router_request_reading
message_is [] some = absurd (some refl)
message_is (service ∷ rest) some = request_is service (request_reading (service ∷ rest))

once_step : (t : AdapterTable) (stream : streams.Stream) (unit : ConnectedFields) (d : Class3Connection) (done : Handled) → Comes t stream unit d → unit.message ≢ [] → unit_replied t stream (Ok unit) ≡ done → AgainAfter stream unit done
once_step t stream unit d done comes some is = subst (AgainAfter stream unit) is (rw (comes.found, comes.fits)
    (again_either (repeats_last d unit.count) t stream unit d _ refl comes
    (again_new t stream unit d (service_in unit.message) (router_request_reading unit.message) (own_of t.profile.objects (router_request_reading unit.message)) (message_is unit.message some) comes)))

pub messages_once : MessagesExecuteOnce
messages_once t stream unit d whole found fits some =
    once_step t stream unit d (unit_replied t stream (Ok unit)) (record { differ = whole.messages.own.ids_differ; found = found; fits = fits }) some refl

-- ---- answers

-- what waits has a number that was given
below_of : (m : Messaging) (number : ℕ) (w : Waiting) → EachOf (IsNumberedBelow m.next_number) m.waiting → find (has_request_number number) m.waiting ≡ Some w → w.number < m.next_number
below_of m number w numbered found = each_found (IsNumberedBelow m.next_number) (has_request_number number) m.waiting w found numbered

answered_number : (m : Messaging) (number : ℕ) → (answered m number).next_number ≡ m.next_number
unfolding answered
answered_number m number = refl

settled_here : (t : AdapterTable) (w : Waiting) (reply : ReplyFields) → w.number < t.messaging.next_number → IsSettled w.number (answered (with_reply t.messaging w.asker w.service reply) w.number)
settled_here t w reply below =
    let left = with_reply t.messaging w.asker w.service reply in
    record {
      given = rw (answered_number left w.number, (reply_asks t.messaging w.asker w.service reply 0).number) below;
      waits_not = each_weaker (λ w'. not (has_request_number w.number w') ≡ true) (WaitsNot w.number) (λ w' is. not-true _ is) (answered left w.number).waiting (answered_once left w.number);
    }

settles_by : (t : AdapterTable) (number status : ℕ) (bytes : List ℕ) (w : Waiting) (b : Bool) (next : Next) → IsWhole t → find (has_request_number number) t.messaging.waiting ≡ Some w → ◌≡◌ {A = Result Next StepFault} (cond b (Err WrongLength) (Ok (responded t w (own w.service status bytes)))) (Ok next) → IsSettled number next.1.messaging
unfolding messages_table
settles_by t number status bytes w true next whole found is = absurd cc
settles_by t number status bytes w false next whole found is =
    let same : w.number ≡ number = eqb-true _ _ (found_passes (has_request_number number) t.messaging.waiting w found) in
    subst (λ (n : Next). IsSettled number n.1.messaging) (next_is _ _ is)
    (subst (λ (n : ℕ). IsSettled n (answered (with_reply t.messaging w.asker w.service (own w.service status bytes)) w.number)) same
    (settled_here t w (own w.service status bytes) (below_of t.messaging number w whole.messages.own.numbered found)))

settles_found : (t : AdapterTable) (number status : ℕ) (bytes : List ℕ) (found : Option Waiting) (next : Next) → IsWhole t → find (has_request_number number) t.messaging.waiting ≡ found → respond_of t status bytes found ≡ Ok next → IsSettled number next.1.messaging
settles_found t number status bytes None next whole there is = absurd cc
settles_found t number status bytes (Some w) next whole there is = settles_by t number status bytes w (nat_lt longest_answer (length bytes)) next whole there is

pub answers_settle : AnswersSettle
unfolding respond
answers_settle t number status bytes next whole is = settles_found t number status bytes (find (has_request_number number) t.messaging.waiting) next whole refl is

none_waits : (number : ℕ) (waiting : List Waiting) → EachOf (WaitsNot number) waiting → find (has_request_number number) waiting ≡ None
none_waits number [] all = refl
none_waits number (w ∷ waiting) all = rw all.0 (none_waits number waiting all.1)

pub settled_refused : SettledAreRefused
unfolding respond
settled_refused t number status bytes settled = rw (none_waits number t.messaging.waiting settled.waits_not) refl

settled_unstreamed : (number : ℕ) (t : AdapterTable) (stream : ℕ) → IsSettled number t.messaging → IsSettled number (without_stream t stream).messaging
unfolding without_stream
settled_unstreamed number t stream settled =
    let keeps = without_stream_keeps (λ d. Unit {0}) (WaitsNot number) t.messaging stream in
    record { given = rw keeps.number settled.given; waits_not = keeps.waiting settled.waits_not }

settled_messaged : (number : ℕ) (t : AdapterTable) (next_id : ℕ) (m : Messaging) → IsSettled number m → IsSettled number (messages_table t next_id m).messaging
unfolding messages_table
settled_messaged number t next_id m settled = settled

settled_effects : (number : ℕ) → EffectsKeep (λ t. IsSettled number t.messaging)
unfolding opened_table closed_table written_table changed_table accepted_table clocked_table expired_table produced_table with_stream registered_table
settled_effects number = record {
  opened = λ t peer request admitted is settled. settled;
  closed = λ t row settled. settled;
  written = λ t point bytes input found long settled. settled;
  fed = λ t peer d row delivery is found settled. settled;
  advanced = λ t ms in_time settled. settled;
  streamed = λ t number peer free settled. settled;
  unstreamed = λ t stream settled. settled_unstreamed number t stream settled;
  registered = λ t number settled. settled;
  messaged = λ t next_id m goes settled. settled_messaged number t next_id m (goes.settled number settled);
  counted = λ t openings settled. settled;
  tallied = λ t counters settled. settled;
  taken = λ t block may settled. settled;
}

pub steps_settle : (number : ℕ) → StepsKeep (λ t. IsSettled number t.messaging)
steps_settle number t event next is settled = adapter_keeps (λ t. IsSettled number t.messaging) (settled_effects number) t event next is settled

-- ---- connections

pub streams_carry : StreamsCarry
streams_carry t whole = each_weaker (IsInPlace t.rows t.streams) (λ d. IsCarried t.streams d.stream) (λ d is. is.stream) t.messaging.class3_connections whole.messages.class3_connections

pub names_differ : (t : AdapterTable) → IsWhole t → NamesDiffer t
names_differ t whole = record {
  triads = whole.messages.own.triads_differ;
  ids = whole.messages.own.ids_differ;
  alone = each_weaker (IsInPlace t.rows t.streams) (IsNamedAlone t) (λ d is. (is.triad, is.id)) t.messaging.class3_connections whole.messages.class3_connections;
}
