-- Each change of class 3 connections and of waiting requests leaves them as sound as they were.
use Rattle.std.proofs.Common.{◌≡◌, ◌≤◌, ◌<◌, ℕ, ◌+◌, ◌-◌, ◌==◌, nat_lt, nat_le, Bool, true, false, cond, not, ◌||◌, List, [], ◌∷◌, length, find, Option, Some, None, refl, arith, leb-true}
use Rattle.std.specs.List.{list_any}
use Rattle.std.proofs.lemmas.Bool.{and_parts, or_parts, not-false}
use Rattle.std.proofs.lemmas.Bool.Decides.{nat_tests}
use Rattle.cip_types.specs.Ids.{end_number}
use Rattle.cip_types.specs.declared.names.ConnId.{ConnId}
use Rattle.cip_types.specs.declared.names.Ms.{Ms}
use Rattle.cip_types.specs.declared.names.Node.{Node}
use Rattle.cip_netparams.specs.Rate.{is_interval, interval_ms}
use Rattle.cip_netparams.specs.Timeouts.{timeout_fits}
use Rattle.cip_fwdopen.specs.Open.{OpenFields}
use Rattle.cip_router.specs.declared.refusal.Status.TheVariants as status
use Rattle.cip_router.specs.Refusals.{status_fault}
use Rattle.cip_router.specs.Replies.{ReplyFields, refused, reply_text}
use Rattle.cip_router.specs.ReplyLaws.{reply_is_short}
use Rattle.messaging.specs.declared.class3.Class3Connection as kept
use Rattle.messaging.specs.declared.requests.Requester.{Requester}
use Rattle.messaging.specs.declared.requests.Requester.TheVariants.{Peer, Stream, Class3Connection}
use Rattle.messaging.specs.declared.requests.Waiting.{Waiting}
use Rattle.messaging.specs.declared.table.Messaging.{Messaging}
use Rattle.messaging.specs.Class3Connections.{has_class3_triad, has_class3_id, is_last_message, executed_class3, repeated_class3, replied_class3}
use Rattle.messaging.specs.Changes.{can_be_answered, has_request_number, waiting_for, lacks_room, with_class3, without_class3, executed, repeated, referred, referred_over, answered}
use Rattle.messaging.specs.Times.{aged, late_text}
use Rattle.messaging.specs.Sound.{EachOf, IsSoundMessaging}
use Rattle.messaging.specs.Lemmas.EachOfLemmas.{each_more}
use Rattle.messaging.specs.Lemmas.KeptLemmas.{Keeps, without_class3_keeps, executed_keeps, repeated_keeps, replied_keeps, answered_keeps, keeps_both, aged_keeps}
use Rattle.messaging.specs.Lemmas.SoundLemmas.{without_class3_sound, executed_sound, repeated_sound, replied_sound, answered_sound, with_class3_sound, referred_sound, referred_over_sound, aged_sound}
use Rattle.adapter_table.specs.declared.table.AdapterTable.{AdapterTable}
use Rattle.adapter_table.specs.declared.table.Stream as streams
use Rattle.adapter_table.specs.Connections.{Row}
use Rattle.adapter_table.specs.Rates.{has_opened_enough_at}
use Rattle.adapter_table.specs.Rows.{has_triad}
use Rattle.adapter_table.specs.Checks.{is_unserved, are_intervals}
use Rattle.adapter_table.specs.Messages.{messages_table, with_messages}
use Rattle.adapter_table.specs.Paths.{opening_message_path}
use Rattle.adapter_table.specs.Class3Opening.{class3_view, class3_checks, class3_refusal, opened_class3}
use Rattle.adapter_table.specs.Connected.{most_reply, fitted_text}
use Rattle.adapter_table.specs.Answering.{class3_keeps, with_reply}
use Rattle.adapter_table.specs.MessagesSound.{IsCarried, IsInPlace, CanGoBack, RouteIsOpen, AreMessagesSound, IsSettled, MessagesGoOn}
use Rattle.adapter_table.specs.Lemmas.CheckLemmas.{all_pass, check_passes}
use Rattle.adapter_table.specs.Lemmas.SoundLemmas.{next_is_new}

-- ---- what is found

found_step : {A : Type 0} (b c : Bool) (q : A → Bool) (first x : A) (rest : Option A) → cond b (Some first) rest ≡ Some x → q x ≡ true → (rest ≡ Some x → c ≡ true) → (q first || c) ≡ true
found_step true c q first x rest is passes later = let same : first ≡ x = cc in rw (same, passes) refl
found_step false c q first x rest is passes later = right (q first) c (later is) where
  right : (a b : Bool) → b ≡ true → (a || b) ≡ true
  right true b is = refl
  right false b is = is

-- one that is found passes the tests that it passes
pub found_any : {A : Type 0} (p q : A → Bool) (xs : List A) (x : A) → find p xs ≡ Some x → q x ≡ true → list_any q xs ≡ true
found_any p q [] x is passes = absurd cc
found_any p q (first ∷ xs) x is passes = found_step (p first) (list_any q xs) q first x (find p xs) is passes (λ later. found_any p q xs x later passes)

pub same_number : (n : ℕ) → (n == n) ≡ true
same_number n = grind (arith, nat_tests)

-- ---- replies are short

fitted_by : (b : Bool) (size service : ℕ) (reply : ReplyFields) → nat_le (length (reply_text reply)) (most_reply size) ≡ b → length (reply_text (cond b reply (refused service (status_fault status.ReplyTooLarge) None))) ≤ 1404
fitted_by true size service reply fits = most_is (length (reply_text reply)) (most_reply size) (leb-true _ _ fits) (omega arith) where
  most_is : (n most : ℕ) → n ≤ most → most ≤ 1404 → n ≤ 1404
  most_is n most le few = omega arith
fitted_by false size service reply fits = (reply_is_short (refused service (status_fault status.ReplyTooLarge) None) tt).few

pub fitted_short : (d : kept.Class3Connection) (service : ℕ) (reply : ReplyFields) → length (fitted_text d service reply) ≤ 1404
fitted_short d service reply = fitted_by (nat_le (length (reply_text reply)) (most_reply d.t_o_size)) d.t_o_size service reply refl

-- ---- connections stay in place

place_executed : (rows : List Row) (open_streams : List streams.Stream) (count : ℕ) (reply : List ℕ) (deadline : Ms) → length reply ≤ 1404 → (d : kept.Class3Connection) → IsInPlace rows open_streams d → IsInPlace rows open_streams (executed_class3 count reply deadline d)
place_executed rows open_streams count reply deadline short d is = record { triad = is.triad; id = is.id; stream = is.stream; watchdog = is.watchdog; o_t_api_ms = is.o_t_api_ms; t_o_api_ms = is.t_o_api_ms; reply = short }

place_repeated : (rows : List Row) (open_streams : List streams.Stream) (deadline : Ms) (d : kept.Class3Connection) → IsInPlace rows open_streams d → IsInPlace rows open_streams (repeated_class3 deadline d)
place_repeated rows open_streams deadline d is = record { triad = is.triad; id = is.id; stream = is.stream; watchdog = is.watchdog; o_t_api_ms = is.o_t_api_ms; t_o_api_ms = is.t_o_api_ms; reply = is.reply }

place_replied : (rows : List Row) (open_streams : List streams.Stream) (reply : List ℕ) → length reply ≤ 1404 → (d : kept.Class3Connection) → IsInPlace rows open_streams d → IsInPlace rows open_streams (replied_class3 reply d)
place_replied rows open_streams reply short d is = record { triad = is.triad; id = is.id; stream = is.stream; watchdog = is.watchdog; o_t_api_ms = is.o_t_api_ms; t_o_api_ms = is.t_o_api_ms; reply = short }

-- ---- what goes on with the same counter

abbrev KeepsPlace : AdapterTable → Messaging → Type 0
KeepsPlace t m = Keeps (IsInPlace t.rows t.streams) (CanGoBack t.streams) t.messaging m

abbrev StaysSound : AdapterTable → Messaging → Type 0
StaysSound t m = IsSoundMessaging t.ids t.next_id t.messaging → IsSoundMessaging t.ids t.next_id m

-- nothing is asked: what waits waited before
abbrev pub WaitsNot : ℕ → Waiting → Type 0
WaitsNot number w = has_request_number number w ≡ false

abbrev AsksNothing : Messaging → Messaging → Type 0
AsksNothing m next = (number : ℕ) → Keeps (λ (d : kept.Class3Connection). Unit {0}) (WaitsNot number) m next

settled_kept : (m next : Messaging) → AsksNothing m next → (number : ℕ) → IsSettled number m → IsSettled number next
settled_kept m next asks number settled = record { given = rw (asks number).number settled.given; waits_not = (asks number).waiting settled.waits_not }

goes : (t : AdapterTable) (m : Messaging) → (AreMessagesSound t → AreMessagesSound (with_messages t m)) → ((number : ℕ) → IsSettled number t.messaging → IsSettled number m) → MessagesGoOn t t.next_id m
goes t m sound settled = record { later = omega arith; one = omega arith; left = λ few. few; sound = λ rows. sound; settled = settled }

goes_kept : (t : AdapterTable) (m : Messaging) → StaysSound t m → KeepsPlace t m → AsksNothing t.messaging m → MessagesGoOn t t.next_id m
unfolding messages_table
goes_kept t m own keeps asks =
    goes t m (λ sound. record { own = own sound.own; class3_connections = keeps.class3_connections sound.class3_connections; waiting = keeps.waiting sound.waiting }) (settled_kept t.messaging m asks)

-- a class 3 connection is closed
pub goes_closed : (t : AdapterTable) (d : kept.Class3Connection) → MessagesGoOn t t.next_id (without_class3 t.messaging d.triad)
goes_closed t d = goes_kept t _ (without_class3_sound t.ids t.next_id t.messaging d.triad) (without_class3_keeps _ _ t.messaging d.triad) (λ number. without_class3_keeps _ _ t.messaging d.triad)

-- its last message was repeated
pub goes_repeated : (t : AdapterTable) (id : ConnId) (deadline : Ms) → MessagesGoOn t t.next_id (repeated t.messaging id deadline)
goes_repeated t id deadline =
    goes_kept t _ (repeated_sound t.ids t.next_id t.messaging id deadline) (repeated_keeps _ _ t.messaging id deadline (place_repeated t.rows t.streams deadline))
    (λ number. repeated_keeps _ _ t.messaging id deadline (λ d is. tt))

-- a message was executed
pub goes_executed : (t : AdapterTable) (id : ConnId) (count : ℕ) (reply : List ℕ) (deadline : Ms) → length reply ≤ 1404 → MessagesGoOn t t.next_id (executed t.messaging id count reply deadline)
goes_executed t id count reply deadline short =
    goes_kept t _ (executed_sound t.ids t.next_id t.messaging id count reply deadline)
    (executed_keeps _ _ t.messaging id count reply deadline (place_executed t.rows t.streams count reply deadline short))
    (λ number. executed_keeps _ _ t.messaging id count reply deadline (λ d is. tt))

-- ---- the application is asked

referred_places : (open_streams : List streams.Stream) (m : Messaging) (peer : Node) (from : Requester) (service : ℕ) (clock : Ms) → RouteIsOpen open_streams from → EachOf (CanGoBack open_streams) m.waiting → EachOf (CanGoBack open_streams) (referred m peer from service clock).waiting
unfolding referred
referred_places open_streams m peer from service clock opens all = each_more (CanGoBack open_streams) m.waiting (waiting_for m.next_number peer from service clock) all opens

referred_class3_connections : (P : kept.Class3Connection → Type 0) (m : Messaging) (peer : Node) (from : Requester) (service : ℕ) (clock : Ms) → EachOf P m.class3_connections → EachOf P (referred m peer from service clock).class3_connections
unfolding referred
referred_class3_connections P m peer from service clock all = all

other_number : (next number : ℕ) → number < next → (next == number) ≡ false
other_number next number below = grind (arith, nat_tests)

-- the new number is that of no request that was settled
referred_settled : (m : Messaging) (peer : Node) (from : Requester) (service : ℕ) (clock : Ms) (number : ℕ) → IsSettled number m → IsSettled number (referred m peer from service clock)
unfolding referred
referred_settled m peer from service clock number settled = record {
  given = omega (arith, settled.given);
  waits_not = each_more (WaitsNot number) m.waiting (waiting_for m.next_number peer from service clock) settled.waits_not (other_number m.next_number number settled.given);
}

-- over no class 3 connection
pub goes_referred : (t : AdapterTable) (peer : Node) (from : Requester) (service : ℕ) → lacks_room t.messaging ≡ false → can_be_answered t.messaging.class3_connections (waiting_for t.messaging.next_number peer from service t.clock) ≡ true → RouteIsOpen t.streams from → MessagesGoOn t t.next_id (referred t.messaging peer from service t.clock)
unfolding messages_table
goes_referred t peer from service room can opens = goes t _ (λ sound. record {
  own = referred_sound t.ids t.next_id t.messaging peer from service t.clock room can sound.own;
  class3_connections = referred_class3_connections (IsInPlace t.rows t.streams) t.messaging peer from service t.clock sound.class3_connections;
  waiting = referred_places t.streams t.messaging peer from service t.clock opens sound.waiting;
}) (referred_settled t.messaging peer from service t.clock)

-- over a class 3 connection
pub goes_referred_over : (t : AdapterTable) (peer : Node) (id : ConnId) (count service : ℕ) (deadline : Ms) → list_any (has_class3_id id) t.messaging.class3_connections ≡ true → lacks_room t.messaging ≡ false → MessagesGoOn t t.next_id (referred_over t.messaging peer id count service deadline t.clock)
unfolding messages_table referred_over
goes_referred_over t peer id count service deadline found room =
    let keeps = executed_keeps (IsInPlace t.rows t.streams) (CanGoBack t.streams) t.messaging id count [] deadline (place_executed t.rows t.streams count [] deadline (omega arith)) in
    let left = executed t.messaging id count [] deadline in
    goes t _ (λ sound. record {
      own = referred_over_sound t.ids t.next_id t.messaging peer id count service deadline t.clock found room sound.own;
      class3_connections = referred_class3_connections (IsInPlace t.rows t.streams) left peer (Class3Connection id count) service t.clock (keeps.class3_connections sound.class3_connections);
      waiting = referred_places t.streams left peer (Class3Connection id count) service t.clock tt (keeps.waiting sound.waiting);
    })
    (λ number settled. referred_settled left peer (Class3Connection id count) service t.clock number (settled_kept t.messaging left (λ n. executed_keeps _ _ t.messaging id count [] deadline (λ d is. tt)) number settled))

-- ---- the application answers

class3_sound : (t : AdapterTable) (id : ConnId) (count service : ℕ) (reply : ReplyFields) (found : Option kept.Class3Connection) → StaysSound t (class3_keeps t.messaging id count service reply found)
class3_sound t id count service reply None = λ sound. sound
class3_sound t id count service reply (Some d) = replied_sound t.ids t.next_id t.messaging id count (fitted_text d service reply)

class3_places : (t : AdapterTable) (id : ConnId) (count service : ℕ) (reply : ReplyFields) (found : Option kept.Class3Connection) → KeepsPlace t (class3_keeps t.messaging id count service reply found)
class3_places t id count service reply None = record { class3_connections = λ all. all; waiting = λ all. all; number = refl }
class3_places t id count service reply (Some d) =
    replied_keeps _ _ t.messaging id count (fitted_text d service reply) (place_replied t.rows t.streams (fitted_text d service reply) (fitted_short d service reply))

class3_asks : (m : Messaging) (id : ConnId) (count service : ℕ) (reply : ReplyFields) (found : Option kept.Class3Connection) → AsksNothing m (class3_keeps m id count service reply found)
class3_asks m id count service reply None = λ number. record { class3_connections = λ all. all; waiting = λ all. all; number = refl }
class3_asks m id count service reply (Some d) = λ number. replied_keeps _ _ m id count (fitted_text d service reply) (λ d is. tt)

pub reply_asks : (m : Messaging) (from : Requester) (service : ℕ) (reply : ReplyFields) → AsksNothing m (with_reply m from service reply)
reply_asks m (Peer node) service reply = λ number. record { class3_connections = λ all. all; waiting = λ all. all; number = refl }
reply_asks m (Stream number context) service reply = λ n. record { class3_connections = λ all. all; waiting = λ all. all; number = refl }
reply_asks m (Class3Connection id count) service reply = class3_asks m id count service reply (find (is_last_message id count) m.class3_connections)

reply_sound : (t : AdapterTable) (from : Requester) (service : ℕ) (reply : ReplyFields) → StaysSound t (with_reply t.messaging from service reply)
reply_sound t (Peer node) service reply = λ sound. sound
reply_sound t (Stream number context) service reply = λ sound. sound
reply_sound t (Class3Connection id count) service reply = class3_sound t id count service reply (find (is_last_message id count) t.messaging.class3_connections)

reply_places : (t : AdapterTable) (from : Requester) (service : ℕ) (reply : ReplyFields) → KeepsPlace t (with_reply t.messaging from service reply)
reply_places t (Peer node) service reply = record { class3_connections = λ all. all; waiting = λ all. all; number = refl }
reply_places t (Stream number context) service reply = record { class3_connections = λ all. all; waiting = λ all. all; number = refl }
reply_places t (Class3Connection id count) service reply = class3_places t id count service reply (find (is_last_message id count) t.messaging.class3_connections)

pub goes_answered : (t : AdapterTable) (w : Waiting) (reply : ReplyFields) → MessagesGoOn t t.next_id (answered (with_reply t.messaging w.asker w.service reply) w.number)
goes_answered t w reply =
    let left = with_reply t.messaging w.asker w.service reply in
    goes_kept t _ (λ sound. answered_sound t.ids t.next_id left w.number (reply_sound t w.asker w.service reply sound))
    (keeps_both _ _ t.messaging left (answered left w.number) (reply_places t w.asker w.service reply) (answered_keeps _ _ left w.number))
    (λ number. keeps_both _ _ t.messaging left (answered left w.number) (reply_asks t.messaging w.asker w.service reply number) (answered_keeps _ _ left w.number))

-- ---- time passes

pub goes_aged : (t : AdapterTable) → MessagesGoOn t t.next_id (aged t.clock t.messaging)
goes_aged t =
    goes_kept t _ (aged_sound t.ids t.next_id t.clock t.messaging)
    (aged_keeps (IsInPlace t.rows t.streams) (CanGoBack t.streams) (λ service d is. place_replied t.rows t.streams (late_text service) (omega arith) d is) t.clock t.messaging)
    (λ number. aged_keeps _ (WaitsNot number) (λ service d is. tt) t.clock t.messaging)

-- ---- a class 3 connection is opened

multiplier_fits : (m : ℕ) → nat_lt 7 m ≡ false → m ≤ 7
multiplier_fits m h = grind (arith, nat_tests)

interval_fits : (rpi : ℕ) → is_interval rpi ≡ true → interval_ms rpi ≤ 10000
interval_fits rpi is = grind (arith, nat_tests)

one_is_left : (next_id end : ℕ) → nat_lt (end - next_id) 1 ≡ false → next_id + 1 ≤ end
one_is_left next_id end h = grind (arith, nat_tests)

room_left : (n : ℕ) → nat_le 64 n ≡ false → n < 64
room_left n h = grind (arith, nat_tests)

-- what an opening relies on
pub record IsAdmittedClass3 (t : AdapterTable) (request : OpenFields) : Type 0 where
  pub rows : list_any (has_triad request.triad) t.rows ≡ false
  pub class3_connections : list_any (has_class3_triad request.triad) t.messaging.class3_connections ≡ false
  pub multiplier : request.multiplier ≤ 7
  pub o_t_api_ms : interval_ms request.o_t_rpi ≤ 10000
  pub t_o_api_ms : interval_ms request.t_o_rpi ≤ 10000
  pub ids : t.next_id + 1 ≤ end_number t.ids
  pub room : length t.messaging.class3_connections < 64

pub admitted_class3_is : (t : AdapterTable) (peer : Node) (request : OpenFields) → class3_refusal (class3_view t peer request.triad) request ≡ None → IsAdmittedClass3 t request
unfolding class3_refusal
admitted_class3_is t peer request passes =
    let view = class3_view t peer request.triad in
    -- the answers of checks 2 to 7, of 8 to 11, and of 15 and 16
    let first = all_pass (class3_checks view request (opening_message_path t.profile.description request.path)) passes in
    let second = first.1.1.1.1.1.1 in
    let third = second.1.1.1.1.1 in
    let free = or_parts (list_any (has_triad request.triad) t.rows) _ (check_passes _ _ first.1.0) in
    let served = or_parts (nat_lt 7 request.multiplier) _ (check_passes (is_unserved request) _ first.1.1.1.1.1.0) in
    let both = and_parts (is_interval request.o_t_rpi) (is_interval request.t_o_rpi) (not-false _ (check_passes (not (are_intervals request)) _ second.0)) in
    record {
      rows = free.0;
      class3_connections = free.1;
      multiplier = multiplier_fits request.multiplier served.0;
      o_t_api_ms = interval_fits request.o_t_rpi both.0;
      t_o_api_ms = interval_fits request.t_o_rpi both.1;
      ids = one_is_left t.next_id (end_number t.ids) (check_passes _ _ third.0);
      room = room_left (length t.messaging.class3_connections) (check_passes _ _ third.1.0);
    }

-- its node has not opened enough in its second
pub class3_is_paced : (t : AdapterTable) (peer : Node) (request : OpenFields) → class3_refusal (class3_view t peer request.triad) request ≡ None → has_opened_enough_at t peer ≡ false
unfolding class3_refusal
class3_is_paced t peer request passes =
    let view = class3_view t peer request.triad in
    let first = all_pass (class3_checks view request (opening_message_path t.profile.description request.path)) passes in
    let third = first.1.1.1.1.1.1.1.1.1.1.1 in
    check_passes _ _ third.1.1.1.1.0

pub goes_opened : (t : AdapterTable) (stream : streams.Stream) (request : OpenFields) → class3_refusal (class3_view t stream.peer request.triad) request ≡ None → IsCarried t.streams stream.number → MessagesGoOn t (t.next_id + 1) (with_class3 t.messaging (opened_class3 t stream request))
unfolding messages_table opened_class3 with_class3
goes_opened t stream request passes carried =
    let is = admitted_class3_is t stream.peer request passes in
    let d = opened_class3 t stream request in
    let ids = is.ids in
    record {
      later = omega arith;
      one = omega arith;
      left = λ few. is.ids;
      sound = λ sound messages. record {
        own = with_class3_sound t.ids t.next_id (t.next_id + 1) t.messaging d (record { room = is.room; triad = is.class3_connections; id = refl; opening = refl; left = record { are = sound.blocks; begins = sound.ids_begin; ends = omega (arith, ids) } }) (omega arith) messages.own;
        class3_connections = each_more (IsInPlace t.rows t.streams) t.messaging.class3_connections d messages.class3_connections (record {
          triad = is.rows;
          id = next_is_new t.ids t.next_id t.rows (record { are = sound.blocks; begins = sound.ids_begin; ends = omega (arith, ids) }) sound.ids_are_drawn;
          stream = carried;
          watchdog = timeout_fits request.multiplier (interval_ms request.o_t_rpi) is.multiplier is.o_t_api_ms;
          o_t_api_ms = is.o_t_api_ms;
          t_o_api_ms = is.t_o_api_ms;
          reply = omega arith;
        });
        waiting = messages.waiting;
      };
      settled = λ number settled. record { given = settled.given; waits_not = settled.waits_not };
    }
