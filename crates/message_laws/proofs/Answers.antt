-- What an answer of the application and a tick leave of a message of a class 3 connection.
use Rattle.std.proofs.Common.{◌<◌, ◌≡◌, inl, ℕ, ◌+◌, ◌==◌, ◌&&◌, not, nat_lt, nat_le, Bool, true, false, cond, List, [], ◌∷◌, ◌++◌, length, filter, flat_map, find, Option, Some, None, Result, Ok, Err, refl, sym, ◌∙◌, ap, subst, arith, eqb-true, eq-eqb, le-leb}
use Rattle.std.specs.List.{last_or}
use Rattle.std.proofs.lemmas.Bool.{and_parts}
use Rattle.std.proofs.lemmas.Option.{same_Some}
use Rattle.base_lemmas.specs.Booleans.{either}
use Rattle.base_lemmas.specs.Lists.{found_passes}
use Rattle.cip_types.specs.declared.names.ConnId.{ConnId}
use Rattle.cip_types.specs.declared.names.Ms.{Ms}
use Rattle.cip_events.specs.declared.event.Frame.{Frame}
use Rattle.cip_events.specs.declared.event.StepFault.{StepFault}
use Rattle.cip_events.specs.declared.event.StepFault.TheVariants.{NotAllowedNow, TickTooLong, ClockEnd, WrongLength}
use Rattle.cip_events.specs.Clock.{longest_tick, clock_end}
use Rattle.cip_router.specs.Frames.{connected}
use Rattle.cip_router.specs.declared.refusal.Status.TheVariants as status
use Rattle.cip_router.specs.Refusals.{status_fault}
use Rattle.cip_router.specs.Replies.{ReplyFields, own, refused, reply_text, own_reply_text}
use Rattle.messaging.specs.declared.class3.Class3Connection.{Class3Connection}
use Rattle.messaging.specs.declared.requests.Requester.{Requester}
use Rattle.messaging.specs.declared.requests.Requester.TheVariants as asker
use Rattle.messaging.specs.declared.requests.Waiting.{Waiting}
use Rattle.messaging.specs.declared.table.Messaging.{Messaging}
use Rattle.messaging.specs.Class3Connections.{has_class3_id, is_count, repeats_last, is_last_message, replied_class3}
use Rattle.messaging.specs.Changes.{longest_answer, has_request_number, answered, replied}
use Rattle.messaging.specs.Times.{is_late_class3, without_late_class3_connections, is_late_request, late_waiting, late_text, late_reply, late_replies, without_late_waiting, aged}
use Rattle.adapter_table.specs.declared.table.AdapterTable.{AdapterTable}
use Rattle.adapter_table.specs.Answering.{unit_header, class3_frames, route_frames, class3_keeps, with_reply, responded, respond_of, respond}
use Rattle.adapter_table.specs.Connected.{most_reply, fitted, fitted_text}
use Rattle.adapter_table.specs.Encapsulation.{reply_frames}
use Rattle.adapter_table.specs.Messages.{messages_table}
use Rattle.adapter_table.specs.Requests.{Next}
use Rattle.adapter_table.specs.Ticks.{late_frames, clocked_table, expired_table, produced_table, advanced, aged_next, tick}
use Rattle.message_laws.specs.Repetitions.{is_from, is_requested_by, is_answer_to, late_replies_to, unless_refused}
use Rattle.message_laws.proofs.Executing.{text_some, kept_text}
use Rattle.message_laws.proofs.Found.{Found, Leaves, same, IsChange, changed, change_leaves, filter_leaves, found_both}
use Rattle.message_laws.proofs.Going.{Holds, HoldsOn, Before, Goes, Differ, stays, unchanged, left_of, Leads, leads_refused}

-- ---- a reply that a connection keeps

is_reply : (other : ConnId) (n : ℕ) (text : List ℕ) → IsChange other (is_last_message other n) (replied_class3 text)
is_reply other n text = record {
  named = λ d is. let parts = and_parts (has_class3_id other d) (repeats_last d n) is in parts.0;
  id = λ d. refl;
}

replied_leaves : (id other : ConnId) (m : Messaging) (n : ℕ) (text : List ℕ) → Leaves id (changed (is_last_message other n) (replied_class3 text)) m.class3_connections (replied m other n text).class3_connections
unfolding replied
replied_leaves id other m n text = change_leaves id other (is_last_message other n) (replied_class3 text) (is_reply other n text) m.class3_connections

-- a connection that holds the message has it as its last one
last_is : (d : Class3Connection) (count : ℕ) (sent : Option Frame) (old : Class3Connection) (other : ConnId) (n : ℕ) → Holds d count sent old → has_class3_id d.o_t_id old ≡ true → (other.0 == d.o_t_id.0 && n == count) ≡ true → is_last_message other n old ≡ true
last_is d count sent old other n h has is =
    let parts = and_parts _ _ is in
    let id_is : other.0 ≡ d.o_t_id.0 = eqb-true other.0 d.o_t_id.0 parts.0 in
    let same_count : n ≡ count = eqb-true n count parts.1 in
    both (old.o_t_id.0 == other.0) (is_count n old.last) (ap (λ (k : ℕ). old.o_t_id.0 == k) id_is ∙ has)
    (ap (is_count n) h.last ∙ eq-eqb count n (sym same_count))
  where
    both : (a b : Bool) → a ≡ true → b ≡ true → (a && b) ≡ true
    both true b first second = second
    both false b first second = absurd (let x = first in cc)

-- and no other one
last_is_not : (d : Class3Connection) (count : ℕ) (sent : Option Frame) (old : Class3Connection) (other : ConnId) (n : ℕ) → Holds d count sent old → has_class3_id d.o_t_id old ≡ true → (other.0 == d.o_t_id.0 && n == count) ≡ false → is_last_message other n old ≡ false
last_is_not d count sent old other n h has is =
    ap (λ (l : Option ℕ). has_class3_id other old && is_count n l) h.last
    ∙ apart (old.o_t_id.0 == other.0) (count == n) refl refl
  where
    apart : (a b : Bool) → (old.o_t_id.0 == other.0) ≡ a → (count == n) ≡ b → (a && b) ≡ false
    apart true true first second =
        let e : other.0 ≡ d.o_t_id.0 = sym (eqb-true old.o_t_id.0 other.0 first) ∙ eqb-true old.o_t_id.0 d.o_t_id.0 has in
        let k : n ≡ count = sym (eqb-true count n second) in
        absurd (yes (other.0 == d.o_t_id.0) (n == count) (eq-eqb other.0 d.o_t_id.0 e) (eq-eqb n count k) is) where
          yes : (a b : Bool) → a ≡ true → b ≡ true → (a && b) ≡ false → ⊥
          yes true true one two none = let x = none in absurd cc
          yes true false one two none = let x = two in absurd cc
          yes false b one two none = let x = one in absurd cc
    apart true false first second = refl
    apart false b first second = refl

-- the frame of a reply that is kept is what a repetition gets
replied_holds : (d : Class3Connection) (count : ℕ) (sent : Option Frame) (old : Class3Connection) (text : List ℕ) → Holds d count sent old → 0 < length text → Holds d count (last_or sent (reply_frames old.stream (unit_header old.stream) (Some (connected old.t_o_id.0 count text)))) (replied_class3 text old)
replied_holds d count sent old text h some = record {
  stream = h.stream;
  size = h.size;
  last = h.last;
  kept = rw (kept_text (replied_class3 text old) count text some) refl;
}

-- ---- an answer of the application

abbrev reply_text_of : Class3Connection → ℕ → ReplyFields → List ℕ
reply_text_of x service reply = fitted_text x service reply

-- the connection that is answered keeps what goes out, and any other one what it had
answer_step : (b : Bool) (d : Class3Connection) (count : ℕ) (sent : Option Frame) (other : ConnId) (n service : ℕ) (reply : ReplyFields) (ds : List Class3Connection) (x old e : Class3Connection) → (other.0 == d.o_t_id.0 && n == count) ≡ b → find (is_last_message other n) ds ≡ Some x → Found d.o_t_id ds old → e ≡ changed (is_last_message other n) (replied_class3 (fitted_text x service reply)) old → Holds d count sent old → Holds d count (last_or sent (cond b (reply_frames x.stream (unit_header x.stream) (Some (connected x.t_o_id.0 n (fitted_text x service reply)))) [])) e
answer_step true d count sent other n service reply ds x old e mine is found was h =
    let has = found_passes (has_class3_id d.o_t_id) ds old found in
    let last = last_is d count sent old other n h has mine in
    let parts = and_parts _ _ mine in
    let id_is : other.0 ≡ d.o_t_id.0 = eqb-true other.0 d.o_t_id.0 parts.0 in
    let own : Found other ds old = subst (λ (k : ℕ). find (λ (c : Class3Connection). c.o_t_id.0 == k) ds ≡ Some old) (sym id_is) found in
    let repeats = and_parts (has_class3_id other old) (repeats_last old n) last in
    let one : x ≡ old = same_Some x old (sym is ∙ found_both other (λ (c : Class3Connection). repeats_last c n) ds old own repeats.1) in
    let made : e ≡ replied_class3 (fitted_text x service reply) old = was ∙ ap (λ (b : Bool). cond b (replied_class3 (fitted_text x service reply) old) old) last in
    subst (λ (y : Class3Connection). Holds d count (last_or sent (reply_frames y.stream (unit_header y.stream) (Some (connected y.t_o_id.0 n (fitted_text y service reply))))) e) (sym one)
    (subst (λ (k : ℕ). Holds d count (last_or sent (reply_frames old.stream (unit_header old.stream) (Some (connected old.t_o_id.0 k (fitted_text old service reply))))) e) (sym (eqb-true n count parts.1))
    (subst (Holds d count (last_or sent (reply_frames old.stream (unit_header old.stream) (Some (connected old.t_o_id.0 count (fitted_text old service reply)))))) (sym (made ∙ ap (λ (y : Class3Connection). replied_class3 (fitted_text y service reply) old) one))
    (replied_holds d count sent old (fitted_text old service reply) h (text_some (fitted old.t_o_size service reply)))))
answer_step false d count sent other n service reply ds x old e mine is found was h =
    let has = found_passes (has_class3_id d.o_t_id) ds old found in
    let not_last = last_is_not d count sent old other n h has mine in
    subst (Holds d count sent) (sym (was ∙ ap (λ (b : Bool). cond b (replied_class3 (fitted_text x service reply) old) old) not_last)) h

abbrev AnswerBefore : Class3Connection → ℕ → Messaging → List Frame → Messaging → Type 0
AnswerBefore d count m frames n = (e : Class3Connection) → Found d.o_t_id n.class3_connections e → Before d count m.class3_connections frames e

stays_before : (d : Class3Connection) (count : ℕ) (b : Bool) (m : Messaging) → AnswerBefore d count m (cond b [] []) m
stays_before d count true m e found = stays d count m.class3_connections e (record { old = e; found = found; is = refl })
stays_before d count false m e found = stays d count m.class3_connections e (record { old = e; found = found; is = refl })

class3_before : (d : Class3Connection) (count : ℕ) (m : Messaging) (other : ConnId) (n service : ℕ) (reply : ReplyFields) (found : Option Class3Connection) → find (is_last_message other n) m.class3_connections ≡ found → AnswerBefore d count m (cond (other.0 == d.o_t_id.0 && n == count) (class3_frames n service reply found) []) (class3_keeps m other n service reply found)
class3_before d count m other n service reply None is = λ e there. stays_before d count (other.0 == d.o_t_id.0 && n == count) m e there
class3_before d count m other n service reply (Some x) is = λ e there.
    let was = replied_leaves d.o_t_id other m n (fitted_text x service reply) e there in
    record {
      old = was.old;
      found = was.found;
      on = λ sent h. answer_step (other.0 == d.o_t_id.0 && n == count) d count sent other n service reply m.class3_connections x was.old e refl is was.found was.is h;
    }

reply_before : (d : Class3Connection) (count : ℕ) (m : Messaging) (from : Requester) (service : ℕ) (reply : ReplyFields) → AnswerBefore d count m (cond (is_from d.o_t_id count from) (route_frames m from service reply) []) (with_reply m from service reply)
reply_before d count m (asker.Peer node) service reply = stays_before d count true m
reply_before d count m (asker.Stream number context) service reply = stays_before d count true m
reply_before d count m (asker.Class3Connection other n) service reply = class3_before d count m other n service reply (find (is_last_message other n) m.class3_connections) refl

answered_connections : (m : Messaging) (number : ℕ) → (answered m number).class3_connections ≡ m.class3_connections
unfolding answered
answered_connections m number = refl

responded_goes : (d : Class3Connection) (count : ℕ) (t : AdapterTable) (w : Waiting) (reply : ReplyFields) → Leads d count t (is_requested_by d.o_t_id count w) (Ok (responded t w reply))
unfolding messages_table
responded_goes d count t w reply = record {
  later = omega arith;
  profile = refl;
  stands = λ e found. inl (reply_before d count t.messaging w.asker w.service reply e
      (subst (λ (ds : List Class3Connection). Found d.o_t_id ds e) (answered_connections (with_reply t.messaging w.asker w.service reply) w.number) found));
}

answer_goes : (d : Class3Connection) (count : ℕ) (t : AdapterTable) (status : ℕ) (bytes : List ℕ) (found : Option Waiting) → Leads d count t (is_answer_to d.o_t_id count found) (respond_of t status bytes found)
answer_goes d count t status bytes None = leads_refused d count t false NotAllowedNow
answer_goes d count t status bytes (Some w) =
    either (Leads d count t (is_requested_by d.o_t_id count w)) (nat_lt longest_answer (length bytes)) (Err WrongLength) (Ok (responded t w (own w.service status bytes)))
    (leads_refused d count t (is_requested_by d.o_t_id count w) WrongLength) (responded_goes d count t w (own w.service status bytes))

pub respond_goes : (d : Class3Connection) (count : ℕ) (t : AdapterTable) (number status : ℕ) (bytes : List ℕ) → Leads d count t (is_answer_to d.o_t_id count (find (has_request_number number) t.messaging.waiting)) (respond t number status bytes)
unfolding respond
respond_goes d count t number status bytes = answer_goes d count t status bytes (find (has_request_number number) t.messaging.waiting)

-- ---- a tick

last_both : (sent : Option Frame) (first rest : List Frame) → last_or sent (first ++ rest) ≡ last_or (last_or sent first) rest
last_both sent [] rest = refl
last_both sent (frame ∷ first) rest = last_both (Some frame) first rest

-- a connection that was left, but for its reply
record Like (id : ConnId) (left : List Class3Connection) (e : Class3Connection) : Type 0 where
  old : Class3Connection
  found : Found id left old
  stream : old.stream ≡ e.stream
  t_o_id : old.t_o_id ≡ e.t_o_id
  last : old.last ≡ e.last

abbrev AllLike : ConnId → Messaging → Messaging → Type 0
AllLike id left m = (e : Class3Connection) → Found id m.class3_connections e → Like id left.class3_connections e

like_changed : (b : Bool) (id : ConnId) (left : List Class3Connection) (text : List ℕ) (old e : Class3Connection) → e ≡ cond b (replied_class3 text old) old → Like id left old → Like id left e
like_changed true id left text old e is like = subst (Like id left) (sym is) (record { old = like.old; found = like.found; stream = like.stream; t_o_id = like.t_o_id; last = like.last })
like_changed false id left text old e is like = subst (Like id left) (sym is) like

like_reply : (id : ConnId) (left : Messaging) (from : Requester) (service : ℕ) (m : Messaging) → AllLike id left m → AllLike id left (late_reply from service m)
like_reply id left (asker.Peer node) service m like = like
like_reply id left (asker.Stream number context) service m like = like
like_reply id left (asker.Class3Connection other n) service m like = λ e found.
    let was = replied_leaves id other m n (late_text service) e found in
    like_changed (is_last_message other n was.old) id left.class3_connections (late_text service) was.old e was.is (like was.old was.found)

-- the device's own late reply, which has no data, fits always
four_fits : (size : ℕ) → nat_le 4 (most_reply size) ≡ true
four_fits size = le-leb 4 (most_reply size) (omega arith)

late_by : (b : Bool) (service : ℕ) → b ≡ true → reply_text (cond b (own service 0x1F []) (refused service (status_fault status.ReplyTooLarge) None)) ≡ late_text service
unfolding own_reply_text
late_by true service fits = refl
late_by false service fits = absurd cc

late_fits : (d : Class3Connection) (service : ℕ) → fitted_text d service (own service 0x1F []) ≡ late_text service
unfolding own_reply_text
late_fits d service = late_by (nat_le 4 (most_reply d.t_o_size)) service (four_fits d.t_o_size)

-- the reply that goes out is the one that is kept
late_frame : (d : Class3Connection) (count : ℕ) (sent : Option Frame) (left : Messaging) (other : ConnId) (n service : ℕ) (e : Class3Connection) → (other.0 == d.o_t_id.0 && n == count) ≡ true → Like d.o_t_id left.class3_connections e → Holds d count sent e → route_frames left (asker.Class3Connection other n) service (own service 0x1F []) ≡ reply_frames e.stream (unit_header e.stream) (Some (connected e.t_o_id.0 count (late_text service)))
late_frame d count sent left other n service e mine like h =
    let parts = and_parts _ _ mine in
    let id_is : other.0 ≡ d.o_t_id.0 = eqb-true other.0 d.o_t_id.0 parts.0 in
    let same_count : n ≡ count = eqb-true n count parts.1 in
    let own_id : Found other left.class3_connections like.old = subst (λ (k : ℕ). find (λ (c : Class3Connection). c.o_t_id.0 == k) left.class3_connections ≡ Some like.old) (sym id_is) like.found in
    let repeats : repeats_last like.old n ≡ true = ap (is_count n) (like.last ∙ h.last) ∙ eq-eqb count n (sym same_count) in
    let there : find (is_last_message other n) left.class3_connections ≡ Some like.old = found_both other (λ (c : Class3Connection). repeats_last c n) left.class3_connections like.old own_id repeats in
    ap (class3_frames n service (own service 0x1F [])) there
    ∙ rw (late_fits like.old service, like.stream, like.t_o_id, same_count) refl

late_some : (service : ℕ) → 0 < length (late_text service)
late_some service = omega arith

late_holds : (b : Bool) (d : Class3Connection) (count : ℕ) (sent : Option Frame) (left : Messaging) (other : ConnId) (n service : ℕ) (ds : List Class3Connection) (old e : Class3Connection) → (other.0 == d.o_t_id.0 && n == count) ≡ b → Found d.o_t_id ds old → Like d.o_t_id left.class3_connections old → e ≡ changed (is_last_message other n) (replied_class3 (late_text service)) old → Holds d count sent old → Holds d count (last_or sent (cond b (route_frames left (asker.Class3Connection other n) service (own service 0x1F [])) [])) e
late_holds true d count sent left other n service ds old e mine found like was h =
    let has = found_passes (has_class3_id d.o_t_id) ds old found in
    let last = last_is d count sent old other n h has mine in
    subst (λ (frames : List Frame). Holds d count (last_or sent frames) e) (sym (late_frame d count sent left other n service old mine like h))
    (subst (Holds d count (last_or sent (reply_frames old.stream (unit_header old.stream) (Some (connected old.t_o_id.0 count (late_text service)))))) (sym (was ∙ ap (λ (b : Bool). cond b (replied_class3 (late_text service) old) old) last))
    (replied_holds d count sent old (late_text service) h (late_some service)))
late_holds false d count sent left other n service ds old e mine found like was h =
    let has = found_passes (has_class3_id d.o_t_id) ds old found in
    subst (Holds d count sent) (sym (was ∙ ap (λ (b : Bool). cond b (replied_class3 (late_text service) old) old) (last_is_not d count sent old other n h has mine))) h

late_before : (d : Class3Connection) (count : ℕ) (left : Messaging) (from : Requester) (service : ℕ) (m : Messaging) → AllLike d.o_t_id left m → AnswerBefore d count m (cond (is_from d.o_t_id count from) (route_frames left from service (own service 0x1F [])) []) (late_reply from service m)
late_before d count left (asker.Peer node) service m like = stays_before d count true m
late_before d count left (asker.Stream number context) service m like = stays_before d count true m
late_before d count left (asker.Class3Connection other n) service m like = λ e found.
    let was = replied_leaves d.o_t_id other m n (late_text service) e found in
    record {
      old = was.old;
      found = was.found;
      on = λ sent h. late_holds (other.0 == d.o_t_id.0 && n == count) d count sent left other n service m.class3_connections was.old e refl was.found (like was.old was.found) was.is h;
    }

-- one after the other
filtered : (b : Bool) (f : Waiting → List Frame) (w : Waiting) (ws : List Waiting) → flat_map f (cond b (w ∷ ws) ws) ≡ cond b (f w) [] ++ flat_map f ws
filtered true f w ws = refl
filtered false f w ws = refl

on_both : (d : Class3Connection) (count : ℕ) (first rest all : List Frame) (old mid e : Class3Connection) → all ≡ first ++ rest → HoldsOn d count first old mid → HoldsOn d count rest mid e → HoldsOn d count all old e
on_both d count first rest all old mid e is one two sent h =
    subst (λ (o : Option Frame). Holds d count o e) (sym (ap (last_or sent) is ∙ last_both sent first rest)) (two (last_or sent first) (one sent h))

lates_before : (d : Class3Connection) (count : ℕ) (left : Messaging) (waiting : List Waiting) (m : Messaging) → AllLike d.o_t_id left m → AnswerBefore d count m (flat_map (late_frames left) (filter (is_requested_by d.o_t_id count) waiting)) (late_replies waiting m)
lates_before d count left [] m like = λ e found. stays d count m.class3_connections e (record { old = e; found = found; is = refl })
lates_before d count left (w ∷ waiting) m like = λ e found.
    let next = late_reply w.asker w.service m in
    let mid = lates_before d count left waiting next (like_reply d.o_t_id left w.asker w.service m like) e found in
    let was = late_before d count left w.asker w.service m like mid.old mid.found in
    record {
      old = was.old;
      found = was.found;
      on = on_both d count (cond (is_requested_by d.o_t_id count w) (late_frames left w) []) (flat_map (late_frames left) (filter (is_requested_by d.o_t_id count) waiting)) _ was.old mid.old e
          (filtered (is_requested_by d.o_t_id count w) (late_frames left) w (filter (is_requested_by d.o_t_id count) waiting)) was.on mid.on;
    }

like_own : (id : ConnId) (left m : Messaging) → m.class3_connections ≡ left.class3_connections → AllLike id left m
like_own id left m is e found = record { old = e; found = subst (λ (ds : List Class3Connection). Found id ds e) is found; stream = refl; t_o_id = refl; last = refl }

left_stays : (id : ConnId) (clock : Ms) (m : Messaging) → Differ m → Leaves id same m.class3_connections (without_late_class3_connections clock m).class3_connections
unfolding without_late_class3_connections
left_stays id clock m differ = filter_leaves id (λ d. not (is_late_class3 clock d)) m.class3_connections differ

early_before : (d : Class3Connection) (count : ℕ) (clock : Ms) (left : Messaging) → AnswerBefore d count left (flat_map (late_frames left) (filter (is_requested_by d.o_t_id count) (late_waiting clock left))) (without_late_waiting clock left)
unfolding without_late_waiting
early_before d count clock left =
    lates_before d count left (late_waiting clock left) (record left { waiting = filter (λ w. not (is_late_request clock w)) left.waiting })
    (like_own d.o_t_id left (record left { waiting = filter (λ w. not (is_late_request clock w)) left.waiting }) refl)

aged_before : (d : Class3Connection) (count : ℕ) (clock : Ms) (m : Messaging) → Differ m → AnswerBefore d count m (late_replies_to d.o_t_id count clock m) (aged clock m)
unfolding aged
aged_before d count clock m differ e found =
    let mid = early_before d count clock (without_late_class3_connections clock m) e found in
    let was = left_stays d.o_t_id clock m differ mid.old mid.found in
    record {
      old = was.old;
      found = was.found;
      on = subst (λ (x : Class3Connection). HoldsOn d count (late_replies_to d.o_t_id count clock m) x e) was.is mid.on;
    }

abbrev TickGoes : Class3Connection → ℕ → AdapterTable → ℕ → Result Next StepFault → Type 0
TickGoes d count t ms outcome = Goes d count t (unless_refused outcome (late_replies_to d.o_t_id count (record { 0 = t.clock.0 + ms }) t.messaging)) (left_of t outcome)

advanced_goes : (d : Class3Connection) (count : ℕ) (t : AdapterTable) (ms : ℕ) → Differ t.messaging → TickGoes d count t ms (Ok (aged_next (advanced (clocked_table t ms))))
unfolding clocked_table expired_table produced_table messages_table
advanced_goes d count t ms differ = record {
  later = omega arith;
  profile = refl;
  stands = λ e found. inl (aged_before d count (record { 0 = t.clock.0 + ms }) t.messaging differ e found);
}

pub tick_goes : (d : Class3Connection) (count : ℕ) (t : AdapterTable) (ms : ℕ) → Differ t.messaging → TickGoes d count t ms (tick t ms)
unfolding tick
tick_goes d count t ms differ =
    either (TickGoes d count t ms) (nat_lt longest_tick ms) (Err TickTooLong) _ (unchanged d count t)
    (either (TickGoes d count t ms) (nat_lt clock_end (t.clock.0 + ms)) (Err ClockEnd) (Ok (aged_next (advanced (clocked_table t ms)))) (unchanged d count t) (advanced_goes d count t ms differ))
