-- What holds of class 3 connections and of requests to the application at each table is kept by each change of them.
use Rattle.std.proofs.Common.{◌≡◌, ◌≤◌, ◌<◌, ℕ, ◌+◌, ◌^◌, ◌||◌, ◌-◌, nat_le, Bool, true, false, List, [], ◌∷◌, ◌++◌, length, length-append, not, filter, refl, sym, ◌∙◌, ap, subst, arith}
use Rattle.std.specs.List.{list_any}
use Rattle.std.proofs.lemmas.List.Folds.{list_any-append}
use Rattle.std.proofs.lemmas.Bool.{or_parts, ne_eqb}
use Rattle.std.proofs.lemmas.Bool.Decides.{nat_tests}
use Rattle.cip_types.specs.declared.names.ConnId.{ConnId}
use Rattle.cip_types.specs.declared.names.Ms.{Ms}
use Rattle.cip_types.specs.declared.names.Node.{Node}
use Rattle.cip_types.specs.declared.names.Triad.{Triad}
use Rattle.cip_types.specs.declared.ids.IdBlock.{IdBlock}
use Rattle.cip_types.specs.IdLaws.{IsLeft, ids_stay, next_differs}
use Rattle.cip_types.specs.Ids.{end_number, id_at, with_block}
use Rattle.messaging.specs.declared.class3.Class3Connection as kept
use Rattle.messaging.specs.declared.requests.Requester.{Requester}
use Rattle.messaging.specs.declared.requests.Requester.TheVariants.{Peer, Stream, Class3Connection}
use Rattle.messaging.specs.declared.requests.Waiting.{Waiting}
use Rattle.messaging.specs.declared.table.Messaging.{Messaging}
use Rattle.messaging.specs.Askers.{if_connected}
use Rattle.messaging.specs.Class3Connections.{most_class3_connections, has_class3_triad, has_class3_id, is_last_message, first_changed, executed_class3, repeated_class3, replied_class3}
use Rattle.messaging.specs.Changes.{most_waiting, no_number, fresh_messaging, can_be_answered, with_class3_connections, with_class3, without_class3, without_stream, referred_elsewhere, executed, repeated, lacks_room, waiting_for, referred, referred_over, answered, replied}
use Rattle.messaging.specs.Times.{late_text, late_reply, late_replies, late_waiting, is_late_class3, is_late_request, without_late_class3_connections, without_late_waiting, aged}
use Rattle.messaging.specs.Sound.{EachOf, TriadsDiffer, IdsDiffer, IsDrawn, NumbersRise, IsNumberedBelow, CanBeAnswered, IsSoundMessaging}
use Rattle.messaging.specs.Lemmas.EachOfLemmas.{each_left, each_more, each_weaker, each_passes, two_left, two_more, few_left}
use Rattle.messaging.specs.Lemmas.ChangedLemmas.{changed_each, changed_two, changed_length, changed_any, changed_found}

pub fresh_sound : (ids : List IdBlock) (next_id first : ℕ) → first ≤ no_number → IsSoundMessaging ids next_id (fresh_messaging first)
fresh_sound ids next_id first fits = record {
  few_class3_connections = omega arith;
  triads_differ = tt;
  ids_differ = tt;
  are_drawn = tt;
  few_waiting = omega arith;
  numbers_rise = tt;
  numbered = tt;
  answerable = tt;
  numbers_left = omega arith;
}

-- ids that were drawn for something else
pub sound_later : (ids : List IdBlock) (next_id later : ℕ) (m : Messaging) → next_id ≤ later → IsSoundMessaging ids next_id m → IsSoundMessaging ids later m
sound_later ids next_id later m le sound = record {
  few_class3_connections = sound.few_class3_connections;
  triads_differ = sound.triads_differ;
  ids_differ = sound.ids_differ;
  few_waiting = sound.few_waiting;
  numbers_rise = sound.numbers_rise;
  numbered = sound.numbered;
  answerable = sound.answerable;
  numbers_left = sound.numbers_left;
  are_drawn = each_weaker (IsDrawn ids next_id) (IsDrawn ids later) (λ d is. let below = is.below in record { id = is.id; begins = is.begins; below = omega arith }) m.class3_connections sound.are_drawn;
}

-- a further block of ids
pub sound_grown : (ids : List IdBlock) (block : IdBlock) (next_id : ℕ) (m : Messaging) → next_id ≤ end_number ids → IsSoundMessaging ids next_id m → IsSoundMessaging (with_block ids block) next_id m
sound_grown ids block next_id m left sound = record {
  few_class3_connections = sound.few_class3_connections;
  triads_differ = sound.triads_differ;
  ids_differ = sound.ids_differ;
  few_waiting = sound.few_waiting;
  numbers_rise = sound.numbers_rise;
  numbered = sound.numbered;
  answerable = sound.answerable;
  numbers_left = sound.numbers_left;
  are_drawn = each_weaker (IsDrawn ids next_id) (IsDrawn (with_block ids block) next_id) (λ d is. let below = is.below in record { id = is.id ∙ sym (ids_stay ids block d.opening (omega (arith, left, below)) is.begins); begins = is.begins; below = below }) m.class3_connections sound.are_drawn;
}

-- ---- those that are left

-- connections that are left
pub sound_left : (ids : List IdBlock) (next_id : ℕ) (m : Messaging) (test : kept.Class3Connection → Bool) → IsSoundMessaging ids next_id m → IsSoundMessaging ids next_id (with_class3_connections m (filter test m.class3_connections))
sound_left ids next_id m test sound =
    let can = can_be_answered (filter test m.class3_connections) in
    record {
      few_class3_connections = omega (arith, few_left test m.class3_connections, sound.few_class3_connections);
      triads_differ = two_left TriadsDiffer test m.class3_connections sound.triads_differ;
      ids_differ = two_left IdsDiffer test m.class3_connections sound.ids_differ;
      are_drawn = each_left (IsDrawn ids next_id) test m.class3_connections sound.are_drawn;
      few_waiting = omega (arith, few_left can m.waiting, sound.few_waiting);
      numbers_rise = two_left NumbersRise can m.waiting sound.numbers_rise;
      numbered = each_left (IsNumberedBelow m.next_number) can m.waiting sound.numbered;
      answerable = each_passes can m.waiting;
      numbers_left = sound.numbers_left;
    }

-- requests that are left
pub sound_referred : (ids : List IdBlock) (next_id : ℕ) (m : Messaging) (test : Waiting → Bool) → IsSoundMessaging ids next_id m → IsSoundMessaging ids next_id (record m { waiting = filter test m.waiting })
sound_referred ids next_id m test sound = record {
  few_class3_connections = sound.few_class3_connections;
  triads_differ = sound.triads_differ;
  ids_differ = sound.ids_differ;
  are_drawn = sound.are_drawn;
  few_waiting = omega (arith, few_left test m.waiting, sound.few_waiting);
  numbers_rise = two_left NumbersRise test m.waiting sound.numbers_rise;
  numbered = each_left (IsNumberedBelow m.next_number) test m.waiting sound.numbered;
  answerable = each_left (CanBeAnswered m.class3_connections) test m.waiting sound.answerable;
  numbers_left = sound.numbers_left;
}

pub without_class3_sound : (ids : List IdBlock) (next_id : ℕ) (m : Messaging) (triad : Triad) → IsSoundMessaging ids next_id m → IsSoundMessaging ids next_id (without_class3 m triad)
unfolding without_class3
without_class3_sound ids next_id m triad sound = sound_left ids next_id m _ sound

pub without_stream_sound : (ids : List IdBlock) (next_id : ℕ) (m : Messaging) (stream : ℕ) → IsSoundMessaging ids next_id m → IsSoundMessaging ids next_id (without_stream m stream)
unfolding without_stream
without_stream_sound ids next_id m stream sound =
    sound_left ids next_id (record m { waiting = referred_elsewhere stream m.waiting }) _ (sound_referred ids next_id m _ sound)

pub answered_sound : (ids : List IdBlock) (next_id : ℕ) (m : Messaging) (number : ℕ) → IsSoundMessaging ids next_id m → IsSoundMessaging ids next_id (answered m number)
unfolding answered
answered_sound ids next_id m number sound = sound_referred ids next_id m _ sound

-- ---- one connection is changed

-- a change that keeps the triad, the O->T id and the opening
pub record KeepsNames (f : kept.Class3Connection → kept.Class3Connection) : Type 0 where
  pub triad : (d : kept.Class3Connection) → (f d).triad ≡ d.triad
  pub id : (d : kept.Class3Connection) → (f d).o_t_id ≡ d.o_t_id
  pub opening : (d : kept.Class3Connection) → (f d).opening ≡ d.opening

drawn_kept : (ids : List IdBlock) (next_id : ℕ) (f : kept.Class3Connection → kept.Class3Connection) → KeepsNames f → (d : kept.Class3Connection) → IsDrawn ids next_id d → IsDrawn ids next_id (f d)
drawn_kept ids next_id f names d is = record {
  id = names.id d ∙ is.id ∙ ap (id_at ids) (sym (names.opening d));
  begins = let begins = is.begins in omega (arith, names.opening d, begins);
  below = subst (λ n. n < next_id) (sym (names.opening d)) is.below;
}

-- the changed connection may have executed another message
pub sound_changed : (ids : List IdBlock) (next_id : ℕ) (m : Messaging) (test : kept.Class3Connection → Bool) (f : kept.Class3Connection → kept.Class3Connection) → KeepsNames f → IsSoundMessaging ids next_id m → IsSoundMessaging ids next_id (with_class3_connections m (first_changed test f m.class3_connections))
sound_changed ids next_id m test f names sound =
    let changed = first_changed test f m.class3_connections in
    let can = can_be_answered changed in
    record {
      few_class3_connections = omega (arith, changed_length test f m.class3_connections, sound.few_class3_connections);
      triads_differ = changed_two TriadsDiffer test f (λ a b h. rw (names.triad a) h) (λ a b h. rw (names.triad b) h) m.class3_connections sound.triads_differ;
      ids_differ = changed_two IdsDiffer test f (λ a b h. rw (names.id a) h) (λ a b h. rw (names.id b) h) m.class3_connections sound.ids_differ;
      are_drawn = changed_each (IsDrawn ids next_id) test f (drawn_kept ids next_id f names) m.class3_connections sound.are_drawn;
      few_waiting = omega (arith, few_left can m.waiting, sound.few_waiting);
      numbers_rise = two_left NumbersRise can m.waiting sound.numbers_rise;
      numbered = each_left (IsNumberedBelow m.next_number) can m.waiting sound.numbered;
      answerable = each_passes can m.waiting;
      numbers_left = sound.numbers_left;
    }

-- A change that keeps the last message, too.
pub record KeepsLast (f : kept.Class3Connection → kept.Class3Connection) : Type 0 where
  pub names : KeepsNames f
  pub last : (d : kept.Class3Connection) → (f d).last ≡ d.last

last_kept : (f : kept.Class3Connection → kept.Class3Connection) → KeepsLast f → (id : ConnId) (count : ℕ) (d : kept.Class3Connection) → is_last_message id count (f d) ≡ is_last_message id count d
last_kept f keeps id count d = rw (keeps.names.id d, keeps.last d) refl

can_kept : (test : kept.Class3Connection → Bool) (f : kept.Class3Connection → kept.Class3Connection) → KeepsLast f → (class3_connections : List kept.Class3Connection) (from : Requester) → if_connected (λ id count. list_any (is_last_message id count) class3_connections) from ≡ true → if_connected (λ id count. list_any (is_last_message id count) (first_changed test f class3_connections)) from ≡ true
can_kept test f keeps class3_connections (Peer node) is = refl
can_kept test f keeps class3_connections (Stream number context) is = refl
can_kept test f keeps class3_connections (Class3Connection id count) is = changed_any (is_last_message id count) test f (last_kept f keeps id count) class3_connections ∙ is

-- the changed connection has executed no other message
pub sound_kept : (ids : List IdBlock) (next_id : ℕ) (m : Messaging) (test : kept.Class3Connection → Bool) (f : kept.Class3Connection → kept.Class3Connection) → KeepsLast f → IsSoundMessaging ids next_id m → IsSoundMessaging ids next_id (record m { class3_connections = first_changed test f m.class3_connections })
sound_kept ids next_id m test f keeps sound =
    let changed = first_changed test f m.class3_connections in
    let there = sound_changed ids next_id m test f keeps.names sound in
    record {
      few_class3_connections = there.few_class3_connections;
      triads_differ = there.triads_differ;
      ids_differ = there.ids_differ;
      are_drawn = there.are_drawn;
      few_waiting = sound.few_waiting;
      numbers_rise = sound.numbers_rise;
      numbered = sound.numbered;
      answerable = each_weaker (CanBeAnswered m.class3_connections) (CanBeAnswered changed) (λ w is. can_kept test f keeps m.class3_connections w.asker is) m.waiting sound.answerable;
      numbers_left = sound.numbers_left;
    }

executed_names : (count : ℕ) (reply : List ℕ) (deadline : Ms) → KeepsNames (executed_class3 count reply deadline)
executed_names count reply deadline = record { triad = λ d. refl; id = λ d. refl; opening = λ d. refl }

pub executed_sound : (ids : List IdBlock) (next_id : ℕ) (m : Messaging) (id : ConnId) (count : ℕ) (reply : List ℕ) (deadline : Ms) → IsSoundMessaging ids next_id m → IsSoundMessaging ids next_id (executed m id count reply deadline)
unfolding executed
executed_sound ids next_id m id count reply deadline sound =
    sound_changed ids next_id m (has_class3_id id) (executed_class3 count reply deadline) (executed_names count reply deadline) sound

repeated_keeps : (deadline : Ms) → KeepsLast (repeated_class3 deadline)
repeated_keeps deadline = record { names = record { triad = λ d. refl; id = λ d. refl; opening = λ d. refl }; last = λ d. refl }

pub repeated_sound : (ids : List IdBlock) (next_id : ℕ) (m : Messaging) (id : ConnId) (deadline : Ms) → IsSoundMessaging ids next_id m → IsSoundMessaging ids next_id (repeated m id deadline)
unfolding repeated
repeated_sound ids next_id m id deadline sound =
    sound_kept ids next_id m (has_class3_id id) (repeated_class3 deadline) (repeated_keeps deadline) sound

replied_keeps : (reply : List ℕ) → KeepsLast (replied_class3 reply)
replied_keeps reply = record { names = record { triad = λ d. refl; id = λ d. refl; opening = λ d. refl }; last = λ d. refl }

pub replied_sound : (ids : List IdBlock) (next_id : ℕ) (m : Messaging) (id : ConnId) (count : ℕ) (reply : List ℕ) → IsSoundMessaging ids next_id m → IsSoundMessaging ids next_id (replied m id count reply)
unfolding replied
replied_sound ids next_id m id count reply sound =
    sound_kept ids next_id m (is_last_message id count) (replied_class3 reply) (replied_keeps reply) sound

-- ---- a connection is opened

-- a connection whose id is drawn now, of a triad that no other has
pub record IsNewClass3 (ids : List IdBlock) (next_id : ℕ) (m : Messaging) (d : kept.Class3Connection) : Type 0 where
  pub room : length m.class3_connections < most_class3_connections
  pub triad : list_any (has_class3_triad d.triad) m.class3_connections ≡ false
  pub id : d.o_t_id ≡ id_at ids next_id
  pub opening : d.opening ≡ next_id
  pub left : IsLeft ids next_id

each_other : (p : kept.Class3Connection → Bool) (R : kept.Class3Connection → Type 0) → ((d : kept.Class3Connection) → p d ≡ false → R d) → (class3_connections : List kept.Class3Connection) → list_any p class3_connections ≡ false → EachOf R class3_connections
each_other p R other [] none = tt
each_other p R other (d ∷ class3_connections) none =
    let parts = or_parts (p d) (list_any p class3_connections) none in
    (other d parts.0, each_other p R other class3_connections parts.1)

other_triad : (a b : kept.Class3Connection) → has_class3_triad b.triad a ≡ false → TriadsDiffer a b
other_triad a b h = grind (arith, nat_tests)

other_id : (ids : List IdBlock) (next_id : ℕ) (a b : kept.Class3Connection) → IsLeft ids next_id → b.o_t_id ≡ id_at ids next_id → IsDrawn ids next_id a → IdsDiffer a b
other_id ids next_id a b left is drawn =
    ne_eqb b.o_t_id.0 a.o_t_id.0 (λ same. next_differs ids next_id a.opening left drawn.begins drawn.below
    (ap (λ (id : ConnId). id.0) (sym drawn.id) ∙ sym same ∙ ap (λ (id : ConnId). id.0) is))

or_more : (a b : Bool) → a ≡ true → (a || b) ≡ true
or_more true b is = refl
or_more false b is = absurd cc

can_more : (class3_connections : List kept.Class3Connection) (d : kept.Class3Connection) (from : Requester) → if_connected (λ id count. list_any (is_last_message id count) class3_connections) from ≡ true → if_connected (λ id count. list_any (is_last_message id count) (class3_connections ++ d ∷ [])) from ≡ true
can_more class3_connections d (Peer node) is = refl
can_more class3_connections d (Stream number context) is = refl
can_more class3_connections d (Class3Connection id count) is =
    list_any-append (is_last_message id count) class3_connections (d ∷ []) ∙ or_more (list_any (is_last_message id count) class3_connections) _ is

pub with_class3_sound : (ids : List IdBlock) (next_id later : ℕ) (m : Messaging) (d : kept.Class3Connection) → IsNewClass3 ids next_id m d → next_id < later → IsSoundMessaging ids next_id m → IsSoundMessaging ids later (with_class3 m d)
unfolding with_class3
with_class3_sound ids next_id later m d new lt sound =
    let grown = m.class3_connections ++ d ∷ [] in
    let drawn = (sound_later ids next_id later m (omega arith) sound).are_drawn in
    let opening = new.opening in
    let room = new.room in
    record {
      few_class3_connections = simp length-append (omega arith);
      triads_differ = two_more TriadsDiffer m.class3_connections d sound.triads_differ (each_other (has_class3_triad d.triad) (λ a. TriadsDiffer a d) (λ a h. other_triad a d h) m.class3_connections new.triad);
      ids_differ = two_more IdsDiffer m.class3_connections d sound.ids_differ (each_weaker (IsDrawn ids next_id) (λ a. IdsDiffer a d) (λ a is. other_id ids next_id a d new.left new.id is) m.class3_connections sound.are_drawn);
      are_drawn = each_more (IsDrawn ids later) m.class3_connections d drawn (record { id = new.id ∙ ap (id_at ids) (sym new.opening); begins = let begins = new.left.begins in omega (arith, begins, opening); below = omega arith });
      few_waiting = sound.few_waiting;
      numbers_rise = sound.numbers_rise;
      numbered = sound.numbered;
      answerable = each_weaker (CanBeAnswered m.class3_connections) (CanBeAnswered grown) (λ w is. can_more m.class3_connections d w.asker is) m.waiting sound.answerable;
      numbers_left = sound.numbers_left;
    }

-- ---- the application is asked

pub referred_sound : (ids : List IdBlock) (next_id : ℕ) (m : Messaging) (peer : Node) (from : Requester) (service : ℕ) (clock : Ms) → lacks_room m ≡ false → can_be_answered m.class3_connections (waiting_for m.next_number peer from service clock) ≡ true → IsSoundMessaging ids next_id m → IsSoundMessaging ids next_id (referred m peer from service clock)
unfolding referred
referred_sound ids next_id m peer from service clock room can sound =
    let new = waiting_for m.next_number peer from service clock in
    let parts = or_parts (nat_le most_waiting (length m.waiting)) (nat_le no_number m.next_number) room in
    let few : length m.waiting < 16 = grind (arith, nat_tests, parts.0) in
    let left : m.next_number < 2 ^ 64 - 1 = grind (arith, nat_tests, parts.1) in
    record {
      few_class3_connections = sound.few_class3_connections;
      triads_differ = sound.triads_differ;
      ids_differ = sound.ids_differ;
      are_drawn = sound.are_drawn;
      few_waiting = simp length-append (omega arith);
      numbers_rise = two_more NumbersRise m.waiting new sound.numbers_rise sound.numbered;
      numbered = each_more (IsNumberedBelow (m.next_number + 1)) m.waiting new (each_weaker (IsNumberedBelow m.next_number) (IsNumberedBelow (m.next_number + 1)) (λ w lt. omega (arith, lt)) m.waiting sound.numbered) (omega arith);
      answerable = each_more (CanBeAnswered m.class3_connections) m.waiting new sound.answerable can;
      numbers_left = omega (arith, left);
    }

-- a message leaves the room that there is
room_left : (n k next : ℕ) → k ≤ n → (nat_le most_waiting n || nat_le no_number next) ≡ false → (nat_le most_waiting k || nat_le no_number next) ≡ false
room_left n k next le room =
    let parts = or_parts (nat_le most_waiting n) (nat_le no_number next) room in
    let few : nat_le most_waiting k ≡ false = grind (arith, nat_tests, parts.0) in
    rw (few, parts.1) refl

is_executed : (id : ConnId) (count : ℕ) (reply : List ℕ) (deadline : Ms) (d : kept.Class3Connection) → has_class3_id id d ≡ true → is_last_message id count (executed_class3 count reply deadline d) ≡ true
is_executed id count reply deadline d is = rw is (grind (arith, nat_tests))

-- the connection of the message is open, and the application can be asked
pub referred_over_sound : (ids : List IdBlock) (next_id : ℕ) (m : Messaging) (peer : Node) (id : ConnId) (count service : ℕ) (deadline clock : Ms) → list_any (has_class3_id id) m.class3_connections ≡ true → lacks_room m ≡ false → IsSoundMessaging ids next_id m → IsSoundMessaging ids next_id (referred_over m peer id count service deadline clock)
unfolding referred_over executed
referred_over_sound ids next_id m peer id count service deadline clock found room sound =
    let change = executed_class3 count [] deadline in
    let next = with_class3_connections m (first_changed (has_class3_id id) change m.class3_connections) in
    referred_sound ids next_id next peer (Class3Connection id count) service clock
    (room_left (length m.waiting) (length next.waiting) m.next_number (few_left (can_be_answered next.class3_connections) m.waiting) room)
    (changed_found (is_last_message id count) (has_class3_id id) change (is_executed id count [] deadline) m.class3_connections found)
    (sound_changed ids next_id m (has_class3_id id) change (executed_names count [] deadline) sound)

-- ---- time

late_reply_sound : (ids : List IdBlock) (next_id : ℕ) (from : Requester) (service : ℕ) (m : Messaging) → IsSoundMessaging ids next_id m → IsSoundMessaging ids next_id (late_reply from service m)
late_reply_sound ids next_id (Peer node) service m sound = sound
late_reply_sound ids next_id (Stream number context) service m sound = sound
late_reply_sound ids next_id (Class3Connection id count) service m sound = replied_sound ids next_id m id count (late_text service) sound

late_replies_sound : (ids : List IdBlock) (next_id : ℕ) (waiting : List Waiting) (m : Messaging) → IsSoundMessaging ids next_id m → IsSoundMessaging ids next_id (late_replies waiting m)
late_replies_sound ids next_id [] m sound = sound
late_replies_sound ids next_id (w ∷ waiting) m sound =
    late_replies_sound ids next_id waiting (late_reply w.asker w.service m) (late_reply_sound ids next_id w.asker w.service m sound)

pub without_late_class3_connections_sound : (ids : List IdBlock) (next_id : ℕ) (clock : Ms) (m : Messaging) → IsSoundMessaging ids next_id m → IsSoundMessaging ids next_id (without_late_class3_connections clock m)
unfolding without_late_class3_connections
without_late_class3_connections_sound ids next_id clock m sound = sound_left ids next_id m (λ d. not (is_late_class3 clock d)) sound

pub without_late_waiting_sound : (ids : List IdBlock) (next_id : ℕ) (clock : Ms) (m : Messaging) → IsSoundMessaging ids next_id m → IsSoundMessaging ids next_id (without_late_waiting clock m)
unfolding without_late_waiting
without_late_waiting_sound ids next_id clock m sound =
    let left = λ (w : Waiting). not (is_late_request clock w) in
    late_replies_sound ids next_id (late_waiting clock m) (record m { waiting = filter left m.waiting }) (sound_referred ids next_id m left sound)

pub aged_sound : (ids : List IdBlock) (next_id : ℕ) (clock : Ms) (m : Messaging) → IsSoundMessaging ids next_id m → IsSoundMessaging ids next_id (aged clock m)
unfolding aged
aged_sound ids next_id clock m sound =
    without_late_waiting_sound ids next_id clock (without_late_class3_connections clock m) (without_late_class3_connections_sound ids next_id clock m sound)
