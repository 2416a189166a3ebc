-- What holds of each class 3 connection, and of each request that waits, is kept by each change that opens no connection and
-- asks nothing; and what is left when a stream or a request ends.
use Rattle.std.proofs.Common.{◌≡◌, ℕ, Bool, true, not, List, [], ◌∷◌, filter, refl, ◌∙◌}
use Rattle.cip_types.specs.declared.names.ConnId.{ConnId}
use Rattle.cip_types.specs.declared.names.Ms.{Ms}
use Rattle.cip_types.specs.declared.names.Triad.{Triad}
use Rattle.messaging.specs.declared.class3.Class3Connection as kept
use Rattle.messaging.specs.declared.requests.Requester.{Requester}
use Rattle.messaging.specs.declared.requests.Requester.TheVariants.{Peer, Stream, Class3Connection}
use Rattle.messaging.specs.declared.requests.Waiting.{Waiting}
use Rattle.messaging.specs.declared.table.Messaging.{Messaging}
use Rattle.messaging.specs.Askers.{is_over_stream}
use Rattle.messaging.specs.Class3Connections.{is_on_stream, has_class3_id, is_last_message, first_changed, executed_class3, repeated_class3, replied_class3}
use Rattle.messaging.specs.Changes.{can_be_answered, with_class3_connections, without_class3, without_stream, referred_elsewhere, executed, repeated, answered, replied, has_request_number}
use Rattle.messaging.specs.Times.{is_late_class3, is_late_request, late_text, late_reply, late_replies, late_waiting, without_late_class3_connections, without_late_waiting, aged}
use Rattle.messaging.specs.Sound.{EachOf}
use Rattle.messaging.specs.Lemmas.EachOfLemmas.{each_left, each_passes}
use Rattle.messaging.specs.Lemmas.ChangedLemmas.{changed_each}

-- ---- what is kept

-- facts of each connection and of each request hold after it, too; and no number was given
pub record Keeps (P : kept.Class3Connection → Type 0) (Q : Waiting → Type 0) (m next : Messaging) : Type 0 where
  pub class3_connections : EachOf P m.class3_connections → EachOf P next.class3_connections
  pub waiting : EachOf Q m.waiting → EachOf Q next.waiting
  pub number : next.next_number ≡ m.next_number

pub left_keeps : (P : kept.Class3Connection → Type 0) (Q : Waiting → Type 0) (m : Messaging) (test : kept.Class3Connection → Bool) → Keeps P Q m (with_class3_connections m (filter test m.class3_connections))
left_keeps P Q m test = record {
  class3_connections = each_left P test m.class3_connections;
  waiting = each_left Q (can_be_answered (filter test m.class3_connections)) m.waiting;
  number = refl;
}

pub without_class3_keeps : (P : kept.Class3Connection → Type 0) (Q : Waiting → Type 0) (m : Messaging) (triad : Triad) → Keeps P Q m (without_class3 m triad)
unfolding without_class3
without_class3_keeps P Q m triad = left_keeps P Q m _

pub without_stream_keeps : (P : kept.Class3Connection → Type 0) (Q : Waiting → Type 0) (m : Messaging) (stream : ℕ) → Keeps P Q m (without_stream m stream)
unfolding without_stream
without_stream_keeps P Q m stream =
    let left = λ (d : kept.Class3Connection). not (is_on_stream stream d) in
    let elsewhere = λ (w : Waiting). not (is_over_stream stream w.asker) in
    record {
      class3_connections = each_left P left m.class3_connections;
      waiting = λ all. each_left Q (can_be_answered (filter left m.class3_connections)) (filter elsewhere m.waiting) (each_left Q elsewhere m.waiting all);
      number = refl;
    }

pub executed_keeps : (P : kept.Class3Connection → Type 0) (Q : Waiting → Type 0) (m : Messaging) (id : ConnId) (count : ℕ) (reply : List ℕ) (deadline : Ms) → ((d : kept.Class3Connection) → P d → P (executed_class3 count reply deadline d)) → Keeps P Q m (executed m id count reply deadline)
unfolding executed
executed_keeps P Q m id count reply deadline keeps =
    let changed = first_changed (has_class3_id id) (executed_class3 count reply deadline) m.class3_connections in
    record {
      class3_connections = changed_each P (has_class3_id id) (executed_class3 count reply deadline) keeps m.class3_connections;
      waiting = each_left Q (can_be_answered changed) m.waiting;
      number = refl;
    }

pub repeated_keeps : (P : kept.Class3Connection → Type 0) (Q : Waiting → Type 0) (m : Messaging) (id : ConnId) (deadline : Ms) → ((d : kept.Class3Connection) → P d → P (repeated_class3 deadline d)) → Keeps P Q m (repeated m id deadline)
unfolding repeated
repeated_keeps P Q m id deadline keeps = record {
  class3_connections = changed_each P (has_class3_id id) (repeated_class3 deadline) keeps m.class3_connections;
  waiting = λ all. all;
  number = refl;
}

pub replied_keeps : (P : kept.Class3Connection → Type 0) (Q : Waiting → Type 0) (m : Messaging) (id : ConnId) (count : ℕ) (reply : List ℕ) → ((d : kept.Class3Connection) → P d → P (replied_class3 reply d)) → Keeps P Q m (replied m id count reply)
unfolding replied
replied_keeps P Q m id count reply keeps = record {
  class3_connections = changed_each P (is_last_message id count) (replied_class3 reply) keeps m.class3_connections;
  waiting = λ all. all;
  number = refl;
}

pub answered_keeps : (P : kept.Class3Connection → Type 0) (Q : Waiting → Type 0) (m : Messaging) (number : ℕ) → Keeps P Q m (answered m number)
unfolding answered
answered_keeps P Q m number = record {
  class3_connections = λ all. all;
  waiting = each_left Q _ m.waiting;
  number = refl;
}

pub keeps_both : (P : kept.Class3Connection → Type 0) (Q : Waiting → Type 0) (m next last : Messaging) → Keeps P Q m next → Keeps P Q next last → Keeps P Q m last
keeps_both P Q m next last first second = record {
  class3_connections = λ all. second.class3_connections (first.class3_connections all);
  waiting = λ all. second.waiting (first.waiting all);
  number = second.number ∙ first.number;
}

-- ---- time

-- a late reply keeps it
abbrev pub LateRepliesKeep : (kept.Class3Connection → Type 0) → Type 0
LateRepliesKeep P = (service : ℕ) (d : kept.Class3Connection) → P d → P (replied_class3 (late_text service) d)

late_reply_keeps : (P : kept.Class3Connection → Type 0) (Q : Waiting → Type 0) → LateRepliesKeep P → (from : Requester) (service : ℕ) (m : Messaging) → Keeps P Q m (late_reply from service m)
late_reply_keeps P Q keeps (Peer node) service m = record { class3_connections = λ all. all; waiting = λ all. all; number = refl }
late_reply_keeps P Q keeps (Stream number context) service m = record { class3_connections = λ all. all; waiting = λ all. all; number = refl }
late_reply_keeps P Q keeps (Class3Connection id count) service m = replied_keeps P Q m id count (late_text service) (keeps service)

late_replies_keep : (P : kept.Class3Connection → Type 0) (Q : Waiting → Type 0) → LateRepliesKeep P → (waiting : List Waiting) (m : Messaging) → Keeps P Q m (late_replies waiting m)
late_replies_keep P Q keeps [] m = record { class3_connections = λ all. all; waiting = λ all. all; number = refl }
late_replies_keep P Q keeps (w ∷ waiting) m =
    keeps_both P Q m (late_reply w.asker w.service m) (late_replies waiting (late_reply w.asker w.service m)) (late_reply_keeps P Q keeps w.asker w.service m) (late_replies_keep P Q keeps waiting (late_reply w.asker w.service m))

pub aged_keeps : (P : kept.Class3Connection → Type 0) (Q : Waiting → Type 0) → LateRepliesKeep P → (clock : Ms) (m : Messaging) → Keeps P Q m (aged clock m)
unfolding aged without_late_waiting without_late_class3_connections
aged_keeps P Q keeps clock m =
    let left = with_class3_connections m (filter (λ (d : kept.Class3Connection). not (is_late_class3 clock d)) m.class3_connections) in
    let referred = record left { waiting = filter (λ (w : Waiting). not (is_late_request clock w)) left.waiting } in
    let here : Keeps P Q left referred = record { class3_connections = λ all. all; waiting = each_left Q _ left.waiting; number = refl } in
    keeps_both P Q m left (late_replies (late_waiting clock left) referred)
    (left_keeps P Q m _)
    (keeps_both P Q left referred (late_replies (late_waiting clock left) referred) here (late_replies_keep P Q keeps (late_waiting clock left) referred))

-- ---- what is left

-- no connection lives on a stream that ended, and no answer goes over it
pub ended_class3_connections : (m : Messaging) (stream : ℕ) → EachOf (λ d. not (is_on_stream stream d) ≡ true) (without_stream m stream).class3_connections
unfolding without_stream
ended_class3_connections m stream = each_passes (λ d. not (is_on_stream stream d)) m.class3_connections

pub ended_waiting : (m : Messaging) (stream : ℕ) → EachOf (λ w. not (is_over_stream stream w.asker) ≡ true) (without_stream m stream).waiting
unfolding without_stream
ended_waiting m stream = each_left _ _ (referred_elsewhere stream m.waiting) (each_passes (λ (w : Waiting). not (is_over_stream stream w.asker)) m.waiting)

-- a request that was answered waits no more
pub answered_once : (m : Messaging) (number : ℕ) → EachOf (λ w. not (has_request_number number w) ≡ true) (answered m number).waiting
unfolding answered
answered_once m number = each_passes (λ w. not (has_request_number number w)) m.waiting
