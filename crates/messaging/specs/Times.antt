-- Time at class 3 connections and at requests to the application: which end at a time, and when the first one does
-- (Volume 1, chapter 3, inactivity watchdog; chapter 2, message router response).
use Rattle.std.specs.Prelude.{ℕ, ◌-◌, ◌^◌, ◌==◌, ◌&&◌, ◌||◌, not, nat_lt, nat_le, min, Bool, List, [], ◌∷◌, filter}
use Rattle.std.specs.List.{list_any}
use Rattle.cip_types.specs.declared.names.Ms.{Ms}
use Rattle.cip_types.specs.Order.{in_order}
use Rattle.cip_fwdopen.specs.Reply.{reply_service}
use Rattle.messaging.specs.declared.class3.Class3Connection as kept
use Rattle.messaging.specs.declared.requests.Requester.{Requester}
use Rattle.messaging.specs.declared.requests.Requester.TheVariants.{Peer, Stream, Class3Connection}
use Rattle.messaging.specs.declared.requests.Waiting.{Waiting}
use Rattle.messaging.specs.declared.table.Messaging.{Messaging}
use Rattle.messaging.specs.Changes.{with_class3_connections, replied}

-- ---- class 3 connections

-- no message came before the connection's deadline
abbrev pub is_late_class3 : Ms → kept.Class3Connection → Bool
is_late_class3 clock d = nat_le d.deadline.0 clock.0

-- by deadlines, and then in the order of openings
abbrev pub by_class3_deadline : kept.Class3Connection → kept.Class3Connection → Bool
by_class3_deadline d other =
    nat_lt d.deadline.0 other.deadline.0 || (d.deadline.0 == other.deadline.0 && nat_lt d.opening other.opening)

-- those that expire
abbrev pub late_class3_connections : Ms → Messaging → List kept.Class3Connection
late_class3_connections clock m = in_order by_class3_deadline (filter (is_late_class3 clock) m.class3_connections)

-- those that do not
abbrev pub on_time : Ms → List kept.Class3Connection → List kept.Class3Connection
on_time clock class3_connections = filter (λ d. not (is_late_class3 clock d)) class3_connections

-- the late ones end, and what they asked waits no more
unfoldable pub without_late_class3_connections : Ms → Messaging → Messaging
without_late_class3_connections clock m = with_class3_connections m (on_time clock m.class3_connections)

-- ---- requests to the application

-- the application did not answer before the deadline
abbrev pub is_late_request : Ms → Waiting → Bool
is_late_request clock w = nat_le w.deadline.0 clock.0

-- the requests that the device answers in place of the application, in the order of their numbers
abbrev pub late_waiting : Ms → Messaging → List Waiting
late_waiting clock m = filter (is_late_request clock) m.waiting

-- the reply to such a request: its service with the reply bit, and the general status 1F, vendor specific, with no data
abbrev pub late_text : ℕ → List ℕ
late_text service = reply_service service ∷ 0 ∷ 0x1F ∷ 0 ∷ []

-- the reply is kept for a repetition of the message, if a class 3 connection brought the request
abbrev pub late_reply : Requester → ℕ → Messaging → Messaging
late_reply (Peer node) service m = m
late_reply (Stream number context) service m = m
late_reply (Class3Connection id count) service m = replied m id count (late_text service)

abbrev pub late_replies : List Waiting → Messaging → Messaging
late_replies [] m = m
late_replies (w ∷ waiting) m = late_replies waiting (late_reply w.asker w.service m)

-- they wait no more
unfoldable pub without_late_waiting : Ms → Messaging → Messaging
without_late_waiting clock m =
    late_replies (late_waiting clock m) (record m { waiting = filter (λ w. not (is_late_request clock w)) m.waiting })

-- ---- a time comes

-- Late connections end. Then late requests are answered, which those that such a connection asked are not.
unfoldable pub aged : Ms → Messaging → Messaging
aged clock m = without_late_waiting clock (without_late_class3_connections clock m)

-- no deadline has come
abbrev pub is_idle : Ms → Messaging → Bool
is_idle clock m = not (list_any (is_late_class3 clock) m.class3_connections || list_any (is_late_request clock) m.waiting)

-- ---- the first moment

-- the end of time, which no clock reaches
abbrev pub no_moment : ℕ
no_moment = 2 ^ 64 - 1

-- the first of some moments, and the end of time without one
abbrev pub first_of : {A : Type 0} → (A → ℕ) → List A → ℕ
first_of moment [] = no_moment
first_of moment (x ∷ xs) = min (moment x) (first_of moment xs)

abbrev pub class3_end : kept.Class3Connection → ℕ
class3_end d = d.deadline.0

abbrev pub request_end : Waiting → ℕ
request_end w = w.deadline.0

-- when the first connection expires or the first request is answered in place of the application, if only time passes
unfoldable pub first_moment : Messaging → ℕ
first_moment m = min (first_of class3_end m.class3_connections) (first_of request_end m.waiting)
