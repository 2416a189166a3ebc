-- Messages of a class 3 connection: what is served of one, and the reply that the connection keeps
-- (Volume 1, chapter 3, transport class 3, and chapter 2, message router reply; Volume 2, chapter 2, SendUnitData).
use Rattle.std.specs.Prelude.{ℕ, ◌+◌, ◌-◌, nat_le, max, min, if◌then◌else◌, List, [], ◌∷◌, length, Option, Some, None}
use Rattle.cip_types.specs.declared.names.Ms.{Ms}
use Rattle.cip_types.specs.declared.names.Node.{Node}
use Rattle.cip_router.specs.declared.refusal.Status.TheVariants as status
use Rattle.cip_router.specs.Refusals.{status_fault}
use Rattle.cip_router.specs.Replies.{ReplyFields, refused, reply_text}
use Rattle.cip_router.specs.Requests.{RouterRequestFields, closing, opening}
use Rattle.messaging.specs.declared.class3.Class3Connection.{Class3Connection}
use Rattle.messaging.specs.Changes.{longest_answer, repeated, executed, referred_over}
use Rattle.adapter_table.specs.declared.table.AdapterTable.{AdapterTable}
use Rattle.adapter_table.specs.Messages.{with_messages}
use Rattle.adapter_table.specs.Requests.{Served, open_service, router_refusal, served}
use Rattle.adapter_table.specs.Own.{OwnRequest}

-- THE REPLY

-- the service of a message
abbrev pub service_in : List ℕ → ℕ
service_in [] = 0
service_in (service ∷ rest) = service

-- the most bytes of a reply: what the T->O size leaves beside the sequence count, at most those of the longest answer of an
-- application, and always those of a refusal
abbrev pub most_reply : ℕ → ℕ
most_reply size = max 4 (min (size - 2) (4 + longest_answer))

-- the reply to a service, if the T->O size has room for it, else that it is too large (0x11)
abbrev pub fitted : (size service : ℕ) → ReplyFields → ReplyFields
fitted size service reply =
    if nat_le (length (reply_text reply)) (most_reply size) then reply else refused service (status_fault status.ReplyTooLarge) None

-- its bytes
abbrev pub fitted_text : Class3Connection → ℕ → ReplyFields → List ℕ
fitted_text d service reply = reply_text (fitted d.t_o_size service reply)

-- WHAT IS SERVED

-- no message opens or closes a connection (0x08); all else is served as over no connection
abbrev pub connected_served : AdapterTable → Node → RouterRequestFields → Option Served
connected_served t peer (opening large request) = Some (router_refusal t (open_service large) status.Service)
connected_served t peer (closing request) = Some (router_refusal t 0x4E status.Service)
connected_served t peer other = served t peer other

-- THE TABLE AFTER IT

-- the next message is due before the connection's time-out
abbrev pub next_deadline : AdapterTable → Class3Connection → Ms
next_deadline t d = record { 0 = t.clock.0 + d.watchdog.0 }

-- the last message was repeated
abbrev pub repeated_table : AdapterTable → Class3Connection → AdapterTable
repeated_table t d = with_messages t (repeated t.messaging d.o_t_id (next_deadline t d))

-- the message of this count was executed, and the connection keeps the reply
abbrev pub executed_table : AdapterTable → Class3Connection → ℕ → List ℕ → AdapterTable
executed_table t d count reply = with_messages t (executed t.messaging d.o_t_id count reply (next_deadline t d))

-- the message of this count asks the application
abbrev pub asking_table : AdapterTable → Class3Connection → ℕ → OwnRequest → AdapterTable
asking_table t d count own = with_messages t (referred_over t.messaging d.peer d.o_t_id count own.service (next_deadline t d) t.clock)
