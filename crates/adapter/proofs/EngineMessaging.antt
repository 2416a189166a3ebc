-- Messages of class 3 connections: what the engine does for each is what the definitions of the table say.
use Rattle.std.proofs.Common.{◌≡◌, ◌+◌, ℕ, nat_lt, Bool, true, false, cond, List, [], ◌∷◌, length, find, Option, Some, Ok, refl, sym, subst}
use Rattle.cip_encap.specs.Connected.{ConnectedFields}
use Rattle.messaging.specs.declared.class3.Class3Connection.{Class3Connection}
use Rattle.messaging.specs.Class3Connections.{is_class3, repeats_last}
use Rattle.messaging.specs.Sound.{EachOf}
use Rattle.adapter_table.specs.declared.table.AdapterTable.{AdapterTable}
use Rattle.adapter_table.specs.declared.table.Stream.{Stream}
use Rattle.adapter_table.specs.Connected.{service_in, repeated_table}
use Rattle.adapter_table.specs.Encapsulation.{framed, kept_reply, message_repeated, unit_replied}
use Rattle.adapter_replies.specs.declared.routes.RequestHeader.{RequestHeader}
use Rattle.adapter_replies.specs.declared.routes.Route.TheVariants as route
use Rattle.adapter_replies.specs.Messages.{repeated_answer, text_reply}
use Rattle.adapter_replies.specs.RouteLaws.{message_is}
use Rattle.adapter_replies.specs.Routes.{message_route, view_request_header}
use Rattle.adapter_replies.specs.Serving.{requested_on}

-- ---- what is found

found_step : {A : Type 0} (b : Bool) (P : A → Type 0) (first x : A) (rest : Option A) → cond b (Some first) rest ≡ Some x → P first → (rest ≡ Some x → P x) → P x
found_step true P first x rest is here more = let same : first ≡ x = cc in subst P same here
found_step false P first x rest is here more = more is

pub each_of_found : {A : Type 0} (P : A → Type 0) (p : A → Bool) (xs : List A) (x : A) → find p xs ≡ Some x → EachOf P xs → P x
each_of_found P p [] x is all = absurd cc
each_of_found P p (first ∷ xs) x is all = found_step (p first) P first x (find p xs) is all.0 (λ later. each_of_found P p xs x later all.1)

-- ---- the last message again

kept_is : (t : AdapterTable) (d : Class3Connection) (number : ℕ) (request_header : RequestHeader) (count service : ℕ) (reply : List ℕ) → kept_reply d count reply ≡ text_reply (message_route t d number request_header count service) reply
kept_is t d number request_header count service [] = refl
kept_is t d number request_header count service (first ∷ rest) = refl

repeated_is : (t : AdapterTable) (d : Class3Connection) (number : ℕ) (request_header : RequestHeader) (count service : ℕ) → framed number (view_request_header request_header) (message_repeated t d count) ≡ (repeated_answer (message_route t d number request_header count service) d.reply, repeated_table t d)
repeated_is t d number request_header count service = rw (kept_is t d number request_header count service d.reply) refl

-- ---- a message that is short enough

abbrev Found : AdapterTable → Stream → ConnectedFields → Option Class3Connection → Type 0
Found t stream unit found = find (is_class3 stream.number (record { 0 = unit.connection })) t.messaging.class3_connections ≡ found

-- the last one again
pub again_is : (t : AdapterTable) (stream : Stream) (request_header : RequestHeader) (unit : ConnectedFields) (d : Class3Connection) → Found t stream unit (Some d) → nat_lt d.o_t_size (2 + length unit.message) ≡ false → repeats_last d unit.count ≡ true → framed stream.number (view_request_header request_header) (unit_replied t stream (Ok unit)) ≡ (repeated_answer (message_route t d stream.number request_header unit.count (service_in unit.message)) d.reply, repeated_table t d)
again_is t stream request_header unit d found fits again = rw (found, fits, again) (repeated_is t d stream.number request_header unit.count (service_in unit.message))

-- a new one
pub new_is : (t : AdapterTable) (stream : Stream) (request_header : RequestHeader) (unit : ConnectedFields) (d : Class3Connection) → Found t stream unit (Some d) → nat_lt d.o_t_size (2 + length unit.message) ≡ false → repeats_last d unit.count ≡ false → framed stream.number (view_request_header request_header) (unit_replied t stream (Ok unit)) ≡ requested_on t (route.Connection (message_route t d stream.number request_header unit.count (service_in unit.message))) unit.message
new_is t stream request_header unit d found fits new =
    rw (found, fits, new) (sym (message_is t d stream.number request_header unit.count (service_in unit.message) unit.message))
