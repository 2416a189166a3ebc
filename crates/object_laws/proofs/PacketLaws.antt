-- The replies of a packet are those to its requests, one after another.
use Rattle.std.proofs.Common.{◌≡◌, ℕ, ◌*◌, ◌==◌, ◌&&◌, not, Bool, true, false, cond, is_some, List, [], ◌∷◌, length, nat_lt, nat_le, Option, Some, None, refl, sym, ◌∙◌, ap}
use Rattle.std.specs.List.{list_any}
use Rattle.base_lemmas.specs.Booleans.{either}
use Rattle.cip_types.specs.declared.names.Node.{Node}
use Rattle.cip_router.specs.declared.refusal.Status.TheVariants as status
use Rattle.cip_router.specs.Requests.{RouterRequestFields}
use Rattle.adapter_table.specs.declared.table.AdapterTable.{AdapterTable}
use Rattle.adapter_table.specs.Carrying.{asking, barred, carried, member_of, member_reply, next_start, object_answer, packet_answer, packed_answer, part_of, said_reply, sent_answer}
use Rattle.adapter_table.specs.Objects.{Attribute, Instance, ObjectAnswer, said, denied, resetting, answering, refusing, unrouted, alone_answer, attribute_of, get_list, got_items, instance_answer, instance_at, is_owning, most_listed, object_said, reset_by, set_list, set_of, single_of, word_of}
use Rattle.adapter_table.specs.Requests.{object_served, replied, served_object}
use Rattle.object_laws.proofs.RouteSteps.{done, peer_serves}
use Rattle.object_laws.specs.Packets.{Answers, IsPlainService, PacketsAreTheirServices}
use Rattle.object_laws.specs.Routes.{answered_with}

-- ---- what answers nothing but a reply

abbrev IsReply : ObjectAnswer → Type 0
IsReply (said by value) = Unit {0}
IsReply (denied why) = Unit {0}
IsReply (resetting kind) = ⊥
IsReply (answering by general content) = Unit {0}
IsReply (refusing named why) = ⊥
IsReply (unrouted words) = ⊥

reply_is : (t : AdapterTable) (service : ℕ) (answer : ObjectAnswer) → IsReply answer → object_served t service answer ≡ answered_with t (said_reply service answer) []
reply_is t service (said by value) is = refl
reply_is t service (denied why) is = refl
reply_is t service (resetting kind) is = absurd is
reply_is t service (answering by general content) is = refl
reply_is t service (refusing named why) is = absurd is
reply_is t service (unrouted words) is = absurd is

single_replies : (body : List ℕ) (found : Option Attribute) → IsReply (single_of body found)
single_replies body None = tt
single_replies body (Some attribute) = either IsReply (length body == 0) _ _ tt tt

set_replies : (found : Option Attribute) → IsReply (set_of found)
set_replies None = tt
set_replies (Some attribute) = tt

got_list_replies : (attributes : List Attribute) (body : List ℕ) → IsReply (get_list attributes body)
got_list_replies attributes [] = tt
got_list_replies attributes (low ∷ []) = tt
got_list_replies attributes (low ∷ high ∷ rest) =
    either IsReply (nat_lt (length rest) (2 * word_of low high)) _ _ tt
    (either IsReply (nat_lt (2 * word_of low high) (length rest)) _ _ tt
    (either IsReply (nat_lt most_listed (word_of low high)) _ _ tt
    (either IsReply (nat_le (length (low ∷ high ∷ got_items attributes rest)) 1400) _ _ tt tt)))

set_list_replies : (attributes : List Attribute) (body : List ℕ) → IsReply (set_list attributes body)
set_list_replies attributes [] = tt
set_list_replies attributes (low ∷ []) = tt
set_list_replies attributes (low ∷ high ∷ rest) =
    either IsReply (nat_lt (length rest) (2 * word_of low high)) _ _ tt (either IsReply (nat_lt most_listed (word_of low high)) _ _ tt tt)

never : (b : Bool) (x y : ObjectAnswer) → b ≡ false → IsReply y → IsReply (cond b x y)
never true x y is holds = absurd (let e = is in cc)
never false x y is holds = holds

both_never : (a b : Bool) → a ≡ false → (a && b) ≡ false
both_never true b is = absurd (let e = is in cc)
both_never false b is = refl

instance_replies : (owned : Bool) (service : ℕ) (attribute : Option ℕ) (body : List ℕ) (o : Instance) → (service == 0x05) ≡ false → IsReply (instance_answer owned service attribute body o)
instance_replies owned service attribute body o none =
    either IsReply (service == 0x0E && not (length o.attributes == 0)) _ _ (single_replies body (attribute_of o.attributes attribute))
    (either IsReply (service == 0x10 && o.sets) _ _ (set_replies (attribute_of o.attributes attribute))
    (either IsReply (service == 0x01 && o.gets_all) _ _ (either IsReply (length body == 0) _ _ tt tt)
    (either IsReply (service == 0x03 && o.sets) _ _ (got_list_replies o.attributes body)
    (either IsReply (service == 0x04 && o.sets) _ _ (set_list_replies o.attributes body)
    (never (service == 0x05 && o.resets) (reset_by owned body) (denied status.Service) (both_never (service == 0x05) o.resets none) tt)))))

found_replies : (owned : Bool) (service : ℕ) (attribute : Option ℕ) (body : List ℕ) (found : Option Instance) → (service == 0x05) ≡ false → IsReply (object_said owned service attribute body found)
found_replies owned service attribute body None none = tt
found_replies owned service attribute body (Some o) none = instance_replies owned service attribute body o none

alone_replies : (t : AdapterTable) (service class instance : ℕ) (attribute : Option ℕ) (body : List ℕ) → (service == 0x05) ≡ false → IsReply (alone_answer t service class instance attribute body)
unfolding alone_answer
alone_replies t service class instance attribute body none = found_replies (list_any is_owning t.rows) service attribute body (instance_at t class instance) none

-- ---- a service that carries none

carries_none : (t : AdapterTable) (service class instance : ℕ) (attribute : Option ℕ) (body : List ℕ) → (service == 0x0A) ≡ false → (service == 0x52) ≡ false → object_answer t service class instance attribute body ≡ alone_answer t service class instance attribute body
unfolding object_answer
carries_none t service class instance attribute body packet sending =
    ap (λ (b : Bool). cond (b && (class == 0x06 && (instance == 1 && is_some t.profile.description))) (sent_answer t body) (packed_answer t service class instance attribute body)) sending
    ∙ ap (λ (b : Bool). cond (b && (class == 0x02 && (instance == 1 && is_some t.profile.description))) (packet_answer t body) (alone_answer t service class instance attribute body)) packet

-- ---- one request

member_is : (t : AdapterTable) (bytes : List ℕ) (is : IsPlainService t bytes) → member_of t bytes ≡ said_reply is.service (alone_answer t is.service is.class is.instance is.attribute is.body)
member_is t bytes is =
    ap (λ (r : RouterRequestFields). member_reply t (carried 0x0A t.profile.objects r)) is.reads
    ∙ ap (λ (b : Bool). member_reply t (cond b (barred is.service status.Service) (asking is.service is.class is.instance is.attribute is.body))) is.served

served_is : (t : AdapterTable) (bytes : List ℕ) (is : IsPlainService t bytes) → served_object t is.service is.class is.instance is.attribute is.body ≡ answered_with t (member_of t bytes) []
unfolding served_object
served_is t bytes is =
    ap (object_served t is.service) (carries_none t is.service is.class is.instance is.attribute is.body is.no_packet is.no_sending)
    ∙ reply_is t is.service (alone_answer t is.service is.class is.instance is.attribute is.body) (alone_replies t is.service is.class is.instance is.attribute is.body is.no_reset)
    ∙ ap (λ reply. answered_with t reply []) (sym (member_is t bytes is))

member_answers : (t : AdapterTable) (peer : Node) (bytes : List ℕ) → IsPlainService t bytes → Answers t peer bytes (member_of t bytes)
member_answers t peer bytes is =
    ap done (peer_serves t peer bytes bytes is.service is.class is.instance is.attribute is.body refl is.reads is.served ∙ ap (replied peer) (served_is t bytes is))

-- ---- one after another

pub packets_are : PacketsAreTheirServices
packets_are t peer body [] plain = tt
packets_are t peer body (low ∷ []) plain = tt
packets_are t peer body (low ∷ high ∷ rest) plain = (member_answers t peer (part_of body (word_of low high) (next_start body rest)) plain.0, packets_are t peer body rest plain.1)
