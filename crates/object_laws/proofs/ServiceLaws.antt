-- What the services of objects leave and report.
use Rattle.std.proofs.Common.{◌≡◌, ◌≤◌, ◌⊎◌, inl, inr, ℕ, ◌==◌, ◌&&◌, ◌+◌, ◌*◌, ◌%◌, drop, nat_lt, nat_le, not, is_some, take, Bool, true, false, cond, List, [], ◌∷◌, length, find, Option, Some, None, Result, Ok, Err, suc, refl, sym, ◌∙◌, ap, subst, arith, ne_eqb}
use Rattle.std.specs.List.{list_any}
use Rattle.std.proofs.lemmas.Bool.{le-ltb}
use Rattle.std.proofs.lemmas.Bool.Decides.{nat_tests}
use Rattle.base_lemmas.specs.Booleans.{either}
use Rattle.cip_types.specs.declared.names.Node.{Node}
use Rattle.cip_types.specs.Fields.{fields_at}
use Rattle.cip_types.specs.Texts.{Tailed}
use Rattle.cip_encap.specs.declared.message.EncapFault.{EncapFault}
use Rattle.cip_encap.specs.declared.packet.ItemFault.{ItemFault}
use Rattle.cip_encap.specs.Message.{MessageFields, header_widths}
use Rattle.cip_encap.specs.Packet.{PacketFields}
use Rattle.cip_events.specs.declared.event.Event.{Event}
use Rattle.cip_events.specs.declared.event.Event.TheVariants as event
use Rattle.cip_events.specs.declared.event.Notice.{Notice}
use Rattle.cip_router.specs.Commands.{command_of, is_silent}
use Rattle.cip_router.specs.Frames.{request_header_of, frame_fields, frame_reading, request_header_in, wrong_length_of}
use Rattle.cip_router.specs.Requests.{RouterRequestFields, object, router_request_reading}
use Rattle.cip_router.specs.declared.object_service.ObjectService.TheVariants.{GetSingle}
use Rattle.adapter_table.specs.declared.profile.Description.{Description}
use Rattle.adapter_table.specs.declared.table.AdapterTable.{AdapterTable}
use Rattle.adapter_table.specs.declared.table.Stream.{Stream}
use Rattle.adapter_table.specs.Encapsulation.{Handled, items_for, request_handled, packet_replied, handled, frame_answer, stream_answer, frame_of, frame}
use Rattle.adapter_table.specs.Inquiries.{inquiry_reply}
use Rattle.adapter_table.specs.Lemmas.ItemLemmas.{items_any}
use Rattle.adapter_table.specs.Lemmas.RequestLemmas.{next_is}
use Rattle.adapter_table.specs.Objects.{Attribute, Instance, identity_instance, standing_of, described_at, instance_at, is_numbered, is_owning, ObjectAnswer, said, denied, resetting, attribute_of, single_of, set_of, all_of, reset_of, reset_by, instance_answer, object_said, alone_answer, get_list, set_list, got_items, most_listed, word_of, answering, refusing, unrouted}
use Rattle.adapter_table.specs.Carrying.{Carried, barred, asking, carried, are_placed, inner_answer, is_packet, is_sending, member_replies, most_members, naming, object_answer, packed_answer, packet_answer, packet_data, routed_answer, sent_answer}
use Rattle.adapter_table.specs.Own.{OwnRequest, own_of, is_own_class}
use Rattle.adapter_table.specs.Requests.{Next, object_served, served_object, served, requested_by, requested}
use Rattle.adapter_table.specs.Step.{adapter_step}
use Rattle.adapter_table.specs.Streams.{is_stream, has_session}
use Rattle.adapter_table.specs.Lemmas.FrameLemmas.{answer_has}
use Rattle.object_laws.specs.Services.{IsServiceRequest, IsServiceFrame, Brings, IsGet, GetsChangeNothing, IsOneReset, ResetsChangeNothing}

-- ---- what an event that brings a service leaves

-- the table, and notices of which it holds
abbrev Leaves : (List Notice → Type 0) → AdapterTable → AdapterTable → List Notice → Type 0
Leaves N t next notices = (next ≡ t) × N notices

abbrev NextLeaves : (List Notice → Type 0) → AdapterTable → Next → Type 0
NextLeaves N t next = Leaves N t next.1 next.0.notices

abbrev HandledLeaves : (List Notice → Type 0) → AdapterTable → Handled → Type 0
HandledLeaves N t done = Leaves N t done.table done.notices

-- it holds of no notices, and of those that the service brings
record Serves (N : List Notice → Type 0) (t : AdapterTable) (service : ℕ) : Type 0 where
  none : N []
  each : (class instance : ℕ) (attribute : Option ℕ) (body : List ℕ) → N (object_served t service (object_answer t service class instance attribute body)).notices

object_stays : (t : AdapterTable) (service : ℕ) (answer : ObjectAnswer) → (object_served t service answer).table ≡ t
object_stays t service (said by value) = refl
object_stays t service (denied why) = refl
object_stays t service (resetting kind) = refl
object_stays t service (answering by general content) = refl
object_stays t service (refusing named why) = refl
object_stays t service (unrouted words) = refl

service_leaves : (N : List Notice → Type 0) (t : AdapterTable) (service : ℕ) → Serves N t service → (class instance : ℕ) (attribute : Option ℕ) (body : List ℕ) → Leaves N t (served_object t service class instance attribute body).table (served_object t service class instance attribute body).notices
unfolding served_object
service_leaves N t service serves class instance attribute body =
    (object_stays t service (object_answer t service class instance attribute body), serves.each class instance attribute body)

-- the class is none of the maker's own
pub none_own : (objects : List ℕ) (service class instance : ℕ) (attribute : Option ℕ) (body : List ℕ) → is_own_class objects class ≡ false → own_of objects (object service class instance attribute body) ≡ None
none_own objects service class instance attribute body served = rw served refl

answered_leaves : (N : List Notice → Type 0) (t : AdapterTable) (service : ℕ) → Serves N t service → (peer : Node) (class instance : ℕ) (attribute : Option ℕ) (body : List ℕ) (asks : Option OwnRequest) → asks ≡ None → NextLeaves N t (requested_by t peer (object service class instance attribute body) asks)
answered_leaves N t service serves peer class instance attribute body None none = service_leaves N t service serves class instance attribute body
answered_leaves N t service serves peer class instance attribute body (Some own) none = absurd (let e = none in cc)

requested_leaves : (N : List Notice → Type 0) (t : AdapterTable) (service : ℕ) → Serves N t service → (peer : Node) (bytes : List ℕ) → IsServiceRequest t.profile.objects bytes service → NextLeaves N t (requested t peer bytes)
unfolding requested
requested_leaves N t service serves peer bytes is =
    subst (λ (r : RouterRequestFields). NextLeaves N t (requested_by t peer r (own_of t.profile.objects r))) (sym is.reads)
    (answered_leaves N t service serves peer is.class is.instance is.attribute is.body (own_of t.profile.objects (object service is.class is.instance is.attribute is.body))
    (none_own t.profile.objects service is.class is.instance is.attribute is.body is.served))

handled_leaves : (N : List Notice → Type 0) (t : AdapterTable) (service : ℕ) → Serves N t service → (stream : Stream) (context class instance : ℕ) (attribute : Option ℕ) (body : List ℕ) (asks : Option OwnRequest) → asks ≡ None → HandledLeaves N t (request_handled t stream context (object service class instance attribute body) asks)
handled_leaves N t service serves stream context class instance attribute body None none = service_leaves N t service serves class instance attribute body
handled_leaves N t service serves stream context class instance attribute body (Some own) none = absurd (let e = none in cc)

packet_leaves : (N : List Notice → Type 0) (t : AdapterTable) (service : ℕ) → Serves N t service → (stream : Stream) (context : ℕ) (packet : PacketFields) → IsServiceRequest t.profile.objects packet.payload service → HandledLeaves N t (packet_replied t stream context (Ok packet))
packet_leaves N t service serves stream context packet is =
    subst (λ (r : RouterRequestFields). HandledLeaves N t (request_handled t stream context r (own_of t.profile.objects r))) (sym is.reads)
    (handled_leaves N t service serves stream context is.class is.instance is.attribute is.body (own_of t.profile.objects (object service is.class is.instance is.attribute is.body))
    (none_own t.profile.objects service is.class is.instance is.attribute is.body is.served))

-- as the device reads the items
items_leave : (N : List Notice → Type 0) (t : AdapterTable) (service : ℕ) → Serves N t service → (stream : Stream) (context : ℕ) (reading : Result PacketFields ItemFault) → ((packet : PacketFields) → reading ≡ Ok packet → IsServiceRequest t.profile.objects packet.payload service) → HandledLeaves N t (packet_replied t stream context reading)
items_leave N t service serves stream context (Err fault) asks = (refl, serves.none)
items_leave N t service serves stream context (Ok packet) asks = packet_leaves N t service serves stream context packet (asks packet refl)

asks_as_read : (t : AdapterTable) (bytes : List ℕ) (service : ℕ) (is : IsServiceFrame t.profile.objects bytes service) (packet : PacketFields) → items_for t.profile.description is.message.payload ≡ Ok packet → IsServiceRequest t.profile.objects packet.payload service
asks_as_read t bytes service is packet reads =
    let both : ◌≡◌ {A = Result PacketFields ItemFault} (Ok is.packet) (Ok packet) = sym is.packet_is ∙ items_any t.profile.description is.message.payload packet reads in
    let same : is.packet ≡ packet = cc in
    subst (λ (p : PacketFields). IsServiceRequest t.profile.objects p.payload service) same is.request

sent_leaves : (N : List Notice → Type 0) (t : AdapterTable) (service : ℕ) → Serves N t service → (stream : Stream) (bytes : List ℕ) (is : IsServiceFrame t.profile.objects bytes service) → HandledLeaves N t (handled t stream (request_header_of is.message) is.message.payload (command_of is.message.command))
unfolding handled
sent_leaves N t service serves stream bytes is =
    subst (λ (c : ℕ). HandledLeaves N t (handled t stream (request_header_of is.message) is.message.payload (command_of c))) (sym is.sends)
    (either (HandledLeaves N t) (has_session stream is.message.session) _ _
    (items_leave N t service serves stream is.message.context (items_for t.profile.description is.message.payload) (asks_as_read t bytes service is))
    (refl, serves.none))

message_leaves : (N : List Notice → Type 0) (t : AdapterTable) (service : ℕ) → Serves N t service → (stream : Stream) (bytes : List ℕ) → IsServiceFrame t.profile.objects bytes service → NextLeaves N t (frame_answer t stream (frame_reading bytes))
unfolding frame_reading
message_leaves N t service serves stream bytes is =
    subst (λ (r : Result MessageFields EncapFault). NextLeaves N t (frame_answer t stream (frame_fields (fields_at header_widths bytes) r))) (sym is.reads) (sent_leaves N t service serves stream bytes is)

misfit_leaves : (N : List Notice → Type 0) (t : AdapterTable) (service : ℕ) → Serves N t service → (stream : Stream) (header : Option Tailed) → NextLeaves N t (frame_answer t stream (wrong_length_of header))
misfit_leaves N t service serves stream None = (refl, serves.none)
misfit_leaves N t service serves stream (Some h) = either (NextLeaves N t) (is_silent (command_of (request_header_in h.0).command)) _ _ (refl, serves.none) (refl, serves.none)

stream_leaves : (N : List Notice → Type 0) (t : AdapterTable) (service : ℕ) → Serves N t service → (stream : Stream) (bytes : List ℕ) (reply : Option (List ℕ)) → IsServiceFrame t.profile.objects bytes service → NextLeaves N t (stream_answer t stream bytes reply)
stream_leaves N t service serves stream bytes None is =
    answer_has (NextLeaves N t) t stream bytes (message_leaves N t service serves stream bytes is) (misfit_leaves N t service serves stream (fields_at header_widths bytes)) (refl, serves.none)
stream_leaves N t service serves stream bytes (Some text) is = (refl, serves.none)

frame_leaves : (N : List Notice → Type 0) (t : AdapterTable) (service : ℕ) → Serves N t service → (bytes : List ℕ) (found : Option Stream) (next : Next) → frame_of t bytes found ≡ Ok next → IsServiceFrame t.profile.objects bytes service → NextLeaves N t next
frame_leaves N t service serves bytes None next is brings = absurd (let e = is in cc)
frame_leaves N t service serves bytes (Some stream) next is brings =
    subst (NextLeaves N t) (next_is _ _ is) (stream_leaves N t service serves stream bytes (inquiry_reply t bytes) brings)

step_leaves : (N : List Notice → Type 0) (t : AdapterTable) (service : ℕ) → Serves N t service → (happens : Event) (next : Next) → adapter_step t happens ≡ Ok next → Brings t happens service → NextLeaves N t next
unfolding frame
step_leaves N t service serves (event.Request peer bytes) next is brings = subst (NextLeaves N t) (next_is _ _ is) (requested_leaves N t service serves peer bytes brings)
step_leaves N t service serves (event.Frame number bytes) next is brings = frame_leaves N t service serves bytes (find (is_stream number) t.streams) next is brings
step_leaves N t service serves other next is brings = absurd brings

-- ---- a Get

abbrev IsNoReset : ObjectAnswer → Type 0
IsNoReset (said by value) = Unit {0}
IsNoReset (denied why) = Unit {0}
IsNoReset (resetting kind) = ⊥
IsNoReset (answering by general content) = Unit {0}
IsNoReset (refusing named why) = Unit {0}
IsNoReset (unrouted words) = Unit {0}

single_gets : (body : List ℕ) (found : Option Attribute) → IsNoReset (single_of body found)
single_gets body None = tt
single_gets body (Some attribute) = either IsNoReset (length body == 0) _ _ tt tt

all_gets : (attributes : List Attribute) (body : List ℕ) → IsNoReset (all_of attributes body)
all_gets attributes body = either IsNoReset (length body == 0) _ _ tt tt

instance_gets : (owned : Bool) (service : ℕ) (attribute : Option ℕ) (body : List ℕ) (o : Instance) → IsGet service → IsNoReset (instance_answer owned service attribute body o)
instance_gets owned service attribute body o (inl is) =
    subst (λ (s : ℕ). IsNoReset (instance_answer owned s attribute body o)) (sym is) (either IsNoReset o.gets_all _ _ (all_gets o.attributes body) tt)
instance_gets owned service attribute body o (inr is) =
    subst (λ (s : ℕ). IsNoReset (instance_answer owned s attribute body o)) (sym is)
    (either IsNoReset (not (length o.attributes == 0)) _ _ (single_gets body (attribute_of o.attributes attribute)) tt)

object_gets : (owned : Bool) (service : ℕ) (attribute : Option ℕ) (body : List ℕ) (found : Option Instance) → IsGet service → IsNoReset (object_said owned service attribute body found)
object_gets owned service attribute body None get = tt
object_gets owned service attribute body (Some o) get = instance_gets owned service attribute body o get

quiet_served : (t : AdapterTable) (service : ℕ) (answer : ObjectAnswer) → IsNoReset answer → (object_served t service answer).notices ≡ []
quiet_served t service (said by value) none = refl
quiet_served t service (denied why) none = refl
quiet_served t service (resetting kind) none = absurd none
quiet_served t service (answering by general content) none = refl
quiet_served t service (refusing named why) none = refl
quiet_served t service (unrouted words) none = refl

-- a Get carries no request
get_is_alone : (t : AdapterTable) (service class instance : ℕ) (attribute : Option ℕ) (body : List ℕ) → IsGet service → object_answer t service class instance attribute body ≡ alone_answer t service class instance attribute body
unfolding object_answer
get_is_alone t service class instance attribute body (inl is) =
    subst (λ (s : ℕ). object_answer t s class instance attribute body ≡ alone_answer t s class instance attribute body) (sym is) refl
get_is_alone t service class instance attribute body (inr is) =
    subst (λ (s : ℕ). object_answer t s class instance attribute body ≡ alone_answer t s class instance attribute body) (sym is) refl

alone_gets : (t : AdapterTable) (service class instance : ℕ) (attribute : Option ℕ) (body : List ℕ) → IsGet service → IsNoReset (alone_answer t service class instance attribute body)
unfolding alone_answer
alone_gets t service class instance attribute body get = object_gets (list_any is_owning t.rows) service attribute body (instance_at t class instance) get

get_serves : (t : AdapterTable) (service : ℕ) → IsGet service → Serves (λ notices. notices ≡ []) t service
get_serves t service get = record {
  none = refl;
  each = λ class instance attribute body.
      quiet_served t service (object_answer t service class instance attribute body)
      (subst IsNoReset (sym (get_is_alone t service class instance attribute body get)) (alone_gets t service class instance attribute body get));
}

pub gets_stay : GetsChangeNothing
gets_stay t happens service next is brings get =
    let left = step_leaves (λ notices. notices ≡ []) t service (get_serves t service get) happens next is brings in
    record { table = left.0; notices = left.1 }

-- ---- a Reset

-- a reset is of type 0 or 1
abbrev IsSmallReset : ObjectAnswer → Type 0
IsSmallReset (said by value) = Unit {0}
IsSmallReset (denied why) = Unit {0}
IsSmallReset (resetting kind) = kind ≤ 1
IsSmallReset (answering by general content) = Unit {0}
IsSmallReset (refusing named why) = Unit {0}
IsSmallReset (unrouted words) = Unit {0}

at_most : (kind : ℕ) → nat_lt 1 kind ≡ false → kind ≤ 1
at_most kind is = grind (arith, nat_tests)

kind_resets : (b owned : Bool) (kind : ℕ) (why other : ObjectAnswer) → nat_lt 1 kind ≡ b → IsSmallReset why → IsSmallReset other → IsSmallReset (cond b why (cond owned other (resetting kind)))
kind_resets true owned kind why other is first second = first
kind_resets false owned kind why other is first second = either IsSmallReset owned other (resetting kind) second (at_most kind is)

kind_reset : (owned : Bool) (kind : ℕ) → IsSmallReset (reset_of owned kind)
kind_reset owned kind = kind_resets (nat_lt 1 kind) owned kind _ _ refl tt tt

body_resets : (owned : Bool) (body : List ℕ) → IsSmallReset (reset_by owned body)
body_resets owned [] = kind_reset owned 0
body_resets owned (kind ∷ []) = kind_reset owned kind
body_resets owned (kind ∷ more ∷ rest) = tt

single_resets : (body : List ℕ) (found : Option Attribute) → IsSmallReset (single_of body found)
single_resets body None = tt
single_resets body (Some attribute) = either IsSmallReset (length body == 0) _ _ tt tt

set_resets : (found : Option Attribute) → IsSmallReset (set_of found)
set_resets None = tt
set_resets (Some attribute) = tt

got_list_resets : (attributes : List Attribute) (body : List ℕ) → IsSmallReset (get_list attributes body)
got_list_resets attributes [] = tt
got_list_resets attributes (low ∷ []) = tt
got_list_resets attributes (low ∷ high ∷ rest) =
    either IsSmallReset (nat_lt (length rest) (2 * word_of low high)) _ _ tt
    (either IsSmallReset (nat_lt (2 * word_of low high) (length rest)) _ _ tt
    (either IsSmallReset (nat_lt most_listed (word_of low high)) _ _ tt
    (either IsSmallReset (nat_le (length (low ∷ high ∷ got_items attributes rest)) 1400) _ _ tt tt)))

set_list_resets : (attributes : List Attribute) (body : List ℕ) → IsSmallReset (set_list attributes body)
set_list_resets attributes [] = tt
set_list_resets attributes (low ∷ []) = tt
set_list_resets attributes (low ∷ high ∷ rest) =
    either IsSmallReset (nat_lt (length rest) (2 * word_of low high)) _ _ tt (either IsSmallReset (nat_lt most_listed (word_of low high)) _ _ tt tt)

instance_resets : (owned : Bool) (service : ℕ) (attribute : Option ℕ) (body : List ℕ) (o : Instance) → IsSmallReset (instance_answer owned service attribute body o)
instance_resets owned service attribute body o =
    either IsSmallReset (service == 0x0E && not (length o.attributes == 0)) _ _ (single_resets body (attribute_of o.attributes attribute))
    (either IsSmallReset (service == 0x10 && o.sets) _ _ (set_resets (attribute_of o.attributes attribute))
    (either IsSmallReset (service == 0x01 && o.gets_all) _ _ (either IsSmallReset (length body == 0) _ _ tt tt)
    (either IsSmallReset (service == 0x03 && o.sets) _ _ (got_list_resets o.attributes body)
    (either IsSmallReset (service == 0x04 && o.sets) _ _ (set_list_resets o.attributes body)
    (either IsSmallReset (service == 0x05 && o.resets) _ _ (body_resets owned body) tt)))))

object_resets : (owned : Bool) (service : ℕ) (attribute : Option ℕ) (body : List ℕ) (found : Option Instance) → IsSmallReset (object_said owned service attribute body found)
object_resets owned service attribute body None = tt
object_resets owned service attribute body (Some o) = instance_resets owned service attribute body o

abbrev AtMostAReset : List Notice → Type 0
AtMostAReset notices = (notices ≡ []) ⊎ IsOneReset notices

reset_served : (t : AdapterTable) (service : ℕ) (answer : ObjectAnswer) → IsSmallReset answer → AtMostAReset (object_served t service answer).notices
reset_served t service (said by value) small = inl refl
reset_served t service (denied why) small = inl refl
reset_served t service (resetting kind) small = inr (record { kind = kind; small = small; alone = refl })
reset_served t service (answering by general content) small = inl refl
reset_served t service (refusing named why) small = inl refl
reset_served t service (unrouted words) small = inl refl

alone_resets : (t : AdapterTable) (service class instance : ℕ) (attribute : Option ℕ) (body : List ℕ) → IsSmallReset (alone_answer t service class instance attribute body)
unfolding alone_answer
alone_resets t service class instance attribute body = object_resets (list_any is_owning t.rows) service attribute body (instance_at t class instance)

packet_resets : (t : AdapterTable) (body : List ℕ) → IsSmallReset (packet_answer t body)
packet_resets t [] = tt
packet_resets t (low ∷ []) = tt
packet_resets t (low ∷ high ∷ rest) =
    either IsSmallReset (nat_lt (length rest) (2 * word_of low high)) _ _ tt
    (either IsSmallReset (nat_lt most_members (word_of low high)) _ _ tt
    (either IsSmallReset (not (are_placed (low ∷ high ∷ rest) (take (2 * word_of low high) rest))) _ _ tt
    (either IsSmallReset (nat_le (length (packet_data low high (member_replies t (low ∷ high ∷ rest) (take (2 * word_of low high) rest)))) 1400) _ _ tt tt)))

packed_resets : (t : AdapterTable) (service class instance : ℕ) (attribute : Option ℕ) (body : List ℕ) → IsSmallReset (packed_answer t service class instance attribute body)
packed_resets t service class instance attribute body =
    either IsSmallReset (is_packet (is_some t.profile.description) service class instance) _ _ (packet_resets t body) (alone_resets t service class instance attribute body)

naming_resets : (service : ℕ) (answer : ObjectAnswer) → IsSmallReset answer → IsSmallReset (naming service answer)
naming_resets service (said by value) small = tt
naming_resets service (denied why) small = tt
naming_resets service (resetting kind) small = small
naming_resets service (answering by general content) small = tt
naming_resets service (refusing named why) small = tt
naming_resets service (unrouted words) small = tt

inner_resets : (t : AdapterTable) (inner : Carried) → IsSmallReset (inner_answer t inner)
inner_resets t (barred service why) = tt
inner_resets t (asking service class instance attribute body) =
    naming_resets service (packed_answer t service class instance attribute body) (packed_resets t service class instance attribute body)

routed_resets : (t : AdapterTable) (inner behind : List ℕ) → IsSmallReset (routed_answer t inner behind)
routed_resets t inner [] = tt
routed_resets t inner (words ∷ []) = tt
routed_resets t inner (words ∷ reserved ∷ route) =
    either IsSmallReset (nat_lt (length route) (2 * words)) _ _ tt
    (either IsSmallReset (nat_lt (2 * words) (length route)) _ _ tt
    (either IsSmallReset (not (words == 0)) _ _ tt (inner_resets t (carried 0x52 t.profile.objects (router_request_reading inner)))))

sent_resets : (t : AdapterTable) (body : List ℕ) → IsSmallReset (sent_answer t body)
sent_resets t [] = tt
sent_resets t (tick ∷ []) = tt
sent_resets t (tick ∷ ticks ∷ []) = tt
sent_resets t (tick ∷ ticks ∷ low ∷ []) = tt
sent_resets t (tick ∷ ticks ∷ low ∷ high ∷ rest) = routed_resets t (take (word_of low high) rest) (drop (word_of low high + word_of low high % 2) rest)

any_resets : (t : AdapterTable) (service class instance : ℕ) (attribute : Option ℕ) (body : List ℕ) → IsSmallReset (object_answer t service class instance attribute body)
unfolding object_answer
any_resets t service class instance attribute body =
    either IsSmallReset (is_sending (is_some t.profile.description) service class instance) _ _ (sent_resets t body) (packed_resets t service class instance attribute body)

reset_serves : (t : AdapterTable) (service : ℕ) → Serves AtMostAReset t service
reset_serves t service = record {
  none = inl refl;
  each = λ class instance attribute body.
      reset_served t service (object_answer t service class instance attribute body) (any_resets t service class instance attribute body);
}

pub resets_stay : ResetsChangeNothing
resets_stay t happens service next is brings =
    let left = step_leaves AtMostAReset t service (reset_serves t service) happens next is brings in
    record { table = left.0; notices = left.1 }

-- ---- exact answers

-- the Identity object of a device that is described
pub identity_found : (t : AdapterTable) (d : Description) → t.profile.description ≡ Some d → instance_at t 0x01 1 ≡ Some (identity_instance t.profile.identity d (standing_of t))
unfolding instance_at
identity_found t d is = ap (described_at t 0x01 1) is

pub reset_said : (t : AdapterTable) (d : Description) (attribute : Option ℕ) (kind : ℕ) → t.profile.description ≡ Some d → list_any is_owning t.rows ≡ false → kind ≤ 1 → object_answer t 0x05 0x01 1 attribute (kind ∷ []) ≡ resetting kind
unfolding object_answer alone_answer
reset_said t d attribute kind is free small =
    let fits : nat_lt 1 kind ≡ false = le-ltb _ _ small in
    ap (object_said (list_any is_owning t.rows) 0x05 attribute (kind ∷ [])) (identity_found t d is) ∙ rw (free, fits) refl

-- an instance that has an attribute gets it
has_some : (number : ℕ) (attributes : List Attribute) (attribute : Attribute) → find (is_numbered number) attributes ≡ Some attribute → not (length attributes == 0) ≡ true
has_some number [] attribute found = absurd (let e = found in cc)
has_some number (first ∷ rest) attribute found = ap not (ne_eqb (suc (length rest)) 0 (λ same. omega (arith, same)))

got_single : (owned : Bool) (number : ℕ) (o : Instance) (attribute : Attribute) → find (is_numbered number) o.attributes ≡ Some attribute → instance_answer owned 0x0E (Some number) [] o ≡ said GetSingle attribute.value
got_single owned number o attribute found = rw (has_some number o.attributes attribute found) (ap (single_of []) found)

pub single_said : (t : AdapterTable) (class instance number : ℕ) (o : Instance) (attribute : Attribute) → instance_at t class instance ≡ Some o → find (is_numbered number) o.attributes ≡ Some attribute → object_answer t 0x0E class instance (Some number) [] ≡ said GetSingle attribute.value
unfolding object_answer alone_answer
single_said t class instance number o attribute is found =
    ap (object_said (list_any is_owning t.rows) 0x0E (Some number) []) is ∙ got_single (list_any is_owning t.rows) number o attribute found
