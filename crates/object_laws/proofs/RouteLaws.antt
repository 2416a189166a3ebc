-- What holds of a request over every route.
use Rattle.std.proofs.Common.{◌≡◌, ◌≤◌, inl, inr, ℕ, false, List, [], ◌∷◌, find, Option, Some, Ok, refl, sym, ◌∙◌, ap, subst}
use Rattle.std.specs.List.{list_any}
use Rattle.base_lemmas.specs.Booleans.{either}
use Rattle.cip_types.specs.declared.names.Node.{Node}
use Rattle.cip_events.specs.declared.event.Event.TheVariants as event
use Rattle.cip_events.specs.declared.event.Notice.TheVariants as notice
use Rattle.cip_events.specs.Answers.{plain_answer}
use Rattle.cip_router.specs.declared.object_service.ObjectService.TheVariants.{GetSingle, Reset}
use Rattle.cip_router.specs.declared.refusal.Status.TheVariants as status
use Rattle.cip_router.specs.Frames.{RequestHeader}
use Rattle.cip_router.specs.Replies.{object_reply}
use Rattle.cip_router.specs.Requests.{RouterRequestFields, closing, nothing, object, opening, refused, router_request_reading}
use Rattle.messaging.specs.declared.class3.Class3Connection.{Class3Connection}
use Rattle.messaging.specs.declared.requests.Requester.TheVariants as asker
use Rattle.messaging.specs.Changes.{executed, referred, referred_over}
use Rattle.adapter_table.specs.declared.profile.Description.{Description}
use Rattle.adapter_table.specs.declared.counters.Tally.{Tally}
use Rattle.adapter_table.specs.declared.counters.Tally.TheVariants.{CloseOther, OpenOther}
use Rattle.adapter_table.specs.declared.table.AdapterTable.{AdapterTable}
use Rattle.adapter_table.specs.Counting.{tallied}
use Rattle.adapter_table.specs.declared.table.Stream.{Stream}
use Rattle.adapter_table.specs.Connected.{fitted_text, next_deadline, service_in}
use Rattle.adapter_table.specs.Encapsulation.{Handled, framed, message_executed, message_replied, request_handled, request_replied}
use Rattle.adapter_table.specs.Lemmas.RequestLemmas.{next_is}
use Rattle.adapter_table.specs.Messages.{messages_table}
use Rattle.adapter_table.specs.Objects.{Attribute, Instance, identity_instance, instance_at, is_numbered, is_owning, standing_of}
use Rattle.adapter_table.specs.Own.{OwnRequest, cannot_ask, own_of, referred_table, referred_verdict}
use Rattle.adapter_table.specs.Requests.{Next, Served, object_served, open_service, replied, requested, requested_by, router_refusal, served_object}
use Rattle.adapter_table.specs.Step.{adapter_step}
use Rattle.object_laws.proofs.RouteSteps.{done, frame_is, message_is, request_is, routes_alike}
use Rattle.object_laws.proofs.ServedClasses.{served_itself}
use Rattle.object_laws.proofs.ServiceLaws.{identity_found, reset_said, single_said}
use Rattle.object_laws.specs.Routes.{IsServed, answered_with}
use Rattle.object_laws.specs.Services.{AsksAlone, AttributesReadBack, CountsAlone, IsConnecting, denied_tally, MessagesConnectNothing, OwnServicesAskAlone, ResetsAreReported}

-- ---- a Get and a Reset

got_is : (t : AdapterTable) (class instance number : ℕ) (o : Instance) (attribute : Attribute) → instance_at t class instance ≡ Some o → find (is_numbered number) o.attributes ≡ Some attribute → served_object t 0x0E class instance (Some number) [] ≡ answered_with t (object_reply GetSingle attribute.value) []
unfolding served_object
got_is t class instance number o attribute is found = ap (object_served t 0x0E) (single_said t class instance number o attribute is found)

pub attributes_said : AttributesReadBack
attributes_said t happens request class instance number o attribute next whole is found reads brings steps =
    subst (λ (s : Served). IsServed t s next) (got_is t class instance number o attribute is found)
    (routes_alike t happens request 0x0E class instance (Some number) [] next steps brings reads (served_itself t class instance o whole is))

reset_is : (t : AdapterTable) (d : Description) (attribute : Option ℕ) (kind : ℕ) → t.profile.description ≡ Some d → list_any is_owning t.rows ≡ false → kind ≤ 1 → served_object t 0x05 0x01 1 attribute (kind ∷ []) ≡ answered_with t (object_reply Reset []) (notice.Reset kind ∷ [])
unfolding served_object
reset_is t d attribute kind is free small = ap (object_served t 0x05) (reset_said t d attribute kind is free small)

pub resets_said : ResetsAreReported
resets_said t happens request d attribute kind next whole is free small reads brings steps =
    let served = served_itself t 0x01 1 (identity_instance t.profile.identity d (standing_of t)) whole (identity_found t d is) in
    subst (λ (s : Served). IsServed t s next) (reset_is t d attribute kind is free small)
    (routes_alike t happens request 0x05 0x01 1 attribute (kind ∷ []) next steps brings reads served)

-- ---- objects of the maker's own

same_messages : (t : AdapterTable) → t ≡ messages_table t t.next_id t.messaging
unfolding messages_table
same_messages t = refl

peer_asks : (t : AdapterTable) (peer : Node) (request : RouterRequestFields) (asks : OwnRequest) → AsksAlone t (requested_by t peer request (Some asks))
peer_asks t peer request asks =
    either (AsksAlone t) (cannot_ask t peer) (replied peer (router_refusal t asks.service status.ResourceUnavailable)) (plain_answer (referred_verdict t asks), referred_table t peer (asker.Peer peer) asks)
    (record { messages = t.messaging; table = same_messages t; notices = refl }) (record { messages = referred t.messaging peer (asker.Peer peer) asks.service t.clock; table = refl; notices = refl })

-- over a stream
abbrev Alone : AdapterTable → ℕ → RequestHeader → Handled → Type 0
Alone t number header h = AsksAlone t (framed number header h)

stream_asks : (t : AdapterTable) (stream : Stream) (number context : ℕ) (header : RequestHeader) (request : RouterRequestFields) (asks : OwnRequest) → Alone t number header (request_handled t stream context request (Some asks))
stream_asks t stream number context header request asks =
    either (Alone t number header) (cannot_ask t stream.peer) (request_replied t (Some (router_refusal t asks.service status.ResourceUnavailable))) _
    (record { messages = t.messaging; table = same_messages t; notices = refl })
    (record { messages = referred t.messaging stream.peer (asker.Stream stream.number context) asks.service t.clock; table = refl; notices = refl })

-- in a message
message_asks : (t : AdapterTable) (d : Class3Connection) (number count service : ℕ) (header : RequestHeader) (request : RouterRequestFields) (asks : OwnRequest) → Alone t number header (message_executed t d count service request (Some asks))
message_asks t d number count service header request asks =
    either (Alone t number header) (cannot_ask t d.peer) (message_replied d count asks.service (router_refusal t asks.service status.ResourceUnavailable)) _
    (record { messages = executed t.messaging d.o_t_id count (fitted_text d asks.service (router_refusal t asks.service status.ResourceUnavailable).reply) (next_deadline t d); table = refl; notices = refl })
    (record { messages = referred_over t.messaging d.peer d.o_t_id count asks.service (next_deadline t d) t.clock; table = refl; notices = refl })

requested_asks : (t : AdapterTable) (peer : Node) (bytes request : List ℕ) (asks : OwnRequest) → bytes ≡ request → own_of t.profile.objects (router_request_reading request) ≡ Some asks → AsksAlone t (requested t peer bytes)
unfolding requested
requested_asks t peer bytes request asks is own =
    subst (λ (b : List ℕ). AsksAlone t (requested_by t peer (router_request_reading b) (own_of t.profile.objects (router_request_reading b)))) (sym is)
    (subst (λ (o : Option OwnRequest). AsksAlone t (requested_by t peer (router_request_reading request) o)) (sym own) (peer_asks t peer (router_request_reading request) asks))

-- what a frame comes to
pub framed_holds : (P : Next → Type 0) (t : AdapterTable) (number : ℕ) (bytes : List ℕ) (next : Next) (stream : ℕ) (header : RequestHeader) (came goes : Handled) → adapter_step t (event.Frame number bytes) ≡ Ok next → adapter_step t (event.Frame number bytes) ≡ done (framed stream header came) → came ≡ goes → P (framed stream header goes) → P next
framed_holds P t number bytes next stream header came goes steps is same holds =
    subst P (next_is _ _ (sym is ∙ steps)) (subst (λ (h : Handled). P (framed stream header h)) (sym same) holds)

pub own_services_ask : OwnServicesAskAlone
own_services_ask t (event.Request peer bytes) request asks next steps brings own =
    subst (AsksAlone t) (next_is _ _ steps) (requested_asks t peer bytes request asks brings own)
own_services_ask t (event.Frame number bytes) request asks next steps (inl sends) own =
    let f = sends.frame in
    framed_holds (AsksAlone t) t number bytes next f.stream.number f.header _ _ steps (frame_is t number bytes f)
    (request_is t number bytes request sends ∙ ap (request_handled t f.stream f.header.context (router_request_reading request)) own)
    (stream_asks t f.stream f.stream.number f.header.context f.header (router_request_reading request) asks)
own_services_ask t (event.Frame number bytes) request asks next steps (inr sends) own =
    let f = sends.frame in
    framed_holds (AsksAlone t) t number bytes next f.stream.number f.header _ _ steps (frame_is t number bytes f)
    (message_is t number bytes request sends ∙ ap (message_executed t sends.connection sends.unit.count (service_in request) (router_request_reading request)) own)
    (message_asks t sends.connection f.stream.number sends.unit.count (service_in request) f.header (router_request_reading request) asks)
own_services_ask t other request asks next steps brings own = absurd brings

-- ---- messages open and close nothing

-- over a stream
abbrev Counted : AdapterTable → Tally → ℕ → RequestHeader → Handled → Type 0
Counted t kind number header h = CountsAlone t kind (framed number header h)

-- a refusal that is counted as this
abbrev denial : AdapterTable → ℕ → Tally → Served
denial t service kind = record (router_refusal t service status.Service) { table = tallied (Some kind) t }

refused_alone : (t : AdapterTable) (d : Class3Connection) (number count first service : ℕ) (kind : Tally) (header : RequestHeader) → Counted t kind number header (message_replied d count first (denial t service kind))
refused_alone t d number count first service kind header = record {
  messages = executed t.messaging d.o_t_id count (fitted_text d first (router_refusal t service status.Service).reply) (next_deadline t d);
  table = refl;
  notices = refl;
}

connects_alone : (t : AdapterTable) (d : Class3Connection) (number count first : ℕ) (header : RequestHeader) (request : RouterRequestFields) → IsConnecting request → Counted t (denied_tally request) number header (message_executed t d count first request (own_of t.profile.objects request))
connects_alone t d number count first header nothing none = absurd none
connects_alone t d number count first header (refused service why) none = absurd none
connects_alone t d number count first header (closing fields) is = refused_alone t d number count first 0x4E CloseOther header
connects_alone t d number count first header (object service class instance attribute body) none = absurd none
connects_alone t d number count first header (opening large fields) is = refused_alone t d number count first (open_service large) OpenOther header

pub messages_connect : MessagesConnectNothing
messages_connect t number bytes request next steps sends connects =
    let f = sends.frame in
    framed_holds (CountsAlone t (denied_tally (router_request_reading request))) t number bytes next f.stream.number f.header _ _ steps (frame_is t number bytes f) (message_is t number bytes request sends)
    (connects_alone t sends.connection f.stream.number sends.unit.count (service_in request) f.header (router_request_reading request) connects)
