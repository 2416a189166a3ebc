-- A request is served alike on each route.
use Rattle.std.proofs.Common.{◌≡◌, inl, inr, ℕ, Bool, false, cond, List, Option, Some, None, Result, Ok, sym, ◌∙◌, ap}
use Rattle.cip_types.specs.declared.names.Node.{Node}
use Rattle.cip_events.specs.declared.event.Delivery.TheVariants.{WrongSize}
use Rattle.cip_events.specs.declared.event.Event.TheVariants as event
use Rattle.cip_events.specs.declared.event.StepFault.{StepFault}
use Rattle.cip_router.specs.declared.command.EncapStatus.TheVariants as encap
use Rattle.cip_router.specs.Commands.{command_of}
use Rattle.cip_router.specs.Frames.{FrameFields}
use Rattle.cip_router.specs.Requests.{RouterRequestFields, object, router_request_reading}
use Rattle.messaging.specs.Class3Connections.{repeats_last}
use Rattle.adapter_table.specs.declared.table.AdapterTable.{AdapterTable}
use Rattle.adapter_table.specs.Connected.{service_in}
use Rattle.adapter_table.specs.Encapsulation.{Handled, connected_items_for, items_for, frame, frame_answer, frame_of, framed, handled, message_executed, message_found, message_repeated, message_replied, outside_session, packet_replied, refusal, request_handled, request_replied, stream_answer, undelivered, unit_replied}
use Rattle.adapter_table.specs.Lemmas.RequestLemmas.{next_is}
use Rattle.adapter_table.specs.Own.{OwnRequest, is_own_class, own_of}
use Rattle.adapter_table.specs.Requests.{Next, replied, requested, requested_by, served_object}
use Rattle.adapter_table.specs.Step.{adapter_step}
use Rattle.object_laws.proofs.ServiceLaws.{none_own}
use Rattle.object_laws.specs.Routes.{IsFrame, SendsRequest, SendsMessage, RoutesServeAlike}

abbrev pub done : Next → Result Next StepFault
done next = Ok next

-- ---- to what a frame comes

-- a frame within its session
pub frame_is : (t : AdapterTable) (number : ℕ) (bytes : List ℕ) (f : IsFrame t number bytes) → adapter_step t (event.Frame number bytes) ≡ done (framed f.stream.number f.header (handled t f.stream f.header f.body (command_of f.header.command)))
unfolding frame
frame_is t number bytes f =
    ap (frame_of t bytes) f.found ∙ ap (λ (reply : Option (List ℕ)). done (stream_answer t f.stream bytes reply)) f.other
    ∙ ap (λ (taken : FrameFields). done (frame_answer t f.stream taken)) f.taken

-- one with a request
pub request_is : (t : AdapterTable) (number : ℕ) (bytes request : List ℕ) (s : SendsRequest t number bytes request) → handled t s.frame.stream s.frame.header s.frame.body (command_of s.frame.header.command) ≡ request_handled t s.frame.stream s.frame.header.context (router_request_reading request) (own_of t.profile.objects (router_request_reading request))
unfolding handled
request_is t number bytes request s =
    let f = s.frame in
    ap (λ (code : ℕ). handled t f.stream f.header f.body (command_of code)) s.sends
    ∙ ap (λ (b : Bool). cond b (packet_replied t f.stream f.header.context (items_for t.profile.description f.body)) (refusal t encap.InvalidSession)) f.session
    ∙ ap (packet_replied t f.stream f.header.context) s.reads
    ∙ ap (λ (payload : List ℕ). request_handled t f.stream f.header.context (router_request_reading payload) (own_of t.profile.objects (router_request_reading payload))) s.is

-- one with a message
pub message_is : (t : AdapterTable) (number : ℕ) (bytes request : List ℕ) (s : SendsMessage t number bytes request) → handled t s.frame.stream s.frame.header s.frame.body (command_of s.frame.header.command) ≡ message_executed t s.connection s.unit.count (service_in request) (router_request_reading request) (own_of t.profile.objects (router_request_reading request))
unfolding handled
message_is t number bytes request s =
    let f = s.frame in
    let executed : List ℕ → Handled = λ message. message_executed t s.connection s.unit.count (service_in message) (router_request_reading message) (own_of t.profile.objects (router_request_reading message)) in
    ap (λ (code : ℕ). handled t f.stream f.header f.body (command_of code)) s.sends
    ∙ ap (λ (b : Bool). cond b (unit_replied t f.stream (connected_items_for t.profile.description f.body)) (refusal t (outside_session t.profile.description))) f.session
    ∙ ap (unit_replied t f.stream) s.reads ∙ ap (message_found t s.unit.count s.unit.message) s.found
    ∙ ap (λ (b : Bool). cond b (undelivered t WrongSize) (cond (repeats_last s.connection s.unit.count) (message_repeated t s.connection s.unit.count) (executed s.unit.message))) s.fits
    ∙ ap (λ (b : Bool). cond b (message_repeated t s.connection s.unit.count) (executed s.unit.message)) s.new ∙ ap executed s.is

-- ---- what is served of it

-- a function of a request and of what it asks of the application, at a request to an object that the device serves itself
read_as : {X : Type 0} → (t : AdapterTable) (f : RouterRequestFields → Option OwnRequest → X) (request : List ℕ) (service class instance : ℕ) (attribute : Option ℕ) (body : List ℕ) → router_request_reading request ≡ object service class instance attribute body → is_own_class t.profile.objects class ≡ false → f (router_request_reading request) (own_of t.profile.objects (router_request_reading request)) ≡ f (object service class instance attribute body) None
read_as t f request service class instance attribute body reads free =
    ap (λ (r : RouterRequestFields). f r (own_of t.profile.objects r)) reads
    ∙ ap (f (object service class instance attribute body)) (none_own t.profile.objects service class instance attribute body free)

pub peer_serves : (t : AdapterTable) (peer : Node) (bytes request : List ℕ) (service class instance : ℕ) (attribute : Option ℕ) (body : List ℕ) → bytes ≡ request → router_request_reading request ≡ object service class instance attribute body → is_own_class t.profile.objects class ≡ false → requested t peer bytes ≡ replied peer (served_object t service class instance attribute body)
unfolding requested
peer_serves t peer bytes request service class instance attribute body is reads free =
    ap (λ (b : List ℕ). requested_by t peer (router_request_reading b) (own_of t.profile.objects (router_request_reading b))) is
    ∙ read_as t (requested_by t peer) request service class instance attribute body reads free

stream_serves : (t : AdapterTable) (number : ℕ) (bytes request : List ℕ) (service class instance : ℕ) (attribute : Option ℕ) (body : List ℕ) (s : SendsRequest t number bytes request) → router_request_reading request ≡ object service class instance attribute body → is_own_class t.profile.objects class ≡ false → adapter_step t (event.Frame number bytes) ≡ done (framed s.frame.stream.number s.frame.header (request_replied t (Some (served_object t service class instance attribute body))))
stream_serves t number bytes request service class instance attribute body s reads free =
    frame_is t number bytes s.frame
    ∙ ap (λ (h : Handled). done (framed s.frame.stream.number s.frame.header h))
    (request_is t number bytes request s ∙ read_as t (request_handled t s.frame.stream s.frame.header.context) request service class instance attribute body reads free)

message_serves : (t : AdapterTable) (number : ℕ) (bytes request : List ℕ) (service class instance : ℕ) (attribute : Option ℕ) (body : List ℕ) (s : SendsMessage t number bytes request) → router_request_reading request ≡ object service class instance attribute body → is_own_class t.profile.objects class ≡ false → adapter_step t (event.Frame number bytes) ≡ done (framed s.frame.stream.number s.frame.header (message_replied s.connection s.unit.count (service_in request) (served_object t service class instance attribute body)))
message_serves t number bytes request service class instance attribute body s reads free =
    frame_is t number bytes s.frame
    ∙ ap (λ (h : Handled). done (framed s.frame.stream.number s.frame.header h))
    (message_is t number bytes request s ∙ read_as t (message_executed t s.connection s.unit.count (service_in request)) request service class instance attribute body reads free)

pub routes_alike : RoutesServeAlike
routes_alike t (event.Request peer bytes) request service class instance attribute body next is brings reads free =
    inl (record { peer = peer; is = sym (next_is _ _ is) ∙ peer_serves t peer bytes request service class instance attribute body brings reads free })
routes_alike t (event.Frame number bytes) request service class instance attribute body next is (inl sends) reads free =
    inr (inl (record {
      number = sends.frame.stream.number;
      header = sends.frame.header;
      is = next_is _ _ (sym is ∙ stream_serves t number bytes request service class instance attribute body sends reads free);
    }))
routes_alike t (event.Frame number bytes) request service class instance attribute body next is (inr sends) reads free =
    inr (inr (record {
      number = sends.frame.stream.number;
      header = sends.frame.header;
      connection = sends.connection;
      count = sends.unit.count;
      service = service_in request;
      is = next_is _ _ (sym is ∙ message_serves t number bytes request service class instance attribute body sends reads free);
    }))
routes_alike t other request service class instance attribute body next is brings reads free = absurd brings
