-- Requests to the message router on any route: what is served, and the answer with the table after it
-- (Volume 1, chapter 2, message router request, and chapter 3, Connection Manager and transport class 3).
use Rattle.std.specs.Prelude.{ℕ, ◌≡◌, Bool, true, if◌then◌else◌, List, [], Option, Some, None}
use Rattle.std.specs.List.{list_any}
use Rattle.cip_netparams.specs.Word.{is_message_trigger}
use Rattle.cip_fwdopen.specs.Open.{OpenFields}
use Rattle.cip_events.specs.Answers.{plain_answer}
use Rattle.cip_events.specs.declared.event.Verdict.TheVariants.{Done}
use Rattle.cip_router.specs.declared.refusal.Status.TheVariants as status
use Rattle.cip_router.specs.Replies.{ReplyFields}
use Rattle.cip_router.specs.Requests.{RouterRequestFields, nothing, refused, closing, object, opening, router_request_reading}
use Rattle.messaging.specs.declared.requests.Requester.TheVariants as asker
use Rattle.messaging.specs.declared.table.Messaging.{Messaging}
use Rattle.messaging.specs.Changes.{answered, executed, referred_over, replied}
use Rattle.messaging.specs.Class3Connections.{has_class3_id}
use Rattle.adapter_table.specs.declared.table.AdapterTable.{AdapterTable}
use Rattle.adapter_table.specs.declared.table.Stream.{Stream}
use Rattle.adapter_table.specs.Class3Opening.{served_class3}
use Rattle.adapter_table.specs.Messages.{with_messages}
use Rattle.adapter_table.specs.MessagesSound.{IsCarried}
use Rattle.adapter_table.specs.Own.{OwnRequest, own_of, cannot_ask, referred_table, referred_verdict}
use Rattle.adapter_table.specs.Requests.{Next, Served, counted_once, open_service, router_refusal, served_end, served_object, served_open}
use Rattle.adapter_replies.specs.declared.routes.Route.{Route}
use Rattle.adapter_replies.specs.declared.routes.Route.TheVariants as route
use Rattle.adapter_replies.specs.Messages.{way_frames}
use Rattle.adapter_replies.specs.Routes.{is_connected, kept_text, peer_of, routed_answer, unserved_answer}

-- WHAT IS SERVED

-- the service of a request that opens or closes a connection
abbrev pub connection_service : RouterRequestFields → Option ℕ
connection_service nothing = None
connection_service (refused service why) = None
connection_service (closing request) = Some 0x4E
connection_service (object service class instance attribute body) = None
connection_service (opening large request) = Some (open_service large)

-- the service that is refused since no message of a class 3 connection opens or closes one
abbrev pub barred_service : Route → RouterRequestFields → Option ℕ
barred_service way request = if is_connected way then connection_service request else None

-- a Forward_Open over a stream: a class 3 connection lives on the stream, one of another class on none
abbrev pub stream_opening : AdapterTable → Stream → Bool → OpenFields → Served
stream_opening t stream large request =
    if is_message_trigger request.trigger then served_class3 t stream large request else served_open t stream.peer large request

-- a Forward_Open, by its route
abbrev pub opening_served : AdapterTable → Route → Bool → OpenFields → Served
opening_served t (route.Peer peer) large request = served_open t peer large request
opening_served t (route.Stream stream request_header) large request = stream_opening t stream large request
opening_served t (route.Connection way) large request = served_open t way.peer large request

-- a request by its service, on a route that can bring it
abbrev pub service_served : AdapterTable → Route → RouterRequestFields → Option Served
service_served t way nothing = None
service_served t way (refused service why) = Some (router_refusal t service why)
service_served t way (closing request) = Some (served_end t (peer_of way) request)
service_served t way (object service class instance attribute body) = Some (served_object t service class instance attribute body)
service_served t way (opening large request) = Some (opening_served t way large request)

abbrev pub served_unless : AdapterTable → Route → RouterRequestFields → Option ℕ → Option Served
served_unless t way request (Some service) = Some (router_refusal t service status.Service)
served_unless t way request None = service_served t way request

-- the reply to a request on its route, if there is one
abbrev pub served_on : AdapterTable → Route → RouterRequestFields → Option Served
served_on t way request = served_unless t way request (barred_service way request)

-- THE ANSWER

-- a class 3 connection keeps the text of the reply to its message, which is executed
abbrev pub kept_on : AdapterTable → Route → List ℕ → AdapterTable
kept_on t (route.Peer peer) text = t
kept_on t (route.Stream stream request_header) text = t
kept_on t (route.Connection way) text = with_messages t (executed t.messaging way.id way.count text way.deadline)

-- the answer with the reply, and the table after it
abbrev pub finished : AdapterTable → Route → Option Served → Next
finished t way None = (unserved_answer way, t)
finished t way (Some s) = (routed_answer way s.reply s.address s.notices, kept_on s.table way (kept_text way s.reply))

-- the request waits for the application's answer; a message is executed, and has no reply yet
abbrev pub waits_on : AdapterTable → Route → OwnRequest → AdapterTable
waits_on t (route.Peer peer) own = referred_table t peer (asker.Peer peer) own
waits_on t (route.Stream stream request_header) own = referred_table t stream.peer (asker.Stream stream.number request_header.context) own
waits_on t (route.Connection way) own = with_messages t (referred_over t.messaging way.peer way.id way.count own.service way.deadline t.clock)

abbrev pub referred_on : AdapterTable → Route → OwnRequest → Next
referred_on t way own = (plain_answer (referred_verdict t own), waits_on t way own)

-- a request to an object of the maker's own is refused (0x02) where no more can wait, else it waits
abbrev pub own_on : AdapterTable → Route → OwnRequest → Next
own_on t way own =
    if cannot_ask t (peer_of way) then finished t way (Some (router_refusal t own.service status.ResourceUnavailable)) else referred_on t way own

abbrev pub request_on : AdapterTable → Route → RouterRequestFields → Option OwnRequest → Next
request_on t way request None = finished t way (counted_once request (served_on t way request))
request_on t way request (Some own) = own_on t way own

-- the bytes of a request on its route
unfoldable pub requested_on : AdapterTable → Route → List ℕ → Next
requested_on t way bytes = request_on t way (router_request_reading bytes) (own_of t.profile.objects (router_request_reading bytes))

-- the route is open: its stream has a session, its class 3 connection is open
abbrev pub IsOpenRoute : AdapterTable → Route → Type 0
IsOpenRoute t (route.Peer peer) = Unit {0}
IsOpenRoute t (route.Stream stream request_header) = IsCarried t.streams stream.number
IsOpenRoute t (route.Connection way) = list_any (has_class3_id way.id) t.messaging.class3_connections ≡ true

-- THE ANSWER OF THE APPLICATION

-- a class 3 connection keeps the text of the reply to its last message
abbrev pub replied_on : Messaging → Route → List ℕ → Messaging
replied_on m (route.Peer peer) text = m
replied_on m (route.Stream stream request_header) text = m
replied_on m (route.Connection way) text = replied m way.id way.count text

-- the same on the route of the request, if there is one
abbrev pub way_keeps : Messaging → Option Route → ReplyFields → Messaging
way_keeps m None reply = m
way_keeps m (Some way) reply = replied_on m way (kept_text way reply)

-- the reply goes out on the route, if there is one, and the request of the number waits no more
abbrev pub responded_on : AdapterTable → (number : ℕ) → Option Route → ReplyFields → Next
responded_on t number way reply = (
  record { frames = way_frames way reply; datagrams = []; verdict = Done; notices = [] },
  with_messages t (answered (way_keeps t.messaging way reply) number),
)
