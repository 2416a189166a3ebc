-- Services that carry requests: several in one, or one for a device behind a route (Volume 1, appendix A, Multiple_Service_Packet,
-- and chapter 3, Unconnected_Send). Only a described device has them.
--
--   Multiple_Service_Packet  class 2, instance 1, service 0A
--                            asked     how many (2), where each request begins (2 each), counted from the first of these bytes, and
--                                      the requests, each up to the next one
--                            answered  how many (2), where each reply begins (2 each), counted alike, and the replies
--   Unconnected_Send         class 6, instance 1, service 52
--                            asked     priority and tick (1), ticks (1), the length of the request (2), the request, a pad byte if that is
--                                      odd, the words of the route (1), reserved (1), the route
--                            answered  as the request that it carries, if there is no route
use Rattle.std.specs.Prelude.{ℕ, ◌+◌, ◌-◌, ◌*◌, ◌%◌, ◌==◌, ◌&&◌, not, nat_lt, nat_le, Bool, true, false, if◌then◌else◌, List, [], ◌∷◌, ◌++◌, length, take, drop, Option, None, is_some}
use Rattle.std.specs.List.{flat_map}
use Rattle.cip_types.specs.Cases.{first_case_or}
use Rattle.cip_fwdopen.specs.Services.{open_service}
use Rattle.cip_router.specs.declared.object_service.ObjectService.TheVariants.{Packet}
use Rattle.cip_router.specs.declared.refusal.Status.{Status}
use Rattle.cip_router.specs.declared.refusal.Status.TheVariants as status
use Rattle.cip_router.specs.Refusals.{status_fault}
use Rattle.cip_router.specs.Replies as replies
use Rattle.cip_router.specs.Replies.{ReplyFields, object_reply, object_service_code, reply_text}
use Rattle.cip_router.specs.Requests.{RouterRequestFields, nothing, refused, closing, object, opening, router_request_reading}
use Rattle.adapter_table.specs.declared.table.AdapterTable.{AdapterTable}
use Rattle.adapter_table.specs.Own.{is_own_class}
use Rattle.adapter_table.specs.Objects.{ObjectAnswer, said, denied, resetting, answering, refusing, unrouted, u16, word_of, answer_within, alone_answer}

-- WHAT IS CARRIED

-- a request that is refused, by its service and a status, or a request to an object that the device answers by itself: its service,
-- class, instance, attribute and data
pub data Carried : Type 0 where
  barred : ℕ → Status → Carried
  asking : ℕ → ℕ → ℕ → Option ℕ → List ℕ → Carried

-- What the service of a carrier carries. No request without a byte is carried (0x13), none that opens or closes a connection, and none
-- to an object of the maker's own (0x08).
abbrev pub carried : (carrier : ℕ) → (own : List ℕ) → RouterRequestFields → Carried
carried carrier own nothing = barred carrier status.NotEnoughData
carried carrier own (refused service why) = barred service why
carried carrier own (closing request) = barred 0x4E status.Service
carried carrier own (object service class instance attribute body) =
    if is_own_class own class then barred service status.Service else asking service class instance attribute body
carried carrier own (opening large request) = barred (open_service large) status.Service

-- SEVERAL REQUESTS

-- the reply to a service in a packet: none resets the device (0x08)
abbrev pub said_reply : ℕ → ObjectAnswer → ReplyFields
said_reply service (said by value) = object_reply by value
said_reply service (denied why) = replies.refused service (status_fault why) None
said_reply service (resetting kind) = replies.refused service (status_fault status.Service) None
said_reply service (answering by general content) = replies.own (object_service_code by) general content
said_reply service (refusing named why) = replies.refused named (status_fault why) None
said_reply service (unrouted words) = replies.refused service (status_fault status.Service) None

abbrev pub member_reply : AdapterTable → Carried → ReplyFields
member_reply t (barred service why) = replies.refused service (status_fault why) None
member_reply t (asking service class instance attribute body) = said_reply service (alone_answer t service class instance attribute body)

-- the reply to the bytes of a request
abbrev pub member_of : AdapterTable → List ℕ → ReplyFields
member_of t bytes = member_reply t (carried 0x0A t.profile.objects (router_request_reading bytes))

-- where the next request begins, or the last one ends
abbrev pub next_start : (body starts : List ℕ) → ℕ
next_start body [] = length body
next_start body (low ∷ []) = length body
next_start body (low ∷ high ∷ rest) = word_of low high

-- each request has a byte at least, and ends where the next one begins
abbrev pub are_rising : (body starts : List ℕ) → Bool
are_rising body [] = true
are_rising body (low ∷ []) = true
are_rising body (low ∷ high ∷ rest) = nat_lt (word_of low high) (next_start body rest) && are_rising body rest

-- the bytes from one place to another
abbrev pub part_of : List ℕ → (from to : ℕ) → List ℕ
part_of bytes from to = take (to - from) (drop from bytes)

-- the replies to the requests that begin at these places
abbrev pub member_replies : AdapterTable → (body starts : List ℕ) → List ReplyFields
member_replies t body [] = []
member_replies t body (low ∷ []) = []
member_replies t body (low ∷ high ∷ rest) =
    member_of t (part_of body (word_of low high) (next_start body rest)) ∷ member_replies t body rest

-- the general status of a reply is 0
abbrev pub is_success : ReplyFields → Bool
is_success (replies.opened large o) = true
is_success (replies.closed triad) = true
is_success (object_reply by value) = true
is_success (replies.refused service fault triad) = false
is_success (replies.unacceptable service intervals triad) = false
is_success (replies.own service general content) = general == 0
is_success (replies.no_route words) = false

abbrev pub are_successes : List ReplyFields → Bool
are_successes [] = true
are_successes (reply ∷ rest) = is_success reply && are_successes rest

-- where each reply begins, if the first one begins at this place
abbrev pub starts_from : ℕ → List ReplyFields → List ℕ
starts_from place [] = []
starts_from place (reply ∷ rest) = u16 place ++ starts_from (place + length (reply_text reply)) rest

-- the data of the reply to a packet of so many requests
abbrev pub packet_data : (low high : ℕ) → List ReplyFields → List ℕ
packet_data low high members = low ∷ high ∷ (starts_from (2 + 2 * word_of low high) members ++ flat_map reply_text members)

-- a request of a packet is not answered with success (0x1E), or each is
abbrev pub packet_status : (whole : Bool) → ℕ
packet_status whole = if whole then 0 else 0x1E

abbrev pub packet_replied : (low high : ℕ) → List ReplyFields → ObjectAnswer
packet_replied low high members = answer_within Packet (packet_status (are_successes members)) (packet_data low high members)

-- how many requests a reply has room for, with two bytes and the four of the shortest reply for each
abbrev pub most_members : ℕ
most_members = 233

-- the requests begin behind the places, one behind the other
abbrev pub are_placed : (body starts : List ℕ) → Bool
are_placed body starts = nat_le (2 + length starts) (next_start body starts) && are_rising body starts

-- Multiple_Service_Packet: places that overlap or lie outside are refused (0x20)
abbrev pub packet_answer : AdapterTable → List ℕ → ObjectAnswer
packet_answer t [] = denied status.NotEnoughData
packet_answer t (low ∷ []) = denied status.NotEnoughData
packet_answer t (low ∷ high ∷ rest) =
    let body = low ∷ high ∷ rest in
    let count = word_of low high in
    let starts = take (2 * count) rest in
    first_case_or (packet_replied low high (member_replies t body starts)) (
    (nat_lt (length rest) (2 * count), denied status.NotEnoughData)
    ∷ (nat_lt most_members count, denied status.ReplyTooLarge)
    ∷ (not (are_placed body starts), denied status.InvalidParameter)
    ∷ [])

-- the device is described, and has Multiple_Service_Packet
abbrev pub is_packet : (described : Bool) → (service class instance : ℕ) → Bool
is_packet described service class instance = service == 0x0A && (class == 0x02 && (instance == 1 && described))

-- what a device answers to a service of an object, a packet among them
abbrev pub packed_answer : AdapterTable → (service class instance : ℕ) → Option ℕ → List ℕ → ObjectAnswer
packed_answer t service class instance attribute body =
    if is_packet (is_some t.profile.description) service class instance then packet_answer t body else alone_answer t service class instance attribute body

-- A REQUEST WITH A ROUTE

-- an answer whose refusal names the service
abbrev pub naming : ℕ → ObjectAnswer → ObjectAnswer
naming service (said by value) = said by value
naming service (denied why) = refusing service why
naming service (resetting kind) = resetting kind
naming service (answering by general content) = answering by general content
naming service (refusing named why) = refusing named why
naming service (unrouted words) = unrouted words

abbrev pub inner_answer : AdapterTable → Carried → ObjectAnswer
inner_answer t (barred service why) = refusing service why
inner_answer t (asking service class instance attribute body) = naming service (packed_answer t service class instance attribute body)

-- behind the request: the words of the route, a reserved byte, and the route, which no port of the device leads on
abbrev pub routed_answer : AdapterTable → (inner behind : List ℕ) → ObjectAnswer
routed_answer t inner [] = denied status.NotEnoughData
routed_answer t inner (words ∷ []) = denied status.NotEnoughData
routed_answer t inner (words ∷ reserved ∷ route) = first_case_or (inner_answer t (carried 0x52 t.profile.objects (router_request_reading inner))) (
    (nat_lt (length route) (2 * words), denied status.NotEnoughData)
    ∷ (nat_lt (2 * words) (length route), denied status.TooMuchData)
    ∷ (not (words == 0), unrouted words)
    ∷ [])

-- Unconnected_Send
abbrev pub sent_answer : AdapterTable → List ℕ → ObjectAnswer
sent_answer t [] = denied status.NotEnoughData
sent_answer t (tick ∷ []) = denied status.NotEnoughData
sent_answer t (tick ∷ ticks ∷ []) = denied status.NotEnoughData
sent_answer t (tick ∷ ticks ∷ low ∷ []) = denied status.NotEnoughData
sent_answer t (tick ∷ ticks ∷ low ∷ high ∷ rest) =
    let len = word_of low high in routed_answer t (take len rest) (drop (len + len % 2) rest)

-- the device is described, and has Unconnected_Send
abbrev pub is_sending : (described : Bool) → (service class instance : ℕ) → Bool
is_sending described service class instance = service == 0x52 && (class == 0x06 && (instance == 1 && described))

-- what a device answers to a service of an object
unfoldable pub object_answer : AdapterTable → (service class instance : ℕ) → Option ℕ → List ℕ → ObjectAnswer
object_answer t service class instance attribute body =
    if is_sending (is_some t.profile.description) service class instance then sent_answer t body else packed_answer t service class instance attribute body
