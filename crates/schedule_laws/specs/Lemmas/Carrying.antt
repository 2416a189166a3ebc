-- If each id that passes one test passes another, then the ids of tables, frames and datagrams do.
use Rattle.std.proofs.Common.{ℕ, Bool, true, false, cond, List, [], ◌∷◌, find, Option, Some, None, Result, Ok, Err, refl}
use Rattle.std.specs.Option.{IfSome}
use Rattle.cip_types.specs.declared.names.ConnId.{ConnId}
use Rattle.cip_datagram.specs.declared.datagram.DatagramFault.{DatagramFault}
use Rattle.cip_datagram.specs.Datagram.{DatagramFields}
use Rattle.cip_datagram.specs.Reading.{datagram_reading}
use Rattle.cip_encap.specs.declared.message.EncapFault.{EncapFault}
use Rattle.cip_encap.specs.declared.packet.ItemFault.{ItemFault}
use Rattle.cip_encap.specs.Message.{MessageFields}
use Rattle.cip_encap.specs.Packet.{PacketFields}
use Rattle.cip_encap.specs.AnyItems.{any_packet_reading}
use Rattle.cip_encap.specs.Reading.{message_reading}
use Rattle.cip_events.specs.declared.event.Event.{Event}
use Rattle.cip_events.specs.declared.event.Event.TheVariants.{Request, Frame, Respond}
use Rattle.cip_events.specs.declared.event.Reason.{Reason}
use Rattle.cip_fwdopen.specs.declared.reply.OpenAnswer.{OpenAnswer}
use Rattle.cip_fwdopen.specs.declared.reply.OpenAnswer.TheVariants as answer
use Rattle.cip_fwdopen.specs.Reply.{open_reply_reading}
use Rattle.cip_router.specs.Replies.{own_reply_text}
use Rattle.cip_router.specs.Requests.{RouterRequestFields, nothing, refused, closing, object, opening, router_request_reading}
use Rattle.messaging.specs.declared.requests.Requester.{Requester}
use Rattle.messaging.specs.declared.requests.Requester.TheVariants as asker
use Rattle.messaging.specs.declared.requests.Waiting.{Waiting}
use Rattle.messaging.specs.Changes.{has_request_number}
use Rattle.messaging.specs.Lemmas.EachOfLemmas.{each_weaker}
use Rattle.messaging.specs.Sound.{EachOf}
use Rattle.adapter_table.specs.declared.table.AdapterTable.{AdapterTable}
use Rattle.scanner_table.specs.declared.slot.SlotState.{SlotState}
use Rattle.scanner_table.specs.declared.slot.SlotState.TheVariants.{Idle, Opening, Established, TimedOut, Closing}
use Rattle.scanner_table.specs.Replies.{reply_answer}
use Rattle.scanner_table.specs.Slots.{indexed_slots}
use Rattle.cip_tables.specs.declared.table.DeviceTable.{DeviceTable}
use Rattle.cip_tables.specs.declared.table.DeviceTable.TheVariants.{Adapter, Scanner}
use Rattle.segment_world.specs.Transit.Streams.{QueueItem, Opening as Opens, Queued, Ending, Stream}
use Rattle.device_laws.specs.Ids.{RequestIds, ReplyIds, PacketIds, MessageIds, FrameIds, ReadId, DatagramId, RowIds, Class3Ids, EventIds, WayIds, AnsweredIds, RequestedId, StateIds}
use Rattle.device_laws.specs.Carrying.{Passes, SlotIds, TableIds, HasClass3Ids, AnswerPasses}
use Rattle.device_laws.specs.Lemmas.Payloads.{own_ids}
use Rattle.device_laws.specs.Plain.{HasPlainService, PacketHasPlainService, MessageHasPlainService, FrameHasPlainService, IsPlainRequest, PlainPacket, PlainMessage, IsPlainFrame, IsPlainDevice, IsPlainEvent, ArePlain}
use Rattle.device_laws.specs.Replies.{PlainFor, IsOfStream}
use Rattle.schedule_laws.specs.Ids.{any_stream, ItemHolds, StreamHolds, StreamsHold}
use Rattle.schedule_laws.specs.Lemmas.Lists.{all_more}
use Rattle.schedule_laws.specs.Lemmas.Moves.{EventHolds}

-- each id that passes the first passes the second
abbrev pub More : (P Q : ℕ → Type 0) → Type 0
More P Q = (id : ℕ) → P id → Q id

request_more : (P Q : ℕ → Type 0) → More P Q → (requested : RouterRequestFields) → RequestIds P requested → RequestIds Q requested
request_more P Q more nothing ids = tt
request_more P Q more (refused service why) ids = tt
request_more P Q more (closing request) ids = tt
request_more P Q more (object service class instance attribute body) ids = tt
request_more P Q more (opening large request) ids = more _ ids

reported_more : (P Q : ℕ → Type 0) → More P Q → (reported : Result OpenAnswer Reason) → ReplyIds P reported → ReplyIds Q reported
reported_more P Q more (Err why) ids = tt
reported_more P Q more (Ok (answer.Refused r)) ids = tt
reported_more P Q more (Ok (answer.Opened o)) ids = (more _ ids.0, more _ ids.1)

packet_more : (P Q : ℕ → Type 0) → More P Q → (reading : Result PacketFields ItemFault) → PacketIds P reading → PacketIds Q reading
packet_more P Q more (Err fault) ids = tt
packet_more P Q more (Ok packet) ids = record {
  requested = request_more P Q more (router_request_reading packet.payload) ids.requested;
  replied = λ large. reported_more P Q more (reply_answer large (open_reply_reading packet.payload)) (ids.replied large);
}

message_more : (P Q : ℕ → Type 0) → More P Q → (reading : Result MessageFields EncapFault) → MessageIds P reading → MessageIds Q reading
message_more P Q more (Err fault) ids = tt
message_more P Q more (Ok m) ids = packet_more P Q more (any_packet_reading m.payload) ids

pub frame_more : (P Q : ℕ → Type 0) → More P Q → (bytes : List ℕ) → FrameIds P bytes → FrameIds Q bytes
frame_more P Q more bytes ids = message_more P Q more (message_reading bytes) ids

read_more : (P Q : ℕ → Type 0) → More P Q → (reading : Result DatagramFields DatagramFault) → ReadId P reading → ReadId Q reading
read_more P Q more (Err fault) id = tt
read_more P Q more (Ok d) id = more _ id

pub datagram_more : (P Q : ℕ → Type 0) → More P Q → (bytes : List ℕ) → DatagramId P bytes → DatagramId Q bytes
datagram_more P Q more bytes id = read_more P Q more (datagram_reading bytes) id

-- ---- tables

requested_more : (P Q : ℕ → Type 0) → More P Q → (requested : Option ConnId) → RequestedId P requested → RequestedId Q requested
requested_more P Q more None id = tt
requested_more P Q more (Some requested) id = more _ id

state_more : (P Q : ℕ → Type 0) → More P Q → (state : SlotState) → StateIds P state → StateIds Q state
state_more P Q more Idle ids = tt
state_more P Q more (Opening o) ids = requested_more P Q more o.requested.t_o_id ids
state_more P Q more (Established c) ids = (more _ ids.0, more _ ids.1)
state_more P Q more (TimedOut link) ids = (more _ ids.0, more _ ids.1)
state_more P Q more (Closing c) ids = (more _ ids.0, more _ ids.1)

pub table_more : (p q openings : ℕ → Bool) → More (Passes p) (Passes q) → (t : DeviceTable) → TableIds p openings t → TableIds q openings t
table_more p q openings more (Adapter t) ids =
    all_more (RowIds (Passes p) (Passes openings)) (RowIds (Passes q) (Passes openings)) (λ row holds. record { o_t = more _ holds.o_t; t_o = more _ holds.t_o; opening = holds.opening }) t.rows ids
table_more p q openings more (Scanner t) ids = all_more (SlotIds (Passes p)) (SlotIds (Passes q)) (λ indexed holds. state_more (Passes p) (Passes q) more indexed.slot.state holds) (indexed_slots t) ids

pub class3_more : (p q : ℕ → Bool) → More (Passes p) (Passes q) → (t : DeviceTable) → HasClass3Ids p t → HasClass3Ids q t
class3_more p q more (Adapter t) ids = each_weaker (Class3Ids (Passes p)) (Class3Ids (Passes q)) (λ d both. (more _ both.0, more _ both.1)) t.messaging.class3_connections ids
class3_more p q more (Scanner t) ids = tt

-- ---- streams and events

item_more : (P Q : List ℕ → Type 0) → ((bytes : List ℕ) → P bytes → Q bytes) → (item : QueueItem) → ItemHolds P item → ItemHolds Q item
item_more P Q more Opens holds = tt
item_more P Q more (Queued bytes) holds = more bytes holds
item_more P Q more Ending holds = tt

pub streams_more : (P Q : List ℕ → Type 0) → ((bytes : List ℕ) → P bytes → Q bytes) → (streams : List Stream) → StreamsHold P streams → StreamsHold Q streams
streams_more P Q more streams holds =
    all_more (StreamHolds P) (StreamHolds Q)
    (λ s is. record { forth = all_more (ItemHolds P) (ItemHolds Q) (item_more P Q more) s.forth.queue is.forth; back = all_more (ItemHolds P) (ItemHolds Q) (item_more P Q more) s.back.queue is.back }) streams holds

pub event_more : (P Q : ℕ → Type 0) → More P Q → (happens : Event) → EventHolds (FrameIds P) happens → EventIds Q happens
event_more P Q more (Request peer bytes) holds = holds
event_more P Q more (Frame stream bytes) holds = frame_more P Q more bytes holds
event_more P Q more other holds = tt

-- ---- a plain frame asks no object for the service of an opening

request_asks : (request : RouterRequestFields) → IsPlainRequest request → HasPlainService request
request_asks nothing plain = tt
request_asks (refused service why) plain = tt
request_asks (closing request) plain = tt
request_asks (object service class instance attribute body) plain = plain
request_asks (opening large request) plain = tt

packet_asks : (reading : Result PacketFields ItemFault) → PlainPacket reading → PacketHasPlainService reading
packet_asks (Err fault) plain = tt
packet_asks (Ok packet) plain = request_asks (router_request_reading packet.payload) plain

message_asks : (reading : Result MessageFields EncapFault) → PlainMessage reading → MessageHasPlainService reading
message_asks (Err fault) plain = tt
message_asks (Ok m) plain = packet_asks (any_packet_reading m.payload) plain

pub frame_asks_plainly : (bytes : List ℕ) → IsPlainFrame bytes → FrameHasPlainService bytes
frame_asks_plainly bytes plain = message_asks (message_reading bytes) plain

-- ---- frames of which two properties hold

pub event_first : (P R : List ℕ → Type 0) (happens : Event) → EventHolds (λ bytes. P bytes × R bytes) happens → EventHolds P happens
event_first P R (Request peer bytes) holds = holds
event_first P R (Frame stream bytes) holds = holds.0
event_first P R other holds = tt

pub event_plain : (P : List ℕ → Type 0) (happens : Event) → EventHolds (λ bytes. P bytes × FrameHasPlainService bytes) happens → IsPlainEvent any_stream happens
event_plain P (Request peer bytes) holds = holds
event_plain P (Frame stream bytes) holds = λ over. holds.1
event_plain P other holds = tt

-- ---- answers of applications

found_waiting : (P : Waiting → Type 0) (p : Waiting → Bool) (xs : List Waiting) → EachOf P xs → IfSome (find p xs) P
found_waiting P p [] all = tt
found_waiting P p (x ∷ xs) all = elim (p x) as (λ b. IfSome (cond b (Some x) (find p xs)) P) [
  | true ↦ all.0
  | false ↦ found_waiting P p xs all.1
]

each_two : (P R : Waiting → Type 0) (xs : List Waiting) → EachOf P xs → EachOf R xs → EachOf (λ (w : Waiting). P w × R w) xs
each_two P R [] first second = tt
each_two P R (x ∷ xs) first second = ((first.0, second.0), each_two P R xs first.1 second.1)

way_ids : (P : ℕ → Type 0) (from : Requester) (service status : ℕ) (bytes : List ℕ) → PlainFor any_stream from service → IsOfStream from → WayIds P from (own_reply_text service status bytes)
way_ids P (asker.Peer node) service status bytes plain over = absurd over
way_ids P (asker.Stream number context) service status bytes plain over = let is = plain refl in own_ids P service status bytes (record { small = is.small; large = is.large })
way_ids P (asker.Class3Connection id count) service status bytes plain over = tt

some_more : (A B : Waiting → Type 0) → ((w : Waiting) → A w → B w) → (o : Option Waiting) → IfSome o A → IfSome o B
some_more A B more None holds = tt
some_more A B more (Some w) holds = more w holds

answered_ids : (P : ℕ → Type 0) (t : AdapterTable) (happens : Event) → ArePlain any_stream t.messaging → AnsweredIds P t happens
answered_ids P t (Respond number status bytes) plain =
    some_more (λ w. PlainFor any_stream w.asker w.service × IsOfStream w.asker) (λ w. WayIds P w.asker (own_reply_text w.service status bytes)) (λ w is. way_ids P w.asker w.service status bytes is.0 is.1)
    (find (has_request_number number) t.messaging.waiting)
    (found_waiting (λ w. PlainFor any_stream w.asker w.service × IsOfStream w.asker) (has_request_number number) t.messaging.waiting
    (each_two (λ w. PlainFor any_stream w.asker w.service) (λ w. IsOfStream w.asker) t.messaging.waiting plain.services plain.over))
answered_ids P t other plain = tt

-- what the application of a plain device answers has no id
pub answer_passes : (ids : ℕ → Bool) (t : DeviceTable) (happens : Event) → IsPlainDevice any_stream t → AnswerPasses ids t happens
answer_passes ids (Adapter t) happens plain = answered_ids (Passes ids) t happens plain
answer_passes ids (Scanner t) happens plain = tt
