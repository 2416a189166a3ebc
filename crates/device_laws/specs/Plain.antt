-- Plain frames, and plain devices: over some of its streams no request waits that an application could answer by what reads as the
-- success of an opening. A device stays plain if no frame over these streams asks an object for the service of an opening, whatever
-- connections they open, and whatever comes over its other streams and over class 3 connections (Volume 1, chapter 3, Forward_Open
-- service).
use Rattle.std.specs.Prelude.{ℕ, ◌≡◌, Bool, true, false, List, Result, Ok, Err}
use Rattle.std.specs.List.{AllByRecursion}
use Rattle.cip_encap.specs.declared.message.EncapFault.{EncapFault}
use Rattle.cip_encap.specs.declared.packet.ItemFault.{ItemFault}
use Rattle.cip_encap.specs.Message.{MessageFields}
use Rattle.cip_encap.specs.Packet.{PacketFields}
use Rattle.cip_encap.specs.AnyItems.{any_packet_reading}
use Rattle.cip_encap.specs.Reading.{message_reading}
use Rattle.cip_events.specs.declared.event.Answer.{Answer}
use Rattle.cip_events.specs.declared.event.Event.{Event}
use Rattle.cip_events.specs.declared.event.Event.TheVariants.{Request}
use Rattle.cip_events.specs.declared.event.Event.TheVariants as event
use Rattle.cip_events.specs.declared.event.Frame.{Frame}
use Rattle.cip_netparams.specs.Word.{is_message_trigger}
use Rattle.cip_router.specs.Requests.{RouterRequestFields, nothing, refused, closing, object, opening, router_request_reading}
use Rattle.messaging.specs.declared.table.Messaging.{Messaging}
use Rattle.cip_tables.specs.declared.table.DeviceTable.{DeviceTable}
use Rattle.cip_tables.specs.declared.table.DeviceTable.TheVariants.{Adapter, Scanner}
use Rattle.cip_tables.specs.Step.{step}
use Rattle.cip_tables.specs.Whole.{IsWholeDevice}
use Rattle.device_laws.specs.Replies.{IsPlainService, AsksPlainly, AsksOverStreams}

-- FRAMES

-- the request asks no object for the service of an opening, so nothing that an application answers to it is a success of one
abbrev pub HasPlainService : RouterRequestFields → Type 0
HasPlainService nothing = Unit {0}
HasPlainService (refused service why) = Unit {0}
HasPlainService (closing request) = Unit {0}
HasPlainService (object service class instance attribute body) = IsPlainService service
HasPlainService (opening large request) = Unit {0}

abbrev pub PacketHasPlainService : Result PacketFields ItemFault → Type 0
PacketHasPlainService (Err fault) = Unit {0}
PacketHasPlainService (Ok packet) = HasPlainService (router_request_reading packet.payload)

abbrev pub MessageHasPlainService : Result MessageFields EncapFault → Type 0
MessageHasPlainService (Err fault) = Unit {0}
MessageHasPlainService (Ok m) = PacketHasPlainService (any_packet_reading m.payload)

-- the frame is such a request, if it can be read as one
abbrev pub FrameHasPlainService : List ℕ → Type 0
FrameHasPlainService bytes = MessageHasPlainService (message_reading bytes)

-- the request has such a service, and opens no class 3 connection
abbrev pub IsPlainRequest : RouterRequestFields → Type 0
IsPlainRequest nothing = Unit {0}
IsPlainRequest (refused service why) = Unit {0}
IsPlainRequest (closing request) = Unit {0}
IsPlainRequest (object service class instance attribute body) = IsPlainService service
IsPlainRequest (opening large request) = is_message_trigger request.trigger ≡ false

abbrev pub PlainPacket : Result PacketFields ItemFault → Type 0
PlainPacket (Err fault) = Unit {0}
PlainPacket (Ok packet) = IsPlainRequest (router_request_reading packet.payload)

abbrev pub PlainMessage : Result MessageFields EncapFault → Type 0
PlainMessage (Err fault) = Unit {0}
PlainMessage (Ok m) = PlainPacket (any_packet_reading m.payload)

-- the frame is such a request, if it can be read as one
abbrev pub IsPlainFrame : List ℕ → Type 0
IsPlainFrame bytes = PlainMessage (message_reading bytes)

abbrev pub SendsPlainly : Frame → Type 0
SendsPlainly frame = IsPlainFrame frame.bytes

-- TABLES

-- each request that waits came over a stream, itself or by a class 3 connection, and over one of these it has no service of an opening
pub record ArePlain (ours : ℕ → Bool) (m : Messaging) : Type 0 where
  pub services : AsksPlainly ours m
  pub over : AsksOverStreams m

abbrev pub IsPlainDevice : (ℕ → Bool) → DeviceTable → Type 0
IsPlainDevice ours (Adapter t) = ArePlain ours t.messaging
IsPlainDevice ours (Scanner t) = Unit {0}

-- STEPS

-- a frame that asks no object for the service of an opening if it comes over one of these streams, or another event than a `Request`,
-- which comes without a stream
abbrev pub IsPlainEvent : (ℕ → Bool) → Event → Type 0
IsPlainEvent ours (Request peer bytes) = ⊥
IsPlainEvent ours (event.Frame stream bytes) = ours stream ≡ true → FrameHasPlainService bytes
IsPlainEvent ours other = Unit {0}

-- a plain device stays plain at such an event, and sends plain frames
abbrev pub PlainDevicesStayPlain : Type 0
PlainDevicesStayPlain =
    (ours : ℕ → Bool) (t : DeviceTable) (event : Event) (answer : Answer) (next : DeviceTable) →
    step t event ≡ Ok (answer, next) → IsWholeDevice t → IsPlainEvent ours event → IsPlainDevice ours t →
    IsPlainDevice ours next × AllByRecursion SendsPlainly answer.frames
