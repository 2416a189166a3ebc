-- What the services of an adapter's objects change and report (Volume 1, appendix A, common services, and chapter 5, Identity
-- object).
use Rattle.std.specs.Prelude.{ℕ, ◌≡◌, ◌≤◌, ◌⊎◌, ◌||◌, Bool, false, List, [], ◌∷◌, find, Option, Some, None, Ok, is_some}
use Rattle.std.specs.List.{list_any}
use Rattle.cip_encap.specs.Message.{MessageFields}
use Rattle.cip_encap.specs.Packet.{PacketFields}
use Rattle.cip_encap.specs.AnyItems.{any_packet_reading}
use Rattle.cip_encap.specs.Reading.{message_reading}
use Rattle.cip_events.specs.declared.event.Event.{Event}
use Rattle.cip_events.specs.declared.event.Event.TheVariants as event
use Rattle.cip_events.specs.declared.event.Notice.{Notice}
use Rattle.cip_events.specs.declared.event.Notice.TheVariants as notice
use Rattle.cip_router.specs.declared.object_service.ObjectService.TheVariants.{GetSingle, Reset}
use Rattle.cip_router.specs.declared.refusal.Status.TheVariants as status
use Rattle.cip_router.specs.Replies.{object_reply}
use Rattle.cip_router.specs.Requests.{RouterRequestFields, closing, object, opening, router_request_reading}
use Rattle.messaging.specs.declared.table.Messaging.{Messaging}
use Rattle.adapter_table.specs.declared.profile.Description.{Description}
use Rattle.adapter_table.specs.declared.counters.Tally.{Tally}
use Rattle.adapter_table.specs.declared.counters.Tally.TheVariants.{CloseOther, OpenOther}
use Rattle.adapter_table.specs.declared.table.AdapterTable.{AdapterTable}
use Rattle.adapter_table.specs.Counting.{tallied}
use Rattle.adapter_table.specs.Objects.{Attribute, Instance, denied, instance_at, is_numbered, is_owning, numbers, said}
use Rattle.adapter_table.specs.Carrying.{object_answer}
use Rattle.adapter_table.specs.Messages.{with_messages}
use Rattle.adapter_table.specs.Own.{OwnRequest, own_of, is_own_class}
use Rattle.adapter_table.specs.Profiles.{is_class}
use Rattle.adapter_table.specs.Requests.{Next}
use Rattle.adapter_table.specs.Step.{adapter_step}
use Rattle.adapter_table.specs.Whole.{IsWhole}
use Rattle.object_laws.specs.Routes.{BringsRequest, IsServed, SendsMessage, answered_with}

-- REQUESTS

-- the bytes can be read as this service of an object whose class is none of the maker's own
pub record IsServiceRequest (objects bytes : List ℕ) (service : ℕ) : Type 0 where
  pub class : ℕ
  pub instance : ℕ
  pub attribute : Option ℕ
  pub body : List ℕ
  pub reads : router_request_reading bytes ≡ object service class instance attribute body
  pub served : is_own_class objects class ≡ false

-- the frame can be read as one that sends it
pub record IsServiceFrame (objects bytes : List ℕ) (service : ℕ) : Type 0 where
  pub message : MessageFields
  pub reads : message_reading bytes ≡ Ok message
  pub sends : message.command ≡ 0x006F
  pub packet : PacketFields
  pub packet_is : any_packet_reading message.payload ≡ Ok packet
  pub request : IsServiceRequest objects packet.payload service

-- the event brings this service of an object that the adapter serves itself, over a stream or over none
abbrev pub Brings : AdapterTable → Event → ℕ → Type 0
Brings t (event.Request peer bytes) service = IsServiceRequest t.profile.objects bytes service
Brings t (event.Frame stream bytes) service = IsServiceFrame t.profile.objects bytes service
Brings t other service = ⊥

-- GET

-- Get_Attributes_All or Get_Attribute_Single
abbrev pub IsGet : ℕ → Type 0
IsGet service = (service ≡ 0x01) ⊎ (service ≡ 0x0E)

-- the table stays, and nothing is reported
pub record IsQuiet (t : AdapterTable) (next : Next) : Type 0 where
  pub table : next.1 ≡ t
  pub notices : next.0.notices ≡ []

-- so it is after every Get that is dealt with
abbrev pub GetsChangeNothing : Type 0
GetsChangeNothing =
    (t : AdapterTable) (happens : Event) (service : ℕ) (next : Next) →
    adapter_step t happens ≡ Ok next → Brings t happens service → IsGet service → IsQuiet t next

-- RESET

-- one reset of type 0 or 1 is reported
pub record IsOneReset (notices : List Notice) : Type 0 where
  pub kind : ℕ
  pub small : kind ≤ 1
  pub alone : notices ≡ notice.Reset kind ∷ []

-- the table stays, and at most a reset is reported
pub record IsResetAlone (t : AdapterTable) (next : Next) : Type 0 where
  pub table : next.1 ≡ t
  pub notices : (next.0.notices ≡ []) ⊎ IsOneReset next.0.notices

-- so it is after every service that is dealt with: a Reset is a service of the Identity object, or an Unconnected_Send carries it
abbrev pub ResetsChangeNothing : Type 0
ResetsChangeNothing =
    (t : AdapterTable) (happens : Event) (service : ℕ) (next : Next) →
    adapter_step t happens ≡ Ok next → Brings t happens service → IsResetAlone t next

-- of a whole table, a Reset of type 0 or 1 of a described device of which no output is owned succeeds, and is reported, over every
-- route
abbrev pub ResetsAreReported : Type 0
ResetsAreReported =
    (t : AdapterTable) (happens : Event) (request : List ℕ) (d : Description) (attribute : Option ℕ) (kind : ℕ) (next : Next) →
    IsWhole t → t.profile.description ≡ Some d → list_any is_owning t.rows ≡ false → kind ≤ 1 →
    router_request_reading request ≡ object 0x05 0x01 1 attribute (kind ∷ []) → BringsRequest t happens request →
    adapter_step t happens ≡ Ok next → IsServed t (answered_with t (object_reply Reset []) (notice.Reset kind ∷ [])) next

-- ATTRIBUTES

-- each attribute of each instance of a whole table is read back, over every route
abbrev pub AttributesReadBack : Type 0
AttributesReadBack =
    (t : AdapterTable) (happens : Event) (request : List ℕ) (class instance number : ℕ) (o : Instance) (attribute : Attribute) (next : Next) →
    IsWhole t → instance_at t class instance ≡ Some o → find (is_numbered number) o.attributes ≡ Some attribute →
    router_request_reading request ≡ object 0x0E class instance (Some number) [] → BringsRequest t happens request →
    adapter_step t happens ≡ Ok next → IsServed t (answered_with t (object_reply GetSingle attribute.value) []) next

-- WHICH OBJECTS THERE ARE

-- an object of the maker's own has the class, or the device has instance 0 of it
abbrev pub has_object : AdapterTable → ℕ → Bool
has_object t class = is_own_class t.profile.objects class || is_some (instance_at t class 0)

-- the Message Router answers a list of classes, which are exactly those of the objects
pub record ListsObjects (t : AdapterTable) : Type 0 where
  pub classes : List ℕ
  pub answered : object_answer t 0x0E 0x02 1 (Some 1) [] ≡ said GetSingle (numbers classes)
  pub each : (class : ℕ) → list_any (is_class class) classes ≡ has_object t class

-- so it is of every device that is described
abbrev pub ObjectsAreListed : Type 0
ObjectsAreListed = (t : AdapterTable) (d : Description) → t.profile.description ≡ Some d → ListsObjects t

-- a device without a description has no list
abbrev pub NothingIsListed : Type 0
NothingIsListed = (t : AdapterTable) → t.profile.description ≡ None → object_answer t 0x0E 0x02 1 (Some 1) [] ≡ denied status.PathDestination

-- OBJECTS OF THE MAKER'S OWN

-- all but the requests that wait and the class 3 connections' last messages stays, and nothing is reported
pub record AsksAlone (t : AdapterTable) (next : Next) : Type 0 where
  pub messages : Messaging
  pub table : next.1 ≡ with_messages t messages
  pub notices : next.0.notices ≡ []

-- a request that opens or closes a connection
abbrev pub IsConnecting : RouterRequestFields → Type 0
IsConnecting (closing fields) = Unit {0}
IsConnecting (opening large fields) = Unit {0}
IsConnecting other = ⊥

-- what it is counted as where it is refused
abbrev pub denied_tally : RouterRequestFields → Tally
denied_tally (closing fields) = CloseOther
denied_tally other = OpenOther

-- one request of this kind is counted, and else all but the class 3 connections' last messages stays; nothing is reported
pub record CountsAlone (t : AdapterTable) (kind : Tally) (next : Next) : Type 0 where
  pub messages : Messaging
  pub table : next.1 ≡ with_messages (tallied (Some kind) t) messages
  pub notices : next.0.notices ≡ []

-- so it is after every message of a class 3 connection that would open or close one: it does neither
abbrev pub MessagesConnectNothing : Type 0
MessagesConnectNothing =
    (t : AdapterTable) (number : ℕ) (bytes request : List ℕ) (next : Next) →
    adapter_step t (event.Frame number bytes) ≡ Ok next → SendsMessage t number bytes request → IsConnecting (router_request_reading request) →
    CountsAlone t (denied_tally (router_request_reading request)) next

-- so it is after every request to such an object, over every route
abbrev pub OwnServicesAskAlone : Type 0
OwnServicesAskAlone =
    (t : AdapterTable) (happens : Event) (request : List ℕ) (asks : OwnRequest) (next : Next) →
    adapter_step t happens ≡ Ok next → BringsRequest t happens request → own_of t.profile.objects (router_request_reading request) ≡ Some asks →
    AsksAlone t next
