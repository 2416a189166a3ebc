-- The objects of an adapter: their attributes, and the answers to their services (Volume 1,
-- chapter 5, object library, and appendix A, common services; Volume 2, chapter 5, TCP/IP Interface, Ethernet Link and
-- QoS; Volume 1, chapter 3, Port).
--
--   class 01  Identity            1 vendor, 2 device type, 3 product, 4 revision, 5 status, 6 serial number, 7 name, 8 state,
--                               9 configuration consistency value
--   class 02  Message Router      1 object list, 2 connections that there may be, 3 connections that there are
--   class 04  Assembly            3 data, 4 size
--   class 06  Connection Manager  1 to 8 counters of openings, closes and time-outs; it has the services of connections too
--   class 48  QoS                 1 802.1Q tags, 2 to 8 code points
--   class F4  Port                1 type, 2 number, 3 link object, 4 name, 7 node address
--   class F5  TCP/IP Interface    1 status, 2 capability, 3 control, 4 link object, 5 addresses, 6 host name, 8 time to live,
--                               9 multicast groups, 10 address conflict detection, 11 last conflict, 13 inactivity
--   class F6  Ethernet Link       1 speed, 2 flags, 3 physical address, 4 counters, 5 counters of the medium, 6 control, 7 type,
--                               8 state, 9 administrative state, 10 label, 11 capability
--
-- Instance 0 of a class has the attributes 1 revision, 2 largest instance, 3 number of instances, 4 optional attributes and 5
-- optional services of its instances, 6 largest attribute of the class, 7 largest attribute of its instances. Each number is
-- little-endian. A device without a description has its assemblies alone, with their data.
use Rattle.std.specs.Prelude.{ℕ, zero, suc, ◌+◌, ◌*◌, ◌/◌, ◌%◌, ◌==◌, ◌&&◌, ◌||◌, not, nat_lt, nat_le, Bool, true, false, if◌then◌else◌, List, [], ◌∷◌, ◌++◌, length, filter, find, replicate, codes, Option, Some, None, is_some, drop}
use Rattle.std.specs.List.{list_any, flat_map}
use Rattle.std.specs.Int.{w16, w32, byte_at, to_le_bytes}
use Rattle.cip_types.specs.Cases.{Case, first_case, first_case_or}
use Rattle.cip_types.specs.declared.names.Identity.{Identity}
use Rattle.cip_router.specs.declared.object_service.ObjectService.{ObjectService}
use Rattle.cip_router.specs.declared.object_service.ObjectService.TheVariants.{GetAll, GetSingle, GetList, SetList}
use Rattle.cip_router.specs.declared.refusal.Status.{Status}
use Rattle.cip_router.specs.declared.refusal.Status.TheVariants as status
use Rattle.cip_productions.specs.Kinds.{is_owner}
use Rattle.cip_productions.specs.declared.kind.Kind.TheVariants.{ExclusiveOwner, InputOnly, ListenOnly}
use Rattle.messaging.specs.Class3Connections.{most_class3_connections}
use Rattle.messaging.specs.declared.table.Messaging.{Messaging}
use Rattle.adapter_table.specs.Connections.{Row}
use Rattle.adapter_table.specs.declared.row.Mode.{Mode}
use Rattle.adapter_table.specs.declared.row.Mode.TheVariants.{Idle, Run}
use Rattle.adapter_table.specs.declared.profile.Description.{Description}
use Rattle.adapter_table.specs.declared.maker_limits.MakerLimits.{MakerLimits}
use Rattle.adapter_table.specs.declared.maker_limits.Places.{Places}
use Rattle.adapter_table.specs.declared.profile.InputPoint.{InputPoint}
use Rattle.adapter_table.specs.declared.profile.Profile.{Profile}
use Rattle.adapter_table.specs.declared.objects.IoState.{IoState}
use Rattle.adapter_table.specs.declared.counters.ManagerCounters.{ManagerCounters}
use Rattle.adapter_table.specs.declared.table.PointValue.{PointValue}
use Rattle.adapter_table.specs.declared.table.AdapterTable.{AdapterTable}
use Rattle.adapter_table.specs.Counters.{interface_counters, media_counters}
use Rattle.adapter_table.specs.Own.{is_own_class}
use Rattle.adapter_table.specs.Points.{bytes_at}
use Rattle.adapter_table.specs.Profiles.{all_places, class3_places, served_classes}
use Rattle.adapter_table.specs.Rows.{is_established, is_timed_out, kind_count, most_rows}
use Rattle.adapter_table.specs.Checks.{config_bytes}
use Rattle.adapter_table.specs.Opening.{multicast_address}

-- THE STATE OF THE CONNECTIONS

-- the connection is an established exclusive owner
abbrev pub is_owning : Row → Bool
is_owning row = is_established row && is_owner row.kind

abbrev pub is_run : Option Mode → Bool
is_run None = false
is_run (Some Idle) = false
is_run (Some Run) = true

-- the connection is established, and its newest data are in run mode
abbrev pub is_running : Row → Bool
is_running row = is_established row && is_run row.mode

-- what the connections of a device tell of it
abbrev pub io_state_of : List Row → IoState
io_state_of rows = record {
  owned = list_any is_owning rows;
  running = list_any is_running rows;
  established = list_any is_established rows;
  timed_out = list_any is_timed_out rows;
}

-- bits 4 to 7 of the status word: 6 a connection in run mode, 7 established ones alone in idle mode, 2 timed-out ones
-- alone, 3 none
abbrev pub connection_status : IoState → ℕ
connection_status io = first_case_or 3 ((io.running, 6) ∷ (io.established, 7) ∷ (io.timed_out, 2) ∷ [])

abbrev pub bit : Bool → ℕ → ℕ
bit holds value = if holds then value else 0

-- the status word of the Identity object: bit 0 an output is owned, bit 2 the device is configured
abbrev pub status_of : (configured : Bool) → IoState → ℕ
status_of configured io = bit io.owned 1 + (bit configured 4 + 16 * connection_status io)

abbrev pub is_set : ℕ → Bool
is_set byte = not (byte == 0)

abbrev pub holds_bytes : Option (List ℕ) → Bool
holds_bytes None = false
holds_bytes (Some bytes) = list_any is_set bytes

-- HOW MANY CONNECTIONS

-- the established connections of class 1, of each application type, and those of class 3
abbrev pub connection_count : List Row → Messaging → ℕ
connection_count rows messaging =
    kind_count rows ExclusiveOwner + (kind_count rows InputOnly + (kind_count rows ListenOnly + length messaging.class3_connections))

-- how many connections of class 1 there may be
abbrev pub most_class1 : Option Places → ℕ
most_class1 None = most_rows
most_class1 (Some places) = all_places places

-- how many of class 3
abbrev pub most_class3 : Option ℕ → ℕ
most_class3 None = most_class3_connections
most_class3 (Some places) = places

-- how many of both
abbrev pub most_connections : MakerLimits → ℕ
most_connections limits = most_class1 limits.places + most_class3 (class3_places limits.places)

-- ATTRIBUTES

-- an attribute: its number, its bytes, and whether Get_Attributes_All has it. One without a number is none of the instance:
-- Get_Attributes_All has these bytes in its place.
pub record Attribute : Type 0 where
  pub number : Option ℕ
  pub value : List ℕ
  pub listed : Bool

abbrev pub listed : ℕ → List ℕ → Attribute
listed number value = record { number = Some number; value = value; listed = true }

abbrev pub single : ℕ → List ℕ → Attribute
single number value = record { number = Some number; value = value; listed = false }

abbrev pub absent : List ℕ → Attribute
absent value = record { number = None; value = value; listed = true }

-- an instance of an object: its attributes, and which services it has beside Get_Attribute_Single. One that has
-- Set_Attribute_Single has both services of lists.
pub record Instance : Type 0 where
  pub attributes : List Attribute
  pub gets_all : Bool
  pub sets : Bool
  pub resets : Bool

abbrev pub u16 : ℕ → List ℕ
u16 number = to_le_bytes w16 number

abbrev pub u32 : ℕ → List ℕ
u32 number = to_le_bytes w32 number

-- a number, at most the largest one of two bytes
abbrev pub in_two_bytes : ℕ → ℕ
in_two_bytes number = if nat_le number 65535 then number else 65535

-- the bytes of a text behind the byte of its length
abbrev pub short_string : List ℕ → List ℕ
short_string text = length text ∷ text

-- numbers of two bytes behind how many they are
abbrev pub numbers : List ℕ → List ℕ
numbers words = u16 (length words) ++ flat_map u16 words

-- what a class says of its instances: which attributes and services they have that the standard leaves open, and their largest
-- attribute
pub record ClassFacts : Type 0 where
  pub attributes : List ℕ
  pub services : List ℕ
  pub largest : ℕ

abbrev pub identity_class : ClassFacts
identity_class = record { attributes = 8 ∷ 9 ∷ []; services = 0x03 ∷ 0x04 ∷ []; largest = 9 }

abbrev pub router_class : ClassFacts
router_class = record { attributes = 1 ∷ 2 ∷ 3 ∷ []; services = 0x03 ∷ 0x04 ∷ 0x0A ∷ []; largest = 3 }

abbrev pub assembly_facts : ClassFacts
assembly_facts = record { attributes = 4 ∷ []; services = 0x03 ∷ 0x04 ∷ []; largest = 4 }

-- its services that may be left out are those of lists, Unconnected_Send and Large_Forward_Open
abbrev pub manager_class : ClassFacts
manager_class = record { attributes = 1 ∷ 2 ∷ 3 ∷ 4 ∷ 5 ∷ 6 ∷ 7 ∷ 8 ∷ []; services = 0x03 ∷ 0x04 ∷ 0x52 ∷ 0x5B ∷ []; largest = 8 }

-- the services of the interface and of the link that may be left out are Get_Attributes_All and those of lists
abbrev pub interface_class : ClassFacts
interface_class = record { attributes = 8 ∷ 9 ∷ 10 ∷ 11 ∷ []; services = 0x01 ∷ 0x03 ∷ 0x04 ∷ []; largest = 13 }

abbrev pub link_class : ClassFacts
link_class = record { attributes = 4 ∷ 5 ∷ 6 ∷ 7 ∷ 8 ∷ 9 ∷ 10 ∷ []; services = 0x01 ∷ 0x03 ∷ 0x04 ∷ []; largest = 11 }

abbrev pub qos_class : ClassFacts
qos_class = record { attributes = 1 ∷ 2 ∷ 3 ∷ []; services = 0x03 ∷ 0x04 ∷ []; largest = 8 }

abbrev pub port_class : ClassFacts
port_class = record { attributes = []; services = 0x03 ∷ 0x04 ∷ []; largest = 7 }

-- the attributes of a class, of which the largest is given
abbrev pub class_attributes : (revision largest count highest : ℕ) → ClassFacts → List Attribute
class_attributes revision largest count highest facts =
    single 1 (u16 revision) ∷ single 2 (u16 largest) ∷ single 3 (u16 count)
    ∷ single 4 (numbers facts.attributes) ∷ single 5 (numbers facts.services)
    ∷ single 6 (u16 highest) ∷ single 7 (u16 facts.largest) ∷ []

-- a class
abbrev pub class_instance : (revision largest count : ℕ) → ClassFacts → Instance
class_instance revision largest count facts = record {
  attributes = class_attributes revision largest count 7 facts;
  gets_all = false;
  sets = true;
  resets = false;
}

-- the state of a device in operation
abbrev pub operational : ℕ
operational = 3

-- the value by which a tool sees that the configuration is another: each byte counts for its place
abbrev pub consistency : List ℕ → ℕ
consistency [] = 0
consistency (byte ∷ bytes) = (byte + 31 * consistency bytes) % 65536

-- of a device without a configuration it is 0
abbrev pub consistency_value : Option (List ℕ) → ℕ
consistency_value None = 0
consistency_value (Some bytes) = consistency bytes

-- the status word, and the configuration consistency value
pub record IdentityState : Type 0 where
  pub status : ℕ
  pub consistency : ℕ

-- the attributes 1 to 7 of the Identity object, its state, and its configuration consistency value
abbrev pub identity_attributes : Identity → Description → IdentityState → List Attribute
identity_attributes identity d standing =
    listed 1 (u16 identity.vendor)
    ∷ listed 2 (u16 identity.device_type)
    ∷ listed 3 (u16 identity.product)
    ∷ listed 4 (identity.major ∷ identity.minor ∷ [])
    ∷ listed 5 (u16 standing.status)
    ∷ listed 6 (u32 d.serial)
    ∷ listed 7 (short_string d.name)
    ∷ single 8 (operational ∷ [])
    ∷ single 9 (u16 standing.consistency)
    ∷ []

abbrev pub identity_instance : Identity → Description → IdentityState → Instance
identity_instance identity d standing = record { attributes = identity_attributes identity d standing; gets_all = true; sets = true; resets = true }

-- the classes that an object of the maker's own may have in the device's place: QoS and Port
abbrev pub yielding_classes : List ℕ
yielding_classes = 0x48 ∷ 0xF4 ∷ []

abbrev pub is_other_class : (own : List ℕ) → ℕ → Bool
is_other_class own class = not (is_own_class own class)

-- the classes of the objects that a device has: those of every described device, and the maker's own
abbrev pub object_list : (own : List ℕ) → List ℕ
object_list own = served_classes ++ (filter (is_other_class own) yielding_classes ++ own)

-- the Message Router: which objects there are, how many connections there may be, and how many there are
abbrev pub router_instance : Profile → (connections : ℕ) → Instance
router_instance profile connections = record {
  attributes = single 1 (numbers (object_list profile.objects)) ∷ single 2 (u16 (most_connections profile.limits)) ∷ single 3 (u16 connections) ∷ [];
  gets_all = false;
  sets = true;
  resets = false;
}

-- the path of the Ethernet Link object behind the number of its words: class F6, instance 1
abbrev pub link_path : List ℕ
link_path = u16 2 ++ (0x20 ∷ 0xF6 ∷ 0x24 ∷ 0x01 ∷ [])

-- address, mask, gateway, two name servers and a domain of no byte
abbrev pub addresses : Profile → List ℕ
addresses profile = u32 profile.node.0 ++ (u32 profile.mask ++ (u32 0 ++ (u32 0 ++ (u32 0 ++ u16 0))))

-- the multicast address of the first input
abbrev pub first_group : Profile → List InputPoint → ℕ
first_group profile [] = 0
first_group profile (input ∷ inputs) = (multicast_address profile input.instance).0

-- the multicast groups: allocated by the rule for all devices, how many they are, and the first
abbrev pub groups : Profile → List ℕ
groups profile = 0 ∷ 0 ∷ (u16 (length profile.inputs) ++ u32 (first_group profile profile.inputs))

-- no conflict of addresses has been seen: its state, a physical address, and a packet
abbrev pub no_conflict : List ℕ
no_conflict = replicate 35 0

-- a device of no safety network
abbrev pub no_safety_number : List ℕ
no_safety_number = replicate 6 0

-- what a device does not do, as a BOOL
abbrev pub is_not : List ℕ
is_not = 0 ∷ []

-- the TCP/IP Interface object: its configuration is valid, comes from outside, and cannot be set; it has no host name; multicast
-- datagrams stay in the network; address conflicts are not looked for, and no quick connection is made
abbrev pub interface_instance : Profile → Description → Instance
interface_instance profile d = record {
  attributes =
      listed 1 (u32 1) ∷ listed 2 (u32 0) ∷ listed 3 (u32 0) ∷ listed 4 link_path ∷ listed 5 (addresses profile) ∷ listed 6 (u16 0)
      ∷ absent no_safety_number ∷ listed 8 (1 ∷ []) ∷ listed 9 (groups profile) ∷ listed 10 is_not ∷ listed 11 no_conflict ∷ absent is_not
      ∷ listed 13 (u16 d.inactivity) ∷ [];
  gets_all = true;
  sets = true;
  resets = false;
}

-- the speed was forced: bits 2 to 4 of the flags are 4
abbrev pub is_forced : (flags : ℕ) → Bool
is_forced flags = flags / 4 % 8 == 4

-- bit 1: speed and duplex are negotiated
abbrev pub capability_bits : (flags : ℕ) → ℕ
capability_bits flags = if is_forced flags then 0 else 2

-- the capability of the link: its bits, and the one speed that it has, full duplex or not
abbrev pub link_capability : (speed flags : ℕ) → List ℕ
link_capability speed flags = u32 (capability_bits flags) ++ (1 ∷ (u16 (in_two_bytes speed) ++ ((flags / 2 % 2) ∷ [])))

-- the label of the link
abbrev pub link_label : List ℕ
link_label = codes "Ethernet"

-- its control: bit 0, speed and duplex are negotiated; where they were forced, bit 1, full duplex, and the speed
abbrev pub link_control : (speed flags : ℕ) → List ℕ
link_control speed flags = if is_forced flags then u16 (2 * (flags / 2 % 2)) ++ u16 (in_two_bytes speed) else u16 1 ++ u16 0

-- what the Ethernet Link object has behind its physical address: what its host has counted, and its control; it is a twisted pair,
-- enabled
abbrev pub link_behind : Description → (link : List ℕ) → List Attribute
link_behind d link =
    listed 4 (interface_counters link) ∷ listed 5 (media_counters link) ∷ listed 6 (link_control d.speed d.flags)
    ∷ listed 7 (2 ∷ []) ∷ listed 8 (1 ∷ []) ∷ listed 9 (1 ∷ []) ∷ listed 10 (short_string link_label)
    ∷ listed 11 (link_capability d.speed d.flags) ∷ []

-- the Ethernet Link object
abbrev pub link_instance : Description → (link : List ℕ) → Instance
link_instance d link = record {
  attributes = listed 1 (u32 d.speed) ∷ listed 2 (u32 d.flags) ∷ listed 3 d.mac ∷ link_behind d link;
  gets_all = true;
  sets = true;
  resets = false;
}

-- the QoS object: frames have no 802.1Q tag; the code points of event and general PTP messages, of class 1 datagrams of priority
-- urgent, scheduled, high and low, and of explicit messages
abbrev pub qos_instance : Instance
qos_instance = record {
  attributes =
      single 1 (0 ∷ []) ∷ single 2 (59 ∷ []) ∷ single 3 (47 ∷ []) ∷ single 4 (55 ∷ []) ∷ single 5 (47 ∷ []) ∷ single 6 (43 ∷ [])
      ∷ single 7 (31 ∷ []) ∷ single 8 (27 ∷ []) ∷ [];
  gets_all = false;
  sets = true;
  resets = false;
}

-- a byte in decimal digits
abbrev pub decimal_byte : ℕ → List ℕ
decimal_byte byte =
    if nat_lt byte 10 then (48 + byte) ∷ []
    else if nat_lt byte 100 then (48 + byte / 10) ∷ (48 + byte % 10) ∷ []
    else (48 + byte / 100) ∷ (48 + byte / 10 % 10) ∷ (48 + byte % 10) ∷ []

-- an address as four numbers with dots between them
abbrev pub node_text : ℕ → List ℕ
node_text node =
    decimal_byte (byte_at 3 node) ++ (46 ∷ (decimal_byte (byte_at 2 node) ++ (46 ∷ (decimal_byte (byte_at 1 node) ++ (46 ∷ decimal_byte (byte_at 0 node))))))

-- behind a text of this length: segments have an even number of bytes
abbrev pub pad_of : ℕ → List ℕ
pad_of len = if len % 2 == 1 then 0 ∷ [] else []

-- a port segment of port 2 with the address of the device
abbrev pub node_segment : ℕ → List ℕ
node_segment node = 0x12 ∷ (length (node_text node) ∷ (node_text node ++ pad_of (length (node_text node))))

-- the path of the TCP/IP Interface object behind the number of its words: class F5, instance 1
abbrev pub interface_path : List ℕ
interface_path = u16 2 ++ (0x20 ∷ 0xF5 ∷ 0x24 ∷ 0x01 ∷ [])

abbrev pub port_name : List ℕ
port_name = codes "EtherNet/IP port"

-- the type of a port of EtherNet/IP, and its number: 1 is that of a backplane
abbrev pub port_type : List ℕ
port_type = u16 4

abbrev pub port_number : List ℕ
port_number = u16 2

-- the Port object: the port of the device's one network
abbrev pub port_instance : Profile → Instance
port_instance profile = record {
  attributes =
      single 1 port_type ∷ single 2 port_number ∷ single 3 interface_path ∷ single 4 (short_string port_name)
      ∷ single 7 (node_segment profile.node.0) ∷ [];
  gets_all = false;
  sets = true;
  resets = false;
}

-- its class says also by which instance a request entered, and type and number of each instance from 0 on, of which 0 is none
abbrev pub port_class_instance : Instance
port_class_instance = record {
  attributes = class_attributes 1 1 1 9 port_class ++ (single 8 (u16 1) ∷ single 9 (u32 0 ++ (port_type ++ port_number)) ∷ []);
  gets_all = false;
  sets = true;
  resets = false;
}

-- an assembly: its data, and its size if the device is described
abbrev pub assembly_attributes : (described : Bool) → List ℕ → List Attribute
assembly_attributes described value = single 3 value ∷ (if described then single 4 (u16 (length value)) ∷ [] else [])

abbrev pub assembly_instance : (described : Bool) → List ℕ → Instance
assembly_instance described value = record { attributes = assembly_attributes described value; gets_all = false; sets = described; resets = false }

-- INSTANCES

-- the largest instance of some points
abbrev pub larger : ℕ → ℕ → ℕ
larger a b = if nat_lt a b then b else a

abbrev pub largest_point : List PointValue → ℕ
largest_point [] = 0
largest_point (value ∷ values) = larger value.point (largest_point values)

-- the largest instance of the points, heartbeats among them
abbrev pub largest_assembly : Profile → List PointValue → ℕ
largest_assembly profile values = larger profile.input_only (larger profile.listen_only (largest_point values))

-- how many points there are, two heartbeats among them
abbrev pub assembly_count : List PointValue → ℕ
assembly_count values = length values + 2

abbrev pub is_heartbeat : Profile → ℕ → Bool
is_heartbeat profile instance = profile.input_only == instance || profile.listen_only == instance

-- the class of the assemblies, and a heartbeat, which has no data, if the device is described
abbrev pub assembly_beside : Profile → List PointValue → ℕ → Option Description → Option Instance
assembly_beside profile values instance None = None
assembly_beside profile values instance (Some d) = first_case (
    (instance == 0, class_instance 2 (in_two_bytes (largest_assembly profile values)) (assembly_count values) assembly_facts)
    ∷ (is_heartbeat profile instance, assembly_instance true [])
    ∷ [])

-- a point with data of this instance is looked for first
abbrev pub assembly_found : Profile → List PointValue → ℕ → Option (List ℕ) → Option Instance
assembly_found profile values instance None = assembly_beside profile values instance profile.description
assembly_found profile values instance (Some value) = Some (assembly_instance (is_some profile.description) value)

abbrev pub assembly_at : AdapterTable → ℕ → Option Instance
assembly_at t instance = assembly_found t.profile t.values instance (bytes_at t.values instance)

-- the configuration holds a byte that is not 0
abbrev pub is_configured : AdapterTable → Bool
is_configured t = holds_bytes (config_bytes t.values t.profile.config)

-- the status word
unfoldable pub status_word : AdapterTable → ℕ
status_word t = status_of (is_configured t) (io_state_of t.rows)

-- how the device stands
abbrev pub standing_of : AdapterTable → IdentityState
standing_of t = record { status = status_word t; consistency = consistency_value (config_bytes t.values t.profile.config) }

-- the class is this one, and no object of the maker's own has it
abbrev pub is_left : (own : List ℕ) → (served class : ℕ) → Bool
is_left own served class = class == served && is_other_class own served

-- the instances of QoS and Port
abbrev pub yielding_cases : Profile → (class instance : ℕ) → List (Case Instance)
yielding_cases profile class instance =
    (is_left profile.objects 0x48 class && instance == 0, class_instance 1 1 1 qos_class)
    ∷ (is_left profile.objects 0x48 class && instance == 1, qos_instance)
    ∷ (is_left profile.objects 0xF4 class && instance == 0, port_class_instance)
    ∷ (is_left profile.objects 0xF4 class && instance == 1, port_instance profile)
    ∷ []

-- the instances of the other classes, by how the device stands, by how many connections there are, and by what its host has counted
abbrev pub described_cases : Profile → IdentityState → (connections : ℕ) → (link : List ℕ) → Description → (class instance : ℕ) → List (Case Instance)
described_cases profile standing connections link d class instance =
    (class == 0x01 && instance == 0, class_instance 1 1 1 identity_class)
    ∷ (class == 0x01 && instance == 1, identity_instance profile.identity d standing)
    ∷ (class == 0x02 && instance == 0, class_instance 1 1 1 router_class)
    ∷ (class == 0x02 && instance == 1, router_instance profile connections)
    ∷ (class == 0x06 && instance == 0, class_instance 1 1 1 manager_class)
    ∷ (class == 0xF5 && instance == 0, class_instance 4 1 1 interface_class)
    ∷ (class == 0xF5 && instance == 1, interface_instance profile d)
    ∷ (class == 0xF6 && instance == 0, class_instance 4 1 1 link_class)
    ∷ (class == 0xF6 && instance == 1, link_instance d link)
    ∷ yielding_cases profile class instance

-- the instance of another class
abbrev pub described_at : AdapterTable → (class instance : ℕ) → Option Description → Option Instance
described_at t class instance None = None
described_at t class instance (Some d) = first_case (described_cases t.profile (standing_of t) (connection_count t.rows t.messaging) t.counters.link d class instance)

-- the counters of the Connection Manager
abbrev pub manager_attributes : ManagerCounters → List Attribute
manager_attributes c =
    single 1 (u16 c.opens) ∷ single 2 (u16 c.open_formats) ∷ single 3 (u16 c.open_resources) ∷ single 4 (u16 c.open_others)
    ∷ single 5 (u16 c.closes) ∷ single 6 (u16 c.close_formats) ∷ single 7 (u16 c.close_others) ∷ single 8 (u16 c.time_outs) ∷ []

-- the Connection Manager itself: of a device without a description it has the services of connections alone
abbrev pub manager_instance : ManagerCounters → Option Description → Instance
manager_instance c None = record { attributes = []; gets_all = false; sets = false; resets = false }
manager_instance c (Some d) = record { attributes = manager_attributes c; gets_all = false; sets = true; resets = false }

-- the instance of a class, if the device has it
unfoldable pub instance_at : AdapterTable → (class instance : ℕ) → Option Instance
instance_at t class instance = first_case_or (described_at t class instance t.profile.description) (
    (class == 0x04, assembly_at t instance)
    ∷ (instance == 1 && class == 0x06, Some (manager_instance t.counters.manager t.profile.description))
    ∷ [])

-- ANSWERS

-- what a service answers: data, a refusal, a reset of a type, data with a general status, the refusal of a service that it carries, or
-- that no port leads to a route of so many words
pub data ObjectAnswer : Type 0 where
  said : ObjectService → List ℕ → ObjectAnswer
  denied : Status → ObjectAnswer
  resetting : ℕ → ObjectAnswer
  answering : ObjectService → (status : ℕ) → List ℕ → ObjectAnswer
  refusing : (service : ℕ) → Status → ObjectAnswer
  unrouted : (words : ℕ) → ObjectAnswer

abbrev pub is_number : ℕ → Option ℕ → Bool
is_number number None = false
is_number number (Some other) = other == number

abbrev pub is_numbered : ℕ → Attribute → Bool
is_numbered number attribute = is_number number attribute.number

-- the attribute of this number, if one is named
abbrev pub attribute_of : List Attribute → Option ℕ → Option Attribute
attribute_of attributes None = None
attribute_of attributes (Some number) = find (is_numbered number) attributes

-- Get_Attribute_Single
abbrev pub single_of : List ℕ → Option Attribute → ObjectAnswer
single_of body None = denied status.Attribute
single_of body (Some attribute) = if length body == 0 then said GetSingle attribute.value else denied status.TooMuchData

-- Set_Attribute_Single: each attribute can only be read
abbrev pub set_of : Option Attribute → ObjectAnswer
set_of None = denied status.Attribute
set_of (Some attribute) = denied status.NotSettable

abbrev pub is_listed : Attribute → Bool
is_listed attribute = attribute.listed

abbrev pub value_of : Attribute → List ℕ
value_of attribute = attribute.value

-- Get_Attributes_All: the listed attributes, one behind the other
abbrev pub all_values : List Attribute → List ℕ
all_values attributes = flat_map value_of (filter is_listed attributes)

abbrev pub all_of : List Attribute → List ℕ → ObjectAnswer
all_of attributes body = if length body == 0 then said GetAll (all_values attributes) else denied status.TooMuchData

-- LISTS OF ATTRIBUTES
--
--   Get_Attribute_List   asked     how many (2), then of each attribute: its number (2)
--                        answered  how many (2), then of each: its number (2), its status (2), and its value if the status is 0
--   Set_Attribute_List   asked     how many (2), then of each attribute: its number (2), and its value
--                        answered  how many (2), then of each: its number (2), and its status (2)

-- the most bytes of data in a reply, those of the longest point
abbrev pub most_data : ℕ
most_data = 1400

-- a number of two bytes
abbrev pub word_of : (low high : ℕ) → ℕ
word_of low high = low + 256 * high

-- data with a general status, if a reply has room for them
abbrev pub answer_within : ObjectService → (general : ℕ) → List ℕ → ObjectAnswer
answer_within by general content = if nat_le (length content) most_data then answering by general content else denied status.ReplyTooLarge

-- the status of the reply to a list: an attribute has one that is not 0 (0x0A), or none has
abbrev pub list_status : (whole : Bool) → ℕ
list_status whole = if whole then 0 else 0x0A

-- how many attributes a reply has room for, with two bytes of each and its status
abbrev pub most_listed : ℕ
most_listed = 349

-- what is answered of the attribute of a number: one that the instance has not (0x14) has no value
abbrev pub got_item : ℕ → Option Attribute → List ℕ
got_item number None = u16 number ++ u16 0x14
got_item number (Some attribute) = u16 number ++ (u16 0 ++ attribute.value)

-- the attributes of a list, one behind the other
abbrev pub got_items : List Attribute → List ℕ → List ℕ
got_items attributes [] = []
got_items attributes (low ∷ []) = []
got_items attributes (low ∷ high ∷ rest) = got_item (word_of low high) (find (is_numbered (word_of low high)) attributes) ++ got_items attributes rest

-- the instance has each attribute of a list
abbrev pub are_attributes : List Attribute → List ℕ → Bool
are_attributes attributes [] = true
are_attributes attributes (low ∷ []) = true
are_attributes attributes (low ∷ high ∷ rest) = is_some (find (is_numbered (word_of low high)) attributes) && are_attributes attributes rest

-- Get_Attribute_List
abbrev pub get_list : List Attribute → List ℕ → ObjectAnswer
get_list attributes [] = denied status.NotEnoughData
get_list attributes (low ∷ []) = denied status.NotEnoughData
get_list attributes (low ∷ high ∷ rest) =
    first_case_or (answer_within GetList (list_status (are_attributes attributes rest)) (low ∷ high ∷ got_items attributes rest)) (
    (nat_lt (length rest) (2 * word_of low high), denied status.NotEnoughData)
    ∷ (nat_lt (2 * word_of low high) (length rest), denied status.TooMuchData)
    ∷ (nat_lt most_listed (word_of low high), denied status.ReplyTooLarge)
    ∷ [])

-- what is answered of an attribute that is to be set: its number, and a status
abbrev pub set_item : (number status : ℕ) → List ℕ
set_item number status = u16 number ++ u16 status

-- how long the value of an attribute is, if the instance has it
abbrev pub value_len : Option Attribute → Option ℕ
value_len None = None
value_len (Some attribute) = Some (length attribute.value)

-- it can only be read (0x0E), it is none of the instance (0x14), or its value is shorter than the one that it has (0x13)
abbrev pub set_status : List ℕ → Option ℕ → ℕ
set_status rest None = 0x14
set_status rest (Some len) = if nat_lt (length rest) len then 0x13 else 0x0E

-- what follows its value, which is as long as the one that it has: nothing is read behind an attribute that the instance has not
abbrev pub behind_value : List ℕ → Option ℕ → List ℕ
behind_value rest None = []
behind_value rest (Some len) = drop len rest

-- at most so many attributes that are to be set
abbrev pub set_items : List Attribute → (count : ℕ) → List ℕ → List ℕ
set_items attributes count [] = []
set_items attributes count (low ∷ []) = []
set_items attributes zero (low ∷ high ∷ rest) = []
set_items attributes (suc count) (low ∷ high ∷ rest) =
    let len = value_len (find (is_numbered (word_of low high)) attributes) in
    set_item (word_of low high) (set_status rest len) ++ set_items attributes count (behind_value rest len)

-- the reply has four bytes of each attribute that it answers
abbrev pub set_reply : List ℕ → ObjectAnswer
set_reply items = answering SetList (list_status (length items == 0)) (u16 (length items / 4) ++ items)

-- Set_Attribute_List: each attribute can only be read
abbrev pub set_list : List Attribute → List ℕ → ObjectAnswer
set_list attributes [] = denied status.NotEnoughData
set_list attributes (low ∷ []) = denied status.NotEnoughData
set_list attributes (low ∷ high ∷ rest) = first_case_or (set_reply (set_items attributes (word_of low high) rest)) (
    (nat_lt (length rest) (2 * word_of low high), denied status.NotEnoughData)
    ∷ (nat_lt most_listed (word_of low high), denied status.ReplyTooLarge)
    ∷ [])

-- a reset of a type: 0 or 1, and only while no output is owned
abbrev pub reset_of : (owned : Bool) → ℕ → ObjectAnswer
reset_of owned kind = first_case_or (resetting kind) ((nat_lt 1 kind, denied status.InvalidParameter) ∷ (owned, denied status.StateConflict) ∷ [])

-- Reset: without data it is of type 0
abbrev pub reset_by : (owned : Bool) → List ℕ → ObjectAnswer
reset_by owned [] = reset_of owned 0
reset_by owned (kind ∷ []) = reset_of owned kind
reset_by owned (kind ∷ more ∷ rest) = denied status.TooMuchData

-- a service of an instance: one without an attribute gets none
abbrev pub instance_answer : (owned : Bool) → (service : ℕ) → Option ℕ → List ℕ → Instance → ObjectAnswer
instance_answer owned service attribute body o = first_case_or (denied status.Service) (
    (service == 0x0E && not (length o.attributes == 0), single_of body (attribute_of o.attributes attribute))
    ∷ (service == 0x10 && o.sets, set_of (attribute_of o.attributes attribute))
    ∷ (service == 0x01 && o.gets_all, all_of o.attributes body)
    ∷ (service == 0x03 && o.sets, get_list o.attributes body)
    ∷ (service == 0x04 && o.sets, set_list o.attributes body)
    ∷ (service == 0x05 && o.resets, reset_by owned body)
    ∷ [])

-- the same of the instance that is found, if one is
abbrev pub object_said : (owned : Bool) → (service : ℕ) → Option ℕ → List ℕ → Option Instance → ObjectAnswer
object_said owned service attribute body None = denied status.PathDestination
object_said owned service attribute body (Some o) = instance_answer owned service attribute body o

-- what a device answers to a service of an object that carries no request
unfoldable pub alone_answer : AdapterTable → (service class instance : ℕ) → Option ℕ → List ℕ → ObjectAnswer
alone_answer t service class instance attribute body =
    object_said (list_any is_owning t.rows) service attribute body (instance_at t class instance)
