-- The objects of a described adapter at 192.168.1.10, byte for byte, and of one without a description (Volume 1, chapter 5, object
-- library, and chapter 3, Port; Volume 2, chapter 5, TCP/IP Interface, Ethernet Link and QoS).
use Rattle.std.proofs.Common.{◌≡◌, refl, ℕ, List, [], ◌∷◌, ◌++◌, map, replicate, Some, None}
use Rattle.cip_router.specs.declared.object_service.ObjectService.TheVariants.{GetAll, GetSingle}
use Rattle.cip_router.specs.declared.refusal.Status.TheVariants as status
use Rattle.adapter_table.specs.declared.maker_limits.MakerLimits.{MakerLimits}
use Rattle.adapter_table.specs.declared.profile.Action.TheVariants.{Zero}
use Rattle.adapter_table.specs.declared.profile.Description.{Description}
use Rattle.adapter_table.specs.declared.profile.Profile.{Profile}
use Rattle.adapter_table.specs.Objects.{ObjectAnswer, said, denied, instance_at, status_word, consistency, link_capability, link_control, node_segment, most_connections, object_list, alone_answer}
use Rattle.adapter_table.specs.Carrying.{object_answer}
use Rattle.adapter_table.specs.Opening.{multicast_address}
use Rattle.adapter_table.specs.Profiles.{no_limits}
use Rattle.adapter_table.specs.Step.{adapter_table}

-- the name Pump, the standard TCP port, 100 Mbit/s with a link and full duplex, a physical address, and two minutes
abbrev pump : Description
pump = record {
  serial = 0x12345678;
  name = 0x50 ∷ 0x75 ∷ 0x6D ∷ 0x70 ∷ [];
  port = 44818;
  speed = 100;
  flags = 0x0F;
  mac = 0x02 ∷ 0x00 ∷ 0x5E ∷ 0x10 ∷ 0x00 ∷ 0x07 ∷ [];
  inactivity = 120;
}

-- the output 150 and the input 100 of 4 bytes each, the configuration 151 of 2, and the maker's own class 0x64
abbrev described : Profile
described = record {
  incarnation = 0x10;
  node = record { 0 = 0xC0A8010A };
  mask = 0xFFFFFF00;
  identity = record { vendor = 1; device_type = 12; product = 7; major = 2; minor = 3 };
  outputs = record { instance = 150; len = 4; idle = Zero; fault = Zero } ∷ [];
  inputs = record { instance = 100; len = 4 } ∷ [];
  config = Some (record { instance = 151; len = 2 });
  input_only = 152;
  listen_only = 153;
  description = Some pump;
  limits = no_limits;
  objects = 0x64 ∷ [];
  ids = None;
}

-- the same without a description
abbrev plain : Profile
plain = record described { description = None }

-- Get_Attribute_Single of an attribute
abbrev got : Profile → (class instance number : ℕ) → ObjectAnswer
got profile class instance number = object_answer (adapter_table profile) 0x0E class instance (Some number) []

-- Get_Attributes_All
abbrev all : Profile → (class : ℕ) → ObjectAnswer
all profile class = object_answer (adapter_table profile) 0x01 class 1 None []

abbrev is : List ℕ → ObjectAnswer
is value = said GetSingle value

abbrev absent : ObjectAnswer
absent = denied status.PathDestination

abbrev unknown : ObjectAnswer
unknown = denied status.Attribute

-- ---- the Message Router

-- nine classes, the last one the maker's own; 64 connections of class 1 and 64 of class 3 there may be, and there are none
the_objects_and_their_connections :
    map (got described 0x02 1) (1 ∷ 2 ∷ 3 ∷ 4 ∷ [])
    ≡ is (0x09 ∷ 0x00 ∷ 0x01 ∷ 0x00 ∷ 0x02 ∷ 0x00 ∷ 0x04 ∷ 0x00 ∷ 0x06 ∷ 0x00 ∷ 0xF5 ∷ 0x00 ∷ 0xF6 ∷ 0x00 ∷ 0x48 ∷ 0x00 ∷ 0xF4 ∷ 0x00 ∷ 0x64 ∷ 0x00 ∷ [])
    ∷ is (0x80 ∷ 0x00 ∷ []) ∷ is (0x00 ∷ 0x00 ∷ []) ∷ unknown ∷ []
unfolding object_answer alone_answer instance_at status_word
the_objects_and_their_connections = refl

-- two owners, four readers and a listener; five of class 3, or 64 where they are not stated
abbrev places : MakerLimits
places = record no_limits { places = Some (record { owners = 2; readers = 4; listeners = 1; class3_connections = Some 5 }) }

abbrev three_places : MakerLimits
three_places = record no_limits { places = Some (record { owners = 2; readers = 4; listeners = 1; class3_connections = None }) }

connections_that_there_may_be : map most_connections (no_limits ∷ places ∷ three_places ∷ []) ≡ 128 ∷ 12 ∷ 71 ∷ []
connections_that_there_may_be = refl

-- a device without a description has no Message Router to ask
no_list_of_objects : map (got plain 0x02 1) (1 ∷ 2 ∷ 3 ∷ []) ≡ absent ∷ absent ∷ absent ∷ []
unfolding object_answer alone_answer instance_at
no_list_of_objects = refl

-- ---- classes: optional attributes and services, largest attribute of the class and of its instances

class_of_the_router :
    map (got described 0x02 0) (1 ∷ 2 ∷ 3 ∷ 4 ∷ 5 ∷ 6 ∷ 7 ∷ 8 ∷ [])
    ≡ is (0x01 ∷ 0x00 ∷ []) ∷ is (0x01 ∷ 0x00 ∷ []) ∷ is (0x01 ∷ 0x00 ∷ [])
    ∷ is (0x03 ∷ 0x00 ∷ 0x01 ∷ 0x00 ∷ 0x02 ∷ 0x00 ∷ 0x03 ∷ 0x00 ∷ []) ∷ is (0x03 ∷ 0x00 ∷ 0x03 ∷ 0x00 ∷ 0x04 ∷ 0x00 ∷ 0x0A ∷ 0x00 ∷ []) ∷ is (0x07 ∷ 0x00 ∷ []) ∷ is (0x03 ∷ 0x00 ∷ []) ∷ unknown ∷ []
unfolding object_answer alone_answer instance_at status_word
class_of_the_router = refl

class_of_identity :
    map (got described 0x01 0) (4 ∷ 5 ∷ 6 ∷ 7 ∷ [])
    ≡ is (0x02 ∷ 0x00 ∷ 0x08 ∷ 0x00 ∷ 0x09 ∷ 0x00 ∷ []) ∷ is (0x02 ∷ 0x00 ∷ 0x03 ∷ 0x00 ∷ 0x04 ∷ 0x00 ∷ []) ∷ is (0x07 ∷ 0x00 ∷ []) ∷ is (0x09 ∷ 0x00 ∷ []) ∷ []
unfolding object_answer alone_answer instance_at status_word
class_of_identity = refl

-- of the Connection Manager the counters, both services of lists, Unconnected_Send and Large_Forward_Open may be left out
class_of_the_connection_manager :
    map (got described 0x06 0) (4 ∷ 5 ∷ 6 ∷ 7 ∷ [])
    ≡ is (0x08 ∷ 0x00 ∷ 0x01 ∷ 0x00 ∷ 0x02 ∷ 0x00 ∷ 0x03 ∷ 0x00 ∷ 0x04 ∷ 0x00 ∷ 0x05 ∷ 0x00 ∷ 0x06 ∷ 0x00 ∷ 0x07 ∷ 0x00 ∷ 0x08 ∷ 0x00 ∷ [])
    ∷ is (0x04 ∷ 0x00 ∷ 0x03 ∷ 0x00 ∷ 0x04 ∷ 0x00 ∷ 0x52 ∷ 0x00 ∷ 0x5B ∷ 0x00 ∷ []) ∷ is (0x07 ∷ 0x00 ∷ []) ∷ is (0x08 ∷ 0x00 ∷ []) ∷ []
unfolding object_answer alone_answer instance_at status_word
class_of_the_connection_manager = refl

-- ---- assemblies

-- 150, 100, 151, and the heartbeats 152 and 153, of which 153 is the largest instance
class_of_assemblies :
    map (got described 0x04 0) (2 ∷ 3 ∷ 4 ∷ 7 ∷ [])
    ≡ is (0x99 ∷ 0x00 ∷ []) ∷ is (0x05 ∷ 0x00 ∷ []) ∷ is (0x01 ∷ 0x00 ∷ 0x04 ∷ 0x00 ∷ []) ∷ is (0x04 ∷ 0x00 ∷ []) ∷ []
unfolding object_answer alone_answer instance_at status_word
class_of_assemblies = refl

heartbeats_have_no_data :
    map (got described 0x04 152) (3 ∷ 4 ∷ 5 ∷ []) ++ map (got described 0x04 153) (3 ∷ 4 ∷ [])
    ≡ is [] ∷ is (0x00 ∷ 0x00 ∷ []) ∷ unknown ∷ is [] ∷ is (0x00 ∷ 0x00 ∷ []) ∷ []
unfolding object_answer alone_answer instance_at status_word
heartbeats_have_no_data = refl

-- instance 0 is the class, though a heartbeat has this number too
the_class_before_a_heartbeat : got (record described { input_only = 0 }) 0x04 0 2 ≡ is (0x99 ∷ 0x00 ∷ [])
unfolding object_answer alone_answer instance_at status_word
the_class_before_a_heartbeat = refl

no_heartbeats : got plain 0x04 152 3 ∷ got plain 0x04 0 1 ∷ got plain 0x04 100 3 ∷ got plain 0x04 100 4 ∷ [] ≡ absent ∷ absent ∷ is (0 ∷ 0 ∷ 0 ∷ 0 ∷ []) ∷ unknown ∷ []
unfolding object_answer alone_answer instance_at
no_heartbeats = refl

-- ---- the Identity object

-- 0xAA + 31 x 0xBB is 5,967, and 0xBB + 31 x 0xAA is 5,457
values_of_configurations :
    map consistency ([] ∷ (0 ∷ 0 ∷ []) ∷ (0xAA ∷ 0xBB ∷ []) ∷ (0xBB ∷ 0xAA ∷ []) ∷ (0 ∷ 0 ∷ 0 ∷ 0xFF ∷ []) ∷ [])
    ≡ 0 ∷ 0 ∷ 5967 ∷ 5457 ∷ 60065 ∷ []
values_of_configurations = refl

state_and_consistency : map (got described 0x01 1) (8 ∷ 9 ∷ 10 ∷ []) ≡ is (0x03 ∷ []) ∷ is (0x00 ∷ 0x00 ∷ []) ∷ unknown ∷ []
unfolding object_answer alone_answer instance_at status_word
state_and_consistency = refl

without_a_configuration : got (record described { config = None }) 0x01 1 9 ≡ is (0x00 ∷ 0x00 ∷ [])
unfolding object_answer alone_answer instance_at status_word
without_a_configuration = refl

-- ---- the TCP/IP Interface object

-- time to live 1; one group, 239.192.2.32; no conflict
interface_behind_the_host_name :
    map (got described 0xF5 1) (7 ∷ 8 ∷ 9 ∷ 10 ∷ 11 ∷ 12 ∷ 13 ∷ [])
    ≡ unknown ∷ is (0x01 ∷ []) ∷ is (0x00 ∷ 0x00 ∷ 0x01 ∷ 0x00 ∷ 0x20 ∷ 0x02 ∷ 0xC0 ∷ 0xEF ∷ []) ∷ is (0x00 ∷ []) ∷ is (replicate 35 0) ∷ unknown
    ∷ is (0x78 ∷ 0x00 ∷ []) ∷ []
unfolding object_answer alone_answer instance_at status_word
interface_behind_the_host_name = refl

-- six zeros in place of attribute 7, and one in place of 12
the_whole_interface :
    all described 0xF5
    ≡ said GetAll
    (0x01 ∷ 0x00 ∷ 0x00 ∷ 0x00 ∷ 0x00 ∷ 0x00 ∷ 0x00 ∷ 0x00 ∷ 0x00 ∷ 0x00 ∷ 0x00 ∷ 0x00 ∷ 0x02 ∷ 0x00 ∷ 0x20 ∷ 0xF6 ∷ 0x24 ∷ 0x01
    ∷ 0x0A ∷ 0x01 ∷ 0xA8 ∷ 0xC0 ∷ 0x00 ∷ 0xFF ∷ 0xFF ∷ 0xFF ∷ replicate 14 0 ++ (0x00 ∷ 0x00 ∷ replicate 6 0 ++ (0x01
    ∷ 0x00 ∷ 0x00 ∷ 0x01 ∷ 0x00 ∷ 0x20 ∷ 0x02 ∷ 0xC0 ∷ 0xEF ∷ 0x00 ∷ replicate 35 0 ++ (0x00 ∷ 0x78 ∷ 0x00 ∷ []))))
unfolding object_answer alone_answer instance_at status_word
the_whole_interface = refl

-- the first group is the one that a multicast connection of the first input is given
the_first_group : multicast_address described 100 ≡ record { 0 = 0xEFC00220 }
the_first_group = refl

-- ---- the Ethernet Link object

link_behind_the_physical_address :
    map (got described 0xF6 1) (4 ∷ 5 ∷ 6 ∷ 7 ∷ 8 ∷ 9 ∷ 10 ∷ 11 ∷ 12 ∷ [])
    ≡ is (replicate 44 0) ∷ is (replicate 48 0) ∷ is (0x01 ∷ 0x00 ∷ 0x00 ∷ 0x00 ∷ []) ∷ is (0x02 ∷ []) ∷ is (0x01 ∷ []) ∷ is (0x01 ∷ [])
    ∷ is (0x08 ∷ 0x45 ∷ 0x74 ∷ 0x68 ∷ 0x65 ∷ 0x72 ∷ 0x6E ∷ 0x65 ∷ 0x74 ∷ []) ∷ is (0x02 ∷ 0x00 ∷ 0x00 ∷ 0x00 ∷ 0x01 ∷ 0x64 ∷ 0x00 ∷ 0x01 ∷ []) ∷ unknown ∷ []
unfolding object_answer alone_answer instance_at status_word
link_behind_the_physical_address = refl

-- 92 zeros of the counters, and a control that negotiates
the_whole_link :
    all described 0xF6
    ≡ said GetAll
    (0x64 ∷ 0x00 ∷ 0x00 ∷ 0x00 ∷ 0x0F ∷ 0x00 ∷ 0x00 ∷ 0x00 ∷ 0x02 ∷ 0x00 ∷ 0x5E ∷ 0x10 ∷ 0x00 ∷ 0x07 ∷ replicate 92 0 ++ (0x01 ∷ 0x00 ∷ 0x00 ∷ 0x00 ∷ 0x02 ∷ 0x01 ∷ 0x01
    ∷ 0x08 ∷ 0x45 ∷ 0x74 ∷ 0x68 ∷ 0x65 ∷ 0x72 ∷ 0x6E ∷ 0x65 ∷ 0x74 ∷ 0x02 ∷ 0x00 ∷ 0x00 ∷ 0x00 ∷ 0x01 ∷ 0x64 ∷ 0x00 ∷ 0x01 ∷ []))
unfolding object_answer alone_answer instance_at status_word
the_whole_link = refl

-- forced to 10 Mbit/s half duplex, and 100 Gbit/s, which two bytes do not hold
other_links :
    link_capability 10 0x11 ∷ link_capability 100000 0x0F ∷ []
    ≡ (0x00 ∷ 0x00 ∷ 0x00 ∷ 0x00 ∷ 0x01 ∷ 0x0A ∷ 0x00 ∷ 0x00 ∷ []) ∷ (0x02 ∷ 0x00 ∷ 0x00 ∷ 0x00 ∷ 0x01 ∷ 0xFF ∷ 0xFF ∷ 0x01 ∷ []) ∷ []
other_links = refl

-- forced to 10 Mbit/s half duplex, and to 100 Mbit/s full duplex
forced_links : link_control 10 0x11 ∷ link_control 100 0x13 ∷ [] ≡ (0x00 ∷ 0x00 ∷ 0x0A ∷ 0x00 ∷ []) ∷ (0x02 ∷ 0x00 ∷ 0x64 ∷ 0x00 ∷ []) ∷ []
forced_links = refl

-- ---- QoS and Port

code_points :
    map (got described 0x48 1) (1 ∷ 2 ∷ 3 ∷ 4 ∷ 5 ∷ 6 ∷ 7 ∷ 8 ∷ 9 ∷ [])
    ≡ is (0 ∷ []) ∷ is (59 ∷ []) ∷ is (47 ∷ []) ∷ is (55 ∷ []) ∷ is (47 ∷ []) ∷ is (43 ∷ []) ∷ is (31 ∷ []) ∷ is (27 ∷ []) ∷ unknown ∷ []
unfolding object_answer alone_answer instance_at status_word
code_points = refl

-- type 4, number 2, the TCP/IP Interface object, its name, and 192.168.1.10 in a port segment
the_port :
    map (got described 0xF4 1) (1 ∷ 2 ∷ 3 ∷ 4 ∷ 5 ∷ 7 ∷ [])
    ≡ is (0x04 ∷ 0x00 ∷ []) ∷ is (0x02 ∷ 0x00 ∷ []) ∷ is (0x02 ∷ 0x00 ∷ 0x20 ∷ 0xF5 ∷ 0x24 ∷ 0x01 ∷ [])
    ∷ is (0x10 ∷ 0x45 ∷ 0x74 ∷ 0x68 ∷ 0x65 ∷ 0x72 ∷ 0x4E ∷ 0x65 ∷ 0x74 ∷ 0x2F ∷ 0x49 ∷ 0x50 ∷ 0x20 ∷ 0x70 ∷ 0x6F ∷ 0x72 ∷ 0x74 ∷ []) ∷ unknown
    ∷ is (0x12 ∷ 0x0C ∷ 0x31 ∷ 0x39 ∷ 0x32 ∷ 0x2E ∷ 0x31 ∷ 0x36 ∷ 0x38 ∷ 0x2E ∷ 0x31 ∷ 0x2E ∷ 0x31 ∷ 0x30 ∷ []) ∷ []
unfolding object_answer alone_answer instance_at status_word
the_port = refl

-- 10.0.0.99 has nine characters, so a zero follows
a_padded_segment : node_segment 0x0A000063 ≡ 0x12 ∷ 0x09 ∷ 0x31 ∷ 0x30 ∷ 0x2E ∷ 0x30 ∷ 0x2E ∷ 0x30 ∷ 0x2E ∷ 0x39 ∷ 0x39 ∷ 0x00 ∷ []
a_padded_segment = refl

classes_of_both :
    map (got described 0x48 0) (1 ∷ 4 ∷ 6 ∷ 7 ∷ 8 ∷ []) ++ map (got described 0xF4 0) (1 ∷ 6 ∷ 7 ∷ 8 ∷ 9 ∷ [])
    ≡ is (0x01 ∷ 0x00 ∷ []) ∷ is (0x03 ∷ 0x00 ∷ 0x01 ∷ 0x00 ∷ 0x02 ∷ 0x00 ∷ 0x03 ∷ 0x00 ∷ []) ∷ is (0x07 ∷ 0x00 ∷ []) ∷ is (0x08 ∷ 0x00 ∷ []) ∷ unknown
    ∷ is (0x01 ∷ 0x00 ∷ []) ∷ is (0x09 ∷ 0x00 ∷ []) ∷ is (0x07 ∷ 0x00 ∷ []) ∷ is (0x01 ∷ 0x00 ∷ [])
    ∷ is (0x00 ∷ 0x00 ∷ 0x00 ∷ 0x00 ∷ 0x04 ∷ 0x00 ∷ 0x02 ∷ 0x00 ∷ []) ∷ []
unfolding object_answer alone_answer instance_at status_word
classes_of_both = refl

-- all at once is no service of theirs, and no attribute can be set
refused_services :
    all described 0x48 ∷ all described 0xF4 ∷ object_answer (adapter_table described) 0x10 0x48 1 (Some 4) (46 ∷ []) ∷ []
    ≡ denied status.Service ∷ denied status.Service ∷ denied status.NotSettable ∷ []
unfolding object_answer alone_answer instance_at status_word
refused_services = refl

-- an object of the maker's own stands in the place of QoS, and is listed once
abbrev own_qos : Profile
own_qos = record described { objects = 0x48 ∷ [] }

the_makers_own_before_ours :
    got own_qos 0x48 1 4 ∷ got own_qos 0x48 0 1 ∷ got own_qos 0xF4 1 2 ∷ [] ≡ absent ∷ absent ∷ is (0x02 ∷ 0x00 ∷ []) ∷ []
unfolding object_answer alone_answer instance_at status_word
the_makers_own_before_ours = refl

listed_once :
    map object_list ((0x48 ∷ []) ∷ (0x64 ∷ 0xF4 ∷ []) ∷ [])
    ≡ (0x01 ∷ 0x02 ∷ 0x04 ∷ 0x06 ∷ 0xF5 ∷ 0xF6 ∷ 0xF4 ∷ 0x48 ∷ []) ∷ (0x01 ∷ 0x02 ∷ 0x04 ∷ 0x06 ∷ 0xF5 ∷ 0xF6 ∷ 0x48 ∷ 0x64 ∷ 0xF4 ∷ []) ∷ []
listed_once = refl

neither_without_a_description : map (got plain 0x48 1) (1 ∷ 4 ∷ []) ++ map (got plain 0xF4 1) (1 ∷ 7 ∷ []) ≡ absent ∷ absent ∷ absent ∷ absent ∷ []
unfolding object_answer alone_answer instance_at
neither_without_a_description = refl
