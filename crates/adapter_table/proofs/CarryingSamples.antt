-- Lists of attributes, packets of services and requests with a route at a described adapter, byte for byte, by hand.
use Rattle.std.proofs.Common.{◌≡◌, ℕ, List, [], ◌∷◌, map, Option, Some, None, refl}
use Rattle.cip_epath.specs.Reading as paths
use Rattle.cip_fwdopen.specs.Close as closes
use Rattle.cip_fwdopen.specs.Open as opens
use Rattle.cip_fwdopen.specs.Reply as refusals
use Rattle.cip_fwdopen.specs.Request as requests
use Rattle.cip_netparams.specs.Word as words
use Rattle.cip_router.specs.declared.object_service.ObjectService.TheVariants.{GetSingle, GetList, SetList, Packet}
use Rattle.cip_router.specs.declared.refusal.Status.TheVariants as status
use Rattle.cip_router.specs.Replies as values
use Rattle.cip_router.specs.Replies.{reply_text}
use Rattle.cip_router.specs.Requests.{router_request_reading}
use Rattle.adapter_table.specs.declared.profile.Action.TheVariants.{Zero}
use Rattle.adapter_table.specs.declared.profile.Description.{Description}
use Rattle.adapter_table.specs.declared.table.AdapterTable.{AdapterTable}
use Rattle.adapter_table.specs.Profiles.{no_limits}
use Rattle.adapter_table.specs.Objects.{ObjectAnswer, said, denied, answering, refusing, unrouted, alone_answer, instance_at, status_word}
use Rattle.adapter_table.specs.Carrying.{object_answer}
use Rattle.adapter_table.specs.Requests.{object_served}
use Rattle.adapter_table.specs.Step.{adapter_table}

abbrev description : Description
description = record { serial = 0x11223344; name = []; port = 44818; speed = 100; flags = 0xF; mac = 2 ∷ 0 ∷ 192 ∷ 168 ∷ 1 ∷ 10 ∷ []; inactivity = 120 }

-- an adapter of vendor 1 and device type 12 with the output 150 and the input 100 of 4 bytes, and objects of class 0x64
abbrev table : Option Description → AdapterTable
table described = adapter_table (record {
  incarnation = 0x10;
  node = record { 0 = 0xC0A8010A };
  mask = 0xFFFFFF00;
  identity = record { vendor = 1; device_type = 12; product = 7; major = 2; minor = 3 };
  outputs = record { instance = 150; len = 4; idle = Zero; fault = Zero } ∷ [];
  inputs = record { instance = 100; len = 4 } ∷ [];
  config = None;
  input_only = 152;
  listen_only = 153;
  description = described;
  limits = no_limits;
  objects = 0x64 ∷ [];
  ids = None;
})

-- ---- lists of attributes of the Identity object

abbrev got_list : List ℕ → ObjectAnswer
got_list body = object_answer (table (Some description)) 0x03 0x01 1 None body

abbrev set_list : List ℕ → ObjectAnswer
set_list body = object_answer (table (Some description)) 0x04 0x01 1 None body

-- vendor and device type
two_attributes : got_list (0x02 ∷ 0x00 ∷ 0x01 ∷ 0x00 ∷ 0x02 ∷ 0x00 ∷ []) ≡ answering GetList 0x00 (0x02 ∷ 0x00 ∷ 0x01 ∷ 0x00 ∷ 0x00 ∷ 0x00 ∷ 0x01 ∷ 0x00 ∷ 0x02 ∷ 0x00 ∷ 0x00 ∷ 0x00 ∷ 0x0C ∷ 0x00 ∷ [])
unfolding object_answer alone_answer instance_at status_word router_request_reading requests.request_reading closes.close_reading opens.open_reading paths.path_reading paths.target_reading paths.segments_at paths.segment_at paths.logical_at paths.value_at words.params16 values.object_reply_text values.own_reply_text refusals.refused_text
two_attributes = refl

-- vendor, attribute 99, serial number
an_attribute_that_it_has_not : got_list (0x03 ∷ 0x00 ∷ 0x01 ∷ 0x00 ∷ 0x63 ∷ 0x00 ∷ 0x06 ∷ 0x00 ∷ []) ≡ answering GetList 0x0A (0x03 ∷ 0x00 ∷ 0x01 ∷ 0x00 ∷ 0x00 ∷ 0x00 ∷ 0x01 ∷ 0x00 ∷ 0x63 ∷ 0x00 ∷ 0x14 ∷ 0x00 ∷ 0x06 ∷ 0x00 ∷ 0x00 ∷ 0x00 ∷ 0x44 ∷ 0x33 ∷ 0x22 ∷ 0x11 ∷ [])
unfolding object_answer alone_answer instance_at status_word router_request_reading requests.request_reading closes.close_reading opens.open_reading paths.path_reading paths.target_reading paths.segments_at paths.segment_at paths.logical_at paths.value_at words.params16 values.object_reply_text values.own_reply_text refusals.refused_text
an_attribute_that_it_has_not = refl

-- no number of attributes, too few of them, a byte more, and none of 65,535
bad_lists : map got_list ([] ∷ (0x02 ∷ []) ∷ (0x02 ∷ 0x00 ∷ 0x01 ∷ 0x00 ∷ []) ∷ (0x01 ∷ 0x00 ∷ 0x01 ∷ 0x00 ∷ 0x02 ∷ []) ∷ (0xFF ∷ 0xFF ∷ []) ∷ []) ≡ denied status.NotEnoughData ∷ denied status.NotEnoughData ∷ denied status.NotEnoughData ∷ denied status.TooMuchData ∷ denied status.NotEnoughData ∷ []
unfolding object_answer alone_answer instance_at status_word router_request_reading requests.request_reading closes.close_reading opens.open_reading paths.path_reading paths.target_reading paths.segments_at paths.segment_at paths.logical_at paths.value_at words.params16 values.object_reply_text values.own_reply_text refusals.refused_text
bad_lists = refl

-- vendor 5, and attribute 99
none_is_set : set_list (0x02 ∷ 0x00 ∷ 0x01 ∷ 0x00 ∷ 0x05 ∷ 0x00 ∷ 0x63 ∷ 0x00 ∷ 0x01 ∷ []) ≡ answering SetList 0x0A (0x02 ∷ 0x00 ∷ 0x01 ∷ 0x00 ∷ 0x0E ∷ 0x00 ∷ 0x63 ∷ 0x00 ∷ 0x14 ∷ 0x00 ∷ [])
unfolding object_answer alone_answer instance_at status_word router_request_reading requests.request_reading closes.close_reading opens.open_reading paths.path_reading paths.target_reading paths.segments_at paths.segment_at paths.logical_at paths.value_at words.params16 values.object_reply_text values.own_reply_text refusals.refused_text
none_is_set = refl

-- attribute 99 before vendor and device type
nothing_is_read_behind_an_unknown_one : set_list (0x03 ∷ 0x00 ∷ 0x63 ∷ 0x00 ∷ 0x01 ∷ 0x00 ∷ 0x05 ∷ 0x00 ∷ 0x02 ∷ 0x00 ∷ 0x05 ∷ 0x00 ∷ []) ≡ answering SetList 0x0A (0x01 ∷ 0x00 ∷ 0x63 ∷ 0x00 ∷ 0x14 ∷ 0x00 ∷ [])
unfolding object_answer alone_answer instance_at status_word router_request_reading requests.request_reading closes.close_reading opens.open_reading paths.path_reading paths.target_reading paths.segments_at paths.segment_at paths.logical_at paths.value_at words.params16 values.object_reply_text values.own_reply_text refusals.refused_text
nothing_is_read_behind_an_unknown_one = refl

-- three bytes of a serial number
a_short_value : set_list (0x01 ∷ 0x00 ∷ 0x06 ∷ 0x00 ∷ 0x01 ∷ 0x02 ∷ 0x03 ∷ []) ≡ answering SetList 0x0A (0x01 ∷ 0x00 ∷ 0x06 ∷ 0x00 ∷ 0x13 ∷ 0x00 ∷ [])
unfolding object_answer alone_answer instance_at status_word router_request_reading requests.request_reading closes.close_reading opens.open_reading paths.path_reading paths.target_reading paths.segments_at paths.segment_at paths.logical_at paths.value_at words.params16 values.object_reply_text values.own_reply_text refusals.refused_text
a_short_value = refl

bad_sets : map set_list ((0x00 ∷ 0x00 ∷ []) ∷ [] ∷ (0x02 ∷ 0x00 ∷ 0x01 ∷ 0x00 ∷ []) ∷ (0xFF ∷ 0xFF ∷ 0x01 ∷ 0x00 ∷ []) ∷ []) ≡ answering SetList 0x00 (0x00 ∷ 0x00 ∷ []) ∷ denied status.NotEnoughData ∷ denied status.NotEnoughData ∷ denied status.NotEnoughData ∷ []
unfolding object_answer alone_answer instance_at status_word router_request_reading requests.request_reading closes.close_reading opens.open_reading paths.path_reading paths.target_reading paths.segments_at paths.segment_at paths.logical_at paths.value_at words.params16 values.object_reply_text values.own_reply_text refusals.refused_text
bad_sets = refl

-- ---- packets

abbrev packet : List ℕ → ObjectAnswer
packet body = object_answer (table (Some description)) 0x0A 0x02 1 None body

-- the vendor
one_service : packet (0x01 ∷ 0x00 ∷ 0x04 ∷ 0x00 ∷ 0x0E ∷ 0x03 ∷ 0x20 ∷ 0x01 ∷ 0x24 ∷ 0x01 ∷ 0x30 ∷ 0x01 ∷ []) ≡ answering Packet 0x00 (0x01 ∷ 0x00 ∷ 0x04 ∷ 0x00 ∷ 0x8E ∷ 0x00 ∷ 0x00 ∷ 0x00 ∷ 0x01 ∷ 0x00 ∷ [])
unfolding object_answer alone_answer instance_at status_word router_request_reading requests.request_reading closes.close_reading opens.open_reading paths.path_reading paths.target_reading paths.segments_at paths.segment_at paths.logical_at paths.value_at words.params16 values.object_reply_text values.own_reply_text refusals.refused_text
one_service = refl

-- the vendor, and an assembly that is none
two_services : packet (0x02 ∷ 0x00 ∷ 0x06 ∷ 0x00 ∷ 0x0E ∷ 0x00 ∷ 0x0E ∷ 0x03 ∷ 0x20 ∷ 0x01 ∷ 0x24 ∷ 0x01 ∷ 0x30 ∷ 0x01 ∷ 0x0E ∷ 0x03 ∷ 0x20 ∷ 0x04 ∷ 0x24 ∷ 0x63 ∷ 0x30 ∷ 0x03 ∷ []) ≡ answering Packet 0x1E (0x02 ∷ 0x00 ∷ 0x06 ∷ 0x00 ∷ 0x0C ∷ 0x00 ∷ 0x8E ∷ 0x00 ∷ 0x00 ∷ 0x00 ∷ 0x01 ∷ 0x00 ∷ 0x8E ∷ 0x00 ∷ 0x05 ∷ 0x00 ∷ [])
unfolding object_answer alone_answer instance_at status_word router_request_reading requests.request_reading closes.close_reading opens.open_reading paths.path_reading paths.target_reading paths.segments_at paths.segment_at paths.logical_at paths.value_at words.params16 values.object_reply_text values.own_reply_text refusals.refused_text
two_services = refl

-- a packet, a reset, a request to an object of the maker's own, and an Unconnected_Send
services_that_no_packet_carries : packet (0x04 ∷ 0x00 ∷ 0x0A ∷ 0x00 ∷ 0x12 ∷ 0x00 ∷ 0x18 ∷ 0x00 ∷ 0x20 ∷ 0x00 ∷ 0x0A ∷ 0x02 ∷ 0x20 ∷ 0x02 ∷ 0x24 ∷ 0x01 ∷ 0x00 ∷ 0x00 ∷ 0x05 ∷ 0x02 ∷ 0x20 ∷ 0x01 ∷ 0x24 ∷ 0x01 ∷ 0x0E ∷ 0x03 ∷ 0x20 ∷ 0x64 ∷ 0x24 ∷ 0x01 ∷ 0x30 ∷ 0x05 ∷ 0x52 ∷ 0x02 ∷ 0x20 ∷ 0x06 ∷ 0x24 ∷ 0x01 ∷ []) ≡ answering Packet 0x1E (0x04 ∷ 0x00 ∷ 0x0A ∷ 0x00 ∷ 0x0E ∷ 0x00 ∷ 0x12 ∷ 0x00 ∷ 0x16 ∷ 0x00 ∷ 0x8A ∷ 0x00 ∷ 0x08 ∷ 0x00 ∷ 0x85 ∷ 0x00 ∷ 0x08 ∷ 0x00 ∷ 0x8E ∷ 0x00 ∷ 0x08 ∷ 0x00 ∷ 0xD2 ∷ 0x00 ∷ 0x08 ∷ 0x00 ∷ [])
unfolding object_answer alone_answer instance_at status_word router_request_reading requests.request_reading closes.close_reading opens.open_reading paths.path_reading paths.target_reading paths.segments_at paths.segment_at paths.logical_at paths.value_at words.params16 values.object_reply_text values.own_reply_text refusals.refused_text
services_that_no_packet_carries = refl

an_open_without_data : packet (0x01 ∷ 0x00 ∷ 0x04 ∷ 0x00 ∷ 0x54 ∷ 0x02 ∷ 0x20 ∷ 0x06 ∷ 0x24 ∷ 0x01 ∷ []) ≡ answering Packet 0x1E (0x01 ∷ 0x00 ∷ 0x04 ∷ 0x00 ∷ 0xD4 ∷ 0x00 ∷ 0x13 ∷ 0x00 ∷ [])
unfolding object_answer alone_answer instance_at status_word router_request_reading requests.request_reading closes.close_reading opens.open_reading paths.path_reading paths.target_reading paths.segments_at paths.segment_at paths.logical_at paths.value_at words.params16 values.object_reply_text values.own_reply_text refusals.refused_text
an_open_without_data = refl

-- no number, one place too few, a place within the places, two that overlap, one behind the end, and too few bytes for 65,535
bad_packets : map packet ([] ∷ (0x02 ∷ 0x00 ∷ 0x06 ∷ 0x00 ∷ []) ∷ (0x01 ∷ 0x00 ∷ 0x03 ∷ 0x00 ∷ 0x0E ∷ []) ∷ (0x02 ∷ 0x00 ∷ 0x06 ∷ 0x00 ∷ 0x06 ∷ 0x00 ∷ 0x0E ∷ []) ∷ (0x01 ∷ 0x00 ∷ 0x05 ∷ 0x00 ∷ 0x0E ∷ []) ∷ (0xFF ∷ 0xFF ∷ 0x00 ∷ []) ∷ []) ≡ denied status.NotEnoughData ∷ denied status.NotEnoughData ∷ denied status.InvalidParameter ∷ denied status.InvalidParameter ∷ denied status.InvalidParameter ∷ denied status.NotEnoughData ∷ []
unfolding object_answer alone_answer instance_at status_word router_request_reading requests.request_reading closes.close_reading opens.open_reading paths.path_reading paths.target_reading paths.segments_at paths.segment_at paths.logical_at paths.value_at words.params16 values.object_reply_text values.own_reply_text refusals.refused_text
bad_packets = refl

-- ---- requests with a route

abbrev sent : List ℕ → ObjectAnswer
sent body = object_answer (table (Some description)) 0x52 0x06 1 None body

-- the vendor
without_a_route : sent (0x0A ∷ 0x0E ∷ 0x08 ∷ 0x00 ∷ 0x0E ∷ 0x03 ∷ 0x20 ∷ 0x01 ∷ 0x24 ∷ 0x01 ∷ 0x30 ∷ 0x01 ∷ 0x00 ∷ 0x00 ∷ []) ≡ said GetSingle (0x01 ∷ 0x00 ∷ [])
unfolding object_answer alone_answer instance_at status_word router_request_reading requests.request_reading closes.close_reading opens.open_reading paths.path_reading paths.target_reading paths.segments_at paths.segment_at paths.logical_at paths.value_at words.params16 values.object_reply_text values.own_reply_text refusals.refused_text
without_a_route = refl

-- instance 2 of the Identity object, and three bytes that are no request, with a pad byte
its_refusal_is_of_the_service : map sent ((0x0A ∷ 0x0E ∷ 0x08 ∷ 0x00 ∷ 0x0E ∷ 0x03 ∷ 0x20 ∷ 0x01 ∷ 0x24 ∷ 0x02 ∷ 0x30 ∷ 0x01 ∷ 0x00 ∷ 0x00 ∷ []) ∷ (0x0A ∷ 0x0E ∷ 0x03 ∷ 0x00 ∷ 0x0E ∷ 0x00 ∷ 0xFF ∷ 0x00 ∷ 0x00 ∷ 0x00 ∷ []) ∷ []) ≡ refusing 0x0E status.PathDestination ∷ refusing 0x0E status.PathSegment ∷ []
unfolding object_answer alone_answer instance_at status_word router_request_reading requests.request_reading closes.close_reading opens.open_reading paths.path_reading paths.target_reading paths.segments_at paths.segment_at paths.logical_at paths.value_at words.params16 values.object_reply_text values.own_reply_text refusals.refused_text
its_refusal_is_of_the_service = refl

it_carries_a_packet : sent (0x0A ∷ 0x0E ∷ 0x12 ∷ 0x00 ∷ 0x0A ∷ 0x02 ∷ 0x20 ∷ 0x02 ∷ 0x24 ∷ 0x01 ∷ 0x01 ∷ 0x00 ∷ 0x04 ∷ 0x00 ∷ 0x0E ∷ 0x03 ∷ 0x20 ∷ 0x01 ∷ 0x24 ∷ 0x01 ∷ 0x30 ∷ 0x01 ∷ 0x00 ∷ 0x00 ∷ []) ≡ answering Packet 0x00 (0x01 ∷ 0x00 ∷ 0x04 ∷ 0x00 ∷ 0x8E ∷ 0x00 ∷ 0x00 ∷ 0x00 ∷ 0x01 ∷ 0x00 ∷ [])
unfolding object_answer alone_answer instance_at status_word router_request_reading requests.request_reading closes.close_reading opens.open_reading paths.path_reading paths.target_reading paths.segments_at paths.segment_at paths.logical_at paths.value_at words.params16 values.object_reply_text values.own_reply_text refusals.refused_text
it_carries_a_packet = refl

-- port 1, link 0
with_a_route : sent (0x0A ∷ 0x0E ∷ 0x08 ∷ 0x00 ∷ 0x0E ∷ 0x03 ∷ 0x20 ∷ 0x01 ∷ 0x24 ∷ 0x01 ∷ 0x30 ∷ 0x01 ∷ 0x01 ∷ 0x00 ∷ 0x01 ∷ 0x00 ∷ []) ≡ unrouted 1
unfolding object_answer alone_answer instance_at status_word router_request_reading requests.request_reading closes.close_reading opens.open_reading paths.path_reading paths.target_reading paths.segments_at paths.segment_at paths.logical_at paths.value_at words.params16 values.object_reply_text values.own_reply_text refusals.refused_text
with_a_route = refl

the_reply_to_a_route : reply_text (object_served (table (Some description)) 0x52 (unrouted 1)).reply ≡ (0xD2 ∷ 0x00 ∷ 0x01 ∷ 0x01 ∷ 0x11 ∷ 0x03 ∷ 0x01 ∷ 0x00 ∷ [])
unfolding object_answer alone_answer instance_at status_word router_request_reading requests.request_reading closes.close_reading opens.open_reading paths.path_reading paths.target_reading paths.segments_at paths.segment_at paths.logical_at paths.value_at words.params16 values.object_reply_text values.own_reply_text refusals.refused_text
the_reply_to_a_route = refl

-- no request, an Unconnected_Send, an open without data, and a request to an object of the maker's own
services_that_it_does_not_carry : map sent ((0x0A ∷ 0x0E ∷ 0x00 ∷ 0x00 ∷ 0x00 ∷ 0x00 ∷ []) ∷ (0x0A ∷ 0x0E ∷ 0x06 ∷ 0x00 ∷ 0x52 ∷ 0x02 ∷ 0x20 ∷ 0x06 ∷ 0x24 ∷ 0x01 ∷ 0x00 ∷ 0x00 ∷ []) ∷ (0x0A ∷ 0x0E ∷ 0x06 ∷ 0x00 ∷ 0x54 ∷ 0x02 ∷ 0x20 ∷ 0x06 ∷ 0x24 ∷ 0x01 ∷ 0x00 ∷ 0x00 ∷ []) ∷ (0x0A ∷ 0x0E ∷ 0x08 ∷ 0x00 ∷ 0x0E ∷ 0x03 ∷ 0x20 ∷ 0x64 ∷ 0x24 ∷ 0x01 ∷ 0x30 ∷ 0x05 ∷ 0x00 ∷ 0x00 ∷ []) ∷ []) ≡ refusing 0x52 status.NotEnoughData ∷ refusing 0x52 status.Service ∷ refusing 0x54 status.NotEnoughData ∷ refusing 0x0E status.Service ∷ []
unfolding object_answer alone_answer instance_at status_word router_request_reading requests.request_reading closes.close_reading opens.open_reading paths.path_reading paths.target_reading paths.segments_at paths.segment_at paths.logical_at paths.value_at words.params16 values.object_reply_text values.own_reply_text refusals.refused_text
services_that_it_does_not_carry = refl

-- nothing, an end within the request, a route that is not there, and a byte behind it
bad_routes : map sent ([] ∷ (0x0A ∷ 0x0E ∷ 0x08 ∷ 0x00 ∷ 0x0E ∷ 0x03 ∷ 0x20 ∷ []) ∷ (0x0A ∷ 0x0E ∷ 0x02 ∷ 0x00 ∷ 0x0E ∷ 0x00 ∷ 0x01 ∷ 0x00 ∷ 0x01 ∷ []) ∷ (0x0A ∷ 0x0E ∷ 0x02 ∷ 0x00 ∷ 0x0E ∷ 0x00 ∷ 0x00 ∷ 0x00 ∷ 0x00 ∷ []) ∷ []) ≡ denied status.NotEnoughData ∷ denied status.NotEnoughData ∷ denied status.NotEnoughData ∷ denied status.TooMuchData ∷ []
unfolding object_answer alone_answer instance_at status_word router_request_reading requests.request_reading closes.close_reading opens.open_reading paths.path_reading paths.target_reading paths.segments_at paths.segment_at paths.logical_at paths.value_at words.params16 values.object_reply_text values.own_reply_text refusals.refused_text
bad_routes = refl

-- ---- a device without a description

-- a list of an assembly, a packet, and an Unconnected_Send
it_has_none_of_them : object_answer (table None) 0x03 0x04 150 None (0x01 ∷ 0x00 ∷ 0x03 ∷ 0x00 ∷ []) ∷ object_answer (table None) 0x0A 0x02 1 None (0x00 ∷ 0x00 ∷ []) ∷ object_answer (table None) 0x52 0x06 1 None (0x0A ∷ 0x0E ∷ 0x08 ∷ 0x00 ∷ 0x0E ∷ 0x03 ∷ 0x20 ∷ 0x01 ∷ 0x24 ∷ 0x01 ∷ 0x30 ∷ 0x01 ∷ 0x00 ∷ 0x00 ∷ []) ∷ [] ≡ denied status.Service ∷ denied status.PathDestination ∷ denied status.Service ∷ []
unfolding object_answer alone_answer instance_at status_word router_request_reading requests.request_reading closes.close_reading opens.open_reading paths.path_reading paths.target_reading paths.segments_at paths.segment_at paths.logical_at paths.value_at words.params16 values.object_reply_text values.own_reply_text refusals.refused_text
it_has_none_of_them = refl
