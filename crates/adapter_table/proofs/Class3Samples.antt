-- Class 3 connections and requests to objects of the maker's own at a small adapter, byte for byte, by hand.
use Rattle.std.proofs.Common.{◌≡◌, ◌+◌, ℕ, true, List, [], ◌∷◌, map, replicate, Option, Some, None, Result, Ok, Err, refl}
use Rattle.std.specs.List.{range_with_len}
use Rattle.cip_types.specs.declared.names.Node.{Node}
use Rattle.cip_types.specs.declared.names.Triad.{Triad}
use Rattle.cip_encap.specs.ConnectedReading.{connected_reading}
use Rattle.cip_encap.specs.Reading as messages
use Rattle.cip_encap.specs.PacketReading as packets
use Rattle.cip_epath.specs.MessagePath.{message_path_reading}
use Rattle.cip_epath.specs.Reading as paths
use Rattle.cip_router.specs.Replies as values
use Rattle.cip_fwdopen.specs.Close as closes
use Rattle.cip_fwdopen.specs.Open as opens
use Rattle.cip_fwdopen.specs.Reply as replies
use Rattle.cip_fwdopen.specs.Request as requests
use Rattle.cip_netparams.specs.Word as words
use Rattle.cip_events.specs.declared.event.Answer.{Answer}
use Rattle.cip_events.specs.declared.event.Delivery.TheVariants.{Duplicate, UnknownId, WrongSize}
use Rattle.cip_events.specs.declared.event.Event.TheVariants.{Request, Frame, StreamCut, Tick, Respond}
use Rattle.cip_events.specs.declared.event.Notice.{Notice}
use Rattle.cip_events.specs.declared.event.Notice.TheVariants.{Opened, Closed, Dropped, Expired}
use Rattle.cip_events.specs.declared.event.Recipient.TheVariants.{Stream as OnStream, Peer as ToPeer}
use Rattle.cip_events.specs.declared.event.StepFault.{StepFault}
use Rattle.cip_events.specs.declared.event.StepFault.TheVariants.{NotAllowedNow, WrongLength}
use Rattle.cip_events.specs.declared.event.Verdict.{Verdict}
use Rattle.cip_events.specs.declared.event.Verdict.TheVariants.{Done, Asked, Delivered}
use Rattle.cip_events.specs.Answers.{plain_answer}
use Rattle.messaging.specs.declared.class3.Class3Connection.{Class3Connection}
use Rattle.messaging.specs.declared.requests.Requester.{Requester}
use Rattle.messaging.specs.declared.requests.Requester.TheVariants as asker
use Rattle.messaging.specs.Changes as changes
use Rattle.messaging.specs.Times.{without_late_class3_connections, without_late_waiting, aged}
use Rattle.cip_router.specs.Requests.{router_request_reading}
use Rattle.cip_router.specs.Frames.{frame_reading}
use Rattle.adapter_table.specs.declared.profile.Action.TheVariants.{Zero}
use Rattle.adapter_table.specs.declared.profile.Profile.{Profile}
use Rattle.adapter_table.specs.declared.table.AdapterTable.{AdapterTable}
use Rattle.cip_events.specs.declared.profile_fault.ProfileFault.{ProfileFault}
use Rattle.cip_events.specs.declared.profile_fault.ProfileFault.TheVariants.{Objects}
use Rattle.adapter_table.specs.declared.counters.ManagerCounters.{ManagerCounters}
use Rattle.adapter_table.specs.Counters.{no_counts}
use Rattle.adapter_table.specs.Profiles.{no_limits, profile_fault}
use Rattle.adapter_table.specs.Answering.{respond}
use Rattle.adapter_table.specs.Checks.{verdict}
use Rattle.adapter_table.specs.Class3Opening.{class3_refusal, served_class3, opened_class3}
use Rattle.adapter_table.specs.Encapsulation.{handled, frame}
use Rattle.adapter_table.specs.Inquiries.{inquiry_reply}
use Rattle.adapter_table.specs.Messages.{messages_table}
use Rattle.adapter_table.specs.Objects.{instance_at, alone_answer}
use Rattle.adapter_table.specs.Carrying.{object_answer}
use Rattle.adapter_table.specs.Requests.{Next, served_open, served_end, served_object, requested}
use Rattle.adapter_table.specs.Streams.{without_stream, stream_cut}
use Rattle.adapter_table.specs.Ticks.{clocked_table, expired_table, produced_table, tick}
use Rattle.adapter_table.specs.Step.{adapter_table, adapter_step}

-- an adapter at 192.168.1.10 with the output 150 and the input 100 of 4 bytes, and objects of class 0x64
abbrev profile : Profile
profile = record {
  incarnation = 0x10;
  node = record { 0 = 0xC0A8010A };
  mask = 0xFFFFFF00;
  identity = record { vendor = 1; device_type = 12; product = 7; major = 2; minor = 3 };
  outputs = record { instance = 150; len = 4; idle = Zero; fault = Zero } ∷ [];
  inputs = record { instance = 100; len = 4 } ∷ [];
  config = None;
  input_only = 152;
  listen_only = 153;
  description = None;
  limits = no_limits;
  objects = 0x64 ∷ [];
  ids = None;
}

-- its peer, at 192.168.1.20
abbrev peer : Node
peer = record { 0 = 0xC0A80114 }

-- stream 0 is open, with a session
abbrev registered : AdapterTable
registered = record (adapter_table profile) { streams = record { number = 0; peer = peer; registered = true } ∷ [] }

-- what the frame of these bytes on stream 0 gives
abbrev after : AdapterTable → List ℕ → Result Next StepFault
after t bytes = adapter_step t (Frame 0 bytes)

-- an answer of one frame on stream 0
abbrev says : List ℕ → Verdict → List Notice → Answer
says bytes verdict notices = record { frames = record { to = OnStream 0; bytes = bytes } ∷ []; datagrams = []; verdict = verdict; notices = notices }

abbrev notes : List Notice → Answer
notes notices = record (plain_answer Done) { notices = notices }

-- a table that has counted this and nothing else
abbrev having : ManagerCounters → AdapterTable → AdapterTable
having counts t = record t { counters = record { manager = counts; link = [] } }

-- one opening, one that was refused, and one for which there was no connection left; one close, and one that was refused; one
-- connection that timed out
abbrev opened_once : ManagerCounters
opened_once = record no_counts { opens = 1 }

abbrev refused_once : ManagerCounters
refused_once = record no_counts { opens = 1; open_others = 1 }

abbrev crowded_once : ManagerCounters
crowded_once = record no_counts { opens = 1; open_resources = 1 }

abbrev closed_once : ManagerCounters
closed_once = record no_counts { closes = 1 }

abbrev denied_once : ManagerCounters
denied_once = record no_counts { closes = 1; close_others = 1 }

abbrev late_once : ManagerCounters
late_once = record no_counts { time_outs = 1 }

-- ---- a class 3 connection is opened

abbrev triad : Triad
triad = record { serial = 5; vendor = 0x1234; originator = 0x12345678 }

-- a message of this count was the last, with this reply, and the next one is due before this time
abbrev class3 : Option ℕ → List ℕ → ℕ → Class3Connection
class3 last reply deadline = record {
  triad = triad;
  peer = peer;
  stream = 0;
  o_t_id = record { 0 = 0x10000001 };
  t_o_id = record { 0 = 0x20000001 };
  o_t_api_ms = 10;
  t_o_api_ms = 10;
  o_t_size = 20;
  t_o_size = 20;
  watchdog = record { 0 = 160 };
  opening = 1;
  last = last;
  reply = reply;
  deadline = record { 0 = deadline };
}

-- the connection is open, beside no other
abbrev talking : Option ℕ → List ℕ → ℕ → AdapterTable
talking last reply deadline = record registered {
  next_id = 2;
  messaging = record { class3_connections = class3 last reply deadline ∷ []; waiting = []; next_number = 1 };
}

abbrev open_request : List ℕ
open_request = 0x6F ∷ 0x00 ∷ 0x3E ∷ 0x00 ∷ 0x01 ∷ 0x00 ∷ 0x00 ∷ 0x00 ∷ 0x00 ∷ 0x00 ∷ 0x00 ∷ 0x00 ∷ 0x01 ∷ 0x02 ∷ 0x03 ∷ 0x04 ∷ 0x05 ∷ 0x06 ∷ 0x07 ∷ 0x08 ∷ 0x00 ∷ 0x00 ∷ 0x00 ∷ 0x00 ∷ 0x00 ∷ 0x00 ∷ 0x00 ∷ 0x00 ∷ 0x00 ∷ 0x00 ∷ 0x02 ∷ 0x00 ∷ 0x00 ∷ 0x00 ∷ 0x00 ∷ 0x00 ∷ 0xB2 ∷ 0x00 ∷ 0x2E ∷ 0x00 ∷ 0x54 ∷ 0x02 ∷ 0x20 ∷ 0x06 ∷ 0x24 ∷ 0x01 ∷ 0x0A ∷ 0x0E ∷ 0x00 ∷ 0x00 ∷ 0x00 ∷ 0x00 ∷ 0x01 ∷ 0x00 ∷ 0x00 ∷ 0x20 ∷ 0x05 ∷ 0x00 ∷ 0x34 ∷ 0x12 ∷ 0x78 ∷ 0x56 ∷ 0x34 ∷ 0x12 ∷ 0x02 ∷ 0x00 ∷ 0x00 ∷ 0x00 ∷ 0x10 ∷ 0x27 ∷ 0x00 ∷ 0x00 ∷ 0x14 ∷ 0x40 ∷ 0x10 ∷ 0x27 ∷ 0x00 ∷ 0x00 ∷ 0x14 ∷ 0x40 ∷ 0xA3 ∷ 0x02 ∷ 0x20 ∷ 0x02 ∷ 0x24 ∷ 0x01 ∷ []

abbrev open_reply : List ℕ
open_reply = 0x6F ∷ 0x00 ∷ 0x2E ∷ 0x00 ∷ 0x01 ∷ 0x00 ∷ 0x00 ∷ 0x00 ∷ 0x00 ∷ 0x00 ∷ 0x00 ∷ 0x00 ∷ 0x01 ∷ 0x02 ∷ 0x03 ∷ 0x04 ∷ 0x05 ∷ 0x06 ∷ 0x07 ∷ 0x08 ∷ 0x00 ∷ 0x00 ∷ 0x00 ∷ 0x00 ∷ 0x00 ∷ 0x00 ∷ 0x00 ∷ 0x00 ∷ 0x00 ∷ 0x00 ∷ 0x02 ∷ 0x00 ∷ 0x00 ∷ 0x00 ∷ 0x00 ∷ 0x00 ∷ 0xB2 ∷ 0x00 ∷ 0x1E ∷ 0x00 ∷ 0xD4 ∷ 0x00 ∷ 0x00 ∷ 0x00 ∷ 0x01 ∷ 0x00 ∷ 0x00 ∷ 0x10 ∷ 0x01 ∷ 0x00 ∷ 0x00 ∷ 0x20 ∷ 0x05 ∷ 0x00 ∷ 0x34 ∷ 0x12 ∷ 0x78 ∷ 0x56 ∷ 0x34 ∷ 0x12 ∷ 0x10 ∷ 0x27 ∷ 0x00 ∷ 0x00 ∷ 0x10 ∷ 0x27 ∷ 0x00 ∷ 0x00 ∷ 0x00 ∷ 0x00 ∷ []

a_class_3_connection_is_opened : after registered open_request ≡ Ok (says open_reply Done (Opened triad (record { 0 = 0x10000001 }) ∷ []), having opened_once (talking None [] 10000))
unfolding frame inquiry_reply frame_reading handled messages.message_reading packets.packet_reading packets.are_sockets router_request_reading requests.request_reading paths.target_reading paths.segments_at paths.segment_at paths.logical_at paths.value_at opens.open_reading message_path_reading words.params16 class3_refusal served_class3 opened_class3 messages_table changes.with_class3 replies.opened_text
a_class_3_connection_is_opened = refl

-- general status 1, extended status 0x0100, and the triad
abbrev in_use : List ℕ
in_use = 0x6F ∷ 0x00 ∷ 0x20 ∷ 0x00 ∷ 0x01 ∷ 0x00 ∷ 0x00 ∷ 0x00 ∷ 0x00 ∷ 0x00 ∷ 0x00 ∷ 0x00 ∷ 0x01 ∷ 0x02 ∷ 0x03 ∷ 0x04 ∷ 0x05 ∷ 0x06 ∷ 0x07 ∷ 0x08 ∷ 0x00 ∷ 0x00 ∷ 0x00 ∷ 0x00 ∷ 0x00 ∷ 0x00 ∷ 0x00 ∷ 0x00 ∷ 0x00 ∷ 0x00 ∷ 0x02 ∷ 0x00 ∷ 0x00 ∷ 0x00 ∷ 0x00 ∷ 0x00 ∷ 0xB2 ∷ 0x00 ∷ 0x10 ∷ 0x00 ∷ 0xD4 ∷ 0x00 ∷ 0x01 ∷ 0x01 ∷ 0x00 ∷ 0x01 ∷ 0x05 ∷ 0x00 ∷ 0x34 ∷ 0x12 ∷ 0x78 ∷ 0x56 ∷ 0x34 ∷ 0x12 ∷ 0x00 ∷ 0x00 ∷ []

a_triad_is_used_once : after (talking None [] 10000) open_request ≡ Ok (says in_use Done [], having refused_once (talking None [] 10000))
unfolding frame inquiry_reply frame_reading handled messages.message_reading packets.packet_reading packets.are_sockets router_request_reading requests.request_reading paths.target_reading paths.segments_at paths.segment_at paths.logical_at paths.value_at opens.open_reading message_path_reading words.params16 class3_refusal served_class3 opened_class3 messages_table changes.with_class3 replies.opened_text replies.refused_text
a_triad_is_used_once = refl

abbrev open_size_0 : List ℕ
open_size_0 = 0x6F ∷ 0x00 ∷ 0x3E ∷ 0x00 ∷ 0x01 ∷ 0x00 ∷ 0x00 ∷ 0x00 ∷ 0x00 ∷ 0x00 ∷ 0x00 ∷ 0x00 ∷ 0x01 ∷ 0x02 ∷ 0x03 ∷ 0x04 ∷ 0x05 ∷ 0x06 ∷ 0x07 ∷ 0x08 ∷ 0x00 ∷ 0x00 ∷ 0x00 ∷ 0x00 ∷ 0x00 ∷ 0x00 ∷ 0x00 ∷ 0x00 ∷ 0x00 ∷ 0x00 ∷ 0x02 ∷ 0x00 ∷ 0x00 ∷ 0x00 ∷ 0x00 ∷ 0x00 ∷ 0xB2 ∷ 0x00 ∷ 0x2E ∷ 0x00 ∷ 0x54 ∷ 0x02 ∷ 0x20 ∷ 0x06 ∷ 0x24 ∷ 0x01 ∷ 0x0A ∷ 0x0E ∷ 0x00 ∷ 0x00 ∷ 0x00 ∷ 0x00 ∷ 0x01 ∷ 0x00 ∷ 0x00 ∷ 0x20 ∷ 0x05 ∷ 0x00 ∷ 0x34 ∷ 0x12 ∷ 0x78 ∷ 0x56 ∷ 0x34 ∷ 0x12 ∷ 0x02 ∷ 0x00 ∷ 0x00 ∷ 0x00 ∷ 0x10 ∷ 0x27 ∷ 0x00 ∷ 0x00 ∷ 0x00 ∷ 0x40 ∷ 0x10 ∷ 0x27 ∷ 0x00 ∷ 0x00 ∷ 0x14 ∷ 0x40 ∷ 0xA3 ∷ 0x02 ∷ 0x20 ∷ 0x02 ∷ 0x24 ∷ 0x01 ∷ []

abbrev no_size : List ℕ
no_size = 0x6F ∷ 0x00 ∷ 0x20 ∷ 0x00 ∷ 0x01 ∷ 0x00 ∷ 0x00 ∷ 0x00 ∷ 0x00 ∷ 0x00 ∷ 0x00 ∷ 0x00 ∷ 0x01 ∷ 0x02 ∷ 0x03 ∷ 0x04 ∷ 0x05 ∷ 0x06 ∷ 0x07 ∷ 0x08 ∷ 0x00 ∷ 0x00 ∷ 0x00 ∷ 0x00 ∷ 0x00 ∷ 0x00 ∷ 0x00 ∷ 0x00 ∷ 0x00 ∷ 0x00 ∷ 0x02 ∷ 0x00 ∷ 0x00 ∷ 0x00 ∷ 0x00 ∷ 0x00 ∷ 0xB2 ∷ 0x00 ∷ 0x10 ∷ 0x00 ∷ 0xD4 ∷ 0x00 ∷ 0x01 ∷ 0x01 ∷ 0x27 ∷ 0x01 ∷ 0x05 ∷ 0x00 ∷ 0x34 ∷ 0x12 ∷ 0x78 ∷ 0x56 ∷ 0x34 ∷ 0x12 ∷ 0x00 ∷ 0x00 ∷ []

a_size_of_0_is_refused : after registered open_size_0 ≡ Ok (says no_size Done [], having refused_once registered)
unfolding frame inquiry_reply frame_reading handled messages.message_reading packets.packet_reading packets.are_sockets router_request_reading requests.request_reading paths.target_reading paths.segments_at paths.segment_at paths.logical_at paths.value_at opens.open_reading message_path_reading words.params16 class3_refusal served_class3 opened_class3 messages_table changes.with_class3 replies.opened_text replies.refused_text
a_size_of_0_is_refused = refl

abbrev open_assembly : List ℕ
open_assembly = 0x6F ∷ 0x00 ∷ 0x3E ∷ 0x00 ∷ 0x01 ∷ 0x00 ∷ 0x00 ∷ 0x00 ∷ 0x00 ∷ 0x00 ∷ 0x00 ∷ 0x00 ∷ 0x01 ∷ 0x02 ∷ 0x03 ∷ 0x04 ∷ 0x05 ∷ 0x06 ∷ 0x07 ∷ 0x08 ∷ 0x00 ∷ 0x00 ∷ 0x00 ∷ 0x00 ∷ 0x00 ∷ 0x00 ∷ 0x00 ∷ 0x00 ∷ 0x00 ∷ 0x00 ∷ 0x02 ∷ 0x00 ∷ 0x00 ∷ 0x00 ∷ 0x00 ∷ 0x00 ∷ 0xB2 ∷ 0x00 ∷ 0x2E ∷ 0x00 ∷ 0x54 ∷ 0x02 ∷ 0x20 ∷ 0x06 ∷ 0x24 ∷ 0x01 ∷ 0x0A ∷ 0x0E ∷ 0x00 ∷ 0x00 ∷ 0x00 ∷ 0x00 ∷ 0x01 ∷ 0x00 ∷ 0x00 ∷ 0x20 ∷ 0x05 ∷ 0x00 ∷ 0x34 ∷ 0x12 ∷ 0x78 ∷ 0x56 ∷ 0x34 ∷ 0x12 ∷ 0x02 ∷ 0x00 ∷ 0x00 ∷ 0x00 ∷ 0x10 ∷ 0x27 ∷ 0x00 ∷ 0x00 ∷ 0x14 ∷ 0x40 ∷ 0x10 ∷ 0x27 ∷ 0x00 ∷ 0x00 ∷ 0x14 ∷ 0x40 ∷ 0xA3 ∷ 0x02 ∷ 0x20 ∷ 0x04 ∷ 0x24 ∷ 0x01 ∷ []

abbrev other_path : List ℕ
other_path = 0x6F ∷ 0x00 ∷ 0x20 ∷ 0x00 ∷ 0x01 ∷ 0x00 ∷ 0x00 ∷ 0x00 ∷ 0x00 ∷ 0x00 ∷ 0x00 ∷ 0x00 ∷ 0x01 ∷ 0x02 ∷ 0x03 ∷ 0x04 ∷ 0x05 ∷ 0x06 ∷ 0x07 ∷ 0x08 ∷ 0x00 ∷ 0x00 ∷ 0x00 ∷ 0x00 ∷ 0x00 ∷ 0x00 ∷ 0x00 ∷ 0x00 ∷ 0x00 ∷ 0x00 ∷ 0x02 ∷ 0x00 ∷ 0x00 ∷ 0x00 ∷ 0x00 ∷ 0x00 ∷ 0xB2 ∷ 0x00 ∷ 0x10 ∷ 0x00 ∷ 0xD4 ∷ 0x00 ∷ 0x01 ∷ 0x01 ∷ 0x17 ∷ 0x01 ∷ 0x05 ∷ 0x00 ∷ 0x34 ∷ 0x12 ∷ 0x78 ∷ 0x56 ∷ 0x34 ∷ 0x12 ∷ 0x00 ∷ 0x00 ∷ []

another_path_is_refused : after registered open_assembly ≡ Ok (says other_path Done [], having refused_once registered)
unfolding frame inquiry_reply frame_reading handled messages.message_reading packets.packet_reading packets.are_sockets router_request_reading requests.request_reading paths.target_reading paths.segments_at paths.segment_at paths.logical_at paths.value_at opens.open_reading message_path_reading words.params16 class3_refusal served_class3 opened_class3 messages_table changes.with_class3 replies.opened_text replies.refused_text
another_path_is_refused = refl

-- a peer without a stream opens none: general status 1, extended status 0x0103
abbrev bare_open : List ℕ
bare_open = 0x54 ∷ 0x02 ∷ 0x20 ∷ 0x06 ∷ 0x24 ∷ 0x01 ∷ 0x0A ∷ 0x0E ∷ 0x00 ∷ 0x00 ∷ 0x00 ∷ 0x00 ∷ 0x01 ∷ 0x00 ∷ 0x00 ∷ 0x20 ∷ 0x05 ∷ 0x00 ∷ 0x34 ∷ 0x12 ∷ 0x78 ∷ 0x56 ∷ 0x34 ∷ 0x12 ∷ 0x02 ∷ 0x00 ∷ 0x00 ∷ 0x00 ∷ 0x10 ∷ 0x27 ∷ 0x00 ∷ 0x00 ∷ 0x14 ∷ 0x40 ∷ 0x10 ∷ 0x27 ∷ 0x00 ∷ 0x00 ∷ 0x14 ∷ 0x40 ∷ 0xA3 ∷ 0x02 ∷ 0x20 ∷ 0x02 ∷ 0x24 ∷ 0x01 ∷ []

abbrev bare_refusal : List ℕ
bare_refusal = 0xD4 ∷ 0x00 ∷ 0x01 ∷ 0x01 ∷ 0x03 ∷ 0x01 ∷ 0x05 ∷ 0x00 ∷ 0x34 ∷ 0x12 ∷ 0x78 ∷ 0x56 ∷ 0x34 ∷ 0x12 ∷ 0x00 ∷ 0x00 ∷ []

no_stream_has_none : adapter_step registered (Request peer bare_open) ≡ Ok (record { frames = record { to = ToPeer peer; bytes = bare_refusal } ∷ []; datagrams = []; verdict = Done; notices = [] }, having refused_once registered)
unfolding requested router_request_reading requests.request_reading opens.open_reading paths.path_reading paths.target_reading paths.segments_at paths.segment_at paths.logical_at paths.value_at words.params16 verdict served_open replies.refused_text
no_stream_has_none = refl

-- ---- messages

-- Get_Attribute_Single of the data of the output, with count 7, and its reply
abbrev message : List ℕ
message = 0x70 ∷ 0x00 ∷ 0x1E ∷ 0x00 ∷ 0x01 ∷ 0x00 ∷ 0x00 ∷ 0x00 ∷ 0x00 ∷ 0x00 ∷ 0x00 ∷ 0x00 ∷ 0x01 ∷ 0x02 ∷ 0x03 ∷ 0x04 ∷ 0x05 ∷ 0x06 ∷ 0x07 ∷ 0x08 ∷ 0x00 ∷ 0x00 ∷ 0x00 ∷ 0x00 ∷ 0x00 ∷ 0x00 ∷ 0x00 ∷ 0x00 ∷ 0x00 ∷ 0x00 ∷ 0x02 ∷ 0x00 ∷ 0xA1 ∷ 0x00 ∷ 0x04 ∷ 0x00 ∷ 0x01 ∷ 0x00 ∷ 0x00 ∷ 0x10 ∷ 0xB1 ∷ 0x00 ∷ 0x0A ∷ 0x00 ∷ 0x07 ∷ 0x00 ∷ 0x0E ∷ 0x03 ∷ 0x20 ∷ 0x04 ∷ 0x24 ∷ 0x96 ∷ 0x30 ∷ 0x03 ∷ []

abbrev reply : List ℕ
reply = 0x70 ∷ 0x00 ∷ 0x1E ∷ 0x00 ∷ 0x01 ∷ 0x00 ∷ 0x00 ∷ 0x00 ∷ 0x00 ∷ 0x00 ∷ 0x00 ∷ 0x00 ∷ 0x00 ∷ 0x00 ∷ 0x00 ∷ 0x00 ∷ 0x00 ∷ 0x00 ∷ 0x00 ∷ 0x00 ∷ 0x00 ∷ 0x00 ∷ 0x00 ∷ 0x00 ∷ 0x00 ∷ 0x00 ∷ 0x00 ∷ 0x00 ∷ 0x00 ∷ 0x00 ∷ 0x02 ∷ 0x00 ∷ 0xA1 ∷ 0x00 ∷ 0x04 ∷ 0x00 ∷ 0x01 ∷ 0x00 ∷ 0x00 ∷ 0x20 ∷ 0xB1 ∷ 0x00 ∷ 0x0A ∷ 0x00 ∷ 0x07 ∷ 0x00 ∷ 0x8E ∷ 0x00 ∷ 0x00 ∷ 0x00 ∷ 0x00 ∷ 0x00 ∷ 0x00 ∷ 0x00 ∷ []

abbrev zeros : List ℕ
zeros = 0x8E ∷ 0x00 ∷ 0x00 ∷ 0x00 ∷ 0x00 ∷ 0x00 ∷ 0x00 ∷ 0x00 ∷ []

a_message_is_executed : after (talking None [] 10000) message ≡ Ok (says reply Done [], talking (Some 7) zeros 160)
unfolding frame inquiry_reply frame_reading handled messages.message_reading connected_reading packets.are_sockets router_request_reading requests.request_reading paths.target_reading paths.segments_at paths.segment_at paths.logical_at paths.value_at messages_table served_object object_answer alone_answer instance_at values.object_reply_text changes.executed
a_message_is_executed = refl

-- the same bytes again
the_same_count_gets_the_same_reply : after (talking (Some 7) zeros 9) message ≡ Ok (says reply (Delivered Duplicate) [], talking (Some 7) zeros 160)
unfolding frame inquiry_reply frame_reading handled messages.message_reading connected_reading packets.are_sockets router_request_reading requests.request_reading paths.target_reading paths.segments_at paths.segment_at paths.logical_at paths.value_at messages_table changes.repeated
the_same_count_gets_the_same_reply = refl

abbrev next_message : List ℕ
next_message = 0x70 ∷ 0x00 ∷ 0x1E ∷ 0x00 ∷ 0x01 ∷ 0x00 ∷ 0x00 ∷ 0x00 ∷ 0x00 ∷ 0x00 ∷ 0x00 ∷ 0x00 ∷ 0x01 ∷ 0x02 ∷ 0x03 ∷ 0x04 ∷ 0x05 ∷ 0x06 ∷ 0x07 ∷ 0x08 ∷ 0x00 ∷ 0x00 ∷ 0x00 ∷ 0x00 ∷ 0x00 ∷ 0x00 ∷ 0x00 ∷ 0x00 ∷ 0x00 ∷ 0x00 ∷ 0x02 ∷ 0x00 ∷ 0xA1 ∷ 0x00 ∷ 0x04 ∷ 0x00 ∷ 0x01 ∷ 0x00 ∷ 0x00 ∷ 0x10 ∷ 0xB1 ∷ 0x00 ∷ 0x0A ∷ 0x00 ∷ 0x08 ∷ 0x00 ∷ 0x0E ∷ 0x03 ∷ 0x20 ∷ 0x04 ∷ 0x24 ∷ 0x96 ∷ 0x30 ∷ 0x03 ∷ []

abbrev next_reply : List ℕ
next_reply = 0x70 ∷ 0x00 ∷ 0x1E ∷ 0x00 ∷ 0x01 ∷ 0x00 ∷ 0x00 ∷ 0x00 ∷ 0x00 ∷ 0x00 ∷ 0x00 ∷ 0x00 ∷ 0x00 ∷ 0x00 ∷ 0x00 ∷ 0x00 ∷ 0x00 ∷ 0x00 ∷ 0x00 ∷ 0x00 ∷ 0x00 ∷ 0x00 ∷ 0x00 ∷ 0x00 ∷ 0x00 ∷ 0x00 ∷ 0x00 ∷ 0x00 ∷ 0x00 ∷ 0x00 ∷ 0x02 ∷ 0x00 ∷ 0xA1 ∷ 0x00 ∷ 0x04 ∷ 0x00 ∷ 0x01 ∷ 0x00 ∷ 0x00 ∷ 0x20 ∷ 0xB1 ∷ 0x00 ∷ 0x0A ∷ 0x00 ∷ 0x08 ∷ 0x00 ∷ 0x8E ∷ 0x00 ∷ 0x00 ∷ 0x00 ∷ 0x00 ∷ 0x00 ∷ 0x00 ∷ 0x00 ∷ []

a_new_count_is_executed : after (talking (Some 7) zeros 160) next_message ≡ Ok (says next_reply Done [], talking (Some 8) zeros 160)
unfolding frame inquiry_reply frame_reading handled messages.message_reading connected_reading packets.are_sockets router_request_reading requests.request_reading paths.target_reading paths.segments_at paths.segment_at paths.logical_at paths.value_at messages_table served_object object_answer alone_answer instance_at values.object_reply_text changes.executed
a_new_count_is_executed = refl

abbrev other_id : List ℕ
other_id = 0x70 ∷ 0x00 ∷ 0x1E ∷ 0x00 ∷ 0x01 ∷ 0x00 ∷ 0x00 ∷ 0x00 ∷ 0x00 ∷ 0x00 ∷ 0x00 ∷ 0x00 ∷ 0x01 ∷ 0x02 ∷ 0x03 ∷ 0x04 ∷ 0x05 ∷ 0x06 ∷ 0x07 ∷ 0x08 ∷ 0x00 ∷ 0x00 ∷ 0x00 ∷ 0x00 ∷ 0x00 ∷ 0x00 ∷ 0x00 ∷ 0x00 ∷ 0x00 ∷ 0x00 ∷ 0x02 ∷ 0x00 ∷ 0xA1 ∷ 0x00 ∷ 0x04 ∷ 0x00 ∷ 0x02 ∷ 0x00 ∷ 0x00 ∷ 0x10 ∷ 0xB1 ∷ 0x00 ∷ 0x0A ∷ 0x00 ∷ 0x07 ∷ 0x00 ∷ 0x0E ∷ 0x03 ∷ 0x20 ∷ 0x04 ∷ 0x24 ∷ 0x96 ∷ 0x30 ∷ 0x03 ∷ []

another_id_is_of_no_connection : after (talking None [] 10000) other_id ≡ Ok (plain_answer (Delivered UnknownId), talking None [] 10000)
unfolding frame inquiry_reply frame_reading handled messages.message_reading connected_reading packets.are_sockets router_request_reading requests.request_reading paths.target_reading paths.segments_at paths.segment_at paths.logical_at paths.value_at messages_table
another_id_is_of_no_connection = refl

-- 19 bytes and the count, where the size is 20
abbrev long_message : List ℕ
long_message = 0x70 ∷ 0x00 ∷ 0x29 ∷ 0x00 ∷ 0x01 ∷ 0x00 ∷ 0x00 ∷ 0x00 ∷ 0x00 ∷ 0x00 ∷ 0x00 ∷ 0x00 ∷ 0x01 ∷ 0x02 ∷ 0x03 ∷ 0x04 ∷ 0x05 ∷ 0x06 ∷ 0x07 ∷ 0x08 ∷ 0x00 ∷ 0x00 ∷ 0x00 ∷ 0x00 ∷ 0x00 ∷ 0x00 ∷ 0x00 ∷ 0x00 ∷ 0x00 ∷ 0x00 ∷ 0x02 ∷ 0x00 ∷ 0xA1 ∷ 0x00 ∷ 0x04 ∷ 0x00 ∷ 0x01 ∷ 0x00 ∷ 0x00 ∷ 0x10 ∷ 0xB1 ∷ 0x00 ∷ 0x15 ∷ 0x00 ∷ 0x07 ∷ 0x00 ∷ 0x0E ∷ 0x03 ∷ 0x20 ∷ 0x04 ∷ 0x24 ∷ 0x96 ∷ 0x30 ∷ 0x03 ∷ 0x00 ∷ 0x00 ∷ 0x00 ∷ 0x00 ∷ 0x00 ∷ 0x00 ∷ 0x00 ∷ 0x00 ∷ 0x00 ∷ 0x00 ∷ 0x00 ∷ []

a_long_message_is_not_executed : after (talking None [] 10000) long_message ≡ Ok (plain_answer (Delivered WrongSize), talking None [] 10000)
unfolding frame inquiry_reply frame_reading handled messages.message_reading connected_reading packets.are_sockets router_request_reading requests.request_reading paths.target_reading paths.segments_at paths.segment_at paths.logical_at paths.value_at messages_table
a_long_message_is_not_executed = refl

-- ---- a connection ends

a_cut_drops_it : adapter_step (talking (Some 7) zeros 160) (StreamCut 0) ≡ Ok (notes (Dropped triad ∷ []), record (adapter_table profile) { next_id = 2 })
unfolding stream_cut without_stream changes.without_stream
a_cut_drops_it = refl

abbrev close_request : List ℕ
close_request = 0x6F ∷ 0x00 ∷ 0x26 ∷ 0x00 ∷ 0x01 ∷ 0x00 ∷ 0x00 ∷ 0x00 ∷ 0x00 ∷ 0x00 ∷ 0x00 ∷ 0x00 ∷ 0x01 ∷ 0x02 ∷ 0x03 ∷ 0x04 ∷ 0x05 ∷ 0x06 ∷ 0x07 ∷ 0x08 ∷ 0x00 ∷ 0x00 ∷ 0x00 ∷ 0x00 ∷ 0x00 ∷ 0x00 ∷ 0x00 ∷ 0x00 ∷ 0x00 ∷ 0x00 ∷ 0x02 ∷ 0x00 ∷ 0x00 ∷ 0x00 ∷ 0x00 ∷ 0x00 ∷ 0xB2 ∷ 0x00 ∷ 0x16 ∷ 0x00 ∷ 0x4E ∷ 0x02 ∷ 0x20 ∷ 0x06 ∷ 0x24 ∷ 0x01 ∷ 0x0A ∷ 0x0E ∷ 0x05 ∷ 0x00 ∷ 0x34 ∷ 0x12 ∷ 0x78 ∷ 0x56 ∷ 0x34 ∷ 0x12 ∷ 0x02 ∷ 0x00 ∷ 0x20 ∷ 0x02 ∷ 0x24 ∷ 0x01 ∷ []

abbrev close_reply : List ℕ
close_reply = 0x6F ∷ 0x00 ∷ 0x1E ∷ 0x00 ∷ 0x01 ∷ 0x00 ∷ 0x00 ∷ 0x00 ∷ 0x00 ∷ 0x00 ∷ 0x00 ∷ 0x00 ∷ 0x01 ∷ 0x02 ∷ 0x03 ∷ 0x04 ∷ 0x05 ∷ 0x06 ∷ 0x07 ∷ 0x08 ∷ 0x00 ∷ 0x00 ∷ 0x00 ∷ 0x00 ∷ 0x00 ∷ 0x00 ∷ 0x00 ∷ 0x00 ∷ 0x00 ∷ 0x00 ∷ 0x02 ∷ 0x00 ∷ 0x00 ∷ 0x00 ∷ 0x00 ∷ 0x00 ∷ 0xB2 ∷ 0x00 ∷ 0x0E ∷ 0x00 ∷ 0xCE ∷ 0x00 ∷ 0x00 ∷ 0x00 ∷ 0x05 ∷ 0x00 ∷ 0x34 ∷ 0x12 ∷ 0x78 ∷ 0x56 ∷ 0x34 ∷ 0x12 ∷ 0x00 ∷ 0x00 ∷ []

it_is_closed : after (talking (Some 7) zeros 160) close_request ≡ Ok (says close_reply Done (Closed triad ∷ []), having closed_once (record registered { next_id = 2 }))
unfolding frame inquiry_reply frame_reading handled messages.message_reading packets.packet_reading packets.are_sockets router_request_reading requests.request_reading paths.target_reading paths.segments_at paths.segment_at paths.logical_at paths.value_at closes.close_reading closes.closed_text served_end messages_table changes.without_class3
it_is_closed = refl

-- its watchdog is the time-out of 160 ms after a message
it_expires : adapter_step (talking (Some 7) zeros 160) (Tick 160) ≡ Ok (notes (Expired triad ∷ []), having late_once (record registered { next_id = 2; clock = record { 0 = 160 } }))
unfolding tick clocked_table expired_table produced_table aged without_late_class3_connections without_late_waiting messages_table
it_expires = refl

it_lives_until_then : adapter_step (talking (Some 7) zeros 160) (Tick 159) ≡ Ok (plain_answer Done, record (talking (Some 7) zeros 160) { clock = record { 0 = 159 } })
unfolding tick clocked_table expired_table produced_table aged without_late_class3_connections without_late_waiting messages_table
it_lives_until_then = refl

-- ---- requests to objects of the maker's own

-- the request of number 1 waits, since it came this way
abbrev referred : Requester → AdapterTable → AdapterTable
referred from t = record t { messaging = record { class3_connections = t.messaging.class3_connections; waiting = record { number = 1; peer = peer; asker = from; service = 0x0E; deadline = record { 0 = 10000 } } ∷ []; next_number = 2 } }

-- it was answered
abbrev answered : AdapterTable → AdapterTable
answered t = record t { messaging = record { class3_connections = t.messaging.class3_connections; waiting = []; next_number = 2 } }

-- Get_Attribute_Single of attribute 5 of instance 1 of class 0x64
abbrev asks : Verdict
asks = Asked 1 0x0E 0x64 1 (Some 5) []

abbrev own_request : List ℕ
own_request = 0x6F ∷ 0x00 ∷ 0x18 ∷ 0x00 ∷ 0x01 ∷ 0x00 ∷ 0x00 ∷ 0x00 ∷ 0x00 ∷ 0x00 ∷ 0x00 ∷ 0x00 ∷ 0x01 ∷ 0x02 ∷ 0x03 ∷ 0x04 ∷ 0x05 ∷ 0x06 ∷ 0x07 ∷ 0x08 ∷ 0x00 ∷ 0x00 ∷ 0x00 ∷ 0x00 ∷ 0x00 ∷ 0x00 ∷ 0x00 ∷ 0x00 ∷ 0x00 ∷ 0x00 ∷ 0x02 ∷ 0x00 ∷ 0x00 ∷ 0x00 ∷ 0x00 ∷ 0x00 ∷ 0xB2 ∷ 0x00 ∷ 0x08 ∷ 0x00 ∷ 0x0E ∷ 0x03 ∷ 0x20 ∷ 0x64 ∷ 0x24 ∷ 0x01 ∷ 0x30 ∷ 0x05 ∷ []

abbrev own_reply : List ℕ
own_reply = 0x6F ∷ 0x00 ∷ 0x15 ∷ 0x00 ∷ 0x01 ∷ 0x00 ∷ 0x00 ∷ 0x00 ∷ 0x00 ∷ 0x00 ∷ 0x00 ∷ 0x00 ∷ 0x01 ∷ 0x02 ∷ 0x03 ∷ 0x04 ∷ 0x05 ∷ 0x06 ∷ 0x07 ∷ 0x08 ∷ 0x00 ∷ 0x00 ∷ 0x00 ∷ 0x00 ∷ 0x00 ∷ 0x00 ∷ 0x00 ∷ 0x00 ∷ 0x00 ∷ 0x00 ∷ 0x02 ∷ 0x00 ∷ 0x00 ∷ 0x00 ∷ 0x00 ∷ 0x00 ∷ 0xB2 ∷ 0x00 ∷ 0x05 ∷ 0x00 ∷ 0x8E ∷ 0x00 ∷ 0x00 ∷ 0x00 ∷ 0xAB ∷ []

abbrev late_reply : List ℕ
late_reply = 0x6F ∷ 0x00 ∷ 0x14 ∷ 0x00 ∷ 0x01 ∷ 0x00 ∷ 0x00 ∷ 0x00 ∷ 0x00 ∷ 0x00 ∷ 0x00 ∷ 0x00 ∷ 0x01 ∷ 0x02 ∷ 0x03 ∷ 0x04 ∷ 0x05 ∷ 0x06 ∷ 0x07 ∷ 0x08 ∷ 0x00 ∷ 0x00 ∷ 0x00 ∷ 0x00 ∷ 0x00 ∷ 0x00 ∷ 0x00 ∷ 0x00 ∷ 0x00 ∷ 0x00 ∷ 0x02 ∷ 0x00 ∷ 0x00 ∷ 0x00 ∷ 0x00 ∷ 0x00 ∷ 0xB2 ∷ 0x00 ∷ 0x04 ∷ 0x00 ∷ 0x8E ∷ 0x00 ∷ 0x1F ∷ 0x00 ∷ []

a_request_asks_the_application : after registered own_request ≡ Ok (plain_answer asks, referred (asker.Stream 0 0x0807060504030201) registered)
unfolding frame inquiry_reply frame_reading handled messages.message_reading packets.packet_reading packets.are_sockets router_request_reading requests.request_reading paths.target_reading paths.segments_at paths.segment_at paths.logical_at paths.value_at messages_table changes.referred
a_request_asks_the_application = refl

its_answer_goes_back : adapter_step (referred (asker.Stream 0 0x0807060504030201) registered) (Respond 1 0 (0xAB ∷ [])) ≡ Ok (says own_reply Done [], answered registered)
unfolding respond values.own_reply_text messages_table changes.answered
its_answer_goes_back = refl

no_other_number_is_answered : adapter_step (referred (asker.Stream 0 0x0807060504030201) registered) (Respond 2 0 (0xAB ∷ [])) ≡ Err NotAllowedNow
unfolding respond
no_other_number_is_answered = refl

no_number_is_answered_twice : adapter_step (answered registered) (Respond 1 0 (0xAB ∷ [])) ≡ Err NotAllowedNow
unfolding respond
no_number_is_answered_twice = refl

-- the application has 10 seconds; then the device answers general status 0x1F
a_late_request_is_answered : adapter_step (referred (asker.Stream 0 0x0807060504030201) registered) (Tick 10000) ≡ Ok (says late_reply Done [], record (answered registered) { clock = record { 0 = 10000 } })
unfolding tick clocked_table expired_table produced_table aged without_late_class3_connections without_late_waiting messages_table values.own_reply_text
a_late_request_is_answered = refl

a_request_of_a_peer_waits_too : adapter_step registered (Request peer (0x0E ∷ 0x03 ∷ 0x20 ∷ 0x64 ∷ 0x24 ∷ 0x01 ∷ 0x30 ∷ 0x05 ∷ [])) ≡ Ok (plain_answer asks, referred (asker.Peer peer) registered)
unfolding requested router_request_reading requests.request_reading paths.target_reading paths.segments_at paths.segment_at paths.logical_at paths.value_at messages_table changes.referred
a_request_of_a_peer_waits_too = refl

a_peer_is_answered : adapter_step (referred (asker.Peer peer) registered) (Respond 1 5 []) ≡ Ok (record { frames = record { to = ToPeer peer; bytes = 0x8E ∷ 0 ∷ 5 ∷ 0 ∷ [] } ∷ []; datagrams = []; verdict = Done; notices = [] }, answered registered)
unfolding respond values.own_reply_text messages_table changes.answered
a_peer_is_answered = refl

abbrev own_message : List ℕ
own_message = 0x70 ∷ 0x00 ∷ 0x1E ∷ 0x00 ∷ 0x01 ∷ 0x00 ∷ 0x00 ∷ 0x00 ∷ 0x00 ∷ 0x00 ∷ 0x00 ∷ 0x00 ∷ 0x01 ∷ 0x02 ∷ 0x03 ∷ 0x04 ∷ 0x05 ∷ 0x06 ∷ 0x07 ∷ 0x08 ∷ 0x00 ∷ 0x00 ∷ 0x00 ∷ 0x00 ∷ 0x00 ∷ 0x00 ∷ 0x00 ∷ 0x00 ∷ 0x00 ∷ 0x00 ∷ 0x02 ∷ 0x00 ∷ 0xA1 ∷ 0x00 ∷ 0x04 ∷ 0x00 ∷ 0x01 ∷ 0x00 ∷ 0x00 ∷ 0x10 ∷ 0xB1 ∷ 0x00 ∷ 0x0A ∷ 0x00 ∷ 0x07 ∷ 0x00 ∷ 0x0E ∷ 0x03 ∷ 0x20 ∷ 0x64 ∷ 0x24 ∷ 0x01 ∷ 0x30 ∷ 0x05 ∷ []

abbrev own_message_reply : List ℕ
own_message_reply = 0x70 ∷ 0x00 ∷ 0x1B ∷ 0x00 ∷ 0x01 ∷ 0x00 ∷ 0x00 ∷ 0x00 ∷ 0x00 ∷ 0x00 ∷ 0x00 ∷ 0x00 ∷ 0x00 ∷ 0x00 ∷ 0x00 ∷ 0x00 ∷ 0x00 ∷ 0x00 ∷ 0x00 ∷ 0x00 ∷ 0x00 ∷ 0x00 ∷ 0x00 ∷ 0x00 ∷ 0x00 ∷ 0x00 ∷ 0x00 ∷ 0x00 ∷ 0x00 ∷ 0x00 ∷ 0x02 ∷ 0x00 ∷ 0xA1 ∷ 0x00 ∷ 0x04 ∷ 0x00 ∷ 0x01 ∷ 0x00 ∷ 0x00 ∷ 0x20 ∷ 0xB1 ∷ 0x00 ∷ 0x07 ∷ 0x00 ∷ 0x07 ∷ 0x00 ∷ 0x8E ∷ 0x00 ∷ 0x00 ∷ 0x00 ∷ 0xAB ∷ []

a_message_asks_the_application : after (talking None [] 10000) own_message ≡ Ok (plain_answer asks, referred (asker.Class3Connection (record { 0 = 0x10000001 }) 7) (talking (Some 7) [] 160))
unfolding frame inquiry_reply frame_reading handled messages.message_reading connected_reading packets.are_sockets router_request_reading requests.request_reading paths.target_reading paths.segments_at paths.segment_at paths.logical_at paths.value_at messages_table changes.referred_over changes.referred changes.executed
a_message_asks_the_application = refl

-- the message again, while the application is to answer
it_has_no_reply_yet : after (referred (asker.Class3Connection (record { 0 = 0x10000001 }) 7) (talking (Some 7) [] 9)) own_message ≡ Ok (plain_answer (Delivered Duplicate), referred (asker.Class3Connection (record { 0 = 0x10000001 }) 7) (talking (Some 7) [] 160))
unfolding frame inquiry_reply frame_reading handled messages.message_reading connected_reading packets.are_sockets router_request_reading requests.request_reading paths.target_reading paths.segments_at paths.segment_at paths.logical_at paths.value_at messages_table changes.repeated
it_has_no_reply_yet = refl

its_reply_is_kept : adapter_step (referred (asker.Class3Connection (record { 0 = 0x10000001 }) 7) (talking (Some 7) [] 160)) (Respond 1 0 (0xAB ∷ [])) ≡ Ok (says own_message_reply Done [], answered (talking (Some 7) (0x8E ∷ 0 ∷ 0 ∷ 0 ∷ 0xAB ∷ []) 160))
unfolding respond values.own_reply_text messages_table changes.answered changes.replied
its_reply_is_kept = refl

-- 15 bytes of data, and 4 before them, where the T->O size is 20: general status 0x11
abbrev too_large : List ℕ
too_large = 0x70 ∷ 0x00 ∷ 0x1A ∷ 0x00 ∷ 0x01 ∷ 0x00 ∷ 0x00 ∷ 0x00 ∷ 0x00 ∷ 0x00 ∷ 0x00 ∷ 0x00 ∷ 0x00 ∷ 0x00 ∷ 0x00 ∷ 0x00 ∷ 0x00 ∷ 0x00 ∷ 0x00 ∷ 0x00 ∷ 0x00 ∷ 0x00 ∷ 0x00 ∷ 0x00 ∷ 0x00 ∷ 0x00 ∷ 0x00 ∷ 0x00 ∷ 0x00 ∷ 0x00 ∷ 0x02 ∷ 0x00 ∷ 0xA1 ∷ 0x00 ∷ 0x04 ∷ 0x00 ∷ 0x01 ∷ 0x00 ∷ 0x00 ∷ 0x20 ∷ 0xB1 ∷ 0x00 ∷ 0x06 ∷ 0x00 ∷ 0x07 ∷ 0x00 ∷ 0x8E ∷ 0x00 ∷ 0x11 ∷ 0x00 ∷ []

a_reply_that_is_too_large : adapter_step (referred (asker.Class3Connection (record { 0 = 0x10000001 }) 7) (talking (Some 7) [] 160)) (Respond 1 0 (0x00 ∷ 0x00 ∷ 0x00 ∷ 0x00 ∷ 0x00 ∷ 0x00 ∷ 0x00 ∷ 0x00 ∷ 0x00 ∷ 0x00 ∷ 0x00 ∷ 0x00 ∷ 0x00 ∷ 0x00 ∷ 0x00 ∷ [])) ≡ Ok (says too_large Done [], answered (talking (Some 7) (0x8E ∷ 0 ∷ 0x11 ∷ 0 ∷ []) 160))
unfolding respond values.own_reply_text replies.refused_text messages_table changes.answered changes.replied
a_reply_that_is_too_large = refl

-- what asks goes with its stream
a_cut_forgets_the_request : adapter_step (referred (asker.Class3Connection (record { 0 = 0x10000001 }) 7) (talking (Some 7) [] 160)) (StreamCut 0) ≡ Ok (notes (Dropped triad ∷ []), answered (record (adapter_table profile) { next_id = 2 }))
unfolding stream_cut without_stream changes.without_stream
a_cut_forgets_the_request = refl

and_the_one_over_the_stream : adapter_step (referred (asker.Stream 0 0x0807060504030201) registered) (StreamCut 0) ≡ Ok (plain_answer Done, answered (adapter_table profile))
unfolding stream_cut without_stream changes.without_stream
and_the_one_over_the_stream = refl

-- ---- triads, and what a message cannot do

-- a request of class 1 with the triad of a class 3 connection
abbrev cyclic_open : List ℕ
cyclic_open = 0x6F ∷ 0x00 ∷ 0x40 ∷ 0x00 ∷ 0x01 ∷ 0x00 ∷ 0x00 ∷ 0x00 ∷ 0x00 ∷ 0x00 ∷ 0x00 ∷ 0x00 ∷ 0x01 ∷ 0x02 ∷ 0x03 ∷ 0x04 ∷ 0x05 ∷ 0x06 ∷ 0x07 ∷ 0x08 ∷ 0x00 ∷ 0x00 ∷ 0x00 ∷ 0x00 ∷ 0x00 ∷ 0x00 ∷ 0x00 ∷ 0x00 ∷ 0x00 ∷ 0x00 ∷ 0x02 ∷ 0x00 ∷ 0x00 ∷ 0x00 ∷ 0x00 ∷ 0x00 ∷ 0xB2 ∷ 0x00 ∷ 0x30 ∷ 0x00 ∷ 0x54 ∷ 0x02 ∷ 0x20 ∷ 0x06 ∷ 0x24 ∷ 0x01 ∷ 0x0A ∷ 0x0E ∷ 0x00 ∷ 0x00 ∷ 0x00 ∷ 0x00 ∷ 0x01 ∷ 0x00 ∷ 0x00 ∷ 0x20 ∷ 0x05 ∷ 0x00 ∷ 0x34 ∷ 0x12 ∷ 0x78 ∷ 0x56 ∷ 0x34 ∷ 0x12 ∷ 0x02 ∷ 0x00 ∷ 0x00 ∷ 0x00 ∷ 0x10 ∷ 0x27 ∷ 0x00 ∷ 0x00 ∷ 0x14 ∷ 0x40 ∷ 0x10 ∷ 0x27 ∷ 0x00 ∷ 0x00 ∷ 0x14 ∷ 0x40 ∷ 0x01 ∷ 0x03 ∷ 0x20 ∷ 0x04 ∷ 0x24 ∷ 0x98 ∷ 0x2C ∷ 0x64 ∷ []

a_triad_is_of_one_class : after (talking None [] 10000) cyclic_open ≡ Ok (says in_use Done [], having refused_once (talking None [] 10000))
unfolding frame inquiry_reply frame_reading handled messages.message_reading packets.packet_reading packets.are_sockets router_request_reading requests.request_reading paths.target_reading paths.segments_at paths.segment_at paths.logical_at paths.value_at opens.open_reading message_path_reading words.params16 paths.path_reading verdict served_open replies.refused_text
a_triad_is_of_one_class = refl

-- the same connection, of a large O->T size
abbrev wide : Option ℕ → List ℕ → ℕ → AdapterTable
wide last reply deadline = record registered {
  next_id = 2;
  messaging = record { class3_connections = record (class3 last reply deadline) { o_t_size = 100 } ∷ []; waiting = []; next_number = 1 };
}

-- general status 8
abbrev inner_open : List ℕ
inner_open = 0x70 ∷ 0x00 ∷ 0x44 ∷ 0x00 ∷ 0x01 ∷ 0x00 ∷ 0x00 ∷ 0x00 ∷ 0x00 ∷ 0x00 ∷ 0x00 ∷ 0x00 ∷ 0x01 ∷ 0x02 ∷ 0x03 ∷ 0x04 ∷ 0x05 ∷ 0x06 ∷ 0x07 ∷ 0x08 ∷ 0x00 ∷ 0x00 ∷ 0x00 ∷ 0x00 ∷ 0x00 ∷ 0x00 ∷ 0x00 ∷ 0x00 ∷ 0x00 ∷ 0x00 ∷ 0x02 ∷ 0x00 ∷ 0xA1 ∷ 0x00 ∷ 0x04 ∷ 0x00 ∷ 0x01 ∷ 0x00 ∷ 0x00 ∷ 0x10 ∷ 0xB1 ∷ 0x00 ∷ 0x30 ∷ 0x00 ∷ 0x07 ∷ 0x00 ∷ 0x54 ∷ 0x02 ∷ 0x20 ∷ 0x06 ∷ 0x24 ∷ 0x01 ∷ 0x0A ∷ 0x0E ∷ 0x00 ∷ 0x00 ∷ 0x00 ∷ 0x00 ∷ 0x01 ∷ 0x00 ∷ 0x00 ∷ 0x20 ∷ 0x06 ∷ 0x00 ∷ 0x34 ∷ 0x12 ∷ 0x78 ∷ 0x56 ∷ 0x34 ∷ 0x12 ∷ 0x02 ∷ 0x00 ∷ 0x00 ∷ 0x00 ∷ 0x10 ∷ 0x27 ∷ 0x00 ∷ 0x00 ∷ 0x14 ∷ 0x40 ∷ 0x10 ∷ 0x27 ∷ 0x00 ∷ 0x00 ∷ 0x14 ∷ 0x40 ∷ 0xA3 ∷ 0x02 ∷ 0x20 ∷ 0x02 ∷ 0x24 ∷ 0x01 ∷ []

abbrev open_not_served : List ℕ
open_not_served = 0x70 ∷ 0x00 ∷ 0x1A ∷ 0x00 ∷ 0x01 ∷ 0x00 ∷ 0x00 ∷ 0x00 ∷ 0x00 ∷ 0x00 ∷ 0x00 ∷ 0x00 ∷ 0x00 ∷ 0x00 ∷ 0x00 ∷ 0x00 ∷ 0x00 ∷ 0x00 ∷ 0x00 ∷ 0x00 ∷ 0x00 ∷ 0x00 ∷ 0x00 ∷ 0x00 ∷ 0x00 ∷ 0x00 ∷ 0x00 ∷ 0x00 ∷ 0x00 ∷ 0x00 ∷ 0x02 ∷ 0x00 ∷ 0xA1 ∷ 0x00 ∷ 0x04 ∷ 0x00 ∷ 0x01 ∷ 0x00 ∷ 0x00 ∷ 0x20 ∷ 0xB1 ∷ 0x00 ∷ 0x06 ∷ 0x00 ∷ 0x07 ∷ 0x00 ∷ 0xD4 ∷ 0x00 ∷ 0x08 ∷ 0x00 ∷ []

a_message_opens_no_connection : after (wide None [] 10000) inner_open ≡ Ok (says open_not_served Done [], having refused_once (wide (Some 7) (0xD4 ∷ 0 ∷ 8 ∷ 0 ∷ []) 160))
unfolding frame inquiry_reply frame_reading handled messages.message_reading connected_reading packets.are_sockets router_request_reading requests.request_reading paths.target_reading paths.segments_at paths.segment_at paths.logical_at paths.value_at messages_table opens.open_reading words.params16 changes.executed replies.refused_text
a_message_opens_no_connection = refl

abbrev inner_close : List ℕ
inner_close = 0x70 ∷ 0x00 ∷ 0x2C ∷ 0x00 ∷ 0x01 ∷ 0x00 ∷ 0x00 ∷ 0x00 ∷ 0x00 ∷ 0x00 ∷ 0x00 ∷ 0x00 ∷ 0x01 ∷ 0x02 ∷ 0x03 ∷ 0x04 ∷ 0x05 ∷ 0x06 ∷ 0x07 ∷ 0x08 ∷ 0x00 ∷ 0x00 ∷ 0x00 ∷ 0x00 ∷ 0x00 ∷ 0x00 ∷ 0x00 ∷ 0x00 ∷ 0x00 ∷ 0x00 ∷ 0x02 ∷ 0x00 ∷ 0xA1 ∷ 0x00 ∷ 0x04 ∷ 0x00 ∷ 0x01 ∷ 0x00 ∷ 0x00 ∷ 0x10 ∷ 0xB1 ∷ 0x00 ∷ 0x18 ∷ 0x00 ∷ 0x07 ∷ 0x00 ∷ 0x4E ∷ 0x02 ∷ 0x20 ∷ 0x06 ∷ 0x24 ∷ 0x01 ∷ 0x0A ∷ 0x0E ∷ 0x05 ∷ 0x00 ∷ 0x34 ∷ 0x12 ∷ 0x78 ∷ 0x56 ∷ 0x34 ∷ 0x12 ∷ 0x02 ∷ 0x00 ∷ 0x20 ∷ 0x02 ∷ 0x24 ∷ 0x01 ∷ []

abbrev close_not_served : List ℕ
close_not_served = 0x70 ∷ 0x00 ∷ 0x1A ∷ 0x00 ∷ 0x01 ∷ 0x00 ∷ 0x00 ∷ 0x00 ∷ 0x00 ∷ 0x00 ∷ 0x00 ∷ 0x00 ∷ 0x00 ∷ 0x00 ∷ 0x00 ∷ 0x00 ∷ 0x00 ∷ 0x00 ∷ 0x00 ∷ 0x00 ∷ 0x00 ∷ 0x00 ∷ 0x00 ∷ 0x00 ∷ 0x00 ∷ 0x00 ∷ 0x00 ∷ 0x00 ∷ 0x00 ∷ 0x00 ∷ 0x02 ∷ 0x00 ∷ 0xA1 ∷ 0x00 ∷ 0x04 ∷ 0x00 ∷ 0x01 ∷ 0x00 ∷ 0x00 ∷ 0x20 ∷ 0xB1 ∷ 0x00 ∷ 0x06 ∷ 0x00 ∷ 0x07 ∷ 0x00 ∷ 0xCE ∷ 0x00 ∷ 0x08 ∷ 0x00 ∷ []

a_message_closes_none : after (wide None [] 10000) inner_close ≡ Ok (says close_not_served Done [], having denied_once (wide (Some 7) (0xCE ∷ 0 ∷ 8 ∷ 0 ∷ []) 160))
unfolding frame inquiry_reply frame_reading handled messages.message_reading connected_reading packets.are_sockets router_request_reading requests.request_reading paths.target_reading paths.segments_at paths.segment_at paths.logical_at paths.value_at messages_table closes.close_reading changes.executed replies.refused_text
a_message_closes_none = refl

-- encapsulation status 3
abbrev empty_message : List ℕ
empty_message = 0x70 ∷ 0x00 ∷ 0x16 ∷ 0x00 ∷ 0x01 ∷ 0x00 ∷ 0x00 ∷ 0x00 ∷ 0x00 ∷ 0x00 ∷ 0x00 ∷ 0x00 ∷ 0x01 ∷ 0x02 ∷ 0x03 ∷ 0x04 ∷ 0x05 ∷ 0x06 ∷ 0x07 ∷ 0x08 ∷ 0x00 ∷ 0x00 ∷ 0x00 ∷ 0x00 ∷ 0x00 ∷ 0x00 ∷ 0x00 ∷ 0x00 ∷ 0x00 ∷ 0x00 ∷ 0x02 ∷ 0x00 ∷ 0xA1 ∷ 0x00 ∷ 0x04 ∷ 0x00 ∷ 0x01 ∷ 0x00 ∷ 0x00 ∷ 0x10 ∷ 0xB1 ∷ 0x00 ∷ 0x02 ∷ 0x00 ∷ 0x07 ∷ 0x00 ∷ []

abbrev incorrect_data : List ℕ
incorrect_data = 0x70 ∷ 0x00 ∷ 0x00 ∷ 0x00 ∷ 0x01 ∷ 0x00 ∷ 0x00 ∷ 0x00 ∷ 0x03 ∷ 0x00 ∷ 0x00 ∷ 0x00 ∷ 0x01 ∷ 0x02 ∷ 0x03 ∷ 0x04 ∷ 0x05 ∷ 0x06 ∷ 0x07 ∷ 0x08 ∷ 0x00 ∷ 0x00 ∷ 0x00 ∷ 0x00 ∷ []

an_empty_message_is_refused : after (talking None [] 10000) empty_message ≡ Ok (says incorrect_data Done [], talking None [] 10000)
unfolding frame inquiry_reply frame_reading handled messages.message_reading connected_reading packets.are_sockets router_request_reading requests.request_reading paths.target_reading paths.segments_at paths.segment_at paths.logical_at paths.value_at messages_table
an_empty_message_is_refused = refl

abbrev bad_items : List ℕ
bad_items = 0x70 ∷ 0x00 ∷ 0x10 ∷ 0x00 ∷ 0x01 ∷ 0x00 ∷ 0x00 ∷ 0x00 ∷ 0x00 ∷ 0x00 ∷ 0x00 ∷ 0x00 ∷ 0x01 ∷ 0x02 ∷ 0x03 ∷ 0x04 ∷ 0x05 ∷ 0x06 ∷ 0x07 ∷ 0x08 ∷ 0x00 ∷ 0x00 ∷ 0x00 ∷ 0x00 ∷ 0x00 ∷ 0x00 ∷ 0x00 ∷ 0x00 ∷ 0x00 ∷ 0x00 ∷ 0x02 ∷ 0x00 ∷ 0xA1 ∷ 0x00 ∷ 0x04 ∷ 0x00 ∷ 0x01 ∷ 0x00 ∷ 0x00 ∷ 0x10 ∷ []

bad_items_are_refused : after (talking None [] 10000) bad_items ≡ Ok (says incorrect_data Done [], talking None [] 10000)
unfolding frame inquiry_reply frame_reading handled messages.message_reading connected_reading packets.are_sockets router_request_reading requests.request_reading paths.target_reading paths.segments_at paths.segment_at paths.logical_at paths.value_at messages_table
bad_items_are_refused = refl

-- encapsulation status 0x64
abbrev other_session : List ℕ
other_session = 0x70 ∷ 0x00 ∷ 0x1E ∷ 0x00 ∷ 0x02 ∷ 0x00 ∷ 0x00 ∷ 0x00 ∷ 0x00 ∷ 0x00 ∷ 0x00 ∷ 0x00 ∷ 0x01 ∷ 0x02 ∷ 0x03 ∷ 0x04 ∷ 0x05 ∷ 0x06 ∷ 0x07 ∷ 0x08 ∷ 0x00 ∷ 0x00 ∷ 0x00 ∷ 0x00 ∷ 0x00 ∷ 0x00 ∷ 0x00 ∷ 0x00 ∷ 0x00 ∷ 0x00 ∷ 0x02 ∷ 0x00 ∷ 0xA1 ∷ 0x00 ∷ 0x04 ∷ 0x00 ∷ 0x01 ∷ 0x00 ∷ 0x00 ∷ 0x10 ∷ 0xB1 ∷ 0x00 ∷ 0x0A ∷ 0x00 ∷ 0x07 ∷ 0x00 ∷ 0x0E ∷ 0x03 ∷ 0x20 ∷ 0x04 ∷ 0x24 ∷ 0x96 ∷ 0x30 ∷ 0x03 ∷ []

abbrev no_session : List ℕ
no_session = 0x70 ∷ 0x00 ∷ 0x00 ∷ 0x00 ∷ 0x02 ∷ 0x00 ∷ 0x00 ∷ 0x00 ∷ 0x01 ∷ 0x00 ∷ 0x00 ∷ 0x00 ∷ 0x01 ∷ 0x02 ∷ 0x03 ∷ 0x04 ∷ 0x05 ∷ 0x06 ∷ 0x07 ∷ 0x08 ∷ 0x00 ∷ 0x00 ∷ 0x00 ∷ 0x00 ∷ []

another_session_is_refused : after (talking None [] 10000) other_session ≡ Ok (says no_session Done [], talking None [] 10000)
unfolding frame inquiry_reply frame_reading handled messages.message_reading connected_reading packets.are_sockets router_request_reading requests.request_reading paths.target_reading paths.segments_at paths.segment_at paths.logical_at paths.value_at messages_table
another_session_is_refused = refl

-- ---- too late, and too many

-- a late request over a class 3 connection that lives on: the late reply is kept
abbrev late_message_reply : List ℕ
late_message_reply = 0x70 ∷ 0x00 ∷ 0x1A ∷ 0x00 ∷ 0x01 ∷ 0x00 ∷ 0x00 ∷ 0x00 ∷ 0x00 ∷ 0x00 ∷ 0x00 ∷ 0x00 ∷ 0x00 ∷ 0x00 ∷ 0x00 ∷ 0x00 ∷ 0x00 ∷ 0x00 ∷ 0x00 ∷ 0x00 ∷ 0x00 ∷ 0x00 ∷ 0x00 ∷ 0x00 ∷ 0x00 ∷ 0x00 ∷ 0x00 ∷ 0x00 ∷ 0x00 ∷ 0x00 ∷ 0x02 ∷ 0x00 ∷ 0xA1 ∷ 0x00 ∷ 0x04 ∷ 0x00 ∷ 0x01 ∷ 0x00 ∷ 0x00 ∷ 0x20 ∷ 0xB1 ∷ 0x00 ∷ 0x06 ∷ 0x00 ∷ 0x07 ∷ 0x00 ∷ 0x8E ∷ 0x00 ∷ 0x1F ∷ 0x00 ∷ []

a_late_request_of_a_message : adapter_step (referred (asker.Class3Connection (record { 0 = 0x10000001 }) 7) (talking (Some 7) [] 50000)) (Tick 10000) ≡ Ok (says late_message_reply Done [], record (answered (talking (Some 7) (0x8E ∷ 0 ∷ 0x1F ∷ 0 ∷ []) 50000)) { clock = record { 0 = 10000 } })
unfolding tick clocked_table expired_table produced_table aged without_late_class3_connections without_late_waiting changes.replied messages_table values.own_reply_text
a_late_request_of_a_message = refl

-- where the connection ends too, nothing is answered
it_ends_with_its_connection : adapter_step (referred (asker.Class3Connection (record { 0 = 0x10000001 }) 7) (talking (Some 7) [] 160)) (Tick 10000) ≡ Ok (notes (Expired triad ∷ []), having late_once (record (answered registered) { next_id = 2; clock = record { 0 = 10000 } }))
unfolding tick clocked_table expired_table produced_table aged without_late_class3_connections without_late_waiting messages_table
it_ends_with_its_connection = refl

-- 16 requests wait
abbrev crowded : AdapterTable
crowded = record registered { messaging = record { class3_connections = []; waiting = replicate 16 (record { number = 1; peer = peer; asker = asker.Peer peer; service = 0x0E; deadline = record { 0 = 10000 } }); next_number = 2 } }

-- general status 2
abbrev no_room : List ℕ
no_room = 0x6F ∷ 0x00 ∷ 0x14 ∷ 0x00 ∷ 0x01 ∷ 0x00 ∷ 0x00 ∷ 0x00 ∷ 0x00 ∷ 0x00 ∷ 0x00 ∷ 0x00 ∷ 0x01 ∷ 0x02 ∷ 0x03 ∷ 0x04 ∷ 0x05 ∷ 0x06 ∷ 0x07 ∷ 0x08 ∷ 0x00 ∷ 0x00 ∷ 0x00 ∷ 0x00 ∷ 0x00 ∷ 0x00 ∷ 0x00 ∷ 0x00 ∷ 0x00 ∷ 0x00 ∷ 0x02 ∷ 0x00 ∷ 0x00 ∷ 0x00 ∷ 0x00 ∷ 0x00 ∷ 0xB2 ∷ 0x00 ∷ 0x04 ∷ 0x00 ∷ 0x8E ∷ 0x00 ∷ 0x02 ∷ 0x00 ∷ []

one_more_is_refused : after crowded own_request ≡ Ok (says no_room Done [], crowded)
unfolding frame inquiry_reply frame_reading handled messages.message_reading packets.packet_reading packets.are_sockets router_request_reading requests.request_reading paths.target_reading paths.segments_at paths.segment_at paths.logical_at paths.value_at replies.refused_text
one_more_is_refused = refl

-- four requests of this peer wait, and there are places for class 3 connections
abbrev shared : AdapterTable
shared = record registered {
  profile = record profile { limits = record no_limits { places = Some (record { owners = 1; readers = 30; listeners = 8; class3_connections = Some 4 }) } };
  messaging = record { class3_connections = []; waiting = replicate 4 (record { number = 1; peer = peer; asker = asker.Peer peer; service = 0x0E; deadline = record { 0 = 10000 } }); next_number = 2 };
}

a_fifth_of_one_peer_is_refused : after shared own_request ≡ Ok (says no_room Done [], shared)
unfolding frame inquiry_reply frame_reading handled messages.message_reading packets.packet_reading packets.are_sockets router_request_reading requests.request_reading paths.target_reading paths.segments_at paths.segment_at paths.logical_at paths.value_at replies.refused_text
a_fifth_of_one_peer_is_refused = refl

a_long_answer_is_refused : adapter_step (referred (asker.Peer peer) registered) (Respond 1 0 (replicate 1401 0)) ≡ Err WrongLength
unfolding respond
a_long_answer_is_refused = refl

-- ---- limits that the maker states

-- one connection of a node, which only its own node closes
abbrev limited : AdapterTable → AdapterTable
limited t = record t { profile = record profile { limits = record no_limits { node_connections = Some (record { connections = 1; openings = None }); own_closers = true } } }

-- general status 1, extended status 0x0113
abbrev second_open : List ℕ
second_open = 0x6F ∷ 0x00 ∷ 0x3E ∷ 0x00 ∷ 0x01 ∷ 0x00 ∷ 0x00 ∷ 0x00 ∷ 0x00 ∷ 0x00 ∷ 0x00 ∷ 0x00 ∷ 0x01 ∷ 0x02 ∷ 0x03 ∷ 0x04 ∷ 0x05 ∷ 0x06 ∷ 0x07 ∷ 0x08 ∷ 0x00 ∷ 0x00 ∷ 0x00 ∷ 0x00 ∷ 0x00 ∷ 0x00 ∷ 0x00 ∷ 0x00 ∷ 0x00 ∷ 0x00 ∷ 0x02 ∷ 0x00 ∷ 0x00 ∷ 0x00 ∷ 0x00 ∷ 0x00 ∷ 0xB2 ∷ 0x00 ∷ 0x2E ∷ 0x00 ∷ 0x54 ∷ 0x02 ∷ 0x20 ∷ 0x06 ∷ 0x24 ∷ 0x01 ∷ 0x0A ∷ 0x0E ∷ 0x00 ∷ 0x00 ∷ 0x00 ∷ 0x00 ∷ 0x01 ∷ 0x00 ∷ 0x00 ∷ 0x20 ∷ 0x06 ∷ 0x00 ∷ 0x34 ∷ 0x12 ∷ 0x78 ∷ 0x56 ∷ 0x34 ∷ 0x12 ∷ 0x02 ∷ 0x00 ∷ 0x00 ∷ 0x00 ∷ 0x10 ∷ 0x27 ∷ 0x00 ∷ 0x00 ∷ 0x14 ∷ 0x40 ∷ 0x10 ∷ 0x27 ∷ 0x00 ∷ 0x00 ∷ 0x14 ∷ 0x40 ∷ 0xA3 ∷ 0x02 ∷ 0x20 ∷ 0x02 ∷ 0x24 ∷ 0x01 ∷ []

abbrev node_has_enough : List ℕ
node_has_enough = 0x6F ∷ 0x00 ∷ 0x20 ∷ 0x00 ∷ 0x01 ∷ 0x00 ∷ 0x00 ∷ 0x00 ∷ 0x00 ∷ 0x00 ∷ 0x00 ∷ 0x00 ∷ 0x01 ∷ 0x02 ∷ 0x03 ∷ 0x04 ∷ 0x05 ∷ 0x06 ∷ 0x07 ∷ 0x08 ∷ 0x00 ∷ 0x00 ∷ 0x00 ∷ 0x00 ∷ 0x00 ∷ 0x00 ∷ 0x00 ∷ 0x00 ∷ 0x00 ∷ 0x00 ∷ 0x02 ∷ 0x00 ∷ 0x00 ∷ 0x00 ∷ 0x00 ∷ 0x00 ∷ 0xB2 ∷ 0x00 ∷ 0x10 ∷ 0x00 ∷ 0xD4 ∷ 0x00 ∷ 0x01 ∷ 0x01 ∷ 0x13 ∷ 0x01 ∷ 0x06 ∷ 0x00 ∷ 0x34 ∷ 0x12 ∷ 0x78 ∷ 0x56 ∷ 0x34 ∷ 0x12 ∷ 0x00 ∷ 0x00 ∷ []

a_node_has_enough : after (limited (talking None [] 10000)) second_open ≡ Ok (says node_has_enough Done [], having crowded_once (limited (talking None [] 10000)))
unfolding frame inquiry_reply frame_reading handled messages.message_reading packets.packet_reading packets.are_sockets router_request_reading requests.request_reading paths.target_reading paths.segments_at paths.segment_at paths.logical_at paths.value_at opens.open_reading message_path_reading words.params16 class3_refusal served_class3 replies.refused_text
a_node_has_enough = refl

-- one place for class 3 connections, and one opening of a node in a second, which this peer had 999 ms ago
abbrev one_place : AdapterTable → AdapterTable
one_place t = record t { profile = record profile { limits = record no_limits { places = Some (record { owners = 1; readers = 30; listeners = 8; class3_connections = Some 1 }) } } }

abbrev one_opening : AdapterTable → AdapterTable
one_opening t = record t {
  profile = record profile { limits = record no_limits { node_connections = Some (record { connections = 64; openings = Some 1 }) } };
  clock = record { 0 = 999 };
  openings = record { node = peer; since = record { 0 = 0 }; count = 1 } ∷ [];
}

no_place_is_left : after (one_place (talking None [] 10000)) second_open ≡ Ok (says node_has_enough Done [], having crowded_once (one_place (talking None [] 10000)))
unfolding frame inquiry_reply frame_reading handled messages.message_reading packets.packet_reading packets.are_sockets router_request_reading requests.request_reading paths.target_reading paths.segments_at paths.segment_at paths.logical_at paths.value_at opens.open_reading message_path_reading words.params16 class3_refusal served_class3 replies.refused_text
no_place_is_left = refl

a_node_has_opened_enough : after (one_opening (talking None [] 10000)) second_open ≡ Ok (says node_has_enough Done [], having crowded_once (one_opening (talking None [] 10000)))
unfolding frame inquiry_reply frame_reading handled messages.message_reading packets.packet_reading packets.are_sockets router_request_reading requests.request_reading paths.target_reading paths.segments_at paths.segment_at paths.logical_at paths.value_at opens.open_reading message_path_reading words.params16 class3_refusal served_class3 replies.refused_text
a_node_has_opened_enough = refl

-- general status 0x0F, to a peer at 192.168.1.21
abbrev bare_close : List ℕ
bare_close = 0x4E ∷ 0x02 ∷ 0x20 ∷ 0x06 ∷ 0x24 ∷ 0x01 ∷ 0x0A ∷ 0x0E ∷ 0x05 ∷ 0x00 ∷ 0x34 ∷ 0x12 ∷ 0x78 ∷ 0x56 ∷ 0x34 ∷ 0x12 ∷ 0x02 ∷ 0x00 ∷ 0x20 ∷ 0x02 ∷ 0x24 ∷ 0x01 ∷ []

abbrev denied : List ℕ
denied = 0xCE ∷ 0x00 ∷ 0x0F ∷ 0x00 ∷ 0x05 ∷ 0x00 ∷ 0x34 ∷ 0x12 ∷ 0x78 ∷ 0x56 ∷ 0x34 ∷ 0x12 ∷ 0x00 ∷ 0x00 ∷ []

another_node_closes_it_not : adapter_step (limited (talking None [] 10000)) (Request (record { 0 = 0xC0A80115 }) bare_close) ≡ Ok (record { frames = record { to = ToPeer (record { 0 = 0xC0A80115 }); bytes = denied } ∷ []; datagrams = []; verdict = Done; notices = [] }, having denied_once (limited (talking None [] 10000)))
unfolding requested router_request_reading requests.request_reading paths.target_reading paths.segments_at paths.segment_at paths.logical_at paths.value_at closes.close_reading served_end replies.refused_text
another_node_closes_it_not = refl

-- ---- classes of the maker's own

abbrev fault_of : List ℕ → Option ProfileFault
fault_of objects = profile_fault (record profile { objects = objects })

classes_that_are_free : (fault_of [] ≡ None) × (fault_of (1000 ∷ 65535 ∷ 3 ∷ []) ≡ None) × (fault_of (map (◌+◌ 100) (range_with_len 0 16)) ≡ None)
unfolding profile_fault lib.Count.ones
classes_that_are_free = (refl, refl, refl)

classes_that_are_not : (fault_of (0 ∷ []) ≡ Some Objects) × (fault_of (65536 ∷ []) ≡ Some Objects) × (fault_of (0x64 ∷ 0x65 ∷ 0x64 ∷ []) ≡ Some Objects) × (fault_of (map (◌+◌ 100) (range_with_len 0 17)) ≡ Some Objects)
unfolding profile_fault lib.Count.ones
classes_that_are_not = (refl, refl, refl, refl)

classes_of_other_objects : (fault_of (1 ∷ []) ≡ Some Objects) × (fault_of (2 ∷ []) ≡ Some Objects) × (fault_of (4 ∷ []) ≡ Some Objects) × (fault_of (6 ∷ []) ≡ Some Objects) × (fault_of (0xF5 ∷ []) ≡ Some Objects) × (fault_of (0xF6 ∷ []) ≡ Some Objects)
unfolding profile_fault lib.Count.ones
classes_of_other_objects = (refl, refl, refl, refl, refl, refl)
