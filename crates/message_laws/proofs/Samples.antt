-- Samples of the definitions at a small adapter, worked out by hand.
use Rattle.std.proofs.Common.{◌≡◌, ℕ, true, false, List, [], ◌∷◌, ◌++◌, Some, None, Ok, refl}
use Rattle.cip_types.specs.declared.names.Node.{Node}
use Rattle.cip_encap.specs.ConnectedReading.{connected_reading}
use Rattle.cip_encap.specs.PacketReading as packets
use Rattle.cip_encap.specs.Reading as messages
use Rattle.cip_epath.specs.Reading as paths
use Rattle.cip_events.specs.declared.event.Delivery.TheVariants.{Duplicate}
use Rattle.cip_events.specs.declared.event.Event.{Event}
use Rattle.cip_events.specs.declared.event.Event.TheVariants.{Frame as OnStream, Tick, Respond}
use Rattle.cip_events.specs.declared.event.Frame.{Frame}
use Rattle.cip_events.specs.declared.event.Recipient.TheVariants.{Stream}
use Rattle.cip_events.specs.declared.event.Verdict.{Verdict}
use Rattle.cip_events.specs.declared.event.Verdict.TheVariants.{Done, Asked, Delivered}
use Rattle.cip_events.specs.Outcomes.{Outcome}
use Rattle.cip_fwdopen.specs.Request as requests
use Rattle.cip_router.specs.Frames.{frame_reading}
use Rattle.cip_router.specs.Replies as values
use Rattle.cip_router.specs.Requests.{router_request_reading}
use Rattle.messaging.specs.declared.class3.Class3Connection.{Class3Connection}
use Rattle.messaging.specs.Changes as changes
use Rattle.messaging.specs.Times.{without_late_class3_connections, without_late_waiting, aged}
use Rattle.adapter_table.specs.declared.profile.Action.TheVariants.{Zero}
use Rattle.adapter_table.specs.declared.profile.Profile.{Profile}
use Rattle.adapter_table.specs.Answering.{respond}
use Rattle.adapter_table.specs.Encapsulation.{handled, frame}
use Rattle.adapter_table.specs.Inquiries.{inquiry_reply}
use Rattle.adapter_table.specs.Messages.{messages_table}
use Rattle.adapter_table.specs.Objects.{instance_at, alone_answer}
use Rattle.adapter_table.specs.Carrying.{object_answer}
use Rattle.adapter_table.specs.Profiles.{no_limits}
use Rattle.adapter_table.specs.Requests.{served_object}
use Rattle.adapter_table.specs.Step.{adapter_table}
use Rattle.adapter_table.specs.Ticks.{clocked_table, expired_table, produced_table, tick}
use Rattle.cip_tables.specs.declared.table.DeviceTable.{DeviceTable}
use Rattle.cip_tables.specs.declared.table.DeviceTable.TheVariants.{Adapter}
use Rattle.cip_tables.specs.Run.{outcomes_of}
use Rattle.cip_tables.specs.Step.{step}
use Rattle.message_laws.specs.Executions.{executions}
use Rattle.message_laws.specs.Repetitions.{brings, asks, asks_next, last_sent}

-- an adapter at 192.168.1.10 with the output 150 of 4 bytes, and objects of class 0x64
abbrev profile : Profile
profile = record {
  incarnation = 0x10;
  node = record { 0 = 0xC0A8010A };
  mask = 0xFFFFFF00;
  identity = record { vendor = 1; device_type = 12; product = 7; major = 2; minor = 3 };
  outputs = record { instance = 150; len = 4; idle = Zero; fault = Zero } ∷ [];
  inputs = record { instance = 100; len = 4 } ∷ [];
  config = None;
  input_only = 152;
  listen_only = 153;
  description = None;
  limits = no_limits;
  objects = 0x64 ∷ [];
  ids = None;
}

-- its peer, at 192.168.1.20
abbrev peer : Node
peer = record { 0 = 0xC0A80114 }

-- a class 3 connection on stream 0, of which no message was executed; it lives 20 s from each message on
abbrev connection : Class3Connection
connection = record {
  triad = record { serial = 5; vendor = 0x1234; originator = 0x12345678 };
  peer = peer;
  stream = 0;
  o_t_id = record { 0 = 0x10000001 };
  t_o_id = record { 0 = 0x20000001 };
  o_t_api_ms = 10;
  t_o_api_ms = 10;
  o_t_size = 20;
  t_o_size = 20;
  watchdog = record { 0 = 20000 };
  opening = 1;
  last = None;
  reply = [];
  deadline = record { 0 = 20000 };
}

abbrev talking : DeviceTable
talking = Adapter (record (adapter_table profile) {
  streams = record { number = 0; peer = peer; registered = true } ∷ [];
  next_id = 2;
  messaging = record { class3_connections = connection ∷ []; waiting = []; next_number = 1 };
})

-- ---- messages

-- SendUnitData in this session, of so many bytes
abbrev head : (len session : ℕ) → List ℕ
head len session = 0x70 ∷ 0x00 ∷ len ∷ 0x00 ∷ session ∷ 0x00 ∷ 0x00 ∷ 0x00 ∷ 0x00 ∷ 0x00 ∷ 0x00 ∷ 0x00 ∷ 0x00 ∷ 0x00 ∷ 0x00 ∷ 0x00 ∷ 0x00 ∷ 0x00 ∷ 0x00 ∷ 0x00 ∷ 0x00 ∷ 0x00 ∷ 0x00 ∷ 0x00 ∷ []

-- its items, with the high and the low byte of a connection id, the length of the second item, and a count
abbrev items : (high low len count : ℕ) → List ℕ
items high low len count = 0x00 ∷ 0x00 ∷ 0x00 ∷ 0x00 ∷ 0x00 ∷ 0x00 ∷ 0x02 ∷ 0x00 ∷ 0xA1 ∷ 0x00 ∷ 0x04 ∷ 0x00 ∷ low ∷ 0x00 ∷ 0x00 ∷ high ∷ 0xB1 ∷ 0x00 ∷ len ∷ 0x00 ∷ count ∷ 0x00 ∷ []

-- Get_Attribute_Single of the data of the output, and of attribute 5 of instance 1 of class 0x64
abbrev get : List ℕ
get = 0x0E ∷ 0x03 ∷ 0x20 ∷ 0x04 ∷ 0x24 ∷ 0x96 ∷ 0x30 ∷ 0x03 ∷ []

abbrev own_get : List ℕ
own_get = 0x0E ∷ 0x03 ∷ 0x20 ∷ 0x64 ∷ 0x24 ∷ 0x01 ∷ 0x30 ∷ 0x05 ∷ []

abbrev gets : (count : ℕ) → Event
gets count = OnStream 0 (head 0x1E 1 ++ (items 0x10 1 0x0A count ++ get))

abbrev gets_own : (count : ℕ) → Event
gets_own count = OnStream 0 (head 0x1E 1 ++ (items 0x10 1 0x0A count ++ own_get))

-- no request behind the count
abbrev empty : (count : ℕ) → Event
empty count = OnStream 0 (head 0x16 1 ++ items 0x10 1 0x02 count)

a_message_is_its_connections : brings None connection 7 (gets 7) ≡ true
unfolding frame_reading messages.message_reading connected_reading packets.are_sockets
a_message_is_its_connections = refl

another_count_is_not_it : brings None connection 8 (gets 7) ≡ false
unfolding frame_reading messages.message_reading connected_reading packets.are_sockets
another_count_is_not_it = refl

another_stream_is_not_it : brings None connection 7 (OnStream 1 (head 0x1E 2 ++ (items 0x10 1 0x0A 7 ++ get))) ≡ false
unfolding frame_reading messages.message_reading connected_reading packets.are_sockets
another_stream_is_not_it = refl

another_session_is_not_it : brings None connection 7 (OnStream 0 (head 0x1E 2 ++ (items 0x10 1 0x0A 7 ++ get))) ≡ false
unfolding frame_reading messages.message_reading connected_reading packets.are_sockets
another_session_is_not_it = refl

another_id_is_not_it : brings None connection 7 (OnStream 0 (head 0x1E 1 ++ (items 0x10 2 0x0A 7 ++ get))) ≡ false
unfolding frame_reading messages.message_reading connected_reading packets.are_sockets
another_id_is_not_it = refl

-- 21 bytes with the count, where the size is 20
a_longer_one_is_not_it : brings None connection 7 (OnStream 0 (head 0x29 1 ++ (items 0x10 1 0x15 7 ++ (get ++ (0 ∷ 0 ∷ 0 ∷ 0 ∷ 0 ∷ 0 ∷ 0 ∷ 0 ∷ 0 ∷ 0 ∷ 0 ∷ []))))) ≡ false
unfolding frame_reading messages.message_reading connected_reading packets.are_sockets
a_longer_one_is_not_it = refl

a_message_without_bytes_asks_nothing : asks None connection 7 (empty 7) ≡ false
unfolding frame_reading messages.message_reading connected_reading packets.are_sockets
a_message_without_bytes_asks_nothing = refl

but_it_may_repeat : brings None connection 7 (empty 7) ≡ true
unfolding frame_reading messages.message_reading connected_reading packets.are_sockets
but_it_may_repeat = refl

the_next_count_is_the_next : asks_next None connection 7 (gets 8) ≡ true
unfolding frame_reading messages.message_reading connected_reading packets.are_sockets
the_next_count_is_the_next = refl

the_same_count_is_not : asks_next None connection 7 (gets 7) ≡ false
unfolding frame_reading messages.message_reading connected_reading packets.are_sockets
the_same_count_is_not = refl

nor_is_one_without_bytes : asks_next None connection 7 (empty 8) ≡ false
unfolding frame_reading messages.message_reading connected_reading packets.are_sockets
nor_is_one_without_bytes = refl

-- ---- what was sent last

abbrev frame_of : List ℕ → Frame
frame_of bytes = record { to = Stream 0; bytes = bytes }

-- the reply to the first request: four zeros
abbrev zeros : Frame
zeros = frame_of (head 0x1E 1 ++ (items 0x20 1 0x0A 7 ++ (0x8E ∷ 0x00 ∷ 0x00 ∷ 0x00 ∷ 0x00 ∷ 0x00 ∷ 0x00 ∷ 0x00 ∷ [])))

-- the application's answer, and the device's in its place: general status 0x1F
abbrev answer : Frame
answer = frame_of (head 0x1B 1 ++ (items 0x20 1 0x07 7 ++ (0x8E ∷ 0x00 ∷ 0x00 ∷ 0x00 ∷ 0xAB ∷ [])))

abbrev late : Frame
late = frame_of (head 0x1A 1 ++ (items 0x20 1 0x06 7 ++ (0x8E ∷ 0x00 ∷ 0x1F ∷ 0x00 ∷ [])))

abbrev says : List Frame → Verdict → Outcome
says frames verdict = Ok (record { frames = frames; datagrams = []; verdict = verdict; notices = [] })

a_reply_was_sent : last_sent connection 7 None talking (gets 7 ∷ Tick 5 ∷ []) ≡ Some zeros
unfolding step frame inquiry_reply frame_reading handled messages.message_reading connected_reading packets.are_sockets router_request_reading requests.request_reading paths.target_reading paths.segments_at paths.segment_at paths.logical_at paths.value_at messages_table served_object object_answer alone_answer instance_at values.object_reply_text changes.executed tick clocked_table expired_table produced_table aged without_late_class3_connections without_late_waiting
a_reply_was_sent = refl

it_comes_again_behind_a_tick : outcomes_of talking (gets 7 ∷ Tick 5 ∷ gets 7 ∷ []) ≡ says (zeros ∷ []) Done ∷ says [] Done ∷ says (zeros ∷ []) (Delivered Duplicate) ∷ []
unfolding step frame inquiry_reply frame_reading handled messages.message_reading connected_reading packets.are_sockets router_request_reading requests.request_reading paths.target_reading paths.segments_at paths.segment_at paths.logical_at paths.value_at messages_table served_object object_answer alone_answer instance_at values.object_reply_text changes.executed changes.repeated tick clocked_table expired_table produced_table aged without_late_class3_connections without_late_waiting
it_comes_again_behind_a_tick = refl

nothing_was_sent_yet : last_sent connection 7 None talking (gets_own 7 ∷ Tick 5 ∷ gets_own 7 ∷ []) ≡ None
unfolding step frame inquiry_reply frame_reading handled messages.message_reading connected_reading packets.are_sockets router_request_reading requests.request_reading paths.target_reading paths.segments_at paths.segment_at paths.logical_at paths.value_at messages_table changes.executed changes.referred changes.referred_over changes.repeated tick clocked_table expired_table produced_table aged without_late_class3_connections without_late_waiting
nothing_was_sent_yet = refl

the_answer_was_sent : last_sent connection 7 None talking (gets_own 7 ∷ Tick 5 ∷ Respond 1 0 (0xAB ∷ []) ∷ Tick 5 ∷ []) ≡ Some answer
unfolding step frame inquiry_reply frame_reading handled messages.message_reading connected_reading packets.are_sockets router_request_reading requests.request_reading paths.target_reading paths.segments_at paths.segment_at paths.logical_at paths.value_at messages_table values.own_reply_text respond changes.executed changes.referred changes.referred_over changes.answered changes.replied tick clocked_table expired_table produced_table aged without_late_class3_connections without_late_waiting
the_answer_was_sent = refl

-- a repetition has no reply before the answer, and the answer behind it, whatever its request is
it_comes_again_behind_the_answer :
    outcomes_of talking (gets_own 7 ∷ gets 7 ∷ Respond 1 0 (0xAB ∷ []) ∷ empty 7 ∷ [])
    ≡ says [] (Asked 1 0x0E 0x64 1 (Some 5) []) ∷ says [] (Delivered Duplicate) ∷ says (answer ∷ []) Done ∷ says (answer ∷ []) (Delivered Duplicate) ∷ []
unfolding step frame inquiry_reply frame_reading handled messages.message_reading connected_reading packets.are_sockets router_request_reading requests.request_reading paths.target_reading paths.segments_at paths.segment_at paths.logical_at paths.value_at messages_table values.own_reply_text respond changes.executed changes.referred changes.referred_over changes.repeated changes.answered changes.replied
it_comes_again_behind_the_answer = refl

-- the application did not answer for 10 s
the_late_reply_was_sent : last_sent connection 7 None talking (gets_own 7 ∷ Tick 10000 ∷ []) ≡ Some late
unfolding step frame inquiry_reply frame_reading handled messages.message_reading connected_reading packets.are_sockets router_request_reading requests.request_reading paths.target_reading paths.segments_at paths.segment_at paths.logical_at paths.value_at messages_table values.own_reply_text changes.executed changes.referred changes.referred_over changes.replied tick clocked_table expired_table produced_table aged without_late_class3_connections without_late_waiting
the_late_reply_was_sent = refl

-- ---- what is executed

-- a message that is longer than the connection's size
abbrev gets_long : (count : ℕ) → Event
gets_long count = OnStream 0 (head 0x29 1 ++ (items 0x10 1 0x15 count ++ (get ++ (0 ∷ 0 ∷ 0 ∷ 0 ∷ 0 ∷ 0 ∷ 0 ∷ 0 ∷ 0 ∷ 0 ∷ 0 ∷ []))))

-- a repeated count is executed once, an older one again, and what is refused before it is executed not at all
messages_are_counted : executions connection talking (gets 7 ∷ gets 7 ∷ gets 8 ∷ gets_long 9 ∷ empty 9 ∷ gets 7 ∷ gets_own 7 ∷ []) ≡ 7 ∷ 8 ∷ 7 ∷ []
unfolding step frame inquiry_reply frame_reading handled messages.message_reading connected_reading packets.are_sockets router_request_reading requests.request_reading paths.target_reading paths.segments_at paths.segment_at paths.logical_at paths.value_at messages_table served_object object_answer alone_answer instance_at values.object_reply_text changes.executed changes.repeated
messages_are_counted = refl

-- the application is asked once
requests_are_counted : executions connection talking (gets_own 7 ∷ gets_own 7 ∷ Respond 1 0 (0xAB ∷ []) ∷ gets_own 7 ∷ []) ≡ 7 ∷ []
unfolding step frame inquiry_reply frame_reading handled messages.message_reading connected_reading packets.are_sockets router_request_reading requests.request_reading paths.target_reading paths.segments_at paths.segment_at paths.logical_at paths.value_at messages_table values.own_reply_text respond changes.executed changes.referred changes.referred_over changes.repeated changes.answered changes.replied
requests_are_counted = refl
