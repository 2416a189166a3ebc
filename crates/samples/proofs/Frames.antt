-- Samples of streams, sessions and the messages over them.
use Rattle.std.proofs.Common.{◌≡◌, refl, ℕ, List, [], ◌∷◌, ◌++◌, map, take, Ok, Err}
use Rattle.cip_events.specs.declared.event.Event.{Event}
use Rattle.cip_events.specs.declared.event.Event.TheVariants.{Frame, StreamCut, StreamOpened, Tick}
use Rattle.cip_events.specs.declared.event.Notice.TheVariants.{StreamClosed}
use Rattle.cip_events.specs.declared.event.Recipient.TheVariants.{Stream}
use Rattle.cip_events.specs.declared.event.StepFault.TheVariants.{NotAllowedNow}
use Rattle.cip_events.specs.declared.event.Verdict.TheVariants.{BadFrame, Done}
use Rattle.cip_events.specs.Outcomes.{Outcome}
use Rattle.cip_tables.specs.Run.{outcomes_of}
use Rattle.samples.specs.Hex.{hex}
use Rattle.samples.specs.Devices.{common, peer, other}
use Rattle.samples.specs.Requests.{OpeningRequest, owner, gatherer, opening, opened_reply, refused_reply}
use Rattle.samples.specs.Datagrams.{datagram, to_one}
use Rattle.samples.specs.Runs.{said, after, says, emits, opened_notice, id}
use Rattle.samples.specs.Rows.{from}
use Rattle.samples.specs.Messages.{message, register, items, items_with_socket, sent, in_session, frames}
use Rattle.samples.specs.Computing.{computing}

the_register_request : register ≡ hex "65 00 04 00 00 00 00 00 00 00 00 00 01 02 03 04 05 06 07 08 00 00 00 00 01 00 00 00"
the_register_request = refl

-- the outcomes of messages over stream 0, without and with a registered session
abbrev opened : List (List ℕ) → List Outcome
opened messages = outcomes_of (after common (StreamOpened 0 peer ∷ [])) (map (Frame 0) messages)

abbrev registered : List (List ℕ) → List Outcome
registered messages = outcomes_of (after common in_session) (map (Frame 0) messages)

-- a reply, and nothing happened
abbrev back : List ℕ → Outcome
back bytes = frames bytes []

abbrev nothing : Outcome
nothing = says Done

-- ---- streams

a_stream_opens_and_breaks :
    said common (StreamOpened 0 peer ∷ StreamOpened 0 other ∷ StreamCut 1 ∷ Frame 1 register ∷ StreamCut 0 ∷ StreamCut 0 ∷ Frame 0 register ∷ StreamOpened 0 other ∷ [])
    ≡ nothing ∷ Err NotAllowedNow ∷ Err NotAllowedNow ∷ Err NotAllowedNow ∷ nothing ∷ Err NotAllowedNow ∷ Err NotAllowedNow ∷ nothing ∷ []
unfolding computing
a_stream_opens_and_breaks = refl

abbrev sixteen : List Event
sixteen = map (λ n. StreamOpened n peer) (from 1 16)

sixteen_streams_are_open_at_once :
    outcomes_of (after common sixteen) (StreamOpened 20 peer ∷ StreamCut 7 ∷ StreamOpened 20 peer ∷ StreamOpened 21 peer ∷ [])
    ≡ Err NotAllowedNow ∷ nothing ∷ nothing ∷ Err NotAllowedNow ∷ []
unfolding computing
sixteen_streams_are_open_at_once = refl

connections_stay_when_a_stream_breaks :
    outcomes_of (after common (in_session ++ Frame 0 (sent 1 (opening owner)) ∷ [])) (StreamCut 0 ∷ Tick 1 ∷ [])
    ≡ nothing ∷ emits (to_one peer (datagram 0x20000001 1 1 (hex "00 00 00 00")) ∷ []) [] ∷ []
unfolding computing
connections_stay_when_a_stream_breaks = refl

-- ---- sessions

a_session_begins : opened (register ∷ []) ≡ back (hex "65 00 04 00 01 00 00 00 00 00 00 00 01 02 03 04 05 06 07 08 00 00 00 00 01 00 00 00") ∷ []
unfolding computing
a_session_begins = refl

-- its handle is the stream's number plus one
another_stream_s_session :
    outcomes_of (after common (StreamOpened 0x0102 peer ∷ [])) (Frame 0x0102 register ∷ [])
    ≡ Ok (record {
      frames = record { to = Stream 0x0102; bytes = hex "65 00 04 00 03 01 00 00 00 00 00 00 01 02 03 04 05 06 07 08 00 00 00 00 01 00 00 00" } ∷ [];
      datagrams = [];
      verdict = Done;
      notices = [];
    }) ∷ []
unfolding computing
another_stream_s_session = refl

abbrev newer_version : List ℕ
newer_version = message 0x65 0 0 (hex "02 00 00 00")

abbrev served_version : Outcome
served_version = back (hex "65 00 04 00 00 00 00 00 69 00 00 00 01 02 03 04 05 06 07 08 00 00 00 00 01 00 00 00")

another_version :
    opened (newer_version ∷ message 0x65 7 0 (hex "01 00 01 00") ∷ sent 1 (hex "0E") ∷ [])
    ≡ served_version ∷ served_version ∷ back (message 0x6F 1 0x64 []) ∷ []
unfolding computing
another_version = refl

a_second_session : registered (register ∷ []) ≡ back (message 0x65 0 0x01 []) ∷ []
unfolding computing
a_second_session = refl

the_version_before_the_second_session : registered (newer_version ∷ []) ≡ served_version ∷ []
unfolding computing
the_version_before_the_second_session = refl

data_of_another_length :
    opened (message 0x65 0 0 (hex "02 00 00") ∷ message 0x65 9 0 (hex "01 00 00 00 00") ∷ message 0x65 0 0 [] ∷ [])
    ≡ back (message 0x65 0 0x65 []) ∷ back (message 0x65 9 0x65 []) ∷ back (message 0x65 0 0x65 []) ∷ []
unfolding computing
data_of_another_length = refl

a_session_and_its_stream_end :
    outcomes_of (after common in_session) (Frame 0 (message 0x66 2 0 []) ∷ Frame 0 (message 0x66 1 0 []) ∷ Frame 0 register ∷ [])
    ≡ nothing ∷ Ok (record { frames = []; datagrams = []; verdict = Done; notices = StreamClosed 0 ∷ [] }) ∷ Err NotAllowedNow ∷ []
unfolding computing
a_session_and_its_stream_end = refl

no_session_ends : opened (message 0x66 1 0 [] ∷ register ∷ []) ≡ nothing ∷ back (message 0x65 1 0 (hex "01 00 00 00")) ∷ []
unfolding computing
no_session_ends = refl

-- ---- other commands

services_are_listed :
    opened (hex "04 00 00 00 00 00 00 00 00 00 00 00 00 00 00 00 00 00 00 00 00 00 00 00" ∷ message 0x04 5 0 (hex "FF") ∷ [])
    ≡ back (hex "04 00 1A 00 00 00 00 00 00 00 00 00 00 00 00 00 00 00 00 00 00 00 00 00 01 00 00 01 14 00 01 00 20 01 43 6F 6D 6D 75 6E 69 63 61 74 69 6F 6E 73 00 00")
    ∷ back (message 0x04 5 0 (hex "01 00 00 01 14 00 01 00 20 01 43 6F 6D 6D 75 6E 69 63 61 74 69 6F 6E 73 00 00")) ∷ []
unfolding computing
services_are_listed = refl

nothing_is_done : opened (message 0x00 0 0 (hex "01 02") ∷ []) ≡ nothing ∷ []
unfolding computing
nothing_is_done = refl

others_are_not_served :
    registered (message 0x63 7 0 [] ∷ message 0x64 7 0 (hex "01") ∷ message 0x72 1 0 [] ∷ [])
    ≡ back (message 0x63 7 0x01 []) ∷ back (message 0x64 7 0x01 []) ∷ back (message 0x72 1 0x01 []) ∷ []
unfolding computing
others_are_not_served = refl

-- a message of a class 3 connection in another session is refused as an unknown command, and one without items
unit_data_is_refused :
    registered (message 0x70 2 0 [] ∷ message 0x70 1 0 [] ∷ [])
    ≡ back (message 0x70 2 0x01 []) ∷ back (message 0x70 1 0x03 []) ∷ []
unfolding computing
unit_data_is_refused = refl

-- status and options of a request are not judged, and not sent back
status_and_options :
    opened (hex "65 00 04 00 00 00 00 00 FF 00 00 00 01 02 03 04 05 06 07 08 AA 00 00 00 01 00 00 00" ∷ [])
    ≡ back (message 0x65 1 0 (hex "01 00 00 00")) ∷ []
unfolding computing
status_and_options = refl

-- ---- parts of messages

fewer_bytes_than_a_header : opened (map (λ n. take n register) (from 0 24)) ≡ map (λ n. says BadFrame) (from 0 24)
unfolding computing
fewer_bytes_than_a_header = refl

fewer_bytes_than_stated : opened (map (λ n. take n register) (from 24 4)) ≡ map (λ n. back (message 0x65 0 0x65 [])) (from 24 4)
unfolding computing
fewer_bytes_than_stated = refl

more_bytes_than_stated :
    opened ((register ++ hex "00") ∷ (message 0x63 7 0 [] ++ hex "00") ∷ [])
    ≡ back (message 0x65 0 0x65 []) ∷ back (message 0x63 7 0x65 []) ∷ []
unfolding computing
more_bytes_than_stated = refl

a_length_before_the_session : registered ((sent 5 (hex "0E") ++ hex "00") ∷ []) ≡ back (message 0x6F 5 0x65 []) ∷ []
unfolding computing
a_length_before_the_session = refl

-- a message without a reply is a bad frame, and does not end the session
bad_frames_without_a_reply :
    registered ((message 0x00 0 0 [] ++ hex "00") ∷ (message 0x66 1 0 [] ++ hex "00") ∷ register ∷ [])
    ≡ says BadFrame ∷ says BadFrame ∷ back (message 0x65 0 0x01 []) ∷ []
unfolding computing
bad_frames_without_a_reply = refl

-- ---- requests

a_request_within_no_session : opened (sent 0 (opening owner) ∷ sent 1 (opening owner) ∷ []) ≡ back (message 0x6F 0 0x64 []) ∷ back (message 0x6F 1 0x64 []) ∷ []
unfolding computing
a_request_within_no_session = refl

a_request_within_another : registered (sent 5 (opening owner) ∷ sent 0 (hex "0E") ∷ []) ≡ back (message 0x6F 5 0x64 []) ∷ back (message 0x6F 0 0x64 []) ∷ []
unfolding computing
a_request_within_another = refl

the_session_before_the_items : registered (message 0x6F 5 0 (hex "00") ∷ []) ≡ back (message 0x6F 5 0x64 []) ∷ []
unfolding computing
the_session_before_the_items = refl

bad_items :
    registered (message 0x6F 1 0 (hex "00 00") ∷ message 0x6F 1 0 (items []) ∷ message 0x6F 1 0 [] ∷ [])
    ≡ back (message 0x6F 1 0x03 []) ∷ back (message 0x6F 1 0x03 []) ∷ back (message 0x6F 1 0x03 []) ∷ []
unfolding computing
bad_items = refl

-- a request to open of the stream's peer, and its reply
abbrev opens : OpeningRequest → ℕ → ℕ → List ℕ → Outcome
opens a counter t_o_id bytes = frames (message 0x6F 1 0 bytes) (opened_notice a counter ∷ [])

a_point_to_point_connection :
    registered (sent 1 (opening owner) ∷ sent 1 (opening owner) ∷ [])
    ≡ opens owner 1 0x20000001 (items (hex "D4 00 00 00 01 00 00 10 01 00 00 20 01 00 34 12 78 56 34 12 10 27 00 00 10 27 00 00 00 00"))
    ∷ back (message 0x6F 1 0 (items (refused_reply owner 0x0100))) ∷ []
unfolding computing
a_point_to_point_connection = refl

abbrev joiner : OpeningRequest
joiner = record gatherer { serial = 7 }

a_multicast_connection_receives_its_socket :
    registered (sent 1 (opening gatherer) ∷ sent 1 (opening joiner) ∷ [])
    ≡ opens gatherer 1 0x10000002 (hex "00 00 00 00 00 00 03 00 00 00 00 00 B2 00 1E 00 D4 00 00 00 01 00 00 10 02 00 00 10 05 00 34 12 78 56 34 12 10 27 00 00 10 27 00 00 00 00 01 80 10 00 00 02 08 AE EF C0 02 20 00 00 00 00 00 00 00 00")
    ∷ opens joiner 3 0x10000002 (items_with_socket (opened_reply joiner (id 3) 0x10000002 10000 10000)) ∷ []
unfolding computing
a_multicast_connection_receives_its_socket = refl

-- the peer of the connection is the stream's
the_stream_s_peer_consumes :
    outcomes_of (after common (StreamOpened 0 other ∷ Frame 0 register ∷ Frame 0 (sent 1 (opening owner)) ∷ [])) (Tick 1 ∷ [])
    ≡ emits (to_one other (datagram 0x20000001 1 1 (hex "00 00 00 00")) ∷ []) [] ∷ []
unfolding computing
the_stream_s_peer_consumes = refl

a_value_and_a_refusal :
    registered (sent 1 (hex "0E 03 20 04 24 96 30 03") ∷ sent 1 (hex "0E 03 20 04 24 46 30 03") ∷ [])
    ≡ back (message 0x6F 1 0 (items (hex "8E 00 00 00 00 00 00 00"))) ∷ back (message 0x6F 1 0 (items (hex "8E 00 05 00"))) ∷ []
unfolding computing
a_value_and_a_refusal = refl

-- the time-out is not judged, and socket addresses are passed over
other_items :
    registered (message 0x6F 1 0 (hex "00 00 00 00 05 00 03 00 00 00 00 00 B2 00 08 00 0E 03 20 04 24 96 30 03 00 80 10 00 00 02 08 AE 0A 00 00 01 00 00 00 00 00 00 00 00") ∷ [])
    ≡ back (message 0x6F 1 0 (items (hex "8E 00 00 00 00 00 00 00"))) ∷ []
unfolding computing
other_items = refl
