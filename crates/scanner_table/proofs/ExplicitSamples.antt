-- Samples of explicit requests at a small scanner: each says which outcomes a list of events has.
use Rattle.std.proofs.Common.{◌≡◌, ℕ, List, [], ◌∷◌, ◌++◌, replicate, Ok, Err, true, refl}
use Rattle.cip_events.specs.declared.event.Event.{Event}
use Rattle.cip_events.specs.declared.event.Event.TheVariants.{StreamOpened, Frame, StreamCut, Tick, Start, Explicit}
use Rattle.cip_events.specs.declared.event.Notice.TheVariants as notice
use Rattle.cip_events.specs.declared.event.Recipient.TheVariants as recipient
use Rattle.cip_events.specs.declared.event.StepFault.TheVariants as fault
use Rattle.cip_events.specs.declared.event.Unanswered.{Unanswered}
use Rattle.cip_events.specs.declared.event.Unanswered.TheVariants as unanswered
use Rattle.cip_events.specs.declared.event.Verdict.TheVariants.{Done, Ignored, Replied}
use Rattle.cip_events.specs.Answers.{plain_answer}
use Rattle.cip_events.specs.Outcomes.{Outcome}
use Rattle.scanner_table.proofs.SmallScanner.{target, other_target, owner, profile, reported, after, quiet, only, not_now, reports_notices, items, registration, unknown_session, connected}
use Rattle.cip_encap.specs.Reading as messages
use Rattle.cip_encap.specs.PacketReading as packets
use Rattle.cip_fwdopen.specs.Open as opens
use Rattle.cip_router.specs.RouterReplies.{router_reply_reading}
use Rattle.scanner_table.specs.declared.table.ScannerTable.{ScannerTable}
use Rattle.scanner_table.specs.Opening.{opened, ready_opened, target_opened}
use Rattle.scanner_table.specs.Closing.{target_lost}
use Rattle.scanner_table.specs.Explicit.{explicit_request, explicit_reply, explicit_timed_out, explicit_lost}
use Rattle.scanner_table.specs.Encapsulation.{stream_opened, stream_cut, frame}
use Rattle.scanner_table.specs.Productions.{produced_table}
use Rattle.scanner_table.specs.Ticks.{all_expired, all_given_up, tick}
use Rattle.scanner_table.specs.Points.{start}
use Rattle.scanner_table.specs.Step.{scanner_table}

-- Get_Attribute_Single of the vendor: attribute 1 of the identity object
abbrev get_vendor : List ℕ
get_vendor = 0x0E ∷ 0x03 ∷ 0x20 ∷ 0x01 ∷ 0x24 ∷ 0x01 ∷ 0x30 ∷ 0x01 ∷ []

-- the application has this sent, as its request 7
abbrev vendor_request : Event
vendor_request = Explicit target 7 get_vendor

-- these bytes go over stream 0, and nothing else
abbrev sends_frame : List ℕ → Outcome
sends_frame bytes = Ok (record (plain_answer Done) { frames = record { to = recipient.Stream 0; bytes = bytes } ∷ [] })

-- request 7 has no reply
abbrev unanswered_for : Unanswered → Outcome
unanswered_for why = reports_notices (notice.Unanswered 7 why ∷ [])

-- the request is pending
abbrev requested : ScannerTable
requested = after connected (vendor_request ∷ [])

-- the target's reply: vendor 0x1234
abbrev vendor_frame : List ℕ
vendor_frame = items 1 6 (0x8E ∷ 0x00 ∷ 0x00 ∷ 0x00 ∷ 0x34 ∷ 0x12 ∷ [])

-- ---- requests and replies

-- The request goes as it is, in SendRRData of session 1 with the next request number as its sender context.
request_sent : reported connected (vendor_request ∷ []) ≡ sends_frame (0x6F ∷ 0 ∷ 24 ∷ 0 ∷ 1 ∷ 0 ∷ 0 ∷ 0 ∷ 0 ∷ 0 ∷ 0 ∷ 0 ∷ 1 ∷ 0 ∷ 0 ∷ 0 ∷ 0 ∷ 0 ∷ 0 ∷ 0 ∷ 0 ∷ 0 ∷ 0 ∷ 0 ∷ 0 ∷ 0 ∷ 0 ∷ 0 ∷ 0 ∷ 0 ∷ 2 ∷ 0 ∷ 0 ∷ 0 ∷ 0 ∷ 0 ∷ 0xB2 ∷ 0 ∷ 8 ∷ 0 ∷ 0x0E ∷ 0x03 ∷ 0x20 ∷ 0x01 ∷ 0x24 ∷ 0x01 ∷ 0x30 ∷ 0x01 ∷ []) ∷ []
unfolding messages.message_reading packets.packet_reading packets.behind_socket packets.are_sockets router_reply_reading opens.open_text opened ready_opened target_opened target_lost stream_opened stream_cut frame explicit_request explicit_reply produced_table all_expired all_given_up explicit_timed_out explicit_lost tick start
request_sent = refl

-- the reply has the number that the application gave; a second one is ignored
reply_once : reported requested (Frame 0 vendor_frame ∷ Frame 0 vendor_frame ∷ []) ≡ only (Replied 7 0 [] (0x34 ∷ 0x12 ∷ [])) ∷ only Ignored ∷ []
unfolding messages.message_reading packets.packet_reading packets.behind_socket packets.are_sockets router_reply_reading opens.open_text opened ready_opened target_opened target_lost stream_opened stream_cut frame explicit_request explicit_reply produced_table all_expired all_given_up explicit_timed_out explicit_lost tick start
reply_once = refl

-- a refusal with a word of additional status, and data behind it
additional_status : reported requested (Frame 0 (items 1 7 (0x8E ∷ 0x00 ∷ 0x01 ∷ 0x01 ∷ 0x07 ∷ 0x01 ∷ 0x99 ∷ [])) ∷ []) ≡ only (Replied 7 1 (0x07 ∷ 0x01 ∷ []) (0x99 ∷ [])) ∷ []
unfolding messages.message_reading packets.packet_reading packets.behind_socket packets.are_sockets router_reply_reading opens.open_text opened ready_opened target_opened target_lost stream_opened stream_cut frame explicit_request explicit_reply produced_table all_expired all_given_up explicit_timed_out explicit_lost tick start
additional_status = refl

-- the number is free again after the reply, and the next request has the next sender context
number_again : reported requested (Frame 0 vendor_frame ∷ vendor_request ∷ []) ≡ only (Replied 7 0 [] (0x34 ∷ 0x12 ∷ [])) ∷ sends_frame (items 2 8 get_vendor) ∷ []
unfolding messages.message_reading packets.packet_reading packets.behind_socket packets.are_sockets router_reply_reading opens.open_text opened ready_opened target_opened target_lost stream_opened stream_cut frame explicit_request explicit_reply produced_table all_expired all_given_up explicit_timed_out explicit_lost tick start
number_again = refl

-- two requests, answered the other way round
two_requests : reported requested (Explicit target 5 (0x01 ∷ 0x00 ∷ []) ∷ Frame 0 (items 2 4 (0x81 ∷ 0x00 ∷ 0x08 ∷ 0x00 ∷ [])) ∷ Frame 0 vendor_frame ∷ []) ≡ sends_frame (items 2 2 (0x01 ∷ 0x00 ∷ [])) ∷ only (Replied 5 8 [] []) ∷ only (Replied 7 0 [] (0x34 ∷ 0x12 ∷ [])) ∷ []
unfolding messages.message_reading packets.packet_reading packets.behind_socket packets.are_sockets router_reply_reading opens.open_text opened ready_opened target_opened target_lost stream_opened stream_cut frame explicit_request explicit_reply produced_table all_expired all_given_up explicit_timed_out explicit_lost tick start
two_requests = refl

-- ---- no reply

-- the encapsulation status goes before everything else
encapsulation_status : reported requested (Frame 0 (0x66 ∷ 0 ∷ 0 ∷ 0 ∷ 1 ∷ 0 ∷ 0 ∷ 0 ∷ 100 ∷ 0 ∷ 0 ∷ 0 ∷ 1 ∷ 0 ∷ 0 ∷ 0 ∷ 0 ∷ 0 ∷ 0 ∷ 0 ∷ 0 ∷ 0 ∷ 0 ∷ 0 ∷ []) ∷ Frame 0 vendor_frame ∷ []) ≡ unanswered_for (unanswered.Encap 100) ∷ only Ignored ∷ []
unfolding messages.message_reading packets.packet_reading packets.behind_socket packets.are_sockets router_reply_reading opens.open_text opened ready_opened target_opened target_lost stream_opened stream_cut frame explicit_request explicit_reply produced_table all_expired all_given_up explicit_timed_out explicit_lost tick start
encapsulation_status = refl

-- a message of another command
other_command : reported requested (Frame 0 (0x66 ∷ 0 ∷ 0 ∷ 0 ∷ 1 ∷ 0 ∷ 0 ∷ 0 ∷ 0 ∷ 0 ∷ 0 ∷ 0 ∷ 1 ∷ 0 ∷ 0 ∷ 0 ∷ 0 ∷ 0 ∷ 0 ∷ 0 ∷ 0 ∷ 0 ∷ 0 ∷ 0 ∷ []) ∷ []) ≡ unanswered_for unanswered.Unreadable ∷ []
unfolding messages.message_reading packets.packet_reading packets.behind_socket packets.are_sockets router_reply_reading opens.open_text opened ready_opened target_opened target_lost stream_opened stream_cut frame explicit_request explicit_reply produced_table all_expired all_given_up explicit_timed_out explicit_lost tick start
other_command = refl

-- data that are no items
no_items : reported requested (Frame 0 (0x6F ∷ 0 ∷ 1 ∷ 0 ∷ 1 ∷ 0 ∷ 0 ∷ 0 ∷ 0 ∷ 0 ∷ 0 ∷ 0 ∷ 1 ∷ 0 ∷ 0 ∷ 0 ∷ 0 ∷ 0 ∷ 0 ∷ 0 ∷ 0 ∷ 0 ∷ 0 ∷ 0 ∷ 9 ∷ []) ∷ []) ≡ unanswered_for unanswered.Unreadable ∷ []
unfolding messages.message_reading packets.packet_reading packets.behind_socket packets.are_sockets router_reply_reading opens.open_text opened ready_opened target_opened target_lost stream_opened stream_cut frame explicit_request explicit_reply produced_table all_expired all_given_up explicit_timed_out explicit_lost tick start
no_items = refl

-- fewer than four bytes
short_reply : reported requested (Frame 0 (items 1 3 (0x8E ∷ 0x00 ∷ 0x00 ∷ [])) ∷ []) ≡ unanswered_for unanswered.Unreadable ∷ []
unfolding messages.message_reading packets.packet_reading packets.behind_socket packets.are_sockets router_reply_reading opens.open_text opened ready_opened target_opened target_lost stream_opened stream_cut frame explicit_request explicit_reply produced_table all_expired all_given_up explicit_timed_out explicit_lost tick start
short_reply = refl

-- the reply of another service
other_service : reported requested (Frame 0 (items 1 4 (0x81 ∷ 0x00 ∷ 0x00 ∷ 0x00 ∷ [])) ∷ []) ≡ unanswered_for unanswered.Unreadable ∷ []
unfolding messages.message_reading packets.packet_reading packets.behind_socket packets.are_sockets router_reply_reading opens.open_text opened ready_opened target_opened target_lost stream_opened stream_cut frame explicit_request explicit_reply produced_table all_expired all_given_up explicit_timed_out explicit_lost tick start
other_service = refl

-- the request's own service, without the reply bit
no_reply_bit : reported requested (Frame 0 (items 1 4 (0x0E ∷ 0x00 ∷ 0x00 ∷ 0x00 ∷ [])) ∷ []) ≡ unanswered_for unanswered.Unreadable ∷ []
unfolding messages.message_reading packets.packet_reading packets.behind_socket packets.are_sockets router_reply_reading opens.open_text opened ready_opened target_opened target_lost stream_opened stream_cut frame explicit_request explicit_reply produced_table all_expired all_given_up explicit_timed_out explicit_lost tick start
no_reply_bit = refl

-- additional status that runs past the end
status_past_end : reported requested (Frame 0 (items 1 5 (0x8E ∷ 0x00 ∷ 0x01 ∷ 0x01 ∷ 0x07 ∷ [])) ∷ []) ≡ unanswered_for unanswered.Unreadable ∷ []
unfolding messages.message_reading packets.packet_reading packets.behind_socket packets.are_sockets router_reply_reading opens.open_text opened ready_opened target_opened target_lost stream_opened stream_cut frame explicit_request explicit_reply produced_table all_expired all_given_up explicit_timed_out explicit_lost tick start
status_past_end = refl

-- a request is given up after 2 seconds and no sooner; its reply is then ignored
late_reply : reported requested (Tick 1999 ∷ Tick 1 ∷ Frame 0 vendor_frame ∷ []) ≡ quiet ∷ unanswered_for unanswered.TimedOut ∷ only Ignored ∷ []
unfolding messages.message_reading packets.packet_reading packets.behind_socket packets.are_sockets router_reply_reading opens.open_text opened ready_opened target_opened target_lost stream_opened stream_cut frame explicit_request explicit_reply produced_table all_expired all_given_up explicit_timed_out explicit_lost tick start
late_reply = refl

-- requests time out in the order in which they were sent
late_in_order : reported requested (Explicit target 5 (0x01 ∷ 0x00 ∷ []) ∷ Tick 2000 ∷ []) ≡ sends_frame (items 2 2 (0x01 ∷ 0x00 ∷ [])) ∷ reports_notices (notice.Unanswered 7 unanswered.TimedOut ∷ notice.Unanswered 5 unanswered.TimedOut ∷ []) ∷ []
unfolding messages.message_reading packets.packet_reading packets.behind_socket packets.are_sockets router_reply_reading opens.open_text opened ready_opened target_opened target_lost stream_opened stream_cut frame explicit_request explicit_reply produced_table all_expired all_given_up explicit_timed_out explicit_lost tick start
late_in_order = refl

-- slots give up their replies before
late_behind_slots : reported requested (Start 0 ∷ Tick 2000 ∷ []) ≡ Ok (record (plain_answer Done) { frames = record { to = recipient.Stream 0; bytes = items 2 50 (0x54 ∷ 0x02 ∷ 0x20 ∷ 0x06 ∷ 0x24 ∷ 0x01 ∷ 0x0A ∷ 0x0E ∷ 0x00 ∷ 0x00 ∷ 0x00 ∷ 0x00 ∷ 0x01 ∷ 0x00 ∷ 0x00 ∷ 0x20 ∷ 0x01 ∷ 0x00 ∷ 0x34 ∷ 0x12 ∷ 0x78 ∷ 0x56 ∷ 0x34 ∷ 0x12 ∷ 0x02 ∷ 0x00 ∷ 0x00 ∷ 0x00 ∷ 0x10 ∷ 0x27 ∷ 0x00 ∷ 0x00 ∷ 0x0A ∷ 0x48 ∷ 0x10 ∷ 0x27 ∷ 0x00 ∷ 0x00 ∷ 0x06 ∷ 0x48 ∷ 0x01 ∷ 0x04 ∷ 0x20 ∷ 0x04 ∷ 0x24 ∷ 0x97 ∷ 0x2C ∷ 0x96 ∷ 0x2C ∷ 0x64 ∷ []) } ∷ []; notices = notice.Slot 0 2 ∷ [] }) ∷ reports_notices (notice.Slot 0 0 ∷ notice.Unanswered 7 unanswered.TimedOut ∷ []) ∷ []
unfolding messages.message_reading packets.packet_reading packets.behind_socket packets.are_sockets router_reply_reading opens.open_text opened ready_opened target_opened target_lost stream_opened stream_cut frame explicit_request explicit_reply produced_table all_expired all_given_up explicit_timed_out explicit_lost tick start
late_behind_slots = refl

-- a request ends with its stream
lost_with_stream : reported requested (StreamCut 0 ∷ []) ≡ unanswered_for unanswered.Lost ∷ []
unfolding messages.message_reading packets.packet_reading packets.behind_socket packets.are_sockets router_reply_reading opens.open_text opened ready_opened target_opened target_lost stream_opened stream_cut frame explicit_request explicit_reply produced_table all_expired all_given_up explicit_timed_out explicit_lost tick start
lost_with_stream = refl

-- ---- refusals

-- no slot connects to the target; that goes before the length
no_target : reported connected (Explicit other_target 7 [] ∷ []) ≡ Err fault.NoSuchSlot ∷ []
unfolding messages.message_reading packets.packet_reading packets.behind_socket packets.are_sockets router_reply_reading opens.open_text opened ready_opened target_opened target_lost stream_opened stream_cut frame explicit_request explicit_reply produced_table all_expired all_given_up explicit_timed_out explicit_lost tick start
no_target = refl

-- one byte and 505 bytes are refused, before it is requested for a session
wrong_length : reported (scanner_table (profile (owner ∷ []))) (Explicit target 7 (0x0E ∷ []) ∷ Explicit target 7 (replicate 505 0x0E) ∷ []) ≡ Err fault.WrongLength ∷ Err fault.WrongLength ∷ []
unfolding messages.message_reading packets.packet_reading packets.behind_socket packets.are_sockets router_reply_reading opens.open_text opened ready_opened target_opened target_lost stream_opened stream_cut frame explicit_request explicit_reply produced_table all_expired all_given_up explicit_timed_out explicit_lost tick start
wrong_length = refl

-- 504 bytes go
longest_request : reported connected (Explicit target 7 (replicate 504 0x0E) ∷ []) ≡ sends_frame (0x6F ∷ 0 ∷ 0x08 ∷ 0x02 ∷ 1 ∷ 0 ∷ 0 ∷ 0 ∷ 0 ∷ 0 ∷ 0 ∷ 0 ∷ 1 ∷ 0 ∷ 0 ∷ 0 ∷ 0 ∷ 0 ∷ 0 ∷ 0 ∷ 0 ∷ 0 ∷ 0 ∷ 0 ∷ 0 ∷ 0 ∷ 0 ∷ 0 ∷ 0 ∷ 0 ∷ 2 ∷ 0 ∷ 0 ∷ 0 ∷ 0 ∷ 0 ∷ 0xB2 ∷ 0 ∷ 0xF8 ∷ 0x01 ∷ replicate 504 0x0E) ∷ []
unfolding messages.message_reading packets.packet_reading packets.behind_socket packets.are_sockets router_reply_reading opens.open_text opened ready_opened target_opened target_lost stream_opened stream_cut frame explicit_request explicit_reply produced_table all_expired all_given_up explicit_timed_out explicit_lost tick start
longest_request = refl

-- no stream, and one whose session is not registered yet
no_session : reported (scanner_table (profile (owner ∷ []))) (vendor_request ∷ []) ++ reported (after (scanner_table (profile (owner ∷ []))) (StreamOpened 0 target ∷ [])) (vendor_request ∷ []) ≡ not_now ∷ not_now ∷ []
unfolding messages.message_reading packets.packet_reading packets.behind_socket packets.are_sockets router_reply_reading opens.open_text opened ready_opened target_opened target_lost stream_opened stream_cut frame explicit_request explicit_reply produced_table all_expired all_given_up explicit_timed_out explicit_lost tick start
no_session = refl

-- Forward_Open, Large_Forward_Open and Forward_Close are for slots, and no request has the reply bit
services_of_slots : reported connected (Explicit target 7 (0x54 ∷ 0x00 ∷ []) ∷ Explicit target 7 (0x5B ∷ 0x00 ∷ []) ∷ Explicit target 7 (0x4E ∷ 0x00 ∷ []) ∷ Explicit target 7 (0x80 ∷ 0x00 ∷ []) ∷ Explicit target 7 (0xD4 ∷ 0x00 ∷ []) ∷ Explicit target 7 (0x7F ∷ 0x00 ∷ []) ∷ []) ≡ not_now ∷ not_now ∷ not_now ∷ not_now ∷ not_now ∷ sends_frame (items 1 2 (0x7F ∷ 0x00 ∷ [])) ∷ []
unfolding messages.message_reading packets.packet_reading packets.behind_socket packets.are_sockets router_reply_reading opens.open_text opened ready_opened target_opened target_lost stream_opened stream_cut frame explicit_request explicit_reply produced_table all_expired all_given_up explicit_timed_out explicit_lost tick start
services_of_slots = refl

-- a number that is pending
number_in_use : reported requested (vendor_request ∷ []) ≡ not_now ∷ []
unfolding messages.message_reading packets.packet_reading packets.behind_socket packets.are_sockets router_reply_reading opens.open_text opened ready_opened target_opened target_lost stream_opened stream_cut frame explicit_request explicit_reply produced_table all_expired all_given_up explicit_timed_out explicit_lost tick start
number_in_use = refl

-- 16 requests are pending
abbrev crowded : ScannerTable
crowded = record connected { explicit = replicate 16 (record { number = 1; request = 1; stream = 0; deadline = record { 0 = 2000 }; service = 0x0E }) }

-- a seventeenth request
too_many : reported crowded (vendor_request ∷ []) ≡ not_now ∷ []
unfolding messages.message_reading packets.packet_reading packets.behind_socket packets.are_sockets router_reply_reading opens.open_text opened ready_opened target_opened target_lost stream_opened stream_cut frame explicit_request explicit_reply produced_table all_expired all_given_up explicit_timed_out explicit_lost tick start
too_many = refl

-- no request number is left; the last one is 2^48
numbers_end : reported (record connected { next_request = 281474976710657 }) (vendor_request ∷ []) ≡ not_now ∷ []
unfolding messages.message_reading packets.packet_reading packets.behind_socket packets.are_sockets router_reply_reading opens.open_text opened ready_opened target_opened target_lost stream_opened stream_cut frame explicit_request explicit_reply produced_table all_expired all_given_up explicit_timed_out explicit_lost tick start
numbers_end = refl

-- the target does not know the session of a request: at a tidy scanner the request is lost with the session, and the next one is registered
unknown_to_tidy : reported (record requested { profile = record requested.profile { tidy = true } }) (Frame 0 (unknown_session 1) ∷ Frame 0 vendor_frame ∷ []) ≡ Ok (record (plain_answer Done) { frames = record { to = recipient.Stream 0; bytes = registration } ∷ []; notices = notice.Unanswered 7 unanswered.Lost ∷ [] }) ∷ only Ignored ∷ []
unfolding messages.message_reading packets.packet_reading packets.behind_socket packets.are_sockets router_reply_reading opens.open_text opened ready_opened target_opened target_lost stream_opened stream_cut frame explicit_request explicit_reply produced_table all_expired all_given_up explicit_timed_out explicit_lost tick start
unknown_to_tidy = refl

-- and at another scanner it is answered with the status
unknown_to_other : reported requested (Frame 0 (unknown_session 1) ∷ []) ≡ unanswered_for (unanswered.Encap 0x64) ∷ []
unfolding messages.message_reading packets.packet_reading packets.behind_socket packets.are_sockets router_reply_reading opens.open_text opened ready_opened target_opened target_lost stream_opened stream_cut frame explicit_request explicit_reply produced_table all_expired all_given_up explicit_timed_out explicit_lost tick start
unknown_to_other = refl
