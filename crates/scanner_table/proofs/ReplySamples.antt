-- Samples of replies at a small scanner: each says which outcomes a list of events has.
use Rattle.std.proofs.Common.{◌≡◌, ℕ, List, [], ◌∷◌, ◌++◌, None, refl}
use Rattle.cip_types.specs.declared.names.Mismatch.TheVariants as mismatch
use Rattle.cip_events.specs.declared.event.Event.TheVariants.{Frame, Tick, Start, Stop, StreamCut}
use Rattle.cip_events.specs.declared.event.Notice.TheVariants as notice
use Rattle.cip_events.specs.declared.event.Reason.{Reason}
use Rattle.cip_events.specs.declared.event.Reason.TheVariants as reason
use Rattle.cip_events.specs.declared.event.Verdict.TheVariants.{BadFrame, Ignored}
use Rattle.cip_events.specs.Outcomes.{Outcome}
use Rattle.scanner_table.proofs.SmallScanner.{owner, gatherer, profile, reported, after, quiet, only, not_now, becomes, reports_notices, refuses, sends_request, items, success, forward_open, opened_frame, forward_close, registers, connected}
use Rattle.cip_encap.specs.Reading as messages
use Rattle.cip_encap.specs.PacketReading as packets
use Rattle.cip_fwdopen.specs.Open as opens
use Rattle.cip_fwdopen.specs.Close as closes
use Rattle.cip_fwdopen.specs.Reply as replies
use Rattle.cip_datagram.specs.Reading as datagrams
use Rattle.scanner_table.specs.declared.table.ScannerTable.{ScannerTable}
use Rattle.scanner_table.specs.Opening.{opened, ready_opened, target_opened}
use Rattle.scanner_table.specs.Replies.{open_answer, answered}
use Rattle.scanner_table.specs.Closing.{target_lost}
use Rattle.scanner_table.specs.Explicit.{explicit_timed_out, explicit_lost}
use Rattle.scanner_table.specs.Encapsulation.{stream_opened, stream_cut, frame}
use Rattle.scanner_table.specs.Datagrams.{received}
use Rattle.scanner_table.specs.Productions.{produced_table}
use Rattle.scanner_table.specs.Ticks.{all_expired, all_given_up, tick}
use Rattle.scanner_table.specs.Points.{write, read, mode, start, stop}
use Rattle.scanner_table.specs.Step.{scanner_table}

-- an opening that is not answered, of the first request
abbrev pending_open : ScannerTable
pending_open = after connected (Start 0 ∷ [])

-- the reply of these bytes is refused so, and the slot is tried again after 3 seconds and no sooner
abbrev replied : List ℕ → List Outcome
replied bytes = reported pending_open (Frame 0 bytes ∷ Tick 2999 ∷ [])

abbrev refused_for : Reason → List Outcome
refused_for why = refuses why ∷ quiet ∷ []

-- the status of the message goes before everything else
encapsulation : replied (0x66 ∷ 0 ∷ 0 ∷ 0 ∷ 1 ∷ 0 ∷ 0 ∷ 0 ∷ 100 ∷ 0 ∷ 0 ∷ 0 ∷ 1 ∷ 0 ∷ 0 ∷ 0 ∷ 0 ∷ 0 ∷ 0 ∷ 0 ∷ 0 ∷ 0 ∷ 0 ∷ 0 ∷ []) ≡ refused_for (reason.Encap 100)
unfolding messages.message_reading packets.packet_reading packets.behind_socket packets.are_sockets replies.open_reply_reading replies.unread_reading opens.open_text closes.close_text datagrams.datagram_reading opened ready_opened target_opened open_answer answered target_lost stream_opened stream_cut frame received produced_table all_expired all_given_up explicit_timed_out explicit_lost tick write read mode start stop
encapsulation = refl

-- a message of another command
other_command : replied (0x66 ∷ 0 ∷ 0 ∷ 0 ∷ 1 ∷ 0 ∷ 0 ∷ 0 ∷ 0 ∷ 0 ∷ 0 ∷ 0 ∷ 1 ∷ 0 ∷ 0 ∷ 0 ∷ 0 ∷ 0 ∷ 0 ∷ 0 ∷ 0 ∷ 0 ∷ 0 ∷ 0 ∷ []) ≡ refused_for reason.Unreadable
unfolding messages.message_reading packets.packet_reading packets.behind_socket packets.are_sockets replies.open_reply_reading replies.unread_reading opens.open_text closes.close_text datagrams.datagram_reading opened ready_opened target_opened open_answer answered target_lost stream_opened stream_cut frame received produced_table all_expired all_given_up explicit_timed_out explicit_lost tick write read mode start stop
other_command = refl

-- data that are no items
no_items : replied (0x6F ∷ 0 ∷ 1 ∷ 0 ∷ 1 ∷ 0 ∷ 0 ∷ 0 ∷ 0 ∷ 0 ∷ 0 ∷ 0 ∷ 1 ∷ 0 ∷ 0 ∷ 0 ∷ 0 ∷ 0 ∷ 0 ∷ 0 ∷ 0 ∷ 0 ∷ 0 ∷ 0 ∷ 9 ∷ []) ≡ refused_for reason.Unreadable
unfolding messages.message_reading packets.packet_reading packets.behind_socket packets.are_sockets replies.open_reply_reading replies.unread_reading opens.open_text closes.close_text datagrams.datagram_reading opened ready_opened target_opened open_answer answered target_lost stream_opened stream_cut frame received produced_table all_expired all_given_up explicit_timed_out explicit_lost tick write read mode start stop
no_items = refl

-- a reply that ends early
short : replied (items 1 4 (0xD4 ∷ 0 ∷ 0 ∷ 0 ∷ [])) ≡ refused_for reason.Unreadable
unfolding messages.message_reading packets.packet_reading packets.behind_socket packets.are_sockets replies.open_reply_reading replies.unread_reading opens.open_text closes.close_text datagrams.datagram_reading opened ready_opened target_opened open_answer answered target_lost stream_opened stream_cut frame received produced_table all_expired all_given_up explicit_timed_out explicit_lost tick write read mode start stop
short = refl

-- the reply of another service is not read for its status
other_service : replied (items 1 4 (0xDB ∷ 0 ∷ 1 ∷ 0 ∷ [])) ≡ refused_for reason.Unreadable
unfolding messages.message_reading packets.packet_reading packets.behind_socket packets.are_sockets replies.open_reply_reading replies.unread_reading opens.open_text closes.close_text datagrams.datagram_reading opened ready_opened target_opened open_answer answered target_lost stream_opened stream_cut frame received produced_table all_expired all_given_up explicit_timed_out explicit_lost tick write read mode start stop
other_service = refl

-- the target's own refusal
target_refuses : replied (items 1 4 (0xD4 ∷ 0 ∷ 8 ∷ 0 ∷ [])) ≡ refused_for (reason.Cip (record { general = 8; extended = None }))
unfolding messages.message_reading packets.packet_reading packets.behind_socket packets.are_sockets replies.open_reply_reading replies.unread_reading opens.open_text closes.close_text datagrams.datagram_reading opened ready_opened target_opened open_answer answered target_lost stream_opened stream_cut frame received produced_table all_expired all_given_up explicit_timed_out explicit_lost tick write read mode start stop
target_refuses = refl

-- a success of another connection
other_triad : replied (items 1 30 (success 9 1 9)) ≡ refused_for (reason.Mismatch mismatch.Triad)
unfolding messages.message_reading packets.packet_reading packets.behind_socket packets.are_sockets replies.open_reply_reading replies.unread_reading opens.open_text closes.close_text datagrams.datagram_reading opened ready_opened target_opened open_answer answered target_lost stream_opened stream_cut frame received produced_table all_expired all_given_up explicit_timed_out explicit_lost tick write read mode start stop
other_triad = refl

-- a successful reply with another T->O id than the requested one
other_id : replied (items 1 30 (success 1 1 2)) ≡ refused_for (reason.Mismatch mismatch.Id)
unfolding messages.message_reading packets.packet_reading packets.behind_socket packets.are_sockets replies.open_reply_reading replies.unread_reading opens.open_text closes.close_text datagrams.datagram_reading opened ready_opened target_opened open_answer answered target_lost stream_opened stream_cut frame received produced_table all_expired all_given_up explicit_timed_out explicit_lost tick write read mode start stop
other_id = refl

-- a packet interval of 0
no_interval : replied (items 1 30 (0xD4 ∷ 0x00 ∷ 0x00 ∷ 0x00 ∷ 0x01 ∷ 0x00 ∷ 0x00 ∷ 0x10 ∷ 0x01 ∷ 0x00 ∷ 0x00 ∷ 0x20 ∷ 0x01 ∷ 0x00 ∷ 0x34 ∷ 0x12 ∷ 0x78 ∷ 0x56 ∷ 0x34 ∷ 0x12 ∷ 0x00 ∷ 0x00 ∷ 0x00 ∷ 0x00 ∷ 0x10 ∷ 0x27 ∷ 0x00 ∷ 0x00 ∷ 0x00 ∷ 0x00 ∷ [])) ≡ refused_for (reason.Mismatch mismatch.Api)
unfolding messages.message_reading packets.packet_reading packets.behind_socket packets.are_sockets replies.open_reply_reading replies.unread_reading opens.open_text closes.close_text datagrams.datagram_reading opened ready_opened target_opened open_answer answered target_lost stream_opened stream_cut frame received produced_table all_expired all_given_up explicit_timed_out explicit_lost tick write read mode start stop
no_interval = refl

-- a packet interval above 10 seconds
long_interval : replied (items 1 30 (0xD4 ∷ 0x00 ∷ 0x00 ∷ 0x00 ∷ 0x01 ∷ 0x00 ∷ 0x00 ∷ 0x10 ∷ 0x01 ∷ 0x00 ∷ 0x00 ∷ 0x20 ∷ 0x01 ∷ 0x00 ∷ 0x34 ∷ 0x12 ∷ 0x78 ∷ 0x56 ∷ 0x34 ∷ 0x12 ∷ 0x10 ∷ 0x27 ∷ 0x00 ∷ 0x00 ∷ 0x81 ∷ 0x96 ∷ 0x98 ∷ 0x00 ∷ 0x00 ∷ 0x00 ∷ [])) ≡ refused_for (reason.Mismatch mismatch.Api)
unfolding messages.message_reading packets.packet_reading packets.behind_socket packets.are_sockets replies.open_reply_reading replies.unread_reading opens.open_text closes.close_text datagrams.datagram_reading opened ready_opened target_opened open_answer answered target_lost stream_opened stream_cut frame received produced_table all_expired all_given_up explicit_timed_out explicit_lost tick write read mode start stop
long_interval = refl

-- bytes that are no whole and a reply to no request
not_whole : reported pending_open (Frame 0 (0x6F ∷ []) ∷ Frame 0 (items 2 30 (success 1 1 1)) ∷ Frame 0 opened_frame ∷ []) ≡ only BadFrame ∷ only Ignored ∷ becomes 3 ∷ []
unfolding messages.message_reading packets.packet_reading packets.behind_socket packets.are_sockets replies.open_reply_reading replies.unread_reading opens.open_text closes.close_text datagrams.datagram_reading opened ready_opened target_opened open_answer answered target_lost stream_opened stream_cut frame received produced_table all_expired all_given_up explicit_timed_out explicit_lost tick write read mode start stop
not_whole = refl

-- two groups of one target, the first of them open with the id 0x10000002
abbrev two_groups : ScannerTable
two_groups = after (scanner_table (profile (gatherer ∷ record gatherer { produced = 101 } ∷ []))) (registers ++ (Start 0 ∷ Frame 0 (items 1 30 (0xD4 ∷ 0x00 ∷ 0x00 ∷ 0x00 ∷ 0x01 ∷ 0x00 ∷ 0x00 ∷ 0x10 ∷ 0x02 ∷ 0x00 ∷ 0x00 ∷ 0x10 ∷ 0x01 ∷ 0x00 ∷ 0x34 ∷ 0x12 ∷ 0x78 ∷ 0x56 ∷ 0x34 ∷ 0x12 ∷ 0x10 ∷ 0x27 ∷ 0x00 ∷ 0x00 ∷ 0x10 ∷ 0x27 ∷ 0x00 ∷ 0x00 ∷ 0x00 ∷ 0x00 ∷ [])) ∷ Start 1 ∷ []))

-- no other established slot of the target may have the id
id_in_use : reported two_groups (Frame 0 (items 2 30 (0xD4 ∷ 0x00 ∷ 0x00 ∷ 0x00 ∷ 0x03 ∷ 0x00 ∷ 0x00 ∷ 0x10 ∷ 0x02 ∷ 0x00 ∷ 0x00 ∷ 0x10 ∷ 0x02 ∷ 0x00 ∷ 0x34 ∷ 0x12 ∷ 0x78 ∷ 0x56 ∷ 0x34 ∷ 0x12 ∷ 0x10 ∷ 0x27 ∷ 0x00 ∷ 0x00 ∷ 0x10 ∷ 0x27 ∷ 0x00 ∷ 0x00 ∷ 0x00 ∷ 0x00 ∷ [])) ∷ []) ≡ reports_notices (notice.Refused 1 (reason.Mismatch mismatch.Id) ∷ notice.Slot 1 0 ∷ []) ∷ []
unfolding messages.message_reading packets.packet_reading packets.behind_socket packets.are_sockets replies.open_reply_reading replies.unread_reading opens.open_text closes.close_text datagrams.datagram_reading opened ready_opened target_opened open_answer answered target_lost stream_opened stream_cut frame received produced_table all_expired all_given_up explicit_timed_out explicit_lost tick write read mode start stop
id_in_use = refl

-- ---- stops

-- an open connection
abbrev open_table : ScannerTable
open_table = after connected (Start 0 ∷ Frame 0 opened_frame ∷ [])

-- the frame that closes it
abbrev closing_frame : List ℕ
closing_frame = items 2 26 forward_close

-- a slot that is not to be open cannot be stopped, and one that is and waits for a session can
stop_idle : reported (scanner_table (profile (owner ∷ []))) (Stop 0 ∷ Start 0 ∷ Start 0 ∷ Stop 0 ∷ Stop 0 ∷ []) ≡ not_now ∷ quiet ∷ not_now ∷ quiet ∷ not_now ∷ []
unfolding messages.message_reading packets.packet_reading packets.behind_socket packets.are_sockets replies.open_reply_reading replies.unread_reading opens.open_text closes.close_text datagrams.datagram_reading opened ready_opened target_opened open_answer answered target_lost stream_opened stream_cut frame received produced_table all_expired all_given_up explicit_timed_out explicit_lost tick write read mode start stop
stop_idle = refl

-- an opening is given up, and its reply comes to nothing
stop_opening : reported pending_open (Start 0 ∷ Stop 0 ∷ Frame 0 opened_frame ∷ Tick 3000 ∷ []) ≡ not_now ∷ becomes 0 ∷ only Ignored ∷ quiet ∷ []
unfolding messages.message_reading packets.packet_reading packets.behind_socket packets.are_sockets replies.open_reply_reading replies.unread_reading opens.open_text closes.close_text datagrams.datagram_reading opened ready_opened target_opened open_answer answered target_lost stream_opened stream_cut frame received produced_table all_expired all_given_up explicit_timed_out explicit_lost tick write read mode start stop
stop_opening = refl

-- a connection is closed over its session; the slot cannot be stopped or started until the answer comes
stop_open : reported open_table (Start 0 ∷ Stop 0 ∷ Stop 0 ∷ Start 0 ∷ Frame 0 (items 2 14 (0xCE ∷ 0x00 ∷ 0x00 ∷ 0x00 ∷ 0x01 ∷ 0x00 ∷ 0x34 ∷ 0x12 ∷ 0x78 ∷ 0x56 ∷ 0x34 ∷ 0x12 ∷ 0x00 ∷ 0x00 ∷ [])) ∷ Start 0 ∷ []) ≡ not_now ∷ sends_request closing_frame 6 ∷ not_now ∷ not_now ∷ becomes 0 ∷ sends_request (items 3 50 (forward_open 2 2)) 2 ∷ []
unfolding messages.message_reading packets.packet_reading packets.behind_socket packets.are_sockets replies.open_reply_reading replies.unread_reading opens.open_text closes.close_text datagrams.datagram_reading opened ready_opened target_opened open_answer answered target_lost stream_opened stream_cut frame received produced_table all_expired all_given_up explicit_timed_out explicit_lost tick write read mode start stop
stop_open = refl

-- whatever the answer says, the slot is idle then
close_refused : reported open_table (Stop 0 ∷ Frame 0 (items 2 16 (0xCE ∷ 0x00 ∷ 0x01 ∷ 0x01 ∷ 0x07 ∷ 0x01 ∷ 0x01 ∷ 0x00 ∷ 0x34 ∷ 0x12 ∷ 0x78 ∷ 0x56 ∷ 0x34 ∷ 0x12 ∷ 0x00 ∷ 0x00 ∷ [])) ∷ []) ≡ sends_request closing_frame 6 ∷ becomes 0 ∷ []
unfolding messages.message_reading packets.packet_reading packets.behind_socket packets.are_sockets replies.open_reply_reading replies.unread_reading opens.open_text closes.close_text datagrams.datagram_reading opened ready_opened target_opened open_answer answered target_lost stream_opened stream_cut frame received produced_table all_expired all_given_up explicit_timed_out explicit_lost tick write read mode start stop
close_refused = refl

-- a closing that is not answered is over after 2 seconds and no sooner, and is not tried again
close_unanswered : reported open_table (Stop 0 ∷ Tick 1999 ∷ Tick 1 ∷ Tick 3000 ∷ []) ≡ sends_request closing_frame 6 ∷ quiet ∷ becomes 0 ∷ quiet ∷ []
unfolding messages.message_reading packets.packet_reading packets.behind_socket packets.are_sockets replies.open_reply_reading replies.unread_reading opens.open_text closes.close_text datagrams.datagram_reading opened ready_opened target_opened open_answer answered target_lost stream_opened stream_cut frame received produced_table all_expired all_given_up explicit_timed_out explicit_lost tick write read mode start stop
close_unanswered = refl

-- a closing is over with its stream
close_cut : reported open_table (Stop 0 ∷ StreamCut 0 ∷ []) ≡ sends_request closing_frame 6 ∷ becomes 0 ∷ []
unfolding messages.message_reading packets.packet_reading packets.behind_socket packets.are_sockets replies.open_reply_reading replies.unread_reading opens.open_text closes.close_text datagrams.datagram_reading opened ready_opened target_opened open_answer answered target_lost stream_opened stream_cut frame received produced_table all_expired all_given_up explicit_timed_out explicit_lost tick write read mode start stop
close_cut = refl

-- a connection stays when its stream is cut, and is left without a word when it is stopped then
stop_without_session : reported open_table (StreamCut 0 ∷ Stop 0 ∷ []) ≡ quiet ∷ becomes 0 ∷ []
unfolding messages.message_reading packets.packet_reading packets.behind_socket packets.are_sockets replies.open_reply_reading replies.unread_reading opens.open_text closes.close_text datagrams.datagram_reading opened ready_opened target_opened open_answer answered target_lost stream_opened stream_cut frame received produced_table all_expired all_given_up explicit_timed_out explicit_lost tick write read mode start stop
stop_without_session = refl

-- a connection that timed out is left; it could not be started
stop_timed_out : reported (after open_table (Tick 10000 ∷ [])) (Start 0 ∷ Stop 0 ∷ Tick 3000 ∷ []) ≡ not_now ∷ becomes 0 ∷ quiet ∷ []
unfolding messages.message_reading packets.packet_reading packets.behind_socket packets.are_sockets replies.open_reply_reading replies.unread_reading opens.open_text closes.close_text datagrams.datagram_reading opened ready_opened target_opened open_answer answered target_lost stream_opened stream_cut frame received produced_table all_expired all_given_up explicit_timed_out explicit_lost tick write read mode start stop
stop_timed_out = refl

-- no request number is left for the close: none is sent
stop_without_number : reported (record open_table { next_request = 281474976710657 }) (Stop 0 ∷ []) ≡ reports_notices (notice.NoIds 0 ∷ notice.Slot 0 0 ∷ []) ∷ []
unfolding messages.message_reading packets.packet_reading packets.behind_socket packets.are_sockets replies.open_reply_reading replies.unread_reading opens.open_text closes.close_text datagrams.datagram_reading opened ready_opened target_opened open_answer answered target_lost stream_opened stream_cut frame received produced_table all_expired all_given_up explicit_timed_out explicit_lost tick write read mode start stop
stop_without_number = refl
