-- Samples of a tidy scanner: each says which outcomes a list of events has.
use Rattle.std.proofs.Common.{◌≡◌, ℕ, List, [], ◌∷◌, Some, Ok, true, refl}
use Rattle.cip_types.specs.declared.names.Mismatch.TheVariants as mismatch
use Rattle.cip_events.specs.declared.event.Event.TheVariants.{StreamOpened, Frame, Tick, Start, Stop, StreamCut}
use Rattle.cip_events.specs.declared.event.Notice.{Notice}
use Rattle.cip_events.specs.declared.event.Notice.TheVariants as notice
use Rattle.cip_events.specs.declared.event.Reason.TheVariants as reason
use Rattle.cip_events.specs.declared.event.Recipient.TheVariants as recipient
use Rattle.cip_events.specs.declared.event.Verdict.TheVariants.{Done, Ignored}
use Rattle.cip_events.specs.Answers.{plain_answer}
use Rattle.cip_events.specs.Outcomes.{Outcome}
use Rattle.scanner_table.proofs.SmallScanner.{target, reported, after, quiet, only, not_now, becomes, refuses, sends_request, items, success, ownership, forward_open, opened_frame, forward_close, registration, registered, unknown_session, connected, timed_open}
use Rattle.cip_encap.specs.Reading as messages
use Rattle.cip_encap.specs.PacketReading as packets
use Rattle.cip_fwdopen.specs.Open as opens
use Rattle.cip_fwdopen.specs.Close as closes
use Rattle.cip_fwdopen.specs.Reply as replies
use Rattle.cip_datagram.specs.Reading as datagrams
use Rattle.scanner_table.specs.declared.table.ScannerTable.{ScannerTable}
use Rattle.scanner_table.specs.Opening.{opened, ready_opened, target_opened}
use Rattle.scanner_table.specs.Replies.{open_answer, answered}
use Rattle.scanner_table.specs.Closing.{target_lost}
use Rattle.scanner_table.specs.Explicit.{explicit_timed_out, explicit_lost}
use Rattle.scanner_table.specs.Encapsulation.{stream_opened, stream_cut, frame}
use Rattle.scanner_table.specs.Datagrams.{received}
use Rattle.scanner_table.specs.Productions.{produced_table}
use Rattle.scanner_table.specs.Ticks.{all_expired, all_given_up, tick}
use Rattle.scanner_table.specs.Points.{write, read, mode, start, stop}

-- an opening that is not answered, of the first request
abbrev pending_open : ScannerTable
pending_open = after (record connected { profile = record connected.profile { tidy = true } }) (Start 0 ∷ [])

-- the first connection
abbrev open_table : ScannerTable
open_table = after pending_open (Frame 0 opened_frame ∷ [])

-- the opening was not answered, and its triad is being closed
abbrev clearing : ScannerTable
clearing = after pending_open (Tick 2000 ∷ Tick 3000 ∷ [])

-- the Forward_Close of the first triad, as the second request; its reply; its refusal, since there is no such connection
abbrev closing_frame : List ℕ
closing_frame = items 2 26 forward_close

abbrev close_reply : List ℕ
close_reply = items 2 14 (0xCE ∷ 0x00 ∷ 0x00 ∷ 0x00 ∷ 0x01 ∷ 0x00 ∷ 0x34 ∷ 0x12 ∷ 0x78 ∷ 0x56 ∷ 0x34 ∷ 0x12 ∷ 0x00 ∷ 0x00 ∷ [])

abbrev close_refusal : List ℕ
close_refusal = items 2 16 (0xCE ∷ 0x00 ∷ 0x01 ∷ 0x01 ∷ 0x07 ∷ 0x01 ∷ 0x01 ∷ 0x00 ∷ 0x34 ∷ 0x12 ∷ 0x78 ∷ 0x56 ∷ 0x34 ∷ 0x12 ∷ 0x00 ∷ 0x00 ∷ [])

-- the same close again, as the third request, and its reply
abbrev closing_again : List ℕ
closing_again = items 3 26 forward_close

abbrev second_reply : List ℕ
second_reply = items 3 14 (0xCE ∷ 0x00 ∷ 0x00 ∷ 0x00 ∷ 0x01 ∷ 0x00 ∷ 0x34 ∷ 0x12 ∷ 0x78 ∷ 0x56 ∷ 0x34 ∷ 0x12 ∷ 0x00 ∷ 0x00 ∷ [])

-- the next opening, as the third request: the target has the 2,000 ms that the scanner waits, in 250 ticks of 8 ms
abbrev reopening_frame : List ℕ
reopening_frame = items 3 50 (timed_open 3 250 2 2)

-- these bytes go over stream 0, with these notices
abbrev answers : List ℕ → List Notice → Outcome
answers bytes notices = Ok (record (plain_answer Done) { frames = record { to = recipient.Stream 0; bytes = bytes } ∷ []; notices = notices })

abbrev answers_silently : List ℕ → Outcome
answers_silently bytes = answers bytes []

-- the close is over, and the slot opens
abbrev reopens : Outcome
reopens = answers reopening_frame (notice.Slot 0 0 ∷ notice.Slot 0 2 ∷ [])

-- a success with another triad is refused, and the triad that the slot requested is closed in the same event; no slot waits for
-- the reply, and the next opening has the next numbers
mismatch_closed : reported pending_open (Frame 0 (items 1 30 (success 2 1 1)) ∷ Frame 0 close_reply ∷ Tick 2999 ∷ Tick 1 ∷ []) ≡ answers closing_frame (notice.Refused 0 (reason.Mismatch mismatch.Triad) ∷ notice.Slot 0 0 ∷ []) ∷ only Ignored ∷ quiet ∷ sends_request reopening_frame 2 ∷ []
unfolding messages.message_reading packets.packet_reading packets.behind_socket packets.are_sockets replies.open_reply_reading replies.unread_reading opens.open_text closes.close_text datagrams.datagram_reading opened ready_opened target_opened open_answer answered target_lost stream_opened stream_cut frame received produced_table all_expired all_given_up explicit_timed_out explicit_lost tick write read mode start stop
mismatch_closed = refl

-- no request number is left for the close: none is sent
mismatch_without_number : reported (record pending_open { next_request = 281474976710657 }) (Frame 0 (items 1 30 (success 2 1 1)) ∷ []) ≡ refuses (reason.Mismatch mismatch.Triad) ∷ []
unfolding messages.message_reading packets.packet_reading packets.behind_socket packets.are_sockets replies.open_reply_reading replies.unread_reading opens.open_text closes.close_text datagrams.datagram_reading opened ready_opened target_opened open_answer answered target_lost stream_opened stream_cut frame received produced_table all_expired all_given_up explicit_timed_out explicit_lost tick write read mode start stop
mismatch_without_number = refl

-- a refusal leaves nothing to close
refusal_not_closed : reported pending_open (Frame 0 (items 1 16 (ownership 1)) ∷ []) ≡ refuses (reason.Cip (record { general = 1; extended = Some 0x0106 })) ∷ []
unfolding messages.message_reading packets.packet_reading packets.behind_socket packets.are_sockets replies.open_reply_reading replies.unread_reading opens.open_text closes.close_text datagrams.datagram_reading opened ready_opened target_opened open_answer answered target_lost stream_opened stream_cut frame received produced_table all_expired all_given_up explicit_timed_out explicit_lost tick write read mode start stop
refusal_not_closed = refl

-- an opening that is stopped is closed behind its request; its success is ignored, and the slot is idle with the reply
stop_opening : reported pending_open (Stop 0 ∷ Stop 0 ∷ Frame 0 opened_frame ∷ Frame 0 close_reply ∷ Tick 3000 ∷ []) ≡ sends_request closing_frame 6 ∷ not_now ∷ only Ignored ∷ becomes 0 ∷ quiet ∷ []
unfolding messages.message_reading packets.packet_reading packets.behind_socket packets.are_sockets replies.open_reply_reading replies.unread_reading opens.open_text closes.close_text datagrams.datagram_reading opened ready_opened target_opened open_answer answered target_lost stream_opened stream_cut frame received produced_table all_expired all_given_up explicit_timed_out explicit_lost tick write read mode start stop
stop_opening = refl

-- an opening that is not answered is timed out; after the retry time its triad is closed, and any reply opens the slot
open_unanswered : reported pending_open (Tick 2000 ∷ Frame 0 opened_frame ∷ Tick 2999 ∷ Tick 1 ∷ Frame 0 close_refusal ∷ []) ≡ becomes 4 ∷ only Ignored ∷ quiet ∷ sends_request closing_frame 6 ∷ reopens ∷ []
unfolding messages.message_reading packets.packet_reading packets.behind_socket packets.are_sockets replies.open_reply_reading replies.unread_reading opens.open_text closes.close_text datagrams.datagram_reading opened ready_opened target_opened open_answer answered target_lost stream_opened stream_cut frame received produced_table all_expired all_given_up explicit_timed_out explicit_lost tick write read mode start stop
open_unanswered = refl

-- a close that is not answered is over after 2 seconds, and then the slot opens
clear_unanswered : reported clearing (Tick 1999 ∷ Tick 1 ∷ []) ≡ quiet ∷ reopens ∷ []
unfolding messages.message_reading packets.packet_reading packets.behind_socket packets.are_sockets replies.open_reply_reading replies.unread_reading opens.open_text closes.close_text datagrams.datagram_reading opened ready_opened target_opened open_answer answered target_lost stream_opened stream_cut frame received produced_table all_expired all_given_up explicit_timed_out explicit_lost tick write read mode start stop
clear_unanswered = refl

-- a slot that closes before it opens can be stopped once; the reply is then ignored
clear_stopped : reported clearing (Start 0 ∷ Stop 0 ∷ Stop 0 ∷ Frame 0 close_reply ∷ []) ≡ not_now ∷ becomes 0 ∷ not_now ∷ only Ignored ∷ []
unfolding messages.message_reading packets.packet_reading packets.behind_socket packets.are_sockets replies.open_reply_reading replies.unread_reading opens.open_text closes.close_text datagrams.datagram_reading opened ready_opened target_opened open_answer answered target_lost stream_opened stream_cut frame received produced_table all_expired all_given_up explicit_timed_out explicit_lost tick write read mode start stop
clear_stopped = refl

-- an opening whose stream is cut is timed out, and its triad is closed over the next session
open_cut : reported pending_open (StreamCut 0 ∷ Tick 3000 ∷ StreamOpened 0 target ∷ Frame 0 registered ∷ Frame 0 close_reply ∷ []) ≡ becomes 4 ∷ quiet ∷ answers_silently registration ∷ sends_request closing_frame 6 ∷ reopens ∷ []
unfolding messages.message_reading packets.packet_reading packets.behind_socket packets.are_sockets replies.open_reply_reading replies.unread_reading opens.open_text closes.close_text datagrams.datagram_reading opened ready_opened target_opened open_answer answered target_lost stream_opened stream_cut frame received produced_table all_expired all_given_up explicit_timed_out explicit_lost tick write read mode start stop
open_cut = refl

-- a connection that timed out is closed before the next opening
time_out : reported (after open_table (Tick 10000 ∷ [])) (Tick 2999 ∷ Tick 1 ∷ Frame 0 close_reply ∷ []) ≡ quiet ∷ sends_request closing_frame 6 ∷ reopens ∷ []
unfolding messages.message_reading packets.packet_reading packets.behind_socket packets.are_sockets replies.open_reply_reading replies.unread_reading opens.open_text closes.close_text datagrams.datagram_reading opened ready_opened target_opened open_answer answered target_lost stream_opened stream_cut frame received produced_table all_expired all_given_up explicit_timed_out explicit_lost tick write read mode start stop
time_out = refl

-- a connection that timed out is closed at once when its slot is stopped, and the slot does not open again
stop_timed_out : reported (after open_table (Tick 10000 ∷ [])) (Stop 0 ∷ Frame 0 close_reply ∷ Tick 3000 ∷ []) ≡ sends_request closing_frame 6 ∷ becomes 0 ∷ quiet ∷ []
unfolding messages.message_reading packets.packet_reading packets.behind_socket packets.are_sockets replies.open_reply_reading replies.unread_reading opens.open_text closes.close_text datagrams.datagram_reading opened ready_opened target_opened open_answer answered target_lost stream_opened stream_cut frame received produced_table all_expired all_given_up explicit_timed_out explicit_lost tick write read mode start stop
stop_timed_out = refl

-- without a session the slot keeps the connection as timed out; the next session closes it, and the slot does not open again
stop_without_session : reported open_table (StreamCut 0 ∷ Stop 0 ∷ StreamOpened 0 target ∷ Frame 0 registered ∷ Frame 0 close_reply ∷ Tick 3000 ∷ []) ≡ quiet ∷ becomes 4 ∷ answers_silently registration ∷ sends_request closing_frame 6 ∷ becomes 0 ∷ quiet ∷ []
unfolding messages.message_reading packets.packet_reading packets.behind_socket packets.are_sockets replies.open_reply_reading replies.unread_reading opens.open_text closes.close_text datagrams.datagram_reading opened ready_opened target_opened open_answer answered target_lost stream_opened stream_cut frame received produced_table all_expired all_given_up explicit_timed_out explicit_lost tick write read mode start stop
stop_without_session = refl

-- a close whose stream is cut before its reply is sent again over the next session, after the retry time; the slot that was stopped does
-- not open again
stop_cut : reported open_table (Stop 0 ∷ StreamCut 0 ∷ StreamOpened 0 target ∷ Frame 0 registered ∷ Tick 2999 ∷ Tick 1 ∷ Frame 0 second_reply ∷ Tick 3000 ∷ []) ≡ sends_request closing_frame 6 ∷ becomes 4 ∷ answers_silently registration ∷ quiet ∷ quiet ∷ sends_request closing_again 6 ∷ becomes 0 ∷ quiet ∷ []
unfolding messages.message_reading packets.packet_reading packets.behind_socket packets.are_sockets replies.open_reply_reading replies.unread_reading opens.open_text closes.close_text datagrams.datagram_reading opened ready_opened target_opened open_answer answered target_lost stream_opened stream_cut frame received produced_table all_expired all_given_up explicit_timed_out explicit_lost tick write read mode start stop
stop_cut = refl

-- so is a close before an opening, and then the slot opens, as the fourth request
clear_cut : reported clearing (StreamCut 0 ∷ StreamOpened 0 target ∷ Frame 0 registered ∷ Tick 3000 ∷ Frame 0 second_reply ∷ []) ≡ becomes 4 ∷ answers_silently registration ∷ quiet ∷ sends_request closing_again 6 ∷ answers (items 4 50 (timed_open 3 250 2 2)) (notice.Slot 0 0 ∷ notice.Slot 0 2 ∷ []) ∷ []
unfolding messages.message_reading packets.packet_reading packets.behind_socket packets.are_sockets replies.open_reply_reading replies.unread_reading opens.open_text closes.close_text datagrams.datagram_reading opened ready_opened target_opened open_answer answered target_lost stream_opened stream_cut frame received produced_table all_expired all_given_up explicit_timed_out explicit_lost tick write read mode start stop
clear_cut = refl

-- the target does not know the session of an opening: the slot is refused, the scanner registers a session on the same stream, and the
-- slot opens over it after the retry time
opening_unknown : reported pending_open (Frame 0 (unknown_session 1) ∷ Frame 0 (unknown_session 1) ∷ Frame 0 registered ∷ Tick 2999 ∷ Tick 1 ∷ []) ≡ answers registration (notice.Refused 0 (reason.Encap 0x64) ∷ notice.Slot 0 0 ∷ []) ∷ only Ignored ∷ quiet ∷ quiet ∷ sends_request (items 2 50 (timed_open 3 250 2 2)) 2 ∷ []
unfolding messages.message_reading packets.packet_reading packets.behind_socket packets.are_sockets replies.open_reply_reading replies.unread_reading opens.open_text closes.close_text datagrams.datagram_reading opened ready_opened target_opened open_answer answered target_lost stream_opened stream_cut frame received produced_table all_expired all_given_up explicit_timed_out explicit_lost tick write read mode start stop
opening_unknown = refl

-- nor that of a close: the slot closes again, over the new session, after the retry time
closing_unknown : reported clearing (Frame 0 (unknown_session 2) ∷ Frame 0 registered ∷ Tick 2999 ∷ Tick 1 ∷ []) ≡ answers registration (notice.Slot 0 4 ∷ []) ∷ quiet ∷ quiet ∷ sends_request closing_again 6 ∷ []
unfolding messages.message_reading packets.packet_reading packets.behind_socket packets.are_sockets replies.open_reply_reading replies.unread_reading opens.open_text closes.close_text datagrams.datagram_reading opened ready_opened target_opened open_answer answered target_lost stream_opened stream_cut frame received produced_table all_expired all_given_up explicit_timed_out explicit_lost tick write read mode start stop
closing_unknown = refl

-- a message that nobody waits for leaves the session
unknown_ignored : reported open_table (Frame 0 (unknown_session 1) ∷ Stop 0 ∷ []) ≡ only Ignored ∷ sends_request closing_frame 6 ∷ []
unfolding messages.message_reading packets.packet_reading packets.behind_socket packets.are_sockets replies.open_reply_reading replies.unread_reading opens.open_text closes.close_text datagrams.datagram_reading opened ready_opened target_opened open_answer answered target_lost stream_opened stream_cut frame received produced_table all_expired all_given_up explicit_timed_out explicit_lost tick write read mode start stop
unknown_ignored = refl

-- a scanner that is not tidy keeps the session, and forgets a close whose stream is cut
untidy_unknown : reported (after connected (Start 0 ∷ [])) (Frame 0 (unknown_session 1) ∷ Tick 3000 ∷ []) ≡ refuses (reason.Encap 0x64) ∷ sends_request (items 2 50 (forward_open 2 2)) 2 ∷ []
unfolding messages.message_reading packets.packet_reading packets.behind_socket packets.are_sockets replies.open_reply_reading replies.unread_reading opens.open_text closes.close_text datagrams.datagram_reading opened ready_opened target_opened open_answer answered target_lost stream_opened stream_cut frame received produced_table all_expired all_given_up explicit_timed_out explicit_lost tick write read mode start stop
untidy_unknown = refl

untidy_cut : reported (after connected (Start 0 ∷ Frame 0 opened_frame ∷ [])) (Stop 0 ∷ StreamCut 0 ∷ []) ≡ sends_request closing_frame 6 ∷ becomes 0 ∷ []
unfolding messages.message_reading packets.packet_reading packets.behind_socket packets.are_sockets replies.open_reply_reading replies.unread_reading opens.open_text closes.close_text datagrams.datagram_reading opened ready_opened target_opened open_answer answered target_lost stream_opened stream_cut frame received produced_table all_expired all_given_up explicit_timed_out explicit_lost tick write read mode start stop
untidy_cut = refl
