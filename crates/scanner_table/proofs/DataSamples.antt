-- Samples of the data of an open connection at a small scanner: what it sends and what it receives.
use Rattle.std.proofs.Common.{◌≡◌, ℕ, true, false, List, [], ◌∷◌, ◌++◌, Some, Err, refl}
use Rattle.cip_events.specs.declared.event.Delivery.TheVariants.{Applied, Duplicate, Old, UnknownId, WrongSize, Malformed}
use Rattle.cip_events.specs.declared.event.Event.TheVariants.{StreamCut, Frame, Datagram, Write, Read, Tick, Mode, Start, Stop}
use Rattle.cip_events.specs.declared.event.StepFault.TheVariants as fault
use Rattle.cip_netparams.specs.declared.Trigger.TheVariants.{ChangeOfState}
use Rattle.scanner_table.proofs.SmallScanner.{target, other_target, owner, gatherer, profile, reported, after, quiet, reads_bytes, not_now, delivered, becomes, sends, sends_request, items, success, opening_frame, opened_frame, registers, connected}
use Rattle.cip_encap.specs.Reading as messages
use Rattle.cip_encap.specs.PacketReading as packets
use Rattle.cip_fwdopen.specs.Open as opens
use Rattle.cip_fwdopen.specs.Close as closes
use Rattle.cip_fwdopen.specs.Reply as replies
use Rattle.cip_datagram.specs.Reading as datagrams
use Rattle.scanner_table.specs.declared.profile.ScannerProfile.{ScannerProfile}
use Rattle.scanner_table.specs.declared.table.ScannerTable.{ScannerTable}
use Rattle.scanner_table.specs.Opening.{opened, ready_opened, target_opened}
use Rattle.scanner_table.specs.Replies.{open_answer, answered}
use Rattle.scanner_table.specs.Closing.{target_lost}
use Rattle.scanner_table.specs.Explicit.{explicit_timed_out, explicit_lost}
use Rattle.scanner_table.specs.Encapsulation.{stream_opened, stream_cut, frame}
use Rattle.scanner_table.specs.Datagrams.{received}
use Rattle.scanner_table.specs.Productions.{produced_table}
use Rattle.scanner_table.specs.Ticks.{all_expired, all_given_up, tick}
use Rattle.scanner_table.specs.Points.{write, read, mode, start, stop}
use Rattle.scanner_table.specs.Step.{scanner_table}

-- an open connection, at time 0
abbrev open_table : ScannerTable
open_table = after connected (Start 0 ∷ Frame 0 opened_frame ∷ [])

-- the owner's datagram by its number, its count, its mode and one byte of each kind of its output
abbrev sent_data : ℕ → ℕ → ℕ → ℕ → List ℕ
sent_data number count run byte = 0x02 ∷ 0x00 ∷ 0x02 ∷ 0x80 ∷ 0x08 ∷ 0x00 ∷ 0x01 ∷ 0x00 ∷ 0x00 ∷ 0x10 ∷ number ∷ 0x00 ∷ 0x00 ∷ 0x00 ∷ 0xB1 ∷ 0x00 ∷ 0x0A ∷ 0x00 ∷ count ∷ 0x00 ∷ run ∷ 0x00 ∷ 0x00 ∷ 0x00 ∷ byte ∷ byte ∷ byte ∷ byte ∷ []

-- a datagram of the target by its number, its count and its bytes
abbrev got_data : ℕ → ℕ → ℕ → List ℕ
got_data number count byte = 0x02 ∷ 0x00 ∷ 0x02 ∷ 0x80 ∷ 0x08 ∷ 0x00 ∷ 0x01 ∷ 0x00 ∷ 0x00 ∷ 0x20 ∷ number ∷ 0x00 ∷ 0x00 ∷ 0x00 ∷ 0xB1 ∷ 0x00 ∷ 0x06 ∷ 0x00 ∷ count ∷ 0x00 ∷ byte ∷ byte ∷ byte ∷ byte ∷ []

abbrev four : ℕ → List ℕ
four byte = byte ∷ byte ∷ byte ∷ byte ∷ []

-- The first production is due at once, and the next ones each 10 ms: the mode goes before the output in idle mode too.
-- The count rises with new data and at a change of mode, and stays without; a write changes no due time.
productions : reported open_table (Tick 1 ∷ Mode true ∷ Write 0 (four 0x11) ∷ Tick 8 ∷ Tick 1 ∷ Tick 10 ∷ Mode true ∷ Tick 10 ∷ Write 0 (four 0x11) ∷ Tick 25 ∷ Tick 4 ∷ Tick 1 ∷ []) ≡ sends (sent_data 1 1 0 0) ∷ quiet ∷ quiet ∷ quiet ∷ sends (sent_data 2 2 1 0x11) ∷ sends (sent_data 3 2 1 0x11) ∷ quiet ∷ sends (sent_data 4 2 1 0x11) ∷ quiet ∷ sends (sent_data 5 3 1 0x11) ∷ quiet ∷ quiet ∷ []
unfolding messages.message_reading packets.packet_reading packets.behind_socket packets.are_sockets replies.open_reply_reading replies.unread_reading opens.open_text closes.close_text datagrams.datagram_reading opened ready_opened target_opened open_answer answered target_lost stream_opened stream_cut frame received produced_table all_expired all_given_up explicit_timed_out explicit_lost tick write read mode start stop
productions = refl

-- a change of mode is new data by itself
mode_alone : reported open_table (Tick 1 ∷ Mode true ∷ Tick 9 ∷ Mode false ∷ Tick 10 ∷ []) ≡ sends (sent_data 1 1 0 0) ∷ quiet ∷ sends (sent_data 2 2 1 0) ∷ quiet ∷ sends (sent_data 3 3 0 0) ∷ []
unfolding messages.message_reading packets.packet_reading packets.behind_socket packets.are_sockets replies.open_reply_reading replies.unread_reading opens.open_text closes.close_text datagrams.datagram_reading opened ready_opened target_opened open_answer answered target_lost stream_opened stream_cut frame received produced_table all_expired all_given_up explicit_timed_out explicit_lost tick write read mode start stop
mode_alone = refl

-- ---- changes of state

-- a slot whose trigger is change of state, with a production inhibit time of 4 ms
abbrev changing : ScannerProfile
changing = profile (record owner { trigger = ChangeOfState; inhibit = 4 } ∷ [])

-- its connection is open at time 0, at a scanner that is `tidy` and at one that is not
abbrev tidy_changing : ScannerTable
tidy_changing = after (record connected { profile = record changing { tidy = true } }) (Start 0 ∷ Frame 0 opened_frame ∷ [])

abbrev untidy_changing : ScannerTable
untidy_changing = after (record connected { profile = changing }) (Start 0 ∷ Frame 0 opened_frame ∷ [])

-- The output that is written before the first production is sent with it, at 1 ms. One that is written then is sent when the inhibit
-- time is over, at 5 ms and no sooner; one at 9 ms is sent at once. Nothing else is sent before 10 ms have passed since, at 19 ms.
writes_sent : reported tidy_changing (Write 0 (four 0x11) ∷ Tick 1 ∷ Write 0 (four 0x22) ∷ Tick 3 ∷ Tick 1 ∷ Tick 4 ∷ Write 0 (four 0x33) ∷ Tick 0 ∷ Tick 9 ∷ Tick 1 ∷ []) ≡ quiet ∷ sends (sent_data 1 1 0 0x11) ∷ quiet ∷ quiet ∷ sends (sent_data 2 2 0 0x22) ∷ quiet ∷ quiet ∷ sends (sent_data 3 3 0 0x33) ∷ quiet ∷ sends (sent_data 4 3 0 0x33) ∷ []
unfolding messages.message_reading packets.packet_reading packets.behind_socket packets.are_sockets replies.open_reply_reading replies.unread_reading opens.open_text closes.close_text datagrams.datagram_reading opened ready_opened target_opened open_answer answered target_lost stream_opened stream_cut frame received produced_table all_expired all_given_up explicit_timed_out explicit_lost tick write read mode start stop
writes_sent = refl

-- so is a change of mode: one at 1 ms at 5 ms, and one at 9 ms at once; the present mode again changes nothing
modes_sent : reported tidy_changing (Tick 1 ∷ Mode true ∷ Tick 3 ∷ Tick 1 ∷ Mode true ∷ Tick 4 ∷ Tick 0 ∷ Mode false ∷ Tick 0 ∷ []) ≡ sends (sent_data 1 1 0 0) ∷ quiet ∷ quiet ∷ sends (sent_data 2 2 1 0) ∷ quiet ∷ quiet ∷ quiet ∷ quiet ∷ sends (sent_data 3 3 0 0) ∷ []
unfolding messages.message_reading packets.packet_reading packets.behind_socket packets.are_sockets replies.open_reply_reading replies.unread_reading opens.open_text closes.close_text datagrams.datagram_reading opened ready_opened target_opened open_answer answered target_lost stream_opened stream_cut frame received produced_table all_expired all_given_up explicit_timed_out explicit_lost tick write read mode start stop
modes_sent = refl

-- two outputs that are written within the inhibit time are one change, and the newest is sent
newest_sent : reported tidy_changing (Tick 1 ∷ Write 0 (four 0x22) ∷ Tick 2 ∷ Write 0 (four 0x33) ∷ Tick 2 ∷ Tick 9 ∷ []) ≡ sends (sent_data 1 1 0 0) ∷ quiet ∷ quiet ∷ quiet ∷ sends (sent_data 2 2 0 0x33) ∷ quiet ∷ []
unfolding messages.message_reading packets.packet_reading packets.behind_socket packets.are_sockets replies.open_reply_reading replies.unread_reading opens.open_text closes.close_text datagrams.datagram_reading opened ready_opened target_opened open_answer answered target_lost stream_opened stream_cut frame received produced_table all_expired all_given_up explicit_timed_out explicit_lost tick write read mode start stop
newest_sent = refl

-- without `tidy` such a slot sends each 10 ms, and a write changes no due time
interval_alone : reported untidy_changing (Tick 1 ∷ Write 0 (four 0x22) ∷ Tick 8 ∷ Tick 1 ∷ []) ≡ sends (sent_data 1 1 0 0) ∷ quiet ∷ quiet ∷ sends (sent_data 2 2 0 0x22) ∷ []
unfolding messages.message_reading packets.packet_reading packets.behind_socket packets.are_sockets replies.open_reply_reading replies.unread_reading opens.open_text closes.close_text datagrams.datagram_reading opened ready_opened target_opened open_answer answered target_lost stream_opened stream_cut frame received produced_table all_expired all_given_up explicit_timed_out explicit_lost tick write read mode start stop
interval_alone = refl

-- nor does one at a cyclic slot of a tidy scanner
cyclic_alone : reported (after (record connected { profile = record connected.profile { tidy = true } }) (Start 0 ∷ Frame 0 opened_frame ∷ [])) (Tick 1 ∷ Write 0 (four 0x22) ∷ Tick 8 ∷ Tick 1 ∷ []) ≡ sends (sent_data 1 1 0 0) ∷ quiet ∷ quiet ∷ sends (sent_data 2 2 0 0x22) ∷ []
unfolding messages.message_reading packets.packet_reading packets.behind_socket packets.are_sockets replies.open_reply_reading replies.unread_reading opens.open_text closes.close_text datagrams.datagram_reading opened ready_opened target_opened open_answer answered target_lost stream_opened stream_cut frame received produced_table all_expired all_given_up explicit_timed_out explicit_lost tick write read mode start stop
cyclic_alone = refl

-- ---- heartbeats

-- an input-only connection of a group is open, with the T->O id 0x10000002
abbrev heartbeats : ScannerTable
heartbeats = after (scanner_table (profile (gatherer ∷ []))) (registers ++ (Start 0 ∷ Frame 0 (items 1 30 (0xD4 ∷ 0x00 ∷ 0x00 ∷ 0x00 ∷ 0x01 ∷ 0x00 ∷ 0x00 ∷ 0x10 ∷ 0x02 ∷ 0x00 ∷ 0x00 ∷ 0x10 ∷ 0x01 ∷ 0x00 ∷ 0x34 ∷ 0x12 ∷ 0x78 ∷ 0x56 ∷ 0x34 ∷ 0x12 ∷ 0x10 ∷ 0x27 ∷ 0x00 ∷ 0x00 ∷ 0x10 ∷ 0x27 ∷ 0x00 ∷ 0x00 ∷ 0x00 ∷ 0x00 ∷ [])) ∷ []))

-- a heartbeat is a sequence count alone, which stays 1
abbrev heartbeat : ℕ → List ℕ
heartbeat number = 0x02 ∷ 0x00 ∷ 0x02 ∷ 0x80 ∷ 0x08 ∷ 0x00 ∷ 0x01 ∷ 0x00 ∷ 0x00 ∷ 0x10 ∷ number ∷ 0x00 ∷ 0x00 ∷ 0x00 ∷ 0xB1 ∷ 0x00 ∷ 0x02 ∷ 0x00 ∷ 0x01 ∷ 0x00 ∷ []

-- it has no output to write, and no mode
heartbeats_sent : reported heartbeats (Tick 1 ∷ Mode true ∷ Write 0 [] ∷ Tick 9 ∷ Tick 10 ∷ []) ≡ sends (heartbeat 1) ∷ quiet ∷ not_now ∷ sends (heartbeat 2) ∷ sends (heartbeat 3) ∷ []
unfolding messages.message_reading packets.packet_reading packets.behind_socket packets.are_sockets replies.open_reply_reading replies.unread_reading opens.open_text closes.close_text datagrams.datagram_reading opened ready_opened target_opened open_answer answered target_lost stream_opened stream_cut frame received produced_table all_expired all_given_up explicit_timed_out explicit_lost tick write read mode start stop
heartbeats_sent = refl

-- ---- datagrams

-- data of 3 bytes
abbrev short : List ℕ
short = 0x02 ∷ 0x00 ∷ 0x02 ∷ 0x80 ∷ 0x08 ∷ 0x00 ∷ 0x01 ∷ 0x00 ∷ 0x00 ∷ 0x20 ∷ 0x06 ∷ 0x00 ∷ 0x00 ∷ 0x00 ∷ 0xB1 ∷ 0x00 ∷ 0x05 ∷ 0x00 ∷ 0x02 ∷ 0x00 ∷ 0xBB ∷ 0xBB ∷ 0xBB ∷ []

-- data are applied to the image; an older number, another sender, another id, another length and other bytes are
-- not; the same count brings no new data
gathered : reported open_table (Datagram target (got_data 5 1 0xAA) ∷ Datagram target (got_data 5 2 0xBB) ∷ Datagram target (got_data 4 2 0xBB) ∷ Datagram other_target (got_data 6 2 0xBB) ∷ Datagram target short ∷ Datagram target (0 ∷ []) ∷ Read 0 ∷ Datagram target (got_data 6 1 0xBB) ∷ Read 0 ∷ Datagram target (got_data 6 2 0xBB) ∷ Datagram target (got_data 7 2 0xBB) ∷ Datagram target (got_data 8 3 0xBB) ∷ Read 0 ∷ []) ≡ delivered Applied ∷ delivered Old ∷ delivered Old ∷ delivered UnknownId ∷ delivered WrongSize ∷ delivered Malformed ∷ reads_bytes (four 0xAA) ∷ delivered Duplicate ∷ reads_bytes (four 0xAA) ∷ delivered Old ∷ delivered Applied ∷ delivered Applied ∷ reads_bytes (four 0xBB) ∷ []
unfolding messages.message_reading packets.packet_reading packets.behind_socket packets.are_sockets replies.open_reply_reading replies.unread_reading opens.open_text closes.close_text datagrams.datagram_reading opened ready_opened target_opened open_answer answered target_lost stream_opened stream_cut frame received produced_table all_expired all_given_up explicit_timed_out explicit_lost tick write read mode start stop
gathered = refl

-- the same table, where accepted numbers are ahead of the newest by less than 8
abbrev limited_table : ScannerTable
limited_table = record open_table { profile = record open_table.profile { newer = Some 8 } }

-- 13 is ahead of 5 by 8, and 12 by 7; the first number is always accepted
limited_numbers : reported limited_table (Datagram target (got_data 5 1 0xAA) ∷ Datagram target (got_data 13 2 0xBB) ∷ Datagram target (got_data 12 2 0xBB) ∷ []) ≡ delivered Applied ∷ delivered Old ∷ delivered Applied ∷ []
unfolding messages.message_reading packets.packet_reading packets.behind_socket packets.are_sockets replies.open_reply_reading replies.unread_reading opens.open_text closes.close_text datagrams.datagram_reading opened ready_opened target_opened open_answer answered target_lost stream_opened stream_cut frame received produced_table all_expired all_given_up explicit_timed_out explicit_lost tick write read mode start stop
limited_numbers = refl

-- one packet interval of 10 ms later they are ahead by less than 10, after 9 ms not yet
grown_numbers : reported (after limited_table (Datagram target (got_data 5 1 0xAA) ∷ Tick 10 ∷ [])) (Datagram target (got_data 15 2 0xBB) ∷ Datagram target (got_data 14 2 0xBB) ∷ []) ≡ delivered Old ∷ delivered Applied ∷ []
unfolding messages.message_reading packets.packet_reading packets.behind_socket packets.are_sockets replies.open_reply_reading replies.unread_reading opens.open_text closes.close_text datagrams.datagram_reading opened ready_opened target_opened open_answer answered target_lost stream_opened stream_cut frame received produced_table all_expired all_given_up explicit_timed_out explicit_lost tick write read mode start stop
grown_numbers = refl

early_numbers : reported (after limited_table (Datagram target (got_data 5 1 0xAA) ∷ Tick 9 ∷ [])) (Datagram target (got_data 13 2 0xBB) ∷ []) ≡ delivered Old ∷ []
unfolding messages.message_reading packets.packet_reading packets.behind_socket packets.are_sockets replies.open_reply_reading replies.unread_reading opens.open_text closes.close_text datagrams.datagram_reading opened ready_opened target_opened open_answer answered target_lost stream_opened stream_cut frame received produced_table all_expired all_given_up explicit_timed_out explicit_lost tick write read mode start stop
early_numbers = refl

-- The first watchdog runs for 10 seconds, and each later one for 160 ms after the last accepted datagram. The image stays
-- when the connection times out and while the slot opens it again; a new connection begins with an image of zeros.
-- What times out in a tick sends nothing in it.
expires : reported (after open_table (Mode true ∷ Tick 9998 ∷ [])) (Tick 1 ∷ Datagram target (got_data 1 1 0xAA) ∷ Tick 159 ∷ Tick 1 ∷ Read 0 ∷ Datagram target (got_data 2 2 0xBB) ∷ Start 0 ∷ Tick 2999 ∷ Tick 1 ∷ Read 0 ∷ Frame 0 (items 2 30 (success 2 2 2)) ∷ Read 0 ∷ []) ≡ quiet ∷ delivered Applied ∷ sends (sent_data 2 1 1 0) ∷ becomes 4 ∷ reads_bytes (four 0xAA) ∷ delivered UnknownId ∷ not_now ∷ quiet ∷ sends_request (opening_frame 2) 2 ∷ reads_bytes (four 0xAA) ∷ becomes 3 ∷ reads_bytes (four 0) ∷ []
unfolding messages.message_reading packets.packet_reading packets.behind_socket packets.are_sockets replies.open_reply_reading replies.unread_reading opens.open_text closes.close_text datagrams.datagram_reading opened ready_opened target_opened open_answer answered target_lost stream_opened stream_cut frame received produced_table all_expired all_given_up explicit_timed_out explicit_lost tick write read mode start stop
expires = refl

-- without a datagram it times out after 10 seconds and no sooner
never_received : reported (after open_table (Tick 9999 ∷ [])) (Tick 1 ∷ []) ≡ becomes 4 ∷ []
unfolding messages.message_reading packets.packet_reading packets.behind_socket packets.are_sockets replies.open_reply_reading replies.unread_reading opens.open_text closes.close_text datagrams.datagram_reading opened ready_opened target_opened open_answer answered target_lost stream_opened stream_cut frame received produced_table all_expired all_given_up explicit_timed_out explicit_lost tick write read mode start stop
never_received = refl

-- an image is kept when the connection is stopped
image_kept : reported open_table (Datagram target (got_data 1 1 0xAA) ∷ StreamCut 0 ∷ Stop 0 ∷ Read 0 ∷ Datagram target (got_data 2 2 0xBB) ∷ []) ≡ delivered Applied ∷ quiet ∷ becomes 0 ∷ reads_bytes (four 0xAA) ∷ delivered UnknownId ∷ []
unfolding messages.message_reading packets.packet_reading packets.behind_socket packets.are_sockets replies.open_reply_reading replies.unread_reading opens.open_text closes.close_text datagrams.datagram_reading opened ready_opened target_opened open_answer answered target_lost stream_opened stream_cut frame received produced_table all_expired all_given_up explicit_timed_out explicit_lost tick write read mode start stop
image_kept = refl

-- ---- faults

-- an unknown slot goes before what the slot does not take, and that before a wrong length
faults : reported open_table (Write 1 [] ∷ Read 1 ∷ Start 1 ∷ Stop 1 ∷ Write 0 [] ∷ Tick 60001 ∷ []) ≡ Err fault.NoSuchSlot ∷ Err fault.NoSuchSlot ∷ Err fault.NoSuchSlot ∷ Err fault.NoSuchSlot ∷ Err fault.WrongLength ∷ Err fault.TickTooLong ∷ []
unfolding messages.message_reading packets.packet_reading packets.behind_socket packets.are_sockets replies.open_reply_reading replies.unread_reading opens.open_text closes.close_text datagrams.datagram_reading opened ready_opened target_opened open_answer answered target_lost stream_opened stream_cut frame received produced_table all_expired all_given_up explicit_timed_out explicit_lost tick write read mode start stop
faults = refl

-- a connection of another kind than an owner's takes no output, however long
heartbeat_faults : reported heartbeats (Write 0 (0 ∷ []) ∷ Write 1 (0 ∷ []) ∷ []) ≡ not_now ∷ Err fault.NoSuchSlot ∷ []
unfolding messages.message_reading packets.packet_reading packets.behind_socket packets.are_sockets replies.open_reply_reading replies.unread_reading opens.open_text closes.close_text datagrams.datagram_reading opened ready_opened target_opened open_answer answered target_lost stream_opened stream_cut frame received produced_table all_expired all_given_up explicit_timed_out explicit_lost tick write read mode start stop
heartbeat_faults = refl

-- the clock ends at 2^48
clock_ends : reported (record (scanner_table (profile (owner ∷ []))) { clock = record { 0 = 281474976710655 } }) (Tick 2 ∷ Tick 1 ∷ Tick 1 ∷ Tick 0 ∷ []) ≡ Err fault.ClockEnd ∷ quiet ∷ Err fault.ClockEnd ∷ quiet ∷ []
unfolding messages.message_reading packets.packet_reading packets.behind_socket packets.are_sockets replies.open_reply_reading replies.unread_reading opens.open_text closes.close_text datagrams.datagram_reading opened ready_opened target_opened open_answer answered target_lost stream_opened stream_cut frame received produced_table all_expired all_given_up explicit_timed_out explicit_lost tick write read mode start stop
clock_ends = refl
