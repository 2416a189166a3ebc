-- Samples of openings at a small scanner: each says which outcomes a list of events has.
use Rattle.std.proofs.Common.{◌≡◌, ℕ, true, List, [], ◌∷◌, Some, Ok, refl, lit<, replicate}
use Rattle.cip_netparams.specs.declared.Trigger.TheVariants.{ChangeOfState}
use Rattle.cip_events.specs.declared.event.Event.{Event}
use Rattle.cip_events.specs.declared.event.Event.TheVariants.{Request, StreamOpened, Frame, StreamCut, Tick, Start, Stop}
use Rattle.cip_events.specs.declared.event.Notice.TheVariants as notice
use Rattle.cip_events.specs.declared.event.Reason.TheVariants as reason
use Rattle.cip_events.specs.declared.event.Recipient.TheVariants as recipient
use Rattle.cip_events.specs.declared.event.Verdict.TheVariants.{Done, BadFrame, Ignored}
use Rattle.cip_events.specs.Answers.{plain_answer}
use Rattle.scanner_table.specs.declared.profile.SlotConfig.{SlotConfig}
use Rattle.cip_fwdopen.specs.Services.{open_service}
use Rattle.scanner_table.specs.Requests.{open_fields, next_requested, is_large, manager_text}
use Rattle.scanner_table.proofs.SmallScanner.{target, other_target, owner, gatherer, profile, reported, after, quiet, only, not_now, reports_notices, becomes, refuses, sends_request, registration, registered, items, forward_open, opening_frame, success, opened_frame, ownership, registers, connected}
use Rattle.cip_encap.specs.Reading as messages
use Rattle.cip_encap.specs.PacketReading as packets
use Rattle.cip_fwdopen.specs.Open as opens
use Rattle.cip_fwdopen.specs.Close as closes
use Rattle.cip_fwdopen.specs.Reply as replies
use Rattle.cip_datagram.specs.Reading as datagrams
use Rattle.scanner_table.specs.declared.table.ScannerTable.{ScannerTable}
use Rattle.scanner_table.specs.declared.table.Stage.TheVariants.{Waiting}
use Rattle.scanner_table.specs.Opening.{opened, ready_opened, target_opened}
use Rattle.scanner_table.specs.Replies.{open_answer, answered}
use Rattle.scanner_table.specs.Closing.{target_lost}
use Rattle.scanner_table.specs.Explicit.{explicit_timed_out, explicit_lost}
use Rattle.scanner_table.specs.Encapsulation.{stream_opened, stream_cut, frame}
use Rattle.scanner_table.specs.Datagrams.{received}
use Rattle.scanner_table.specs.Productions.{produced_table}
use Rattle.scanner_table.specs.Ticks.{all_expired, all_given_up, tick}
use Rattle.scanner_table.specs.Points.{write, read, mode, start, stop}
use Rattle.scanner_table.specs.Step.{scanner_table}

-- A target that does not answer, and then refuses twice: the next try is 3 seconds after the last one ended and no
-- sooner, each opening has the next serial number and id, and a reply that comes late is that of an earlier one.
abbrev tries_events : List Event
tries_events = Start 0 ∷ Tick 1999 ∷ Tick 1 ∷ Tick 2999 ∷ Tick 1 ∷ Frame 0 opened_frame ∷ Frame 0 (items 2 16 (ownership 2)) ∷ Tick 2999 ∷ Tick 1 ∷ Frame 0 (items 3 16 (ownership 3)) ∷ Tick 3000 ∷ Frame 0 (items 4 30 (success 4 2 4)) ∷ []

tries : reported connected tries_events
    ≡ sends_request (opening_frame 1) 2
    ∷ quiet
    ∷ becomes 0
    ∷ quiet
    ∷ sends_request (opening_frame 2) 2
    ∷ only Ignored
    ∷ refuses (reason.Cip (record { general = 1; extended = Some 0x0106 }))
    ∷ quiet
    ∷ sends_request (opening_frame 3) 2
    ∷ refuses (reason.Cip (record { general = 1; extended = Some 0x0106 }))
    ∷ sends_request (opening_frame 4) 2
    ∷ becomes 3
    ∷ []
unfolding messages.message_reading packets.packet_reading packets.behind_socket packets.are_sockets replies.open_reply_reading replies.unread_reading opens.open_text closes.close_text datagrams.datagram_reading opened ready_opened target_opened open_answer answered target_lost stream_opened stream_cut frame received produced_table all_expired all_given_up explicit_timed_out explicit_lost tick write read mode start stop
tries = refl

-- ---- streams

-- The scanner registers a session on each new stream. Until the reply with sender context 0 comes, it ignores messages with
-- another context, and frames that are no whole message leave it waiting. Each stream has its own number and target.
abbrev streams_events : List Event
streams_events = StreamOpened 0 target ∷ StreamOpened 0 other_target ∷ StreamOpened 1 target ∷ Frame 1 registered ∷ StreamCut 1 ∷ Request target [] ∷ Frame 0 opened_frame ∷ Frame 0 (0x65 ∷ []) ∷ Start 0 ∷ Frame 0 registered ∷ Frame 0 registered ∷ []

streams : reported (scanner_table (profile (owner ∷ []))) streams_events
    ≡ Ok (record (plain_answer Done) { frames = record { to = recipient.Stream 0; bytes = registration } ∷ [] })
    ∷ not_now
    ∷ not_now
    ∷ not_now
    ∷ not_now
    ∷ not_now
    ∷ only Ignored
    ∷ only BadFrame
    ∷ quiet
    ∷ sends_request (opening_frame 1) 2
    ∷ only Ignored
    ∷ []
unfolding messages.message_reading packets.packet_reading packets.behind_socket packets.are_sockets replies.open_reply_reading replies.unread_reading opens.open_text closes.close_text datagrams.datagram_reading opened ready_opened target_opened open_answer answered target_lost stream_opened stream_cut frame received produced_table all_expired all_given_up explicit_timed_out explicit_lost tick write read mode start stop
streams = refl

-- as many streams as these to another target are open
abbrev crowded : ℕ → ScannerTable
crowded n = record (scanner_table (profile (owner ∷ []))) { streams = replicate n (record { number = 9; peer = other_target; stage = Waiting }) }

-- the sixteenth stream opens
sixteenth : reported (crowded 15) (StreamOpened 0 target ∷ []) ≡ Ok (record (plain_answer Done) { frames = record { to = recipient.Stream 0; bytes = registration } ∷ [] }) ∷ []
unfolding messages.message_reading packets.packet_reading packets.behind_socket packets.are_sockets replies.open_reply_reading replies.unread_reading opens.open_text closes.close_text datagrams.datagram_reading opened ready_opened target_opened open_answer answered target_lost stream_opened stream_cut frame received produced_table all_expired all_given_up explicit_timed_out explicit_lost tick write read mode start stop
sixteenth = refl

-- and no further one
seventeenth : reported (crowded 16) (StreamOpened 0 target ∷ []) ≡ not_now ∷ []
unfolding messages.message_reading packets.packet_reading packets.behind_socket packets.are_sockets replies.open_reply_reading replies.unread_reading opens.open_text closes.close_text datagrams.datagram_reading opened ready_opened target_opened open_answer answered target_lost stream_opened stream_cut frame received produced_table all_expired all_given_up explicit_timed_out explicit_lost tick write read mode start stop
seventeenth = refl

-- a registration that is refused
abbrev no_session : List ℕ
no_session = 0x65 ∷ 0x00 ∷ 0x00 ∷ 0x00 ∷ 0x00 ∷ 0x00 ∷ 0x00 ∷ 0x00 ∷ 0x01 ∷ 0x00 ∷ 0x00 ∷ 0x00 ∷ 0x00 ∷ 0x00 ∷ 0x00 ∷ 0x00 ∷ 0x00 ∷ 0x00 ∷ 0x00 ∷ 0x00 ∷ 0x00 ∷ 0x00 ∷ 0x00 ∷ 0x00 ∷ []

-- a stream whose registration failed serves nothing until it is cut
abbrev unused_events : List Event
unused_events = StreamOpened 0 target ∷ Frame 0 no_session ∷ Frame 0 registered ∷ Start 0 ∷ Tick 5000 ∷ StreamCut 0 ∷ []

unused : reported (scanner_table (profile (owner ∷ []))) unused_events
    ≡ Ok (record (plain_answer Done) { frames = record { to = recipient.Stream 0; bytes = registration } ∷ [] })
    ∷ quiet
    ∷ only Ignored
    ∷ quiet
    ∷ quiet
    ∷ quiet
    ∷ []
unfolding messages.message_reading packets.packet_reading packets.behind_socket packets.are_sockets replies.open_reply_reading replies.unread_reading opens.open_text closes.close_text datagrams.datagram_reading opened ready_opened target_opened open_answer answered target_lost stream_opened stream_cut frame received produced_table all_expired all_given_up explicit_timed_out explicit_lost tick write read mode start stop
unused = refl

-- an opening ends with its stream, and is tried again over the next one at its time and no sooner
abbrev cut_opening_events : List Event
cut_opening_events = Start 0 ∷ StreamCut 0 ∷ StreamOpened 0 target ∷ Tick 2999 ∷ Frame 0 registered ∷ Tick 1 ∷ []

cut_opening : reported connected cut_opening_events
    ≡ sends_request (opening_frame 1) 2
    ∷ becomes 0
    ∷ Ok (record (plain_answer Done) { frames = record { to = recipient.Stream 0; bytes = registration } ∷ [] })
    ∷ quiet
    ∷ quiet
    ∷ sends_request (opening_frame 2) 2
    ∷ []
unfolding messages.message_reading packets.packet_reading packets.behind_socket packets.are_sockets replies.open_reply_reading replies.unread_reading opens.open_text closes.close_text datagrams.datagram_reading opened ready_opened target_opened open_answer answered target_lost stream_opened stream_cut frame received produced_table all_expired all_given_up explicit_timed_out explicit_lost tick write read mode start stop
cut_opening = refl

-- the request of the second slot, for the input 101
abbrev second_frame : List ℕ
second_frame = items 2 50 (0x54 ∷ 0x02 ∷ 0x20 ∷ 0x06 ∷ 0x24 ∷ 0x01 ∷ 0x0A ∷ 0x0E ∷ 0x00 ∷ 0x00 ∷ 0x00 ∷ 0x00 ∷ 0x02 ∷ 0x00 ∷ 0x00 ∷ 0x20 ∷ 0x02 ∷ 0x00 ∷ 0x34 ∷ 0x12 ∷ 0x78 ∷ 0x56 ∷ 0x34 ∷ 0x12 ∷ 0x02 ∷ 0x00 ∷ 0x00 ∷ 0x00 ∷ 0x10 ∷ 0x27 ∷ 0x00 ∷ 0x00 ∷ 0x0A ∷ 0x48 ∷ 0x10 ∷ 0x27 ∷ 0x00 ∷ 0x00 ∷ 0x06 ∷ 0x48 ∷ 0x01 ∷ 0x04 ∷ 0x20 ∷ 0x04 ∷ 0x24 ∷ 0x97 ∷ 0x2C ∷ 0x96 ∷ 0x2C ∷ 0x65 ∷ [])

-- two slots with one target open in their order as soon as its session is registered
abbrev both : ScannerTable
both = after (scanner_table (profile (owner ∷ record owner { produced = 101 } ∷ []))) (Start 1 ∷ Start 0 ∷ StreamOpened 0 target ∷ [])

both_open : reported both (Frame 0 registered ∷ [])
    ≡ Ok (record (plain_answer Done) {
      frames = record { to = recipient.Stream 0; bytes = opening_frame 1 } ∷ record { to = recipient.Stream 0; bytes = second_frame } ∷ [];
      notices = notice.Slot 0 2 ∷ notice.Slot 1 2 ∷ [];
    })
    ∷ []
unfolding messages.message_reading packets.packet_reading packets.behind_socket packets.are_sockets replies.open_reply_reading replies.unread_reading opens.open_text closes.close_text datagrams.datagram_reading opened ready_opened target_opened open_answer answered target_lost stream_opened stream_cut frame received produced_table all_expired all_given_up explicit_timed_out explicit_lost tick write read mode start stop
both_open = refl

-- ---- numbers

-- the last serial number, and then the first one
abbrev last_serial : ScannerTable
last_serial = record connected { next_serial = 65535 }

last_request : reported last_serial (Start 0 ∷ []) ≡ sends_request (items 1 50 (0x54 ∷ 0x02 ∷ 0x20 ∷ 0x06 ∷ 0x24 ∷ 0x01 ∷ 0x0A ∷ 0x0E ∷ 0x00 ∷ 0x00 ∷ 0x00 ∷ 0x00 ∷ 0x01 ∷ 0x00 ∷ 0x00 ∷ 0x20 ∷ 0xFF ∷ 0xFF ∷ 0x34 ∷ 0x12 ∷ 0x78 ∷ 0x56 ∷ 0x34 ∷ 0x12 ∷ 0x02 ∷ 0x00 ∷ 0x00 ∷ 0x00 ∷ 0x10 ∷ 0x27 ∷ 0x00 ∷ 0x00 ∷ 0x0A ∷ 0x48 ∷ 0x10 ∷ 0x27 ∷ 0x00 ∷ 0x00 ∷ 0x06 ∷ 0x48 ∷ 0x01 ∷ 0x04 ∷ 0x20 ∷ 0x04 ∷ 0x24 ∷ 0x97 ∷ 0x2C ∷ 0x96 ∷ 0x2C ∷ 0x64 ∷ [])) 2 ∷ []
unfolding messages.message_reading packets.packet_reading packets.behind_socket packets.are_sockets replies.open_reply_reading replies.unread_reading opens.open_text closes.close_text datagrams.datagram_reading opened ready_opened target_opened open_answer answered target_lost stream_opened stream_cut frame received produced_table all_expired all_given_up explicit_timed_out explicit_lost tick write read mode start stop
last_request = refl

-- the profile says the first one
abbrev from_serial : ScannerTable
from_serial = after (scanner_table (record (profile (owner ∷ [])) { serials = Some 65535 })) registers

first_of_profile : reported from_serial (Start 0 ∷ []) ≡ reported last_serial (Start 0 ∷ [])
unfolding messages.message_reading packets.packet_reading packets.behind_socket packets.are_sockets replies.open_reply_reading replies.unread_reading opens.open_text closes.close_text datagrams.datagram_reading opened ready_opened target_opened open_answer answered target_lost stream_opened stream_cut frame received produced_table all_expired all_given_up explicit_timed_out explicit_lost tick write read mode start stop
first_of_profile = refl

first_again : (after last_serial (Start 0 ∷ [])).next_serial ≡ 1
unfolding messages.message_reading packets.packet_reading packets.behind_socket packets.are_sockets replies.open_reply_reading replies.unread_reading opens.open_text closes.close_text datagrams.datagram_reading opened ready_opened target_opened open_answer answered target_lost stream_opened stream_cut frame received produced_table all_expired all_given_up explicit_timed_out explicit_lost tick write read mode start stop
first_again = refl

-- the fifth opening is multicast: the target chooses its id, and the scanner uses up none
abbrev grouped : ScannerTable
grouped = record (after (scanner_table (profile (gatherer ∷ []))) registers) { next_serial = 5 }

group_request : reported grouped (Start 0 ∷ []) ≡ sends_request (items 1 50 (0x54 ∷ 0x02 ∷ 0x20 ∷ 0x06 ∷ 0x24 ∷ 0x01 ∷ 0x0A ∷ 0x0E ∷ 0x00 ∷ 0x00 ∷ 0x00 ∷ 0x00 ∷ 0x00 ∷ 0x00 ∷ 0x00 ∷ 0x00 ∷ 0x05 ∷ 0x00 ∷ 0x34 ∷ 0x12 ∷ 0x78 ∷ 0x56 ∷ 0x34 ∷ 0x12 ∷ 0x02 ∷ 0x00 ∷ 0x00 ∷ 0x00 ∷ 0x10 ∷ 0x27 ∷ 0x00 ∷ 0x00 ∷ 0x02 ∷ 0x48 ∷ 0x10 ∷ 0x27 ∷ 0x00 ∷ 0x00 ∷ 0x06 ∷ 0x28 ∷ 0x01 ∷ 0x04 ∷ 0x20 ∷ 0x04 ∷ 0x24 ∷ 0x97 ∷ 0x2C ∷ 0x98 ∷ 0x2C ∷ 0x64 ∷ [])) 2 ∷ []
unfolding messages.message_reading packets.packet_reading packets.behind_socket packets.are_sockets replies.open_reply_reading replies.unread_reading opens.open_text closes.close_text datagrams.datagram_reading opened ready_opened target_opened open_answer answered target_lost stream_opened stream_cut frame received produced_table all_expired all_given_up explicit_timed_out explicit_lost tick write read mode start stop
group_request = refl

no_id_drawn : (after grouped (Start 0 ∷ [])).next_id ≡ 1
unfolding messages.message_reading packets.packet_reading packets.behind_socket packets.are_sockets replies.open_reply_reading replies.unread_reading opens.open_text closes.close_text datagrams.datagram_reading opened ready_opened target_opened open_answer answered target_lost stream_opened stream_cut frame received produced_table all_expired all_given_up explicit_timed_out explicit_lost tick write read mode start stop
no_id_drawn = refl

-- no id is left: the slot's connection is no longer desired, and the scanner uses up no serial number
abbrev no_ids : ScannerTable
no_ids = record connected { next_id = 16777216 }

-- one notice says so
abbrev ids_end_events : List Event
ids_end_events = Start 0 ∷ Tick 3000 ∷ Stop 0 ∷ []

ids_end : reported no_ids ids_end_events
    ≡ reports_notices (notice.NoIds 0 ∷ [])
    ∷ quiet
    ∷ not_now
    ∷ []
unfolding messages.message_reading packets.packet_reading packets.behind_socket packets.are_sockets replies.open_reply_reading replies.unread_reading opens.open_text closes.close_text datagrams.datagram_reading opened ready_opened target_opened open_answer answered target_lost stream_opened stream_cut frame received produced_table all_expired all_given_up explicit_timed_out explicit_lost tick write read mode start stop
ids_end = refl

no_serial : (after no_ids (Start 0 ∷ [])).next_serial ≡ 1
unfolding messages.message_reading packets.packet_reading packets.behind_socket packets.are_sockets replies.open_reply_reading replies.unread_reading opens.open_text closes.close_text datagrams.datagram_reading opened ready_opened target_opened open_answer answered target_lost stream_opened stream_cut frame received produced_table all_expired all_given_up explicit_timed_out explicit_lost tick write read mode start stop
no_serial = refl

-- a connection that timed out is to be tried again, and no request number is left
abbrev no_numbers : ScannerTable
no_numbers = record (after connected (Start 0 ∷ Frame 0 opened_frame ∷ Tick 10000 ∷ [])) { next_request = 281474976710657 }

-- the slot becomes idle, and is not to be open
abbrev numbers_end_events : List Event
numbers_end_events = Tick 2999 ∷ Tick 1 ∷ Tick 3000 ∷ []

numbers_end : reported no_numbers numbers_end_events
    ≡ quiet
    ∷ reports_notices (notice.NoIds 0 ∷ notice.Slot 0 0 ∷ [])
    ∷ quiet
    ∷ []
unfolding messages.message_reading packets.packet_reading packets.behind_socket packets.are_sockets replies.open_reply_reading replies.unread_reading opens.open_text closes.close_text datagrams.datagram_reading opened ready_opened target_opened open_answer answered target_lost stream_opened stream_cut frame received produced_table all_expired all_given_up explicit_timed_out explicit_lost tick write read mode start stop
numbers_end = refl

-- the last request number
abbrev last_number : ScannerTable
last_number = record connected { next_request = 281474976710656 }

last_numbered : reported last_number (Start 0 ∷ []) ≡ sends_request (0x6F ∷ 0x00 ∷ 0x42 ∷ 0x00 ∷ 0x01 ∷ 0x00 ∷ 0x00 ∷ 0x00 ∷ 0x00 ∷ 0x00 ∷ 0x00 ∷ 0x00 ∷ 0x00 ∷ 0x00 ∷ 0x00 ∷ 0x00 ∷ 0x00 ∷ 0x00 ∷ 0x01 ∷ 0x00 ∷ 0x00 ∷ 0x00 ∷ 0x00 ∷ 0x00 ∷ 0x00 ∷ 0x00 ∷ 0x00 ∷ 0x00 ∷ 0x00 ∷ 0x00 ∷ 0x02 ∷ 0x00 ∷ 0x00 ∷ 0x00 ∷ 0x00 ∷ 0x00 ∷ 0xB2 ∷ 0x00 ∷ 0x32 ∷ 0x00 ∷ forward_open 1 1) 2 ∷ []
unfolding messages.message_reading packets.packet_reading packets.behind_socket packets.are_sockets replies.open_reply_reading replies.unread_reading opens.open_text closes.close_text datagrams.datagram_reading opened ready_opened target_opened open_answer answered target_lost stream_opened stream_cut frame received produced_table all_expired all_given_up explicit_timed_out explicit_lost tick write read mode start stop
last_numbered = refl

-- ---- requests

-- the request of a slot's first opening, as a message router reads it
abbrev requested_by : SlotConfig → List ℕ
requested_by config = manager_text (open_service (is_large config)) (opens.open_text (is_large config) (open_fields connected.profile config (next_requested connected config)))

-- a target that produces at a change, with an inhibit time of 5 ms
at_change : requested_by (record owner { trigger = ChangeOfState; inhibit = 5 }) ≡ 0x54 ∷ 0x02 ∷ 0x20 ∷ 0x06 ∷ 0x24 ∷ 0x01 ∷ 0x0A ∷ 0x0E ∷ 0x00 ∷ 0x00 ∷ 0x00 ∷ 0x00 ∷ 0x01 ∷ 0x00 ∷ 0x00 ∷ 0x20 ∷ 0x01 ∷ 0x00 ∷ 0x34 ∷ 0x12 ∷ 0x78 ∷ 0x56 ∷ 0x34 ∷ 0x12 ∷ 0x02 ∷ 0x00 ∷ 0x00 ∷ 0x00 ∷ 0x10 ∷ 0x27 ∷ 0x00 ∷ 0x00 ∷ 0x0A ∷ 0x48 ∷ 0x10 ∷ 0x27 ∷ 0x00 ∷ 0x00 ∷ 0x06 ∷ 0x48 ∷ 0x11 ∷ 0x05 ∷ 0x43 ∷ 0x05 ∷ 0x20 ∷ 0x04 ∷ 0x24 ∷ 0x97 ∷ 0x2C ∷ 0x96 ∷ 0x2C ∷ 0x64 ∷ []
unfolding messages.message_reading packets.packet_reading packets.behind_socket packets.are_sockets replies.open_reply_reading replies.unread_reading opens.open_text closes.close_text datagrams.datagram_reading opened ready_opened target_opened open_answer answered target_lost stream_opened stream_cut frame received produced_table all_expired all_given_up explicit_timed_out explicit_lost tick write read mode start stop
at_change = refl

-- an output of 505 bytes is the longest that a Forward_Open can request
longest : requested_by (record owner { out_len = 505 }) ≡ 0x54 ∷ 0x02 ∷ 0x20 ∷ 0x06 ∷ 0x24 ∷ 0x01 ∷ 0x0A ∷ 0x0E ∷ 0x00 ∷ 0x00 ∷ 0x00 ∷ 0x00 ∷ 0x01 ∷ 0x00 ∷ 0x00 ∷ 0x20 ∷ 0x01 ∷ 0x00 ∷ 0x34 ∷ 0x12 ∷ 0x78 ∷ 0x56 ∷ 0x34 ∷ 0x12 ∷ 0x02 ∷ 0x00 ∷ 0x00 ∷ 0x00 ∷ 0x10 ∷ 0x27 ∷ 0x00 ∷ 0x00 ∷ 0xFF ∷ 0x49 ∷ 0x10 ∷ 0x27 ∷ 0x00 ∷ 0x00 ∷ 0x06 ∷ 0x48 ∷ 0x01 ∷ 0x04 ∷ 0x20 ∷ 0x04 ∷ 0x24 ∷ 0x97 ∷ 0x2C ∷ 0x96 ∷ 0x2C ∷ 0x64 ∷ []
unfolding messages.message_reading packets.packet_reading packets.behind_socket packets.are_sockets replies.open_reply_reading replies.unread_reading opens.open_text closes.close_text datagrams.datagram_reading opened ready_opened target_opened open_answer answered target_lost stream_opened stream_cut frame received produced_table all_expired all_given_up explicit_timed_out explicit_lost tick write read mode start stop
longest = refl

-- one of 506 bytes takes a Large_Forward_Open
larger : requested_by (record owner { out_len = 506 }) ≡ 0x5B ∷ 0x02 ∷ 0x20 ∷ 0x06 ∷ 0x24 ∷ 0x01 ∷ 0x0A ∷ 0x0E ∷ 0x00 ∷ 0x00 ∷ 0x00 ∷ 0x00 ∷ 0x01 ∷ 0x00 ∷ 0x00 ∷ 0x20 ∷ 0x01 ∷ 0x00 ∷ 0x34 ∷ 0x12 ∷ 0x78 ∷ 0x56 ∷ 0x34 ∷ 0x12 ∷ 0x02 ∷ 0x00 ∷ 0x00 ∷ 0x00 ∷ 0x10 ∷ 0x27 ∷ 0x00 ∷ 0x00 ∷ 0x00 ∷ 0x02 ∷ 0x00 ∷ 0x48 ∷ 0x10 ∷ 0x27 ∷ 0x00 ∷ 0x00 ∷ 0x06 ∷ 0x00 ∷ 0x00 ∷ 0x48 ∷ 0x01 ∷ 0x04 ∷ 0x20 ∷ 0x04 ∷ 0x24 ∷ 0x97 ∷ 0x2C ∷ 0x96 ∷ 0x2C ∷ 0x64 ∷ []
unfolding messages.message_reading packets.packet_reading packets.behind_socket packets.are_sockets replies.open_reply_reading replies.unread_reading opens.open_text closes.close_text datagrams.datagram_reading opened ready_opened target_opened open_answer answered target_lost stream_opened stream_cut frame received produced_table all_expired all_given_up explicit_timed_out explicit_lost tick write read mode start stop
larger = refl

-- and so does an input of 510 bytes
larger_input : requested_by (record owner { in_len = 510 }) ≡ 0x5B ∷ 0x02 ∷ 0x20 ∷ 0x06 ∷ 0x24 ∷ 0x01 ∷ 0x0A ∷ 0x0E ∷ 0x00 ∷ 0x00 ∷ 0x00 ∷ 0x00 ∷ 0x01 ∷ 0x00 ∷ 0x00 ∷ 0x20 ∷ 0x01 ∷ 0x00 ∷ 0x34 ∷ 0x12 ∷ 0x78 ∷ 0x56 ∷ 0x34 ∷ 0x12 ∷ 0x02 ∷ 0x00 ∷ 0x00 ∷ 0x00 ∷ 0x10 ∷ 0x27 ∷ 0x00 ∷ 0x00 ∷ 0x0A ∷ 0x00 ∷ 0x00 ∷ 0x48 ∷ 0x10 ∷ 0x27 ∷ 0x00 ∷ 0x00 ∷ 0x00 ∷ 0x02 ∷ 0x00 ∷ 0x48 ∷ 0x01 ∷ 0x04 ∷ 0x20 ∷ 0x04 ∷ 0x24 ∷ 0x97 ∷ 0x2C ∷ 0x96 ∷ 0x2C ∷ 0x64 ∷ []
unfolding messages.message_reading packets.packet_reading packets.behind_socket packets.are_sockets replies.open_reply_reading replies.unread_reading opens.open_text closes.close_text datagrams.datagram_reading opened ready_opened target_opened open_answer answered target_lost stream_opened stream_cut frame received produced_table all_expired all_given_up explicit_timed_out explicit_lost tick write read mode start stop
larger_input = refl

-- the electronic key comes first in the path, and the configuration data last
keyed : requested_by (record owner { key = Some (record { vendor = 1; device_type = 12; product = 7; compatible = true; major = 2; minor = 2; seven_bits = lit< tt }); config_data = 1 ∷ 2 ∷ 3 ∷ 4 ∷ [] }) ≡ 0x54 ∷ 0x02 ∷ 0x20 ∷ 0x06 ∷ 0x24 ∷ 0x01 ∷ 0x0A ∷ 0x0E ∷ 0x00 ∷ 0x00 ∷ 0x00 ∷ 0x00 ∷ 0x01 ∷ 0x00 ∷ 0x00 ∷ 0x20 ∷ 0x01 ∷ 0x00 ∷ 0x34 ∷ 0x12 ∷ 0x78 ∷ 0x56 ∷ 0x34 ∷ 0x12 ∷ 0x02 ∷ 0x00 ∷ 0x00 ∷ 0x00 ∷ 0x10 ∷ 0x27 ∷ 0x00 ∷ 0x00 ∷ 0x0A ∷ 0x48 ∷ 0x10 ∷ 0x27 ∷ 0x00 ∷ 0x00 ∷ 0x06 ∷ 0x48 ∷ 0x01 ∷ 0x0C ∷ 0x34 ∷ 0x04 ∷ 0x01 ∷ 0x00 ∷ 0x0C ∷ 0x00 ∷ 0x07 ∷ 0x00 ∷ 0x82 ∷ 0x02 ∷ 0x20 ∷ 0x04 ∷ 0x24 ∷ 0x97 ∷ 0x2C ∷ 0x96 ∷ 0x2C ∷ 0x64 ∷ 0x80 ∷ 0x02 ∷ 0x01 ∷ 0x02 ∷ 0x03 ∷ 0x04 ∷ []
unfolding messages.message_reading packets.packet_reading packets.behind_socket packets.are_sockets replies.open_reply_reading replies.unread_reading opens.open_text closes.close_text datagrams.datagram_reading opened ready_opened target_opened open_answer answered target_lost stream_opened stream_cut frame received produced_table all_expired all_given_up explicit_timed_out explicit_lost tick write read mode start stop
keyed = refl
