-- Samples of openings that wait for their turn, and of the time that a request says.
use Rattle.std.proofs.Common.{◌≡◌, ℕ, true, List, [], ◌∷◌, Some, Ok, refl}
use Rattle.cip_events.specs.declared.event.Event.TheVariants.{StreamOpened, Frame, Tick, Start, Stop}
use Rattle.cip_events.specs.declared.event.Notice.{Notice}
use Rattle.cip_events.specs.declared.event.Notice.TheVariants as notice
use Rattle.cip_events.specs.declared.event.Recipient.TheVariants as recipient
use Rattle.cip_events.specs.declared.event.Reason.TheVariants as reason
use Rattle.cip_events.specs.declared.event.Verdict.TheVariants.{Done}
use Rattle.cip_events.specs.Answers.{plain_answer}
use Rattle.cip_events.specs.Outcomes.{Outcome}
use Rattle.scanner_table.proofs.SmallScanner.{target, other_target, owner, profile, reported, after, quiet, becomes, refuses, sends_request, items, ownership, opening_frame, registered}
use Rattle.cip_encap.specs.Reading as messages
use Rattle.cip_encap.specs.PacketReading as packets
use Rattle.cip_fwdopen.specs.Open as opens
use Rattle.cip_fwdopen.specs.Close as closes
use Rattle.cip_fwdopen.specs.Reply as replies
use Rattle.cip_datagram.specs.Reading as datagrams
use Rattle.scanner_table.specs.declared.profile.SlotConfig.{SlotConfig}
use Rattle.scanner_table.specs.declared.table.ScannerTable.{ScannerTable}
use Rattle.scanner_table.specs.Opening.{opened, ready_opened, target_opened}
use Rattle.scanner_table.specs.Requests.{time_out, whole_interval, requested_interval}
use Rattle.scanner_table.specs.Replies.{open_answer, answered}
use Rattle.scanner_table.specs.Closing.{target_lost}
use Rattle.scanner_table.specs.Explicit.{explicit_timed_out, explicit_lost}
use Rattle.scanner_table.specs.Encapsulation.{stream_opened, stream_cut, frame}
use Rattle.scanner_table.specs.Datagrams.{received}
use Rattle.scanner_table.specs.Productions.{produced_table}
use Rattle.scanner_table.specs.Ticks.{all_expired, all_given_up, tick}
use Rattle.scanner_table.specs.Points.{write, read, mode, start, stop}
use Rattle.scanner_table.specs.Step.{scanner_table}

-- ---- turns

-- the second slot, for the input 101
abbrev second : SlotConfig
second = record owner { produced = 101 }

-- its Forward_Open, as the second request
abbrev second_frame : List ℕ
second_frame = items 2 50 (0x54 ∷ 0x02 ∷ 0x20 ∷ 0x06 ∷ 0x24 ∷ 0x01 ∷ 0x0A ∷ 0x0E ∷ 0x00 ∷ 0x00 ∷ 0x00 ∷ 0x00 ∷ 0x02 ∷ 0x00 ∷ 0x00 ∷ 0x20 ∷ 0x02 ∷ 0x00 ∷ 0x34 ∷ 0x12 ∷ 0x78 ∷ 0x56 ∷ 0x34 ∷ 0x12 ∷ 0x02 ∷ 0x00 ∷ 0x00 ∷ 0x00 ∷ 0x10 ∷ 0x27 ∷ 0x00 ∷ 0x00 ∷ 0x0A ∷ 0x48 ∷ 0x10 ∷ 0x27 ∷ 0x00 ∷ 0x00 ∷ 0x06 ∷ 0x48 ∷ 0x01 ∷ 0x04 ∷ 0x20 ∷ 0x04 ∷ 0x24 ∷ 0x97 ∷ 0x2C ∷ 0x96 ∷ 0x2C ∷ 0x65 ∷ [])

-- one opening at a time; both slots are started, and the stream to their target is open
abbrev in_turn : ScannerTable
in_turn = after (scanner_table (record (profile (owner ∷ second ∷ [])) { openings = Some 1 })) (Start 1 ∷ Start 0 ∷ StreamOpened 0 target ∷ [])

-- the first slot opens
abbrev first_turn : ScannerTable
first_turn = after in_turn (Frame 0 registered ∷ [])

-- the second slot opens, behind these notices
abbrev second_opens : List Notice → Outcome
second_opens notices = Ok (record (plain_answer Done) { frames = record { to = recipient.Stream 0; bytes = second_frame } ∷ []; notices = notices })

-- in slot order; the second slot waits for the first one's reply
turn_waits : reported in_turn (Frame 0 registered ∷ Tick 1999 ∷ []) ≡ sends_request (opening_frame 1) 2 ∷ quiet ∷ []
unfolding messages.message_reading packets.packet_reading packets.behind_socket packets.are_sockets replies.open_reply_reading replies.unread_reading opens.open_text closes.close_text datagrams.datagram_reading opened ready_opened target_opened open_answer answered target_lost stream_opened stream_cut frame received produced_table all_expired all_given_up explicit_timed_out explicit_lost tick write read mode start stop
turn_waits = refl

-- a refusal gives the place to the second slot with the next tick, if no time passes in it
turn_refused : reported first_turn (Frame 0 (items 1 16 (ownership 1)) ∷ Tick 0 ∷ []) ≡ refuses (reason.Cip (record { general = 1; extended = Some 0x0106 })) ∷ second_opens (notice.Slot 1 2 ∷ []) ∷ []
unfolding messages.message_reading packets.packet_reading packets.behind_socket packets.are_sockets replies.open_reply_reading replies.unread_reading opens.open_text closes.close_text datagrams.datagram_reading opened ready_opened target_opened open_answer answered target_lost stream_opened stream_cut frame received produced_table all_expired all_given_up explicit_timed_out explicit_lost tick write read mode start stop
turn_refused = refl

-- an opening without a reply gives the place on at its end, and the second one then has its own 2 seconds
turn_unanswered : reported first_turn (Tick 2000 ∷ Tick 1999 ∷ []) ≡ second_opens (notice.Slot 0 0 ∷ notice.Slot 1 2 ∷ []) ∷ quiet ∷ []
unfolding messages.message_reading packets.packet_reading packets.behind_socket packets.are_sockets replies.open_reply_reading replies.unread_reading opens.open_text closes.close_text datagrams.datagram_reading opened ready_opened target_opened open_answer answered target_lost stream_opened stream_cut frame received produced_table all_expired all_given_up explicit_timed_out explicit_lost tick write read mode start stop
turn_unanswered = refl

-- so does one that is stopped, and a slot that is stopped while it waits takes no place
turn_stopped : reported first_turn (Stop 0 ∷ Tick 0 ∷ []) ≡ becomes 0 ∷ second_opens (notice.Slot 1 2 ∷ []) ∷ []
unfolding messages.message_reading packets.packet_reading packets.behind_socket packets.are_sockets replies.open_reply_reading replies.unread_reading opens.open_text closes.close_text datagrams.datagram_reading opened ready_opened target_opened open_answer answered target_lost stream_opened stream_cut frame received produced_table all_expired all_given_up explicit_timed_out explicit_lost tick write read mode start stop
turn_stopped = refl

-- two places are enough for two slots
abbrev two_turns : ScannerTable
two_turns = after (record in_turn { profile = record in_turn.profile { openings = Some 2 } }) (Frame 0 registered ∷ [])

both_turns : two_turns.next_request ≡ 3
unfolding messages.message_reading packets.packet_reading packets.behind_socket packets.are_sockets replies.open_reply_reading replies.unread_reading opens.open_text closes.close_text datagrams.datagram_reading opened ready_opened target_opened open_answer answered target_lost stream_opened stream_cut frame received produced_table all_expired all_given_up explicit_timed_out explicit_lost tick write read mode start stop
both_turns = refl

-- an opening at another target takes no place
abbrev apart : ScannerTable
apart = after (scanner_table (record (profile (owner ∷ record second { target = other_target } ∷ [])) { openings = Some 1 })) (Start 0 ∷ Start 1 ∷ StreamOpened 0 target ∷ Frame 0 registered ∷ StreamOpened 1 other_target ∷ Frame 1 registered ∷ [])

both_targets : apart.next_request ≡ 3
unfolding messages.message_reading packets.packet_reading packets.behind_socket packets.are_sockets replies.open_reply_reading replies.unread_reading opens.open_text closes.close_text datagrams.datagram_reading opened ready_opened target_opened open_answer answered target_lost stream_opened stream_cut frame received produced_table all_expired all_given_up explicit_timed_out explicit_lost tick write read mode start stop
both_targets = refl

-- ---- the time that a request says

-- up to 255 ms in milliseconds, and then in the shortest tick; the ticks are rounded up
exact_times : (time_out 1 ≡ record { tick = 0; ticks = 1 }) × ((time_out 255 ≡ record { tick = 0; ticks = 255 }) × (time_out 256 ≡ record { tick = 1; ticks = 128 }))
exact_times = (refl, (refl, refl))

rounded_times : (time_out 257 ≡ record { tick = 1; ticks = 129 }) × ((time_out 1021 ≡ record { tick = 3; ticks = 128 }) × (time_out 2041 ≡ record { tick = 4; ticks = 128 }))
rounded_times = (refl, (refl, refl))

-- 2 s, 10 s, and a minute
usual_times : (time_out 2000 ≡ record { tick = 3; ticks = 250 }) × ((time_out 10000 ≡ record { tick = 6; ticks = 157 }) × (time_out 60000 ≡ record { tick = 8; ticks = 235 }))
usual_times = (refl, (refl, refl))

-- ---- whole milliseconds

-- the interval is no longer, but for one of less than a millisecond
whole_intervals : (whole_interval 2500 ≡ 2000) × ((whole_interval 10000 ≡ 10000) × ((whole_interval 10999 ≡ 10000) × (whole_interval 500 ≡ 1000)))
whole_intervals = (refl, (refl, (refl, refl)))

-- only a tidy scanner asks for another interval than that of its profile
requested_intervals : (requested_interval (profile []) 2500 ≡ 2500) × (requested_interval (record (profile []) { tidy = true }) 2500 ≡ 2000)
requested_intervals = (refl, refl)
