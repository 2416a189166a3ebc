-- What a scanner does where two targets, two slots or two moments meet, told from the events at a small one.
use Rattle.std.proofs.Common.{◌≡◌, ℕ, ◌+◌, true, false, List, [], ◌∷◌, ◌++◌, Some, None, Ok, refl}
use Rattle.cip_encap.specs.Reading as messages
use Rattle.cip_encap.specs.PacketReading as packets
use Rattle.cip_fwdopen.specs.Open as opens
use Rattle.cip_fwdopen.specs.Close as closes
use Rattle.cip_fwdopen.specs.Reply as replies
use Rattle.cip_datagram.specs.Reading as datagrams
use Rattle.cip_netparams.specs.declared.Trigger.TheVariants.{Cyclic}
use Rattle.cip_events.specs.declared.event.Event.{Event}
use Rattle.cip_events.specs.declared.event.Event.TheVariants.{StreamOpened, StreamCut, Frame, Tick, Start, Stop}
use Rattle.cip_events.specs.declared.event.Notice.TheVariants as notice
use Rattle.cip_events.specs.declared.event.OutgoingDatagram.{OutgoingDatagram}
use Rattle.cip_events.specs.declared.event.Reason.TheVariants as reason
use Rattle.cip_events.specs.declared.event.Recipient.TheVariants as recipient
use Rattle.cip_events.specs.declared.event.Verdict.TheVariants.{Done, Ignored}
use Rattle.cip_events.specs.Answers.{plain_answer}
use Rattle.cip_events.specs.Outcomes.{Outcome}
use Rattle.cip_events.specs.declared.profile_fault.ProfileFault.TheVariants.{Points}
use Rattle.cip_productions.specs.declared.kind.Kind.TheVariants.{ListenOnly}
use Rattle.scanner_table.specs.declared.slot.Slot.{Slot}
use Rattle.scanner_table.specs.declared.slot.SlotState.TheVariants.{Established}
use Rattle.scanner_table.specs.declared.table.ScannerTable.{ScannerTable}
use Rattle.scanner_table.specs.Opening.{opened, ready_opened, target_opened}
use Rattle.scanner_table.specs.Replies.{open_answer, answered}
use Rattle.scanner_table.specs.Closing.{target_lost}
use Rattle.scanner_table.specs.Encapsulation.{stream_opened, stream_cut, frame}
use Rattle.scanner_table.specs.Explicit.{explicit_request, explicit_reply, explicit_timed_out, explicit_lost}
use Rattle.scanner_table.specs.Datagrams.{received}
use Rattle.scanner_table.specs.Productions.{produced_table}
use Rattle.scanner_table.specs.Profiles.{profile_fault}
use Rattle.scanner_table.specs.Ticks.{all_expired, all_given_up, tick}
use Rattle.scanner_table.specs.Points.{write, read, mode, start, stop}
use Rattle.scanner_table.specs.Step.{scanner_table}
use Rattle.samples.proofs.SmallScanner.{target, other_target, owner, gatherer, profile, reported, after, quiet, only, reports_notices, becomes, refuses, sends_request, registration, registered, items, opening_frame, opened_frame, success, ownership, registers, connected}

-- `unfolding computing` lets `refl` compute a step on events that are written out
unfoldable pub computing : Unit {0}
unfolding messages.message_reading packets.packet_reading packets.behind_socket packets.are_sockets replies.open_reply_reading replies.unread_reading opens.open_text closes.close_text datagrams.datagram_reading opened ready_opened target_opened open_answer answered target_lost stream_opened stream_cut frame received produced_table all_expired all_given_up explicit_request explicit_reply explicit_timed_out explicit_lost tick write read mode start stop
computing = tt

-- ---- two targets

-- two slots of two targets, each with a session over a stream of its own
abbrev two_targets : ScannerTable
two_targets = after (scanner_table (profile (owner ∷ record gatherer { target = other_target } ∷ []))) (registers ++ (StreamOpened 1 other_target ∷ Frame 1 registered ∷ []))

-- a reply with the right number opens nothing over the stream to another target
other_stream : reported (after two_targets (Start 0 ∷ [])) (Frame 1 opened_frame ∷ Frame 0 opened_frame ∷ []) ≡ only Ignored ∷ becomes 3 ∷ []
unfolding computing
other_stream = refl

-- an id that a connection to another target has is free
other_id : reported (after two_targets (Start 0 ∷ Frame 0 opened_frame ∷ Start 1 ∷ [])) (Frame 1 (items 2 30 (success 2 1 1)) ∷ []) ≡ reports_notices (notice.Slot 1 3 ∷ []) ∷ []
unfolding computing
other_id = refl

-- ---- starts

-- a slot that was refused, stopped and started again opens at once, as soon as there is a session
abbrev restart_events : List Event
restart_events = Start 0 ∷ Frame 0 (items 1 16 (ownership 1)) ∷ Stop 0 ∷ StreamCut 0 ∷ Start 0 ∷ StreamOpened 0 target ∷ Frame 0 registered ∷ []

restart : reported connected restart_events
    ≡ sends_request (opening_frame 1) 2
    ∷ refuses (reason.Cip (record { general = 1; extended = Some 0x0106 }))
    ∷ quiet
    ∷ quiet
    ∷ quiet
    ∷ Ok (record (plain_answer Done) { frames = record { to = recipient.Stream 0; bytes = registration } ∷ [] })
    ∷ sends_request (opening_frame 2) 2
    ∷ []
unfolding computing
restart = refl

-- ---- numbers

-- one id is left: the first of two slots has it, and none is left for the second
abbrev last_id : ScannerTable
last_id = record (after (scanner_table (profile (owner ∷ owner ∷ []))) registers) { next_id = 16777215 }

last_id_given : reported last_id (Start 0 ∷ Start 1 ∷ [])
    ≡ sends_request (items 1 50 (0x54 ∷ 0x02 ∷ 0x20 ∷ 0x06 ∷ 0x24 ∷ 0x01 ∷ 0x0A ∷ 0x0E ∷ 0x00 ∷ 0x00 ∷ 0x00 ∷ 0x00 ∷ 0xFF ∷ 0xFF ∷ 0xFF ∷ 0x20 ∷ 0x01 ∷ 0x00 ∷ 0x34 ∷ 0x12 ∷ 0x78 ∷ 0x56 ∷ 0x34 ∷ 0x12 ∷ 0x02 ∷ 0x00 ∷ 0x00 ∷ 0x00 ∷ 0x10 ∷ 0x27 ∷ 0x00 ∷ 0x00 ∷ 0x0A ∷ 0x48 ∷ 0x10 ∷ 0x27 ∷ 0x00 ∷ 0x00 ∷ 0x06 ∷ 0x48 ∷ 0x01 ∷ 0x04 ∷ 0x20 ∷ 0x04 ∷ 0x24 ∷ 0x97 ∷ 0x2C ∷ 0x96 ∷ 0x2C ∷ 0x64 ∷ [])) 2
    ∷ reports_notices (notice.NoIds 1 ∷ [])
    ∷ []
unfolding computing
last_id_given = refl

-- ---- lengths

-- an input of so many bytes is requested
abbrev request_for_input : ℕ → List Outcome
request_for_input len = reported (after (scanner_table (profile (record owner { in_len = len } ∷ []))) registers) (Start 0 ∷ [])

-- one of 509 bytes is the longest that a Forward_Open sends_request for
longest_input : request_for_input 509
    ≡ sends_request (items 1 50 (0x54 ∷ 0x02 ∷ 0x20 ∷ 0x06 ∷ 0x24 ∷ 0x01 ∷ 0x0A ∷ 0x0E ∷ 0x00 ∷ 0x00 ∷ 0x00 ∷ 0x00 ∷ 0x01 ∷ 0x00 ∷ 0x00 ∷ 0x20 ∷ 0x01 ∷ 0x00 ∷ 0x34 ∷ 0x12 ∷ 0x78 ∷ 0x56 ∷ 0x34 ∷ 0x12 ∷ 0x02 ∷ 0x00 ∷ 0x00 ∷ 0x00 ∷ 0x10 ∷ 0x27 ∷ 0x00 ∷ 0x00 ∷ 0x0A ∷ 0x48 ∷ 0x10 ∷ 0x27 ∷ 0x00 ∷ 0x00 ∷ 0xFF ∷ 0x49 ∷ 0x01 ∷ 0x04 ∷ 0x20 ∷ 0x04 ∷ 0x24 ∷ 0x97 ∷ 0x2C ∷ 0x96 ∷ 0x2C ∷ 0x64 ∷ [])) 2
    ∷ []
unfolding computing
longest_input = refl

-- one of 510 bytes takes a Large_Forward_Open
larger_input : request_for_input 510
    ≡ sends_request (items 1 54 (0x5B ∷ 0x02 ∷ 0x20 ∷ 0x06 ∷ 0x24 ∷ 0x01 ∷ 0x0A ∷ 0x0E ∷ 0x00 ∷ 0x00 ∷ 0x00 ∷ 0x00 ∷ 0x01 ∷ 0x00 ∷ 0x00 ∷ 0x20 ∷ 0x01 ∷ 0x00 ∷ 0x34 ∷ 0x12 ∷ 0x78 ∷ 0x56 ∷ 0x34 ∷ 0x12 ∷ 0x02 ∷ 0x00 ∷ 0x00 ∷ 0x00 ∷ 0x10 ∷ 0x27 ∷ 0x00 ∷ 0x00 ∷ 0x0A ∷ 0x00 ∷ 0x00 ∷ 0x48 ∷ 0x10 ∷ 0x27 ∷ 0x00 ∷ 0x00 ∷ 0x00 ∷ 0x02 ∷ 0x00 ∷ 0x48 ∷ 0x01 ∷ 0x04 ∷ 0x20 ∷ 0x04 ∷ 0x24 ∷ 0x97 ∷ 0x2C ∷ 0x96 ∷ 0x2C ∷ 0x64 ∷ [])) 2
    ∷ []
unfolding computing
larger_input = refl

-- ---- ticks

-- the answer to the second slot's opening is overdue at the tick at which the first slot may try again
abbrev two_moments : ScannerTable
two_moments = after (scanner_table (profile (owner ∷ record owner { produced = 101 } ∷ []))) (registers ++ (Start 0 ∷ Frame 0 (items 1 16 (ownership 1)) ∷ Tick 1000 ∷ Start 1 ∷ []))

-- first answers are given up, and then slots open
overdue_and_ready : reported two_moments (Tick 1999 ∷ Tick 1 ∷ [])
    ≡ quiet
    ∷ Ok (record (plain_answer Done) {
      frames = record { to = recipient.Stream 0; bytes = opening_frame 3 } ∷ [];
      notices = notice.Slot 1 0 ∷ notice.Slot 0 2 ∷ [];
    })
    ∷ []
unfolding computing
overdue_and_ready = refl

-- an open connection by its number, by when it times out, and by when it is due
abbrev pub open_slot : ℕ → ℕ → ℕ → Slot
open_slot number deadline due = record {
  state = Established (record {
    opening = number;
    link = record {
      triad = record { serial = number; vendor = 0x1234; originator = 0x12345678 };
      o_t_id = record { 0 = 0x10000000 + number };
      t_o_id = record { 0 = 0x20000000 + number };
    };
    o_t_api_ms = 10;
    t_o_api_ms = 10;
    watchdog = record { 0 = 160 };
    last = None;
    deadline = record { 0 = deadline };
    production = record {
      producer = number;
      sequence = 1;
      count = 0;
      written = true;
      due = record { 0 = due };
      address = target;
      trigger = Cyclic;
      inhibit = 0;
      last = None;
    };
  });
  desired_up = true;
  retry_at = record { 0 = 0 };
  output = 0 ∷ 0 ∷ 0 ∷ 0 ∷ [];
  image = 0 ∷ 0 ∷ 0 ∷ 0 ∷ [];
}

-- the first datagram of such a connection
abbrev first_data : ℕ → OutgoingDatagram
first_data number = record {
  address = target;
  nodes = target ∷ [];
  bytes = 0x02 ∷ 0x00 ∷ 0x02 ∷ 0x80 ∷ 0x08 ∷ 0x00 ∷ number ∷ 0x00 ∷ 0x00 ∷ 0x10 ∷ 0x01 ∷ 0x00 ∷ 0x00 ∷ 0x00 ∷ 0xB1 ∷ 0x00 ∷ 0x0A ∷ 0x00 ∷ 0x01 ∷ 0x00 ∷ 0x00 ∷ 0x00 ∷ 0x00 ∷ 0x00 ∷ 0x00 ∷ 0x00 ∷ 0x00 ∷ 0x00 ∷ [];
}

-- of four connections two time out, by their deadlines, and two send, by when they are due
abbrev four_open : ScannerTable
four_open = record (scanner_table (profile (owner ∷ owner ∷ owner ∷ owner ∷ []))) { slots = open_slot 1 20 0 ∷ open_slot 2 10 0 ∷ open_slot 3 1000 9 ∷ open_slot 4 1000 5 ∷ [] }

in_their_order : reported four_open (Tick 20 ∷ [])
    ≡ Ok (record (plain_answer Done) {
      datagrams = first_data 4 ∷ first_data 3 ∷ [];
      notices = notice.Slot 1 4 ∷ notice.Slot 0 4 ∷ [];
    })
    ∷ []
unfolding computing
in_their_order = refl

-- equal deadlines and equal due times go by the slots' numbers
all_at_once : reported (record four_open { slots = open_slot 1 20 0 ∷ open_slot 2 20 0 ∷ open_slot 3 1000 9 ∷ open_slot 4 1000 9 ∷ [] }) (Tick 20 ∷ [])
    ≡ Ok (record (plain_answer Done) {
      datagrams = first_data 3 ∷ first_data 4 ∷ [];
      notices = notice.Slot 0 4 ∷ notice.Slot 1 4 ∷ [];
    })
    ∷ []
unfolding computing
all_at_once = refl

-- ---- profiles

-- a listener without a group goes before two slots of one group
points_first : profile_fault (profile (gatherer ∷ gatherer ∷ record gatherer { kind = ListenOnly; multicast = false } ∷ [])) ≡ Some Points
unfolding profile_fault
points_first = refl
