-- Opening numbers of a small scanner with two slots: the numbers were worked out by hand.
use Rattle.std.proofs.Common.{◌≡◌, ℕ, false, List, [], ◌∷◌, ◌++◌, map, Option, Some, None, refl}
use Rattle.cip_types.specs.declared.names.Node.{Node}
use Rattle.cip_netparams.specs.declared.Trigger.TheVariants.{Cyclic}
use Rattle.cip_events.specs.declared.event.Event.{Event}
use Rattle.cip_events.specs.declared.event.Event.TheVariants.{StreamOpened, Frame, Start}
use Rattle.cip_productions.specs.declared.kind.Kind.TheVariants.{ExclusiveOwner}
use Rattle.cip_encap.specs.Reading as messages
use Rattle.cip_encap.specs.PacketReading as packets
use Rattle.cip_fwdopen.specs.Open as opens
use Rattle.cip_fwdopen.specs.Reply as replies
use Rattle.scanner_table.specs.declared.profile.ScannerProfile.{ScannerProfile}
use Rattle.scanner_table.specs.declared.profile.SlotConfig.{SlotConfig}
use Rattle.scanner_table.specs.declared.slot.Slot.{Slot}
use Rattle.scanner_table.specs.Opening.{opened, ready_opened, target_opened}
use Rattle.scanner_table.specs.Replies.{open_answer, answered}
use Rattle.scanner_table.specs.Encapsulation.{stream_opened, frame}
use Rattle.scanner_table.specs.Points.{start}
use Rattle.scanner_table.specs.Step.{scanner_table}
use Rattle.scanner_table.specs.Runs.{table_after}
use Rattle.device_laws.specs.ProductionRuns.{opening_number}

abbrev target : Node
target = record { 0 = 0xC0A8010A }

abbrev owner : SlotConfig
owner = record {
  target = target;
  kind = ExclusiveOwner;
  config = None;
  consumed = 150;
  produced = 100;
  out_len = 2;
  in_len = 2;
  o_t_rpi = 10000;
  t_o_rpi = 10000;
  mult = 2;
  multicast = false;
  key = None;
  config_data = [];
  trigger = Cyclic;
  inhibit = 0;
}

abbrev profile : ScannerProfile
profile = record {
  incarnation = 0x20;
  node = record { 0 = 0xC0A80114 };
  vendor = 0x1234;
  serial = 0x12345678;
  open_timeout = 2000;
  retry = 3000;
  newer = None;
  tidy = false;
  openings = None;
  serials = None;
  ids = None;
  slots = owner ∷ record owner { produced = 101 } ∷ [];
}

-- session 1 is registered over stream 0
abbrev registered : List ℕ
registered = 0x65 ∷ 0x00 ∷ 0x04 ∷ 0x00 ∷ 0x01 ∷ 0x00 ∷ 0x00 ∷ 0x00 ∷ 0x00 ∷ 0x00 ∷ 0x00 ∷ 0x00 ∷ 0x00 ∷ 0x00 ∷ 0x00 ∷ 0x00 ∷ 0x00 ∷ 0x00 ∷ 0x00 ∷ 0x00 ∷ 0x00 ∷ 0x00 ∷ 0x00 ∷ 0x00 ∷ 0x01 ∷ 0x00 ∷ 0x00 ∷ 0x00 ∷ []

-- the first request is refused: another one owns the output
abbrev refused : List ℕ
refused = 0x6F ∷ 0 ∷ 32 ∷ 0 ∷ 1 ∷ 0 ∷ 0 ∷ 0 ∷ 0 ∷ 0 ∷ 0 ∷ 0 ∷ 1 ∷ 0 ∷ 0 ∷ 0 ∷ 0 ∷ 0 ∷ 0 ∷ 0 ∷ 0 ∷ 0 ∷ 0 ∷ 0 ∷ 0 ∷ 0 ∷ 0 ∷ 0 ∷ 0 ∷ 0 ∷ 2 ∷ 0 ∷ 0 ∷ 0 ∷ 0 ∷ 0 ∷ 0xB2 ∷ 0 ∷ 16 ∷ 0 ∷ 0xD4 ∷ 0x00 ∷ 0x01 ∷ 0x01 ∷ 0x06 ∷ 0x01 ∷ 1 ∷ 0x00 ∷ 0x34 ∷ 0x12 ∷ 0x78 ∷ 0x56 ∷ 0x34 ∷ 0x12 ∷ 0x00 ∷ 0x00 ∷ []

abbrev number_in : Slot → Option ℕ
number_in slot = opening_number slot.state

abbrev numbers_after : List Event → List (Option ℕ)
numbers_after events = map number_in (table_after (scanner_table profile) events).slots

abbrev first_events : List Event
first_events = StreamOpened 0 target ∷ Frame 0 registered ∷ Start 0 ∷ []

-- the first slot asks with number 1
first_asks : numbers_after first_events ≡ Some 1 ∷ None ∷ []
unfolding messages.message_reading packets.packet_reading packets.behind_socket packets.are_sockets replies.open_reply_reading replies.unread_reading opens.open_text opened ready_opened target_opened open_answer answered stream_opened frame start
first_asks = refl

-- it is refused, and the other slot asks: number 1 is no slot's any more
other_asks : numbers_after (first_events ++ (Frame 0 refused ∷ Start 1 ∷ [])) ≡ None ∷ Some 2 ∷ []
unfolding messages.message_reading packets.packet_reading packets.behind_socket packets.are_sockets replies.open_reply_reading replies.unread_reading opens.open_text opened ready_opened target_opened open_answer answered stream_opened frame start
other_asks = refl
