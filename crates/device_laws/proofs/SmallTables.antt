-- Tables of a small scanner, at each state of its slots: one slot is point to point, and one is multicast.
use Rattle.std.proofs.Common.{ℕ, true, false, List, [], ◌∷◌, Some, None}
use Rattle.cip_types.specs.Ids.{ids_of_incarnation}
use Rattle.cip_types.specs.declared.ids.IdBlock.{IdBlock}
use Rattle.cip_types.specs.declared.names.ConnId.{ConnId}
use Rattle.cip_types.specs.declared.names.Node.{Node}
use Rattle.cip_types.specs.declared.names.Triad.{Triad}
use Rattle.cip_netparams.specs.declared.Trigger.TheVariants.{Cyclic}
use Rattle.cip_events.specs.declared.event.Event.{Event}
use Rattle.cip_events.specs.declared.event.Event.TheVariants.{Datagram}
use Rattle.cip_productions.specs.declared.kind.Kind.TheVariants.{ExclusiveOwner, InputOnly}
use Rattle.cip_productions.specs.declared.production.Production.{Production}
use Rattle.conn_state.specs.declared.names.Link.{Link}
use Rattle.scanner_table.specs.declared.profile.ScannerProfile.{ScannerProfile}
use Rattle.scanner_table.specs.declared.profile.SlotConfig.{SlotConfig}
use Rattle.scanner_table.specs.declared.slot.SlotConnection.{SlotConnection}
use Rattle.scanner_table.specs.declared.slot.PendingOpen as pending
use Rattle.scanner_table.specs.declared.slot.Slot.{Slot}
use Rattle.scanner_table.specs.declared.slot.SlotState.{SlotState}
use Rattle.scanner_table.specs.declared.slot.SlotState.TheVariants.{Idle, Established}
use Rattle.scanner_table.specs.declared.table.ScannerTable.{ScannerTable}
use Rattle.scanner_table.specs.declared.table.Stage.TheVariants.{Up}
use Rattle.scanner_table.specs.Slots.{IndexedSlot}

abbrev pub target : Node
target = record { 0 = 0xC0A8010A }

-- the exclusive owner of an output of two bytes, with an input of two bytes
abbrev pub owner : SlotConfig
owner = record {
  target = target;
  kind = ExclusiveOwner;
  config = None;
  consumed = 150;
  produced = 100;
  out_len = 2;
  in_len = 2;
  o_t_rpi = 10000;
  t_o_rpi = 10000;
  mult = 2;
  multicast = false;
  key = None;
  config_data = [];
  trigger = Cyclic;
  inhibit = 0;
}

-- a multicast input of two bytes
abbrev pub gatherer : SlotConfig
gatherer = record owner { kind = InputOnly; consumed = 152; out_len = 0; multicast = true }

abbrev pub profile : ScannerProfile
profile = record {
  incarnation = 0x20;
  node = record { 0 = 0xC0A80114 };
  vendor = 0x1234;
  serial = 0x12345678;
  open_timeout = 2000;
  retry = 3000;
  newer = None;
  tidy = false;
  openings = None;
  serials = None;
  ids = None;
  slots = owner ∷ gatherer ∷ [];
}

abbrev pub triad : Triad
triad = record { serial = 5; vendor = 0x1234; originator = 0x12345678 }

-- the id of the counter 6
abbrev pub own_id : ConnId
own_id = record { 0 = 0x20000006 }

-- the opening of request number 7, which requests the id
abbrev pub opening : pending.PendingOpen
opening = record { request = 7; requested = record { triad = triad; t_o_id = Some own_id }; deadline = record { 0 = 2500 } }

abbrev pub link : Link
link = record { triad = triad; o_t_id = record { 0 = 0x10000001 }; t_o_id = own_id }

-- the producer of the first slot
abbrev pub production : Production
production = record {
  producer = 0;
  sequence = 1;
  count = 0;
  written = true;
  due = record { 0 = 600 };
  address = target;
  trigger = Cyclic;
  inhibit = 0;
  last = None;
}

-- the connection that came from it, and accepted number 7 with count 3
abbrev pub connection : SlotConnection
connection = record {
  opening = 7;
  link = link;
  o_t_api_ms = 10;
  t_o_api_ms = 10;
  watchdog = record { 0 = 160 };
  last = Some (record { number = 7; count = 3 });
  deadline = record { 0 = 660 };
  production = production;
}

-- the first slot in a state
abbrev pub first_slot : SlotState → Slot
first_slot state = record { state = state; desired_up = true; retry_at = record { 0 = 0 }; output = 1 ∷ 2 ∷ []; image = 3 ∷ 4 ∷ [] }

-- the second is never started
abbrev pub second_slot : Slot
second_slot = record { state = Idle; desired_up = false; retry_at = record { 0 = 0 }; output = []; image = 0 ∷ 0 ∷ [] }

abbrev pub indexed : SlotState → IndexedSlot
indexed state = record { number = 0; config = owner; slot = first_slot state }

-- the ids that begin with the scanner's incarnation
abbrev pub blocks : List IdBlock
blocks = ids_of_incarnation 0x20 ∷ []

-- at 600 milliseconds, with a session over stream 0
abbrev pub table : SlotState → ScannerTable
table state = record {
  profile = profile;
  slots = first_slot state ∷ second_slot ∷ [];
  run = false;
  clock = record { 0 = 600 };
  ids = blocks;
  next_id = 7;
  next_serial = 6;
  next_request = 8;
  streams = record { number = 0; peer = target; stage = Up 1 } ∷ [];
  explicit = [];
}

abbrev pub open_table : ScannerTable
open_table = table (Established connection)

-- two bytes for the connection, with a number and a count
abbrev pub arrives : ℕ → ℕ → ℕ → Event
arrives number count byte = Datagram target (0x02 ∷ 0x00 ∷ 0x02 ∷ 0x80 ∷ 0x08 ∷ 0x00 ∷ 0x06 ∷ 0x00 ∷ 0x00 ∷ 0x20 ∷ number ∷ 0x00 ∷ 0x00 ∷ 0x00 ∷ 0xB1 ∷ 0x00 ∷ 0x04 ∷ 0x00 ∷ count ∷ 0x00 ∷ byte ∷ byte ∷ [])
