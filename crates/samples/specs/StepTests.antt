-- What the laws of one device's step say, as tests: of the frames that it sends, of its connections, and of what it makes.
use Rattle.std.specs.Prelude.{ℕ, ◌==◌, ◌&&◌, ◌||◌, not, Bool, true, false, List, Result, Ok, Err}
use Rattle.std.specs.List.{list_all, list_any}
use Rattle.std.specs.Str.{bytes_eq}
use Rattle.cip_datagram.specs.declared.datagram.DatagramFault.{DatagramFault}
use Rattle.cip_datagram.specs.Datagram.{DatagramFields}
use Rattle.cip_datagram.specs.Reading.{datagram_reading}
use Rattle.cip_encap.specs.declared.message.EncapFault.{EncapFault}
use Rattle.cip_encap.specs.declared.packet.ItemFault.{ItemFault}
use Rattle.cip_types.specs.declared.ids.IdBlock.{IdBlock}
use Rattle.cip_types.specs.IdLaws.{has_id}
use Rattle.cip_encap.specs.Message.{MessageFields}
use Rattle.cip_encap.specs.Packet.{PacketFields}
use Rattle.cip_encap.specs.AnyItems.{any_packet_reading}
use Rattle.cip_encap.specs.Reading.{message_reading}
use Rattle.cip_events.specs.declared.event.Reason.{Reason}
use Rattle.cip_fwdopen.specs.declared.reply.OpenAnswer.{OpenAnswer}
use Rattle.cip_fwdopen.specs.declared.reply.OpenAnswer.TheVariants as answer
use Rattle.cip_fwdopen.specs.Open.{OpenFields}
use Rattle.cip_router.specs.Requests.{RouterRequestFields, nothing, refused, closing, object, opening, router_request_reading}
use Rattle.adapter_table.specs.Checks.{is_multicast}
use Rattle.adapter_table.specs.Connections.{Row}
use Rattle.adapter_table.specs.declared.table.AdapterTable.{AdapterTable}
use Rattle.adapter_table.specs.Productions.{producer_of}
use Rattle.adapter_table.specs.Rows.{is_established}
use Rattle.scanner_table.specs.declared.table.ScannerTable.{ScannerTable}
use Rattle.scanner_table.specs.Replies.{open_answer}
use Rattle.scanner_table.specs.Slots.{IndexedSlot, indexed_slots}
use Rattle.device_laws.specs.Newest.{came_from}
use Rattle.segment_world.specs.World.{World}
use Rattle.segment_world.specs.Transit.Log.{Sent}
use Rattle.device_laws.specs.Made.{Made}
use Rattle.device_laws.specs.ProductionRuns.{opening_number}
use Rattle.schedule_laws.specs.Ids.{is_drawn}
use Rattle.samples.specs.MomentTests.{has_number}

-- ---- for which id a request asks

-- it is multicast, or the id is of the scanner's blocks
abbrev pub asks_own : List IdBlock → OpenFields → Bool
asks_own ids request = is_multicast request.t_o_params.kind || list_any (has_id request.t_o_id.0) ids

abbrev pub request_asks_own : List IdBlock → RouterRequestFields → Bool
request_asks_own ids nothing = true
request_asks_own ids (refused service why) = true
request_asks_own ids (closing request) = true
request_asks_own ids (object service class instance attribute body) = true
request_asks_own ids (opening large request) = asks_own ids request

abbrev pub packet_asks_own : List IdBlock → Result PacketFields ItemFault → Bool
packet_asks_own ids (Err fault) = true
packet_asks_own ids (Ok packet) = request_asks_own ids (router_request_reading packet.payload)

abbrev pub message_asks_own : List IdBlock → Result MessageFields EncapFault → Bool
message_asks_own ids (Err fault) = true
message_asks_own ids (Ok m) = packet_asks_own ids (any_packet_reading m.payload)

-- the bytes are no request to open, or one that asks for an id of the scanner's own
abbrev pub bytes_ask_own : List IdBlock → List ℕ → Bool
bytes_ask_own ids bytes = message_asks_own ids (message_reading bytes)

-- ---- successes

abbrev pub is_no_success : Result OpenAnswer Reason → Bool
is_no_success (Err why) = true
is_no_success (Ok (answer.Refused refusal)) = true
is_no_success (Ok (answer.Opened opened)) = false

abbrev pub message_succeeds_not : Bool → Result MessageFields EncapFault → Bool
message_succeeds_not large (Err fault) = true
message_succeeds_not large (Ok m) = is_no_success (open_answer large m)

-- the bytes are no success of an opening
abbrev pub succeeds_not : Bool → List ℕ → Bool
succeeds_not large bytes = message_succeeds_not large (message_reading bytes)

-- ---- connections

abbrev pub is_same_row : Row → Row → Bool
is_same_row row old =
    (row.opening == old.opening && (row.o_t_id.0 == old.o_t_id.0 && row.t_o_id.0 == old.t_o_id.0))
    && ((row.peer.0 == old.peer.0 && (row.consumed == old.consumed && row.produced == old.produced))
    && (not (is_established row) || (is_established old && producer_of row.state == producer_of old.state)))

abbrev pub was_there : AdapterTable → Row → Bool
was_there t row = list_any (is_same_row row) t.rows

-- each connection was there before
abbrev pub rows_stay : AdapterTable → AdapterTable → Bool
rows_stay t next = list_all (was_there t) next.rows

-- ---- what a device makes

abbrev pub same_mode : Bool → Bool → Bool
same_mode true other = other
same_mode false other = not other

abbrev pub is_slots : ScannerTable → Made → IndexedSlot → Bool
is_slots t m place = came_from m.number place.slot.state && (bytes_eq m.value place.slot.output && same_mode m.run t.run)

-- a slot of the table made it, and holds its value as its output
abbrev pub is_made_by_a_slot : ScannerTable → Made → Bool
is_made_by_a_slot t m = list_any (is_slots t m) (indexed_slots t)

-- ---- opening numbers

abbrev pub is_apart : ℕ → IndexedSlot → IndexedSlot → Bool
is_apart number a b = not (has_number number (opening_number a.slot.state) && has_number number (opening_number b.slot.state)) || a.number == b.number

abbrev pub is_apart_of : ℕ → ScannerTable → IndexedSlot → Bool
is_apart_of number t a = list_all (is_apart number a) (indexed_slots t)

-- no two slots have this opening number
abbrev pub one_has_number : ℕ → ScannerTable → Bool
one_has_number number t = list_all (is_apart_of number t) (indexed_slots t)

-- ---- ids that are drawn

abbrev pub reads_drawn : World → Result DatagramFields DatagramFault → Bool
reads_drawn w (Err fault) = true
reads_drawn w (Ok d) = is_drawn w.tables d.connection

abbrev pub sent_drawn : World → Sent → Bool
sent_drawn w s = reads_drawn w (datagram_reading s.bytes)

-- no datagram has an id that a device may still draw
abbrev pub all_sent_drawn : World → Bool
all_sent_drawn w = list_all (sent_drawn w) w.sent
