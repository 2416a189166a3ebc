-- The T->O id for which a request to open asks. At each event a scanner asks at most once for each id that it allocates, and
-- for no other id; a new connection of an adapter has the id for which its request asked, or, if it is multicast, one of the
-- adapter's own (Volume 1, chapter 3, network connection ids and Forward_Open service).
use Rattle.std.specs.Prelude.{ℕ, zero, suc, ◌≡◌, ◌≢◌, ◌⊎◌, ◌+◌, ◌-◌, ◌<◌, ◌≤◌, ◌==◌, ◌||◌, Bool, true, false, if◌then◌else◌, min, List, Result, Ok, Err}
use Rattle.std.specs.List.{AllByRecursion, count_by}
use Rattle.cip_types.specs.Ids.{end_number, id_at}
use Rattle.cip_types.specs.declared.ids.IdBlock.{IdBlock}
use Rattle.cip_types.specs.declared.names.ConnId.{ConnId}
use Rattle.cip_encap.specs.declared.message.EncapFault.{EncapFault}
use Rattle.cip_encap.specs.declared.packet.ItemFault.{ItemFault}
use Rattle.cip_encap.specs.Message.{MessageFields}
use Rattle.cip_encap.specs.Packet.{PacketFields}
use Rattle.cip_encap.specs.AnyItems.{any_packet_reading}
use Rattle.cip_encap.specs.Reading.{message_reading}
use Rattle.cip_events.specs.declared.event.Answer.{Answer}
use Rattle.cip_events.specs.declared.event.Event.{Event}
use Rattle.cip_events.specs.declared.event.Event.TheVariants as event
use Rattle.cip_events.specs.declared.event.Frame.{Frame}
use Rattle.cip_router.specs.Requests.{RouterRequestFields, nothing, refused, closing, object, opening, router_request_reading}
use Rattle.adapter_table.specs.Connections.{Row}
use Rattle.adapter_table.specs.declared.table.AdapterTable.{AdapterTable}
use Rattle.adapter_table.specs.Step.{adapter_step}
use Rattle.adapter_table.specs.Whole.{IsWhole}
use Rattle.scanner_table.specs.declared.table.ScannerTable.{ScannerTable}
use Rattle.scanner_table.specs.Step.{scanner_step}
use Rattle.cip_tables.specs.declared.table.DeviceTable.TheVariants.{Scanner}
use Rattle.cip_tables.specs.Whole.{IsWholeDevice}

-- THE ID FOR WHICH A FRAME ASKS

-- the request to open asks for this T->O id
abbrev pub request_asks : ℕ → RouterRequestFields → Bool
request_asks id nothing = false
request_asks id (refused service why) = false
request_asks id (closing request) = false
request_asks id (object service class instance attribute body) = false
request_asks id (opening large request) = request.t_o_id.0 == id

abbrev pub packet_asks : ℕ → Result PacketFields ItemFault → Bool
packet_asks id (Err fault) = false
packet_asks id (Ok packet) = request_asks id (router_request_reading packet.payload)

abbrev pub message_asks : ℕ → Result MessageFields EncapFault → Bool
message_asks id (Err fault) = false
message_asks id (Ok m) = packet_asks id (any_packet_reading m.payload)

-- the bytes can be read as a request to open that asks for this T->O id
unfoldable pub asks_id : ℕ → List ℕ → Bool
asks_id id bytes = message_asks id (message_reading bytes)

abbrev pub frame_asks : ℕ → Frame → Bool
frame_asks id frame = asks_id id frame.bytes

-- A SCANNER

-- one of so many numbers from this one on has the id
abbrev pub has_number : List IdBlock → (from count id : ℕ) → Bool
has_number ids from zero id = false
has_number ids from (suc count) id = (id_at ids from).0 == id || has_number ids (from + 1) count id

-- a number from the first one on and below the second has the id
unfoldable pub is_between : List IdBlock → (from to id : ℕ) → Bool
is_between ids from to id = has_number ids from (to - from) id

-- Of the frames of an answer at most one asks for an id that was allocated at the event, of the blocks that the scanner had, and
-- none asks for another id, but 0, the id for none.
abbrev pub ScannersAskOnce : Type 0
ScannersAskOnce =
    (t : ScannerTable) (happens : Event) (answer : Answer) (next : ScannerTable) (id : ℕ) →
    scanner_step t happens ≡ Ok (answer, next) → IsWholeDevice (Scanner t) → id ≢ 0 →
    count_by (frame_asks id) answer.frames ≤ (if is_between t.ids t.next_id (min next.next_id (end_number t.ids)) id then 1 else 0)

-- AN ADAPTER

-- the id is one of the adapter's blocks
pub record IsOwnId (ids : List IdBlock) (id : ConnId) : Type 0 where
  pub number : ℕ
  pub begins : 1 ≤ number
  pub below : number < end_number ids
  pub is : id ≡ id_at ids number

-- the connection was there; or the frame asks for its T->O id, or the id is one of the adapter's own
abbrev pub IsOldOrRequested : AdapterTable → List ℕ → Row → Type 0
IsOldOrRequested t bytes row = (row.opening < t.next_id) ⊎ ((asks_id row.t_o_id.0 bytes ≡ true) ⊎ IsOwnId t.ids row.t_o_id)

-- so it is of each connection after a frame
abbrev pub NewConnectionsAreRequested : Type 0
NewConnectionsAreRequested =
    (t : AdapterTable) (number : ℕ) (bytes : List ℕ) (answer : Answer) (next : AdapterTable) →
    adapter_step t (event.Frame number bytes) ≡ Ok (answer, next) → IsWhole t → AllByRecursion (IsOldOrRequested t bytes) next.rows
