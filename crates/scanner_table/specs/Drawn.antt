-- The numbers that slots use: each request number and each T->O id of a point to point connection was allocated, and no two
-- slots have one id
-- (Volume 1, chapter 3, Forward_Open service, network connection ids).
use Rattle.std.specs.Prelude.{ℕ, ◌≡◌, ◌≢◌, ◌≤◌, ◌<◌, Bool, true, false, if◌then◌else◌, List, Option, Some, None}
use Rattle.cip_types.specs.declared.names.ConnId.{ConnId}
use Rattle.conn_state.specs.declared.names.Link.{Link}
use Rattle.scanner_table.specs.declared.slot.SlotState.{SlotState}
use Rattle.scanner_table.specs.declared.slot.SlotState.TheVariants.{Idle, Opening, Established, TimedOut, Closing}
use Rattle.scanner_table.specs.declared.table.ScannerTable.{ScannerTable}
use Rattle.scanner_table.specs.Slots.{IndexedSlot, slot_at}
use Rattle.cip_types.specs.declared.ids.IdBlock.{IdBlock}
use Rattle.cip_types.specs.Ids.{are_blocks, id_at, ids_in}
use Rattle.scanner_table.specs.Runs.{OfEachSlot}

-- IDS

-- the id is of these blocks, and its number is from the first one on and below the next one
pub record IsDrawn (ids : List IdBlock) (first next : ℕ) (id : ConnId) : Type 0 where
  pub number : ℕ
  pub is : id ≡ id_at ids number
  pub within : number ≤ ids_in ids
  pub begins : first ≤ number
  pub ends : number < next

-- a multicast opening requests no id, and a point to point one requests an allocated id
abbrev pub WantsDrawn : List IdBlock → ℕ → ℕ → Bool → Option ConnId → Type 0
WantsDrawn ids first next true None = Unit {0}
WantsDrawn ids first next true (Some id) = ⊥
WantsDrawn ids first next false None = ⊥
WantsDrawn ids first next false (Some id) = IsDrawn ids first next id

-- ALLOCATED NUMBERS

-- the T->O id of a point to point connection was allocated
abbrev pub LinkIsDrawn : List IdBlock → ℕ → Bool → Link → Type 0
LinkIsDrawn ids next_id true link = Unit {0}
LinkIsDrawn ids next_id false link = IsDrawn ids 1 next_id link.t_o_id

-- the request number and the id of a slot in this state were allocated
abbrev pub StateIsDrawn : List IdBlock → ℕ → ℕ → Bool → SlotState → Type 0
StateIsDrawn ids next_id next_request multicast Idle = Unit {0}
StateIsDrawn ids next_id next_request multicast (Opening o) = (o.request < next_request) × WantsDrawn ids 1 next_id multicast o.requested.t_o_id
StateIsDrawn ids next_id next_request multicast (Established c) = (c.opening < next_request) × LinkIsDrawn ids next_id multicast c.link
StateIsDrawn ids next_id next_request multicast (TimedOut link) = LinkIsDrawn ids next_id multicast link
StateIsDrawn ids next_id next_request multicast (Closing c) = (c.request < next_request) × LinkIsDrawn ids next_id multicast c.link

abbrev pub SlotIsDrawn : ScannerTable → IndexedSlot → Type 0
SlotIsDrawn t indexed = StateIsDrawn t.ids t.next_id t.next_request indexed.config.multicast indexed.slot.state

-- all numbers of all slots are below the next ones
abbrev pub NumbersAreDrawn : ScannerTable → Type 0
NumbersAreDrawn t = OfEachSlot (SlotIsDrawn t) t

-- the T->O id of a point to point connection that is opening, established, timed out or closing
abbrev pub drawn_id : SlotState → Option ConnId
drawn_id Idle = None
drawn_id (Opening o) = o.requested.t_o_id
drawn_id (Established c) = Some c.link.t_o_id
drawn_id (TimedOut link) = Some link.t_o_id
drawn_id (Closing c) = Some c.link.t_o_id

abbrev pub id_of : IndexedSlot → Option ConnId
id_of indexed = if indexed.config.multicast then None else drawn_id indexed.slot.state

-- no two slots have the same such id
abbrev pub IdsAreOwn : ScannerTable → Type 0
IdsAreOwn t =
    (indexed other : IndexedSlot) (id : ConnId) → indexed.number ≢ other.number →
    slot_at t indexed.number ≡ Some indexed → slot_at t other.number ≡ Some other →
    id_of indexed ≡ Some id → id_of other ≢ Some id

-- The blocks are apart, and the next number is 1 or above. The numbers of all slots were drawn, and none was given twice.
pub record NumbersAreOwn (t : ScannerTable) : Type 0 where
  pub blocks : are_blocks t.ids ≡ true
  pub begins : 1 ≤ t.next_id
  pub drawn : NumbersAreDrawn t
  pub own : IdsAreOwn t
