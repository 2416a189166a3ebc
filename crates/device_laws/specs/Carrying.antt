-- Where the connection ids after a step come from: the table before it, the event, or the device's next numbers; and which
-- reply establishes a slot of a scanner (Volume 1, chapter 3, network connection ids and Forward_Open service).
use Rattle.std.specs.Prelude.{◌≡◌, ◌⊎◌, ℕ, ◌^◌, ◌<◌, ◌≤◌, Bool, true, false, List, Option, Some, None, Ok}
use Rattle.std.specs.List.{AllByRecursion, Contains}
use Rattle.cip_types.specs.Ids.{end_number, id_at}
use Rattle.cip_types.specs.declared.ids.IdBlock.{IdBlock}
use Rattle.cip_types.specs.declared.names.ConnId.{ConnId}
use Rattle.cip_events.specs.declared.event.Answer.{Answer}
use Rattle.cip_events.specs.declared.event.Event.{Event}
use Rattle.cip_fwdopen.specs.declared.reply.Opened.{Opened}
use Rattle.messaging.specs.Sound.{EachOf}
use Rattle.scanner_table.specs.declared.profile.SlotConfig.{SlotConfig}
use Rattle.scanner_table.specs.declared.slot.PendingOpen as pending
use Rattle.scanner_table.specs.declared.slot.SlotState.{SlotState}
use Rattle.scanner_table.specs.declared.slot.SlotState.TheVariants.{Idle, Opening, Established, TimedOut, Closing}
use Rattle.scanner_table.specs.declared.table.ScannerTable.{ScannerTable}
use Rattle.scanner_table.specs.Slots.{IndexedSlot, indexed_slots}
use Rattle.scanner_table.specs.Step.{scanner_step}
use Rattle.device_laws.specs.Newest.{came_from}
use Rattle.cip_tables.specs.declared.table.DeviceTable.{DeviceTable}
use Rattle.cip_tables.specs.declared.table.DeviceTable.TheVariants.{Adapter, Scanner}
use Rattle.cip_tables.specs.Step.{step}
use Rattle.cip_tables.specs.Whole.{IsWholeDevice, ids_of, next_id_of}
use Rattle.device_laws.specs.Ids.{RowIds, Class3Ids, FromTo, IdsFromTo, IdsWithin, EventIds, AnsweredIds, AnswerIds, StateIds, Replied}

-- IDS

-- the number passes a test
abbrev pub Passes : (ℕ → Bool) → ℕ → Type 0
Passes test n = test n ≡ true

abbrev pub SlotIds : (ℕ → Type 0) → IndexedSlot → Type 0
SlotIds P indexed = StateIds P indexed.slot.state

-- each id of a device's table passes the first test, and each opening number of its connections the second
abbrev pub TableIds : (ids openings : ℕ → Bool) → DeviceTable → Type 0
TableIds ids openings (Adapter t) = AllByRecursion (RowIds (Passes ids) (Passes openings)) t.rows
TableIds ids openings (Scanner t) = AllByRecursion (SlotIds (Passes ids)) (indexed_slots t)

-- each id in an answer of the application passes the test
abbrev pub AnswerPasses : (ids : ℕ → Bool) → DeviceTable → Event → Type 0
AnswerPasses ids (Adapter t) event = AnsweredIds (Passes ids) t event
AnswerPasses ids (Scanner t) event = Unit {0}

-- If the ids of a whole table, of the event, and those of the numbers between the old one and the new pass a test, then the ids
-- of the next table and of the answer pass it; likewise for opening numbers. Only ids of 32 bits pass the test, and 0, the id for
-- none, passes it. An answer of the application (`Respond` alone) is sent as it is, so its ids count as ids of the event.
abbrev pub StepsCarryIds : Type 0
StepsCarryIds =
    (ids openings : ℕ → Bool) (t : DeviceTable) (event : Event) (answer : Answer) (next : DeviceTable) →
    step t event ≡ Ok (answer, next) → IsWholeDevice t →
    ((id : ℕ) → Passes ids id → id < 2 ^ 32) → Passes ids 0 →
    IdsFromTo (Passes ids) (ids_of next) (next_id_of t) (next_id_of next) → FromTo (Passes openings) (next_id_of t) (next_id_of next) →
    EventIds (Passes ids) event → AnswerPasses ids t event → TableIds ids openings t →
    TableIds ids openings next × AnswerIds (Passes ids) answer

-- each id of a class 3 connection of a device's table passes the test
abbrev pub HasClass3Ids : (ids : ℕ → Bool) → DeviceTable → Type 0
HasClass3Ids ids (Adapter t) = EachOf (Class3Ids (Passes ids)) t.messaging.class3_connections
HasClass3Ids ids (Scanner t) = Unit {0}

-- So it is of the ids of class 3 connections, whether they are of 32 bits or not.
abbrev pub StepsCarryClass3Ids : Type 0
StepsCarryClass3Ids =
    (ids : ℕ → Bool) (t : DeviceTable) (event : Event) (answer : Answer) (next : DeviceTable) →
    step t event ≡ Ok (answer, next) → IdsWithin (Passes ids) (ids_of t) (next_id_of t) (next_id_of next) →
    EventIds (Passes ids) event → HasClass3Ids ids t → HasClass3Ids ids next

-- OPENINGS OF A SCANNER

-- the id is one of the blocks, and its number is this one or a later one
pub record IsFrom (ids : List IdBlock) (first : ℕ) (id : ConnId) : Type 0 where
  pub number : ℕ
  pub is : id ≡ id_at ids number
  pub one : 1 ≤ number
  pub begins : first ≤ number
  pub ends : number < end_number ids

abbrev pub WantsFrom : List IdBlock → ℕ → Option ConnId → Type 0
WantsFrom ids first None = ⊥
WantsFrom ids first (Some id) = IsFrom ids first id

-- a pending or established connection that was opened by a request from this number on has a T->O id from this number on
abbrev pub StateFrom : List IdBlock → (request first : ℕ) → SlotState → Type 0
StateFrom ids request first Idle = Unit {0}
StateFrom ids request first (Opening o) = request ≤ o.request → WantsFrom ids first o.requested.t_o_id
StateFrom ids request first (Established c) = request ≤ c.opening → IsFrom ids first c.link.t_o_id
StateFrom ids request first (TimedOut link) = Unit {0}
StateFrom ids request first (Closing c) = Unit {0}

abbrev pub SlotFrom : List IdBlock → (request first : ℕ) → IndexedSlot → Type 0
SlotFrom ids request first indexed = indexed.config.multicast ≡ false → StateFrom ids request first indexed.slot.state

-- it holds of each point to point slot
abbrev pub SlotsFrom : (request first : ℕ) → ScannerTable → Type 0
SlotsFrom request first t = AllByRecursion (SlotFrom t.ids request first) (indexed_slots t)

-- A step keeps it, if the table's next number is not below this number.
abbrev pub StepsKeepFrom : Type 0
StepsKeepFrom =
    (request first : ℕ) (t : ScannerTable) (event : Event) (answer : Answer) (next : ScannerTable) →
    scanner_step t event ≡ Ok (answer, next) → IsWholeDevice (Scanner t) → first ≤ t.next_id →
    SlotsFrom request first t → SlotsFrom request first next

-- WHAT ESTABLISHES A SLOT

-- the slot of this number waits for the reply to this opening
pub record Waits (t : ScannerTable) (number : ℕ) (config : SlotConfig) (opening : pending.PendingOpen) : Type 0 where
  pub indexed : IndexedSlot
  pub there : Contains (indexed_slots t) indexed
  pub number_is : indexed.number ≡ number
  pub config_is : indexed.config ≡ config
  pub state : indexed.slot.state ≡ Opening opening

-- the slot of this number was established by the opening of this request
pub record Stands (t : ScannerTable) (number request : ℕ) : Type 0 where
  pub indexed : IndexedSlot
  pub there : Contains (indexed_slots t) indexed
  pub number_is : indexed.number ≡ number
  pub state : came_from request indexed.slot.state ≡ true

-- the slot waited for the reply to this request, and the event is its successful reply
pub record IsAnswered (t : ScannerTable) (event : Event) (number request : ℕ) : Type 0 where
  pub config : SlotConfig
  pub opening : pending.PendingOpen
  pub waits : Waits t number config opening
  pub request_is : opening.request ≡ request
  pub success : Opened
  pub replied : Replied t event config.target request success

abbrev pub StateCame : ScannerTable → Event → ℕ → SlotState → Type 0
StateCame t event number Idle = Unit {0}
StateCame t event number (Opening o) = Unit {0}
StateCame t event number (Established c) = Stands t number c.opening ⊎ IsAnswered t event number c.opening
StateCame t event number (TimedOut link) = Unit {0}
StateCame t event number (Closing c) = Unit {0}

abbrev pub SlotCame : ScannerTable → Event → IndexedSlot → Type 0
SlotCame t event indexed = StateCame t event indexed.number indexed.slot.state

-- A slot that is established after a step was established by the same opening before it, or waited for that opening, and the
-- event is the successful reply to its own request.
abbrev pub RepliesEstablish : Type 0
RepliesEstablish =
    (t : ScannerTable) (event : Event) (answer : Answer) (next : ScannerTable) →
    scanner_step t event ≡ Ok (answer, next) → IsWholeDevice (Scanner t) → AllByRecursion (SlotCame t event) (indexed_slots next)
