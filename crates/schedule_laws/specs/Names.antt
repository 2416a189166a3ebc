-- Connection ids name openings: each connection of an adapter, each open slot of a scanner and each datagram that a scanner
-- produced has its entry in the chronicle, that of the slot's opening whose Forward_Open opened the connection (Volume 1,
-- chapter 3, network connection ids and Forward_Open service).
use Rattle.std.specs.Prelude.{ℕ, ◌≡◌, ◌⊎◌, ◌+◌, ◌<◌, true, List, find, slice_get, Some}
use Rattle.std.specs.List.{AllByRecursion, Contains}
use Rattle.cip_types.specs.declared.names.Node.{Node}
use Rattle.adapter_table.specs.Connections.{Row}
use Rattle.adapter_table.specs.declared.table.AdapterTable.{AdapterTable}
use Rattle.cip_types.specs.Ids.{id_at}
use Rattle.adapter_table.specs.Productions.{producer_of}
use Rattle.adapter_table.specs.Rows.{is_established}
use Rattle.scanner_table.specs.declared.slot.SlotState.{SlotState}
use Rattle.scanner_table.specs.declared.slot.SlotState.TheVariants.{Idle, Opening, Established, TimedOut, Closing}
use Rattle.scanner_table.specs.declared.table.ScannerTable.{ScannerTable}
use Rattle.scanner_table.specs.Slots.{IndexedSlot, indexed_slots}
use Rattle.cip_tables.specs.declared.table.Config.{Config}
use Rattle.cip_tables.specs.declared.table.DeviceTable.TheVariants.{Adapter, Scanner}
use Rattle.segment_world.specs.declared.act.Act.{Act}
use Rattle.segment_world.specs.World.{World, node_at}
use Rattle.device_laws.specs.OwnIds.{IsDrawnId}
use Rattle.device_laws.specs.Made.{Made}
use Rattle.device_laws.specs.Productions.{End, end_at, Production}
use Rattle.schedule_laws.specs.Chronicle.{Opened, opens_row, Acceptance, Chronicle}
use Rattle.schedule_laws.specs.Lives.{HasNumber}
use Rattle.schedule_laws.specs.Order.{IsChronicle, IsAdapterAt, IsScannerAt}

-- the device of this place is a scanner, or an adapter
pub record IsScannerIn (w : World) (device : ℕ) : Type 0 where
  pub table : ScannerTable
  pub is : slice_get w.tables device ≡ Some (Scanner table)

pub record IsAdapterIn (w : World) (device : ℕ) : Type 0 where
  pub table : AdapterTable
  pub is : slice_get w.tables device ≡ Some (Adapter table)

-- ENTRIES

-- the T->O id of a multicast connection: the second id that the opening of its group drew
pub record IsOfGroup (table : AdapterTable) (e : Opened) : Type 0 where
  pub has : HasNumber (Adapter table) (e.producer.number + 1)
  pub id : e.t_o_id ≡ id_at table.ids (e.producer.number + 1)
  pub drawn : e.producer.number + 1 < table.next_id

-- the T->O id of a point to point connection, which has a producer of its own: the scanner that requested it drew it
pub record IsOwn (w : World) (e : Opened) : Type 0 where
  pub scanner : IsScannerIn w e.slot.device
  pub id : IsDrawnId scanner.table.ids e.t_o_id.0
  pub producer : e.producer ≡ e.row

-- An entry of the chronicle: the adapter drew its O->T id for this connection alone, and a slot of a scanner requested it. Its
-- T->O id is that of a group of the adapter, or one that the scanner drew.
pub record IsEntry (w : World) (opened : List Opened) (e : Opened) : Type 0 where
  pub table : AdapterTable
  pub there : slice_get w.tables e.row.device ≡ Some (Adapter table)
  pub has : HasNumber (Adapter table) e.row.number
  pub drawn : e.row.number < table.next_id
  pub id : e.o_t_id ≡ id_at table.ids e.row.number
  pub scanner : IsScannerIn w e.slot.device
  pub first : find (opens_row e.row) opened ≡ Some e
  pub maker : e.producer.device ≡ e.row.device
  pub t_o : IsOfGroup table e ⊎ IsOwn w e

-- the entry of an adapter's connection: its ids, its peer, and the producer of its T->O data
pub record HasEntry (w : World) (opened : List Opened) (device : ℕ) (row : Row) : Type 0 where
  pub entry : Opened
  pub found : find (opens_row (end_at device row.opening)) opened ≡ Some entry
  pub o_t : entry.o_t_id ≡ row.o_t_id
  pub t_o : entry.t_o_id ≡ row.t_o_id
  pub peer : row.peer ≡ node_at w entry.slot.device
  pub producer : is_established row ≡ true → entry.producer ≡ end_at device (producer_of row.state)

-- an entry of the slot's opening, with this O->T id
pub record IsOpenedFor (opened : List Opened) (slot : End) (o_t : ℕ) : Type 0 where
  pub entry : Opened
  pub there : Contains opened entry
  pub slot_is : entry.slot ≡ slot
  pub o_t_is : entry.o_t_id.0 ≡ o_t

-- an entry of the slot's opening at this adapter, with these ids
pub record IsOpenedWith (opened : List Opened) (adapter : ℕ) (slot : End) (o_t t_o : ℕ) : Type 0 where
  pub entry : Opened
  pub there : Contains opened entry
  pub adapter_is : entry.row.device ≡ adapter
  pub slot_is : entry.slot ≡ slot
  pub o_t_is : entry.o_t_id.0 ≡ o_t
  pub t_o_is : entry.t_o_id.0 ≡ t_o

-- the same at the adapter whose node is the slot's target
pub record IsOpenedAt (w : World) (opened : List Opened) (target : Node) (slot : End) (o_t t_o : ℕ) : Type 0 where
  pub adapter : ℕ
  pub target_is : target.0 ≡ (node_at w adapter).0
  pub opening : IsOpenedWith opened adapter slot o_t t_o

abbrev pub StateHasEntry : World → List Opened → ℕ → Node → SlotState → Type 0
StateHasEntry w opened device target Idle = Unit {0}
StateHasEntry w opened device target (Opening o) = Unit {0}
StateHasEntry w opened device target (Established c) = IsOpenedAt w opened target (end_at device c.opening) c.link.o_t_id.0 c.link.t_o_id.0
StateHasEntry w opened device target (TimedOut link) = Unit {0}
StateHasEntry w opened device target (Closing c) = Unit {0}

-- the entry of an open slot's opening
abbrev pub SlotHasEntry : World → List Opened → ℕ → IndexedSlot → Type 0
SlotHasEntry w opened device place = StateHasEntry w opened device place.config.target place.slot.state

-- where a scanner made the production, the entry of its own opening has the production's id
abbrev pub ProductionHasEntry : World → List Opened → Production → Type 0
ProductionHasEntry w opened p = IsScannerIn w p.producer.device → IsOpenedFor opened p.producer p.made.datagram.connection

-- an entry of the producer, with this T->O id
pub record IsOpenedBy (opened : List Opened) (producer : End) (t_o : ℕ) : Type 0 where
  pub entry : Opened
  pub there : Contains opened entry
  pub producer_is : entry.producer ≡ producer
  pub t_o_is : entry.t_o_id.0 ≡ t_o

-- an entry of the producer has the datagram's id, and the datagram's data are what the input held
pub record IsMadeBy (opened : List Opened) (producer : End) (made : Made) : Type 0 where
  pub by : IsOpenedBy opened producer made.datagram.connection
  pub value : made.datagram.payload ≡ made.value

-- so it is where an adapter made the production
abbrev pub ProducerHasEntry : World → List Opened → Production → Type 0
ProducerHasEntry w opened p = IsAdapterIn w p.producer.device → IsMadeBy opened p.producer p.made

-- A slot accepted the production: an entry of the slot's opening has the production's T->O id, and its adapter made the
-- production.
pub record IsOfItsEntry (opened : List Opened) (a : Acceptance) : Type 0 where
  pub entry : Opened
  pub there : Contains opened entry
  pub slot_is : entry.slot ≡ a.consumer
  pub maker : a.production.producer.device ≡ entry.row.device
  pub id : a.production.made.datagram.connection ≡ entry.t_o_id.0

abbrev pub SlotAcceptsByEntry : World → List Opened → Acceptance → Type 0
SlotAcceptsByEntry w opened a = IsScannerIn w a.consumer.device → IsOfItsEntry opened a

-- it was produced
abbrev pub WasProduced : List Production → Acceptance → Type 0
WasProduced produced a = Contains produced a.production

-- the opening whose Forward_Open opened the connection made the production, with the connection's O->T id
pub record IsOfItsOpening (opened : List Opened) (a : Acceptance) : Type 0 where
  pub entry : Opened
  pub found : find (opens_row a.consumer) opened ≡ Some entry
  pub producer : a.production.producer ≡ entry.slot
  pub id : a.production.made.datagram.connection ≡ entry.o_t_id.0

-- What is accepted through one connection of an adapter are productions of the one slot opening whose Forward_Open opened
-- the connection.
abbrev pub OneOpeningIsAccepted : Chronicle → Type 0
OneOpeningIsAccepted c = (a : Acceptance) (t : AdapterTable) → Contains c.accepted a → IsAdapterAt c a.consumer.device t → IsOfItsOpening c.opened a

-- Each connection of an adapter, each open slot of a scanner, each datagram that a device produced, and each that a slot
-- accepted has its entry.
pub record IdsNameOpenings (c : Chronicle) : Type 0 where
  pub entries : AllByRecursion (IsEntry c.story.world c.opened) c.opened
  pub rows : (device : ℕ) (t : AdapterTable) → IsAdapterAt c device t → AllByRecursion (HasEntry c.story.world c.opened device) t.rows
  pub slots : (device : ℕ) (t : ScannerTable) → IsScannerAt c device t → AllByRecursion (SlotHasEntry c.story.world c.opened device) (indexed_slots t)
  pub productions : AllByRecursion (ProductionHasEntry c.story.world c.opened) c.produced
  pub producers : AllByRecursion (ProducerHasEntry c.story.world c.opened) c.produced
  pub accepted : AllByRecursion (SlotAcceptsByEntry c.story.world c.opened) c.accepted
  pub were_produced : AllByRecursion (WasProduced c.produced) c.accepted
  pub openings : OneOpeningIsAccepted c

-- So it is in every schedule.
abbrev pub SchedulesNameOpenings : Type 0
SchedulesNameOpenings = (configs : List Config) (acts : List Act) (c : Chronicle) → IsChronicle configs acts c → IdsNameOpenings c

-- WHOSE DATA ARE ACCEPTED

abbrev pub SchedulesAcceptOneOpening : Type 0
SchedulesAcceptOneOpening = (configs : List Config) (acts : List Act) (c : Chronicle) → IsChronicle configs acts c → OneOpeningIsAccepted c

-- Two datagrams that scanners produced with one connection id are of one slot's opening.
abbrev pub OneOpeningHasTheId : Chronicle → Type 0
OneOpeningHasTheId c =
    (p q : Production) → Contains c.produced p → Contains c.produced q → IsScannerIn c.story.world p.producer.device → IsScannerIn c.story.world q.producer.device →
    p.made.datagram.connection ≡ q.made.datagram.connection → p.producer ≡ q.producer

abbrev pub AnIdNamesOneOpening : Type 0
AnIdNamesOneOpening = (configs : List Config) (acts : List Act) (c : Chronicle) → IsChronicle configs acts c → OneOpeningHasTheId c
