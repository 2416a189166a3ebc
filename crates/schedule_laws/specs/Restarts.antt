-- A plant in which devices restart, as a schedule of lives: a life is named by each id that it drew; and a new life takes
-- nothing that was sent before it began, but what a group gives that it joined (Volume 1, chapter 3, network connection ids;
-- Volume 2, chapter 3, multicast connections).
use Rattle.std.specs.Prelude.{ℕ, ◌≡◌, ◌⊎◌, List, [], replicate, slice_get, Some}
use Rattle.std.specs.List.{Contains}
use Rattle.adapter_table.specs.declared.table.AdapterTable.{AdapterTable}
use Rattle.scanner_table.specs.declared.table.ScannerTable.{ScannerTable}
use Rattle.scanner_table.specs.Slots.{IndexedSlot, slot_at}
use Rattle.cip_tables.specs.declared.table.Config.{Config}
use Rattle.cip_tables.specs.declared.table.DeviceTable.{DeviceTable}
use Rattle.cip_tables.specs.Whole.{ids_of, next_id_of}
use Rattle.segment_world.specs.declared.act.Act.{Act}
use Rattle.segment_world.specs.Story.{events_of}
use Rattle.device_laws.specs.Lemmas.Numbered.{IsNumbered}
use Rattle.device_laws.specs.Productions.{Production}
use Rattle.schedule_laws.specs.Chronicle.{Acceptance, Chronicle, Opened}
use Rattle.schedule_laws.specs.Names.{IsOfGroup}
use Rattle.schedule_laws.specs.Order.{IsAdapterAt, IsChronicle, IsScannerAt}
use Rattle.schedule_laws.specs.Producers.{AreMoments, HasConnection, WasOpenedLater}

-- THE IDS OF A LIFE

-- the life has drawn the id: a number of its blocks below its next one has it
pub record WasDrawnBy (c : Chronicle) (life id : ℕ) : Type 0 where
  pub table : DeviceTable
  pub there : slice_get c.story.world.tables life ≡ Some table
  pub numbered : IsNumbered (ids_of table) 1 (next_id_of table) id

-- so it is of a life
pub record WasDrawn (c : Chronicle) (id : ℕ) : Type 0 where
  pub life : ℕ
  pub by : WasDrawnBy c life id

-- two lives that have drawn one id are one life
abbrev pub IdsNameLives : Chronicle → Type 0
IdsNameLives c = (a b id : ℕ) → WasDrawnBy c a id → WasDrawnBy c b id → a ≡ b

-- The life whose adapter opened a connection drew its O->T id. That life or the scanner's, whose slot requested it, drew its T->O
-- id.
pub record EndsDrewIds (c : Chronicle) (e : Opened) : Type 0 where
  pub o_t : WasDrawnBy c e.row.device e.o_t_id.0
  pub t_o : WasDrawnBy c e.row.device e.t_o_id.0 ⊎ WasDrawnBy c e.slot.device e.t_o_id.0

-- An id names one life; and a life drew each connection id, of what was produced and of connections that were opened.
pub record LivesDrewIds (c : Chronicle) : Type 0 where
  pub lives : IdsNameLives c
  pub connections : (e : Opened) → Contains c.opened e → EndsDrewIds c e
  pub productions : (p : Production) → Contains c.produced p → WasDrawn c p.made.datagram.connection

-- So it is at every moment of every schedule.
abbrev pub LivesAreNamedByIds : Type 0
LivesAreNamedByIds = (configs : List Config) (acts : List Act) (c : Chronicle) → IsChronicle configs acts c → LivesDrewIds c

-- A NEW LIFE

-- nothing has happened at the life: it has its opening table
abbrev pub IsNew : Chronicle → ℕ → Type 0
IsNew c life = events_of life c.story.reported ≡ []

-- What a slot accepted is of a group that had a connection at the earlier moment, and the slot's own connection, which was opened
-- later, joined that group: its T->O id is the group's.
pub record JoinedTheLiving (was now : Chronicle) (a : Acceptance) : Type 0 where
  pub entry : Opened
  pub later : WasOpenedLater was now entry
  pub slot_is : entry.slot ≡ a.consumer
  pub id_is : a.production.made.datagram.connection ≡ entry.t_o_id.0
  pub table : AdapterTable
  pub there : IsAdapterAt now entry.row.device table
  pub group : IsOfGroup table entry
  pub producer_is : a.production.producer ≡ entry.producer
  pub living : HasConnection was a.production.producer

-- the life accepted a production with these data; if it was produced by the earlier moment, a group gave it that lived then
pub record WasTaken (was now : Chronicle) (life : ℕ) (data_of : List ℕ) : Type 0 where
  pub acceptance : Acceptance
  pub there : Contains now.accepted acceptance
  pub life_is : acceptance.consumer.device ≡ life
  pub data_is : data_of ≡ acceptance.production.made.datagram.payload
  pub older : Contains was.produced acceptance.production → JoinedTheLiving was now acceptance

-- Of what was produced by the earlier moment, a life of an adapter accepts nothing, and a life of a scanner only what a group sent
-- that lived then, through a connection that joined it. So each image of the scanner holds zeros or other data.
pub record TakesNothingOlder (was now : Chronicle) (life : ℕ) : Type 0 where
  pub adapter : (t : AdapterTable) (a : Acceptance) → IsAdapterAt now life t → Contains now.accepted a → a.consumer.device ≡ life → Contains was.produced a.production → ⊥
  pub scanner : (t : ScannerTable) (a : Acceptance) → IsScannerAt now life t → Contains now.accepted a → a.consumer.device ≡ life → Contains was.produced a.production → JoinedTheLiving was now a
  pub images : (t : ScannerTable) (place : IndexedSlot) → IsScannerAt now life t → slot_at t place.number ≡ Some place → (place.slot.image ≡ replicate place.config.in_len 0) ⊎ WasTaken was now life place.slot.image

-- So it is of a life that was new at the earlier of two moments of any schedule, whichever life a datagram was sent to, and however
-- late it comes.
abbrev pub NewLivesTakeNothingOlder : Type 0
NewLivesTakeNothingOlder = (configs : List Config) (was now : Chronicle) (life : ℕ) → AreMoments configs was now → IsNew was life → TakesNothingOlder was now life
