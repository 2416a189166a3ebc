-- The images of scanners, over every schedule: what a slot's image holds was produced by the producer that the slot's T->O id
-- names, and accepted by the opening that last established the slot (Volume 1, chapter 3, class 1 transport).
use Rattle.std.specs.Prelude.{ℕ, ◌≡◌, ◌⊎◌, List, find, replicate, Option, Some, None}
use Rattle.std.specs.List.{Contains}
use Rattle.cip_types.specs.declared.names.ConnId.{ConnId}
use Rattle.scanner_table.specs.declared.table.ScannerTable.{ScannerTable}
use Rattle.scanner_table.specs.Slots.{IndexedSlot, slot_at}
use Rattle.cip_tables.specs.declared.table.Config.{Config}
use Rattle.segment_world.specs.declared.act.Act.{Act}
use Rattle.device_laws.specs.Productions.{End, end_at, Production}
use Rattle.schedule_laws.specs.Chronicle.{Acceptance, Chronicle, Establishment, Opened, is_slot}
use Rattle.schedule_laws.specs.Order.{IsChronicle, IsScannerAt, KeepsHalfCircle, Rise}

-- this end accepted a production with these data
pub record WasGathered (c : Chronicle) (consumer : End) (data_of : List ℕ) : Type 0 where
  pub acceptance : Acceptance
  pub there : Contains c.accepted acceptance
  pub consumer_is : acceptance.consumer ≡ consumer
  pub data_is : data_of ≡ acceptance.production.made.datagram.payload

-- An image is zeros before the slot was ever established. After that it is the zeros of the moment when the slot was last
-- established, or the data of a production that this opening accepted.
abbrev pub ImageIs : Chronicle → ℕ → IndexedSlot → Option Establishment → Type 0
ImageIs c device place None = place.slot.image ≡ replicate place.config.in_len 0
ImageIs c device place (Some e) = (place.slot.image ≡ replicate place.config.in_len 0) ⊎ WasGathered c (end_at device e.request) place.slot.image

-- so is the image of each slot
abbrev pub ImagesWereGathered : Chronicle → Type 0
ImagesWereGathered c =
    (device : ℕ) (t : ScannerTable) (place : IndexedSlot) → IsScannerAt c device t → slot_at t place.number ≡ Some place →
    ImageIs c device place (find (is_slot device place.number) c.established)

-- at every moment of every schedule
abbrev pub SchedulesGatherImages : Type 0
SchedulesGatherImages = (configs : List Config) (acts : List Act) (c : Chronicle) → IsChronicle configs acts c → ImagesWereGathered c

-- WHOSE DATA THEY ARE

-- the producer of a connection that was opened with this T->O id
pub record IsNamedBy (c : Chronicle) (id : ConnId) (producer : End) : Type 0 where
  pub entry : Opened
  pub there : Contains c.opened entry
  pub id_is : entry.t_o_id.0 ≡ id.0
  pub producer_is : producer ≡ entry.producer

-- the producer of the connection that the slot's opening opened made the production, with the connection's T->O id
pub record IsOfItsProducer (c : Chronicle) (a : Acceptance) : Type 0 where
  pub entry : Opened
  pub there : Contains c.opened entry
  pub slot_is : entry.slot ≡ a.consumer
  pub id_is : a.production.made.datagram.connection ≡ entry.t_o_id.0
  pub producer_is : a.production.producer ≡ entry.producer

-- so it is of all that slots accepted
abbrev pub ScannersAccept : Chronicle → Type 0
ScannersAccept c = (a : Acceptance) (t : ScannerTable) → Contains c.accepted a → IsScannerAt c a.consumer.device t → IsOfItsProducer c a

-- a production of the producer that the id names, at which the adapter's input held these bytes
pub record WasProduced (c : Chronicle) (id : ConnId) (bytes : List ℕ) : Type 0 where
  pub production : Production
  pub there : Contains c.produced production
  pub by : IsNamedBy c id production.producer
  pub value : bytes ≡ production.made.value

-- An image is zeros before the slot was ever established. After that it is the zeros of the moment when the slot was last
-- established, or what an adapter's input held at a production of the producer that the T->O id of that moment names.
abbrev pub ImageWasProduced : Chronicle → IndexedSlot → Option Establishment → Type 0
ImageWasProduced c place None = place.slot.image ≡ replicate place.config.in_len 0
ImageWasProduced c place (Some e) = (place.slot.image ≡ replicate place.config.in_len 0) ⊎ WasProduced c e.t_o_id place.slot.image

abbrev pub ImagesWereProduced : Chronicle → Type 0
ImagesWereProduced c =
    (device : ℕ) (t : ScannerTable) (place : IndexedSlot) → IsScannerAt c device t → slot_at t place.number ≡ Some place →
    ImageWasProduced c place (find (is_slot device place.number) c.established)

-- What a slot's opening accepts are productions of the one producer that its T->O id names, with strictly rising production
-- indexes. From the moment a slot becomes established until it does so again, its image is the zeros of that moment, or what
-- the producer's input held at a production. A multicast producer lives as long as its group, so a slot that joins may accept
-- first what the same living group sent before.
pub record ImagesAreInOrder (c : Chronicle) : Type 0 where
  pub one_producer : ScannersAccept c
  pub rising : Rise c.accepted
  pub images : ImagesWereProduced c

-- so it is at every moment of every schedule that keeps the half-circle condition
abbrev pub GatheredInOrder : Type 0
GatheredInOrder = (configs : List Config) (acts : List Act) (c : Chronicle) → IsChronicle configs acts c → KeepsHalfCircle configs acts → ImagesAreInOrder c
