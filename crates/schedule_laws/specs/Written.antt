-- What is accepted was written before: at a moment of the schedule the slot that made the production held its value as its
-- output, and that is what the slot's application had last written there; or the adapter that made it held its value at an input
-- (Volume 1, chapter 3, class 1 transport, real time formats).
use Rattle.std.specs.Prelude.{ℕ, ◌≡◌, ◌⊎◌, List, [], ◌∷◌, ◌++◌, replicate, slice_get, true, unwrap_or, Some, Ok}
use Rattle.std.specs.Int.{w32, to_le_bytes}
use Rattle.std.specs.List.{Contains}
use Rattle.cip_datagram.specs.Header.{mode_header}
use Rattle.cip_events.specs.declared.event.Event.{Event}
use Rattle.cip_events.specs.declared.event.Event.TheVariants.{Write}
use Rattle.adapter_table.specs.declared.table.AdapterTable.{AdapterTable}
use Rattle.adapter_table.specs.Connections.{Row}
use Rattle.adapter_table.specs.Points.{bytes_at}
use Rattle.adapter_table.specs.Productions.{producer_of}
use Rattle.adapter_table.specs.Rows.{is_established}
use Rattle.scanner_table.specs.declared.table.ScannerTable.{ScannerTable}
use Rattle.scanner_table.specs.Slots.{IndexedSlot, slot_at}
use Rattle.device_laws.specs.Newest.{came_from}
use Rattle.device_laws.specs.Scratch.{last_output}
use Rattle.cip_tables.specs.declared.table.Config.{Config}
use Rattle.cip_tables.specs.declared.table.DeviceTable.TheVariants.{Scanner}
use Rattle.segment_world.specs.declared.act.Act.{Act}
use Rattle.segment_world.specs.Configs.{opening_world}
use Rattle.segment_world.specs.Story.{events_of}
use Rattle.segment_world.specs.World.{World, ReportedEvent, happens}
use Rattle.device_laws.specs.Made.{Made}
use Rattle.device_laws.specs.Productions.{End, Production}
use Rattle.schedule_laws.specs.Chronicle.{Acceptance, Chronicle}
use Rattle.schedule_laws.specs.Order.{IsAdapterAt, IsChronicle, IsScannerAt}

-- AN EARLIER MOMENT

-- after the first ones of these acts
pub record IsMomentOf (configs : List Config) (acts : List Act) (was : Chronicle) : Type 0 where
  pub early : List Act
  pub late : List Act
  pub parts : acts ≡ early ++ late
  pub is : IsChronicle configs early was

-- At that moment the slot whose connection came from this opening held the bytes as its output: what its application had last
-- written there, or zeros if it had written nothing.
pub record HeldOutput (configs : List Config) (was : Chronicle) (opening : End) (bytes : List ℕ) : Type 0 where
  pub first : ScannerTable
  pub begins : slice_get (opening_world configs).tables opening.device ≡ Some (Scanner first)
  pub table : ScannerTable
  pub there : IsScannerAt was opening.device table
  pub place : IndexedSlot
  pub at : slot_at table place.number ≡ Some place
  pub came : came_from opening.number place.slot.state ≡ true
  pub output : bytes ≡ place.slot.output
  pub written : bytes ≡ unwrap_or (last_output place.number first (events_of opening.device was.story.reported)) (replicate place.config.out_len 0)

-- after this moment, of the acts that are left the next one makes this event of the device
pub record HappensNext (was : Chronicle) (late : List Act) (device : ℕ) (event : Event) : Type 0 where
  pub act : Act
  pub rest : List Act
  pub parts : late ≡ act ∷ rest
  pub reported : ReportedEvent
  pub new : World
  pub is : happens was.story.world act ≡ Ok (Some reported, new)
  pub device_is : reported.device ≡ device
  pub event_is : reported.event ≡ event

-- At that moment a connection of the adapter had this producer. The producer's input held the bytes, or the adapter's
-- application writes them there by the next act.
pub record HeldInput (was : Chronicle) (late : List Act) (producer : End) (bytes : List ℕ) : Type 0 where
  pub table : AdapterTable
  pub there : IsAdapterAt was producer.device table
  pub row : Row
  pub among : Contains table.rows row
  pub established : is_established row ≡ true
  pub number : producer_of row.state ≡ producer.number
  pub input : (bytes ≡ unwrap_or (bytes_at table.values row.produced) []) ⊎ HappensNext was late producer.device (Write row.produced bytes)

-- WHAT IS ACCEPTED

-- the datagram has the mode and the value, or no data, as a heartbeat has none
abbrev pub CarriesValue : Made → Type 0
CarriesValue m = (m.datagram.payload ≡ to_le_bytes w32 (mode_header m.run) ++ m.value) ⊎ (m.datagram.payload ≡ [])

-- a moment before, at which the slot that made the production held its value
pub record WasWritten (configs : List Config) (acts : List Act) (p : Production) : Type 0 where
  pub was : Chronicle
  pub moment : IsMomentOf configs acts was
  pub held : HeldOutput configs was p.producer p.made.value
  pub carries : CarriesValue p.made

-- So it is of each production that an adapter accepts, whatever becomes of its data.
abbrev pub AcceptedDataWereWritten : Type 0
AcceptedDataWereWritten =
    (configs : List Config) (acts : List Act) (c : Chronicle) → IsChronicle configs acts c →
    (a : Acceptance) (t : AdapterTable) → Contains c.accepted a → IsAdapterAt c a.consumer.device t → WasWritten configs acts a.production

-- a moment before, at which the producer's input held the production's value, or the adapter's application wrote it there
pub record WasInput (configs : List Config) (acts : List Act) (p : Production) : Type 0 where
  pub was : Chronicle
  pub moment : IsMomentOf configs acts was
  pub held : HeldInput was moment.late p.producer p.made.value
  pub carries : p.made.datagram.payload ≡ p.made.value

-- So it is of each production that a scanner accepts.
abbrev pub GatheredDataWereInput : Type 0
GatheredDataWereInput =
    (configs : List Config) (acts : List Act) (c : Chronicle) → IsChronicle configs acts c →
    (a : Acceptance) (t : ScannerTable) → Contains c.accepted a → IsScannerAt c a.consumer.device t → WasInput configs acts a.production
