-- Connection ids in every schedule of many devices: each id that is anywhere in the world was allocated by a device. So a
-- connection accepts nothing that was sent before its id was allocated (Volume 1, chapter 3, network connection ids).
use Rattle.std.specs.Prelude.{ℕ, ◌≡◌, ◌≢◌, ◌≤◌, ◌==◌, ◌||◌, Bool, true, false, List, [], ◌∷◌, ◌++◌, slice_get, Some, Ok}
use Rattle.std.specs.List.{AllByRecursion, Contains, list_any}
use Rattle.cip_types.specs.Ids.{id_at}
use Rattle.cip_datagram.specs.Datagram.{DatagramFields}
use Rattle.cip_datagram.specs.Reading.{datagram_reading}
use Rattle.cip_events.specs.declared.event.Event.TheVariants.{Datagram}
use Rattle.adapter_table.specs.Connections.{Row}
use Rattle.adapter_table.specs.declared.table.AdapterTable.{AdapterTable}
use Rattle.adapter_table.specs.Newest.{was_opened_as, accepted_at}
use Rattle.adapter_table.specs.Productions.{producer_of}
use Rattle.adapter_table.specs.Rows.{is_established}
use Rattle.scanner_table.specs.declared.slot.SlotConnection.{SlotConnection}
use Rattle.scanner_table.specs.declared.slot.SlotState.TheVariants.{Established}
use Rattle.scanner_table.specs.declared.table.ScannerTable.{ScannerTable}
use Rattle.scanner_table.specs.Datagrams.{is_for}
use Rattle.scanner_table.specs.Slots.{IndexedSlot, indexed_slots}
use Rattle.cip_tables.specs.declared.table.Config.{Config}
use Rattle.cip_tables.specs.declared.table.DeviceTable.{DeviceTable}
use Rattle.cip_tables.specs.declared.table.DeviceTable.TheVariants.{Adapter, Scanner}
use Rattle.cip_tables.specs.Whole.{IsWholeDevice, ids_of, next_id_of}
use Rattle.segment_world.specs.Transit.Log.{Sent}
use Rattle.segment_world.specs.Transit.Streams.{QueueItem, Opening, Queued, Ending, Side, Stream}
use Rattle.segment_world.specs.declared.act.Act.{Act}
use Rattle.segment_world.specs.World.{World, ReportedEvent}
use Rattle.segment_world.specs.Story.{Story, runs, begins}
use Rattle.segment_world.specs.Configs.{opening_world}
use Rattle.device_laws.specs.Ids.{FrameIds, DatagramId}
use Rattle.device_laws.specs.Carrying.{Passes, TableIds, HasClass3Ids, SlotCame}
use Rattle.device_laws.specs.Plain.{FrameHasPlainService, IsPlainDevice}
use Rattle.device_laws.specs.Requests.{is_between}
use Rattle.schedule_laws.specs.Lives.{AreApart, AreLives, HasNumber}
use Rattle.schedule_laws.specs.Stories.{led_to}

-- IDS THAT ARE DRAWN

-- the device has allocated the id: a number of its blocks below its next one has it
abbrev pub has_drawn : ℕ → DeviceTable → Bool
has_drawn id t = is_between (ids_of t) 1 (next_id_of t) id

-- the id is 0, the id for none, or a device has allocated it
abbrev pub is_drawn : List DeviceTable → ℕ → Bool
is_drawn tables id = id == 0 || list_any (has_drawn id) tables

-- FRAMES AND DATAGRAMS

-- the property holds of the frame, if the item is one
abbrev pub ItemHolds : (List ℕ → Type 0) → QueueItem → Type 0
ItemHolds Q Opening = Unit {0}
ItemHolds Q (Queued bytes) = Q bytes
ItemHolds Q Ending = Unit {0}

abbrev pub SideHolds : (List ℕ → Type 0) → Side → Type 0
SideHolds Q side = AllByRecursion (ItemHolds Q) side.queue

pub record StreamHolds (Q : List ℕ → Type 0) (s : Stream) : Type 0 where
  pub forth : SideHolds Q s.forth
  pub back : SideHolds Q s.back

abbrev pub StreamsHold : (List ℕ → Type 0) → List Stream → Type 0
StreamsHold Q streams = AllByRecursion (StreamHolds Q) streams

abbrev pub SentHolds : (ℕ → Type 0) → Sent → Type 0
SentHolds P sent = DatagramId P sent.bytes

abbrev pub any_opening : ℕ → Bool
any_opening opening = true

-- each stream goes between two devices of the world
abbrev pub any_stream : ℕ → Bool
any_stream number = true

-- each id of the frame is drawn, and it asks no object for the service of an opening
abbrev pub IsDrawnFrame : List DeviceTable → List ℕ → Type 0
IsDrawnFrame tables bytes = FrameIds (Passes (is_drawn tables)) bytes × FrameHasPlainService bytes

-- All devices have whole tables. Each id that is anywhere is drawn: in a connection of class 1 or 3, in a datagram that was ever
-- sent, and in a frame that waits on a stream, whether it is read as a request or as a reply. No frame that waits on a stream asks
-- an object for the service of an opening. Each request that waits for an application came over a stream or a class 3 connection, and
-- has no service of an opening if it came over a stream itself.
pub record IdsAreDrawn (w : World) : Type 0 where
  pub whole : (device : ℕ) (t : DeviceTable) → slice_get w.tables device ≡ Some t → IsWholeDevice t
  pub tables : (device : ℕ) (t : DeviceTable) → slice_get w.tables device ≡ Some t → TableIds (is_drawn w.tables) any_opening t
  pub class3 : (device : ℕ) (t : DeviceTable) → slice_get w.tables device ≡ Some t → HasClass3Ids (is_drawn w.tables) t
  pub sent : AllByRecursion (SentHolds (Passes (is_drawn w.tables))) w.sent
  pub streams : StreamsHold (IsDrawnFrame w.tables) w.streams
  pub plain : (device : ℕ) (t : DeviceTable) → slice_get w.tables device ≡ Some t → IsPlainDevice any_stream t

-- all ids are drawn, and no two devices have blocks with one id
pub record AreDrawnApart (w : World) : Type 0 where
  pub ids : IdsAreDrawn w
  pub apart : AreApart w.tables

-- every schedule keeps it that ids are drawn
abbrev pub SchedulesKeepIdsDrawn : Type 0
SchedulesKeepIdsDrawn =
    (start : World) (acts : List Act) (story : Story) → runs (begins start) acts ≡ Ok story → IdsAreDrawn start → IdsAreDrawn story.world

-- it holds of a world that begins from configurations of lives
abbrev pub OpeningWorldsHaveIdsDrawn : Type 0
OpeningWorldsHaveIdsDrawn = (configs : List Config) → AreLives configs → IdsAreDrawn (opening_world configs)

-- LATER CONNECTIONS

-- The laws hold where no two devices have blocks with one id at the later moment.
--
-- Two moments of one schedule: the acts of the first part lead from the start to the earlier one, those of the rest to the
-- later one.
pub record Moments (start : World) (was now : Story) : Type 0 where
  pub early : List Act
  pub late : List Act
  pub first : runs (begins start) early ≡ Ok was
  pub rest : runs (Ok was) late ≡ Ok now

-- an id that a device may still allocate is on no datagram that was ever sent, where no two devices have blocks with one id
abbrev pub IdsToComeAreUnsent : Type 0
IdsToComeAreUnsent =
    (w : World) (device : ℕ) (t : DeviceTable) (number : ℕ) (s : Sent) (d : DatagramFields) →
    IdsAreDrawn w → AreApart w.tables → slice_get w.tables device ≡ Some t → next_id_of t ≤ number → HasNumber t number →
    Contains w.sent s → datagram_reading s.bytes ≡ Ok d → d.connection ≢ (id_at (ids_of t) number).0

-- A connection of an adapter that was not in its table at the earlier moment accepts no datagram that was sent by then,
-- from whichever sender and however late it is delivered.
abbrev pub LaterConnectionsAcceptNoneOfIt : Type 0
LaterConnectionsAcceptNoneOfIt =
    (start : World) (was now : Story) (device opening : ℕ) (t u : AdapterTable) (s : Sent) →
    IdsAreDrawn start → Moments start was now → AreApart now.world.tables →
    slice_get was.world.tables device ≡ Some (Adapter t) → slice_get now.world.tables device ≡ Some (Adapter u) →
    list_any (was_opened_as opening) t.rows ≡ false → Contains was.world.sent s →
    accepted_at opening u (Datagram s.from s.bytes) ≡ []

-- No datagram that was sent by the earlier moment is for an established point to point slot of a scanner whose request was
-- numbered after it.
abbrev pub LaterSlotsTakeNoneOfIt : Type 0
LaterSlotsTakeNoneOfIt =
    (start : World) (was now : Story) (device : ℕ) (t u : ScannerTable) (indexed : IndexedSlot) (c : SlotConnection) (s : Sent) (d : DatagramFields) →
    IdsAreDrawn start → Moments start was now → AreApart now.world.tables →
    slice_get was.world.tables device ≡ Some (Scanner t) → slice_get now.world.tables device ≡ Some (Scanner u) →
    Contains (indexed_slots u) indexed → indexed.config.multicast ≡ false → indexed.slot.state ≡ Established c → t.next_request ≤ c.opening →
    Contains was.world.sent s → datagram_reading s.bytes ≡ Ok d →
    is_for s.from d.connection indexed ≡ false

-- The T->O id of a multicast connection whose producer was numbered after the earlier moment is on no datagram sent by then.
-- A connection that joins an older group accepts what the group sent before, and nothing of an earlier producer.
abbrev pub LaterGroupsSentNoneOfIt : Type 0
LaterGroupsSentNoneOfIt =
    (start : World) (was now : Story) (device : ℕ) (t u : AdapterTable) (row : Row) (s : Sent) (d : DatagramFields) →
    IdsAreDrawn start → Moments start was now → AreApart now.world.tables →
    slice_get was.world.tables device ≡ Some (Adapter t) → slice_get now.world.tables device ≡ Some (Adapter u) →
    Contains u.rows row → is_established row ≡ true → row.multicast ≡ true → t.next_id ≤ producer_of row.state →
    Contains was.world.sent s → datagram_reading s.bytes ≡ Ok d →
    d.connection ≢ row.t_o_id.0

-- REPLIES

-- In the story of every schedule, a slot of a scanner that is established after an event was established by the same opening
-- before it, or waited for that opening, and the event is its successful reply. So a late reply never establishes a later
-- opening.
abbrev pub RepliesEstablishTheirOwn : Type 0
RepliesEstablishTheirOwn =
    (start : World) (acts : List Act) (story : Story) (device : ℕ) (t : DeviceTable) (u v : ScannerTable) (before after : List ReportedEvent) (reported : ReportedEvent) →
    runs (begins start) acts ≡ Ok story → slice_get start.tables device ≡ Some t → IsWholeDevice t →
    story.reported ≡ before ++ reported ∷ after → reported.device ≡ device →
    led_to t device before ≡ Scanner u → led_to t device (before ++ reported ∷ []) ≡ Scanner v →
    AllByRecursion (SlotCame u reported.event) (indexed_slots v)
