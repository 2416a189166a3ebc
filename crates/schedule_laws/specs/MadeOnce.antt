-- A scanner's request to open makes one connection at most: of each T->O id that a scanner allocated, the requests that wait on
-- streams and the connections that were opened with it are one at most. So two entries of the chronicle with one such id are
-- one entry (Volume 1, chapter 3, network connection ids and Forward_Open service).
use Rattle.std.specs.Prelude.{ℕ, ◌≡◌, ◌+◌, ◌≤◌, ◌==◌, Bool, false, List, slice_get, Some}
use Rattle.std.specs.List.{Contains, count_by, sum_by}
use Rattle.scanner_table.specs.declared.table.ScannerTable.{ScannerTable}
use Rattle.cip_types.specs.Ids.{id_at}
use Rattle.cip_tables.specs.declared.table.Config.{Config}
use Rattle.cip_tables.specs.declared.table.DeviceTable.TheVariants.{Scanner}
use Rattle.segment_world.specs.Transit.Streams.{QueueItem, Opening, Queued, Ending, Side, Stream}
use Rattle.segment_world.specs.declared.act.Act.{Act}
use Rattle.segment_world.specs.World.{World}
use Rattle.device_laws.specs.Requests.{asks_id}
use Rattle.schedule_laws.specs.Chronicle.{Opened, Chronicle}
use Rattle.schedule_laws.specs.Lives.{HasNumber}
use Rattle.schedule_laws.specs.Order.{IsChronicle}

-- HOW OFTEN AN ID IS USED

-- the item is a frame that passes the test
abbrev pub item_passes : (List ℕ → Bool) → QueueItem → Bool
item_passes test Opening = false
item_passes test (Queued bytes) = test bytes
item_passes test Ending = false

abbrev pub side_count : (List ℕ → Bool) → Side → ℕ
side_count test side = count_by (item_passes test) side.queue

abbrev pub stream_count : (List ℕ → Bool) → Stream → ℕ
stream_count test s = side_count test s.forth + side_count test s.back

-- how many frames that wait on the streams pass the test
unfoldable pub waiting_count : (List ℕ → Bool) → List Stream → ℕ
waiting_count test streams = sum_by (stream_count test) streams

abbrev pub has_id : ℕ → Opened → Bool
has_id id opened = opened.t_o_id.0 == id

-- the frames that wait and ask for the T->O id, and the connections that were opened with it
unfoldable pub uses : ℕ → List Stream → List Opened → ℕ
uses id streams opened = waiting_count (asks_id id) streams + count_by (has_id id) opened

-- WHAT HOLDS

-- Each T->O id of a scanner is used once at most, and one that the scanner may still allocate is not used.
pub record IdsAreUsedOnce (w : World) (opened : List Opened) : Type 0 where
  pub once : (device : ℕ) (t : ScannerTable) (number : ℕ) → slice_get w.tables device ≡ Some (Scanner t) → HasNumber (Scanner t) number → uses (id_at t.ids number).0 w.streams opened ≤ 1
  pub unused : (device : ℕ) (t : ScannerTable) (number : ℕ) → slice_get w.tables device ≡ Some (Scanner t) → t.next_id ≤ number → HasNumber (Scanner t) number → uses (id_at t.ids number).0 w.streams opened ≡ 0

-- So it is in every schedule.
abbrev pub SchedulesUseIdsOnce : Type 0
SchedulesUseIdsOnce = (configs : List Config) (acts : List Act) (c : Chronicle) → IsChronicle configs acts c → IdsAreUsedOnce c.story.world c.opened

-- the id is of the blocks of a scanner, as the T->O id of a point to point connection is
pub record IsOfScanner (w : World) (id : ℕ) : Type 0 where
  pub device : ℕ
  pub table : ScannerTable
  pub there : slice_get w.tables device ≡ Some (Scanner table)
  pub number : ℕ
  pub has : HasNumber (Scanner table) number
  pub is : id ≡ (id_at table.ids number).0

-- two entries with one T->O id of a scanner are one entry
abbrev pub OneConnectionHasIt : Chronicle → Type 0
OneConnectionHasIt c =
    (e f : Opened) → Contains c.opened e → Contains c.opened f → IsOfScanner c.story.world e.t_o_id.0 → e.t_o_id.0 ≡ f.t_o_id.0 → e ≡ f

abbrev pub AnIdOpensOneConnection : Type 0
AnIdOpensOneConnection = (configs : List Config) (acts : List Act) (c : Chronicle) → IsChronicle configs acts c → OneConnectionHasIt c
