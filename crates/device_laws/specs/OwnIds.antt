-- Which T->O ids a scanner's requests to open ask for, whoever reads them: a multicast request leaves the id to the adapter, and
-- another asks for an id that the scanner drew (Volume 1, chapter 3, Forward_Open service, network connection ids).
use Rattle.std.specs.Prelude.{ℕ, ◌≡◌, ◌⊎◌, ◌<◌, ◌≤◌, true, List, Ok}
use Rattle.std.specs.List.{AllByRecursion}
use Rattle.cip_types.specs.Ids.{end_number, id_at}
use Rattle.cip_types.specs.declared.ids.IdBlock.{IdBlock}
use Rattle.cip_events.specs.declared.event.Answer.{Answer}
use Rattle.cip_events.specs.declared.event.Event.{Event}
use Rattle.cip_events.specs.declared.event.Frame.{Frame}
use Rattle.cip_fwdopen.specs.Open.{OpenFields}
use Rattle.adapter_table.specs.Checks.{is_multicast}
use Rattle.scanner_table.specs.declared.table.ScannerTable.{ScannerTable}
use Rattle.scanner_table.specs.Step.{scanner_step}
use Rattle.cip_tables.specs.declared.table.DeviceTable.TheVariants.{Scanner}
use Rattle.cip_tables.specs.Whole.{IsWholeDevice}
use Rattle.device_laws.specs.Frames.{OpeningsAre}

-- the id is one of the blocks
pub record IsDrawnId (ids : List IdBlock) (id : ℕ) : Type 0 where
  pub number : ℕ
  pub is : id ≡ (id_at ids number).0
  pub begins : 1 ≤ number
  pub ends : number < end_number ids

abbrev pub AsksOwnId : List IdBlock → OpenFields → Type 0
AsksOwnId ids request = (is_multicast request.t_o_params.kind ≡ true) ⊎ IsDrawnId ids request.t_o_id.0

abbrev pub FrameAsks : List IdBlock → Frame → Type 0
FrameAsks ids frame = OpeningsAre (AsksOwnId ids) frame.bytes

-- so it is of each frame that a scanner sends at an event
abbrev pub ScannersAskOwnIds : Type 0
ScannersAskOwnIds =
    (t : ScannerTable) (event : Event) (answer : Answer) (next : ScannerTable) →
    scanner_step t event ≡ Ok (answer, next) → IsWholeDevice (Scanner t) → AllByRecursion (FrameAsks t.ids) answer.frames
