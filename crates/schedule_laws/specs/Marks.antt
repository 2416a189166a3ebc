-- A device sends over a stream only after it has received the mark that the stream has opened (Volume 2, chapter 2,
-- encapsulation sessions over TCP).
use Rattle.std.specs.Prelude.{ℕ, ◌≡◌, ◌==◌, ◌&&◌, Bool, true, List, [], ◌∷◌, ◌++◌, slice_get, Some, Ok}
use Rattle.std.specs.List.{AllByRecursion, list_any}
use Rattle.cip_events.specs.declared.event.Frame.{Frame}
use Rattle.cip_events.specs.declared.event.Recipient.TheVariants as recipient
use Rattle.cip_tables.specs.declared.table.Config.{Config}
use Rattle.cip_tables.specs.declared.table.DeviceTable.{DeviceTable}
use Rattle.segment_world.specs.declared.act.Act.{Act}
use Rattle.segment_world.specs.World.{World, ReportedEvent, happens}
use Rattle.device_laws.specs.OwnStreams.{has_stream, opens_stream}
use Rattle.schedule_laws.specs.Chronicle.{Chronicle}
use Rattle.schedule_laws.specs.Order.{IsChronicle}

-- the event is the device's mark that the stream of this number opens
abbrev pub is_mark : ℕ → ℕ → ReportedEvent → Bool
is_mark device number reported = reported.device == device && opens_stream number reported.event

-- the device received the mark
abbrev pub WasMarked : List ReportedEvent → ℕ → ℕ → Type 0
WasMarked events device number = list_any (is_mark device number) events ≡ true

-- a frame that goes over a stream follows the device's mark
abbrev pub FollowsMark : List ReportedEvent → ℕ → Frame → Type 0
FollowsMark events device frame = (number : ℕ) → frame.to ≡ recipient.Stream number → WasMarked events device number

-- At each moment of every schedule: each stream that is open in a device's table had its mark; and what an act makes a device
-- send over a stream follows the mark.
pub record StreamsFollowMarks (c : Chronicle) : Type 0 where
  pub tables : (device : ℕ) (t : DeviceTable) (number : ℕ) → slice_get c.story.world.tables device ≡ Some t → has_stream t number ≡ true → WasMarked c.story.reported device number
  pub frames : (act : Act) (reported : ReportedEvent) (new : World) → happens c.story.world act ≡ Ok (Some reported, new) → AllByRecursion (FollowsMark (c.story.reported ++ reported ∷ []) reported.device) reported.answer.frames

abbrev pub SchedulesFollowMarks : Type 0
SchedulesFollowMarks = (configs : List Config) (acts : List Act) (c : Chronicle) → IsChronicle configs acts c → StreamsFollowMarks c
