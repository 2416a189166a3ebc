-- Why a slot of a scanner is not open: what it waits for (Volume 1, chapter 3, Forward_Open service; Volume 2, chapter 2,
-- encapsulation sessions).
use Rattle.std.specs.Prelude.{ℕ, ◌-◌, if◌then◌else◌, find, slice_get, Option, Some, None}
use Rattle.cip_tables.specs.declared.table.DeviceTable.{DeviceTable}
use Rattle.cip_tables.specs.declared.table.DeviceTable.TheVariants.{Adapter, Scanner}
use Rattle.cip_types.specs.declared.names.Node.{Node}
use Rattle.station_lines.specs.declared.watch.waits.SlotWait.{SlotWait}
use Rattle.station_lines.specs.declared.watch.waits.SlotWait.TheVariants as wait
use Rattle.scanner_table.specs.declared.slot.Slot.{Slot}
use Rattle.scanner_table.specs.declared.table.ScannerTable.{ScannerTable}
use Rattle.scanner_table.specs.declared.table.Stage.{Stage}
use Rattle.scanner_table.specs.declared.table.Stage.TheVariants.{Waiting, Up, Unused}
use Rattle.scanner_table.specs.declared.table.TargetStream.{TargetStream}
use Rattle.scanner_table.specs.Sessions.{is_to}
use Rattle.scanner_table.specs.Slots.{is_closed}

-- over a session, a slot opens at its next try
abbrev pub stage_wait : (retry clock : ℕ) → Stage → SlotWait
stage_wait retry clock Waiting = wait.NoSession
stage_wait retry clock Unused = wait.NoSession
stage_wait retry clock (Up handle) = wait.Later (retry - clock)

abbrev pub stream_wait : (retry clock : ℕ) → Option TargetStream → SlotWait
stream_wait retry clock None = wait.NoStream
stream_wait retry clock (Some stream) = stage_wait retry clock stream.stage

-- a slot that a call has stopped, or none has started, waits for a call; another one that has no connection for a stream to its
-- target, then for a session on it, then for its next try
abbrev pub wait_of : ScannerTable → Node → Slot → SlotWait
wait_of t target slot =
    if is_closed slot.state then (if slot.desired_up then stream_wait slot.retry_at.0 t.clock.0 (find (is_to target) t.streams) else wait.Stopped)
    else wait.Nothing

abbrev pub wait_with : ScannerTable → Node → Option Slot → SlotWait
wait_with t target None = wait.Nothing
wait_with t target (Some slot) = wait_of t target slot

-- what the slot of a number waits for, of this target; an adapter has none
abbrev pub wait_at : DeviceTable → ℕ → Node → SlotWait
wait_at (Adapter t) number target = wait.Nothing
wait_at (Scanner t) number target = wait_with t target (slice_get t.slots number)
