-- When a page gets its next snapshot.
use Rattle.std.specs.Prelude.{ℕ, ◌-◌, max, Bool, true, false, Option, Some, None}
use Rattle.adapter_table.specs.declared.report.ConnectionReport.{ConnectionReport}
use Rattle.adapter_table.specs.declared.row.Mode.{Mode}
use Rattle.adapter_table.specs.declared.row.Mode.TheVariants as mode

-- the milliseconds from one snapshot to the next: 20 behind a change of owner, mode or state, 200 behind another event, else 500
abbrev pub pause_between : Bool → Bool → ℕ
pause_between true moved = 20
pause_between false true = 200
pause_between false false = 500

-- A turn waits at most so long for a snapshot that follows the last one by this pause, if so many milliseconds have passed: 10 if
-- it is due, since its place was taken, or there was no memory.
abbrev pub rest_until : ℕ → ℕ → ℕ
rest_until pause passed = max 10 (pause - passed)

abbrev pub mode_code : Option Mode → ℕ
mode_code None = 1
mode_code (Some mode.Idle) = 2
mode_code (Some mode.Run) = 3

-- who owns an output: 0 for nobody, else the mode of the owner's newest data
abbrev pub owner_code : Option ConnectionReport → ℕ
owner_code None = 0
owner_code (Some owner) = mode_code owner.mode
