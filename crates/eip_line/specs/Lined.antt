-- The output of a run in threads.
use Rattle.std.specs.Prelude.{ℕ, ◌≡◌, Bool, true, List, map, All, codes, Option, Result, Ok, Err}
use Rattle.std.specs.Io.KnownBytes.{Appends}
use Rattle.trace_stepper.specs.Written.{BeginsToWrite}
use Rattle.segment_world.specs.declared.act.Act.{Act}
use Rattle.device_lock.specs.Histories.{HistoryValue}
use Rattle.device_lock.specs.declared.receipt.Receipt.{Receipt}
use Rattle.settling.specs.Search.Histories.{configs_of}
use Rattle.settling.specs.Settlings.{SettlesAll}
use Rattle.line_threads.specs.Accounts.{own_in, HasItsReceipts}
use Rattle.eip_line.specs.LineSetup.Devices.{line_configs}
use Rattle.eip_line.specs.LineSetup.Scripts.{line_scripts}
use Rattle.command_lines.specs.declared.line_task.LineTask.{LineTask}
use Rattle.eip_line.specs.declared.faults.ProgramFault.{ProgramFault}
use Rattle.eip_line.specs.declared.faults.ProgramFault.TheVariants as program

-- the line that is printed when all has settled
abbrev pub settled_line : List ℕ
settled_line = codes "settled\n"

-- There are histories of the line's devices: an adapter, and as many scanners as the task has. What arrived left out, each
-- is its device's script over the task's ticks, each event once and in order. The receipts of a device are for the events of
-- its history, in order and each once. Histories and receipts settle into one schedule.
pub record HasSettled (given : LineTask) : Type 0 where
  pub histories : List HistoryValue
  pub receipts : List Receipt
  pub acts : List Act
  pub devices : configs_of histories ≡ line_configs given.scanners
  pub scripts : map own_in histories ≡ line_scripts given.scanners given.ticks
  pub reported : All (HasItsReceipts receipts) histories
  pub settles : SettlesAll histories receipts acts

-- the devices have settled, and that is printed
abbrev pub SettlesLine : LineTask → Option (List ℕ) → Option (List ℕ) → Type 0
SettlesLine given old new = HasSettled given × Appends old new settled_line

-- The output when a line ends so: none if the devices did not settle. It has no other end.
abbrev pub IsLined : LineTask → Option (List ℕ) → Result Bool ProgramFault → Option (List ℕ) → Type 0
IsLined given old (Ok true) new = SettlesLine given old new
IsLined given old (Err (program.Line fault)) new = new ≡ old
IsLined given old (Err (program.Unsettled fault)) new = new ≡ old
IsLined given old (Err program.Write) new = BeginsToWrite old settled_line new
IsLined given old ended new = ⊥
