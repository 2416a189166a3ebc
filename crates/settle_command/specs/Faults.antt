-- What becomes of files that are not settled.
use Rattle.std.specs.Prelude.{ℕ, Option, Some, None}
use Rattle.settle_command.specs.declared.fault.SettleFault.{SettleFault}
use Rattle.settle_command.specs.declared.fault.SettleFault.TheVariants as fault

-- the status of the program: 1 where records do not settle or the output takes nothing, 3 where a file is no record, 7 where there
-- is no memory
abbrev pub status_of : SettleFault → ℕ
status_of fault.Unsettled = 1
status_of fault.Write = 1
status_of (fault.Unread place why) = 3
status_of fault.Middle = 3
status_of (fault.Trace place why) = 3
status_of fault.OutOfMemory = 7

-- the file that the fault is of
abbrev pub file_of : SettleFault → Option ℕ
file_of (fault.Unread place why) = Some place
file_of (fault.Trace place why) = Some place
file_of fault.Middle = Some 0
file_of other = None
