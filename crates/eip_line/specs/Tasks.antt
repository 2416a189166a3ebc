-- The task that a command line requests, and the output when it is done or fails.
use Rattle.std.specs.Prelude.{ℕ, ◌≡◌, ◌⊎◌, Bool, true, false, List, codes, Option, Some, Result, Ok, Err}
use Rattle.std.specs.Io.KnownBytes.{Appends}
use Rattle.trace_stepper.specs.Written.{BeginsToWrite}
use Rattle.command_lines.specs.LineTasks.{Requests, task_of}
use Rattle.eip_line.specs.Faults.{fault_line}
use Rattle.eip_line.specs.Lined.{IsLined, SettlesLine}
use Rattle.eip_line.specs.Looped.{IsLooped, turns_line}
use Rattle.eip_line.specs.Printed.{IsStepped, PrintsRun}
use Rattle.eip_line.specs.Versioned.{IsVersioned, version_line}
use Rattle.eip_line.specs.declared.faults.ProgramFault.{ProgramFault}
use Rattle.command_lines.specs.declared.line_task.Task.{Task}
use Rattle.command_lines.specs.declared.line_task.Task.TheVariants as task

-- all that a task has to print is printed: all outcomes of a trace, the turns of a loop, that a line settles, or the version
abbrev pub Prints : Task → Option (List ℕ) → Option (List ℕ) → Option (List ℕ) → Type 0
Prints task.Step input old new = PrintsRun input old new
Prints (task.Loop given) input old new = Appends old new (turns_line given.turns)
Prints (task.Line given) input old new = SettlesLine given old new
Prints task.Version input old new = Appends old new version_line

-- The output when a task ends so; false if an outcome of a trace is not as recorded.
abbrev pub IsPerformed : Task → Option (List ℕ) → Option (List ℕ) → Option (List ℕ) → Result Bool ProgramFault → Type 0
IsPerformed task.Step input old new ended = IsStepped input old new ended
IsPerformed (task.Loop given) input old new ended = IsLooped given.turns old ended new
IsPerformed (task.Line given) input old new ended = IsLined given old ended new
IsPerformed task.Version input old new ended = IsVersioned old ended new

-- What is reported of a task that ended so with status 1: nothing if an outcome is not as recorded; else the line of the
-- fault, as far as the stream took it.
abbrev pub IsReported : Result Bool ProgramFault → Option (List ℕ) → Option (List ℕ) → Type 0
IsReported (Ok true) silent reported = ⊥
IsReported (Ok false) silent reported = reported ≡ silent
IsReported (Err fault) silent reported = BeginsToWrite silent (fault_line fault) reported

-- a task ended with status 1
abbrev pub FailsTask : Task → Option (List ℕ) → Option (List ℕ) → Option (List ℕ) → Option (List ℕ) → Option (List ℕ) → Type 0
FailsTask requested input old new silent reported = (ended : Result Bool ProgramFault) × (IsPerformed requested input old new ended × IsReported ended silent reported)

-- the task that the words request is done and printed
abbrev pub IsDone : List (List ℕ) → Option (List ℕ) → Option (List ℕ) → Option (List ℕ) → Type 0
IsDone words input old new = (requested : Task) × ((task_of words ≡ Some requested) × Requests words requested × Prints requested input old new)

-- There was no memory to read the words, which is reported; or the requested task failed.
abbrev pub HasFailed : List (List ℕ) → Option (List ℕ) → Option (List ℕ) → Option (List ℕ) → Option (List ℕ) → Option (List ℕ) → Type 0
HasFailed words input old new silent reported = ((new ≡ old) × BeginsToWrite silent (codes "no memory\n") reported) ⊎ ((requested : Task) × ((task_of words ≡ Some requested) × Requests words requested × FailsTask requested input old new silent reported))
