-- Why a file of a trace is not read to its end, the status of the program then, and when an output is not read.
use Rattle.std.specs.Prelude.{ℕ, Bool, true, false}
use Rattle.std.specs.declared.io.ErrorKind.{ErrorKind}
use Rattle.std.specs.declared.io.ErrorKind.TheVariants as kind
use Rattle.trace_files.specs.declared.regular.fault.FileFault.{FileFault}
use Rattle.trace_files.specs.declared.regular.fault.FileFault.TheVariants as file
use Rattle.trace_commands.specs.declared.fault.TracesFault.{TracesFault}
use Rattle.trace_commands.specs.declared.fault.TracesFault.TheVariants as traces

-- why the file at this index is not read: for lack of memory, or for a reason of its own
abbrev pub unread_fault : ℕ → FileFault → TracesFault
unread_fault place file.OutOfMemory = traces.OutOfMemory
unread_fault place other = traces.Unread place other

-- why it is not read to its end once it is open
abbrev pub broken_fault : ℕ → ErrorKind → TracesFault
broken_fault place kind.OutOfMemory = traces.OutOfMemory
broken_fault place _ = traces.Unread place file.Unread

-- the status of the program where files are no trace, or are not played to their end
abbrev pub traces_status : TracesFault → ℕ
traces_status (traces.Unread place why) = 3
traces_status (traces.Trace fault) = 3
traces_status traces.NoTrace = 3
traces_status traces.Events = 3
traces_status traces.Scanner = 3
traces_status traces.Differs = 1
traces_status traces.Write = 1
traces_status traces.OutOfMemory = 7

-- an error says that nobody reads a pipe any more
abbrev pub is_unread_pipe : ErrorKind → Bool
is_unread_pipe kind.BrokenPipe = true
is_unread_pipe _ = false
