-- Why a file is not read.
use Rattle.std.specs.Prelude.{ℕ, nat_lt, Bool}
use Rattle.std.specs.declared.io.ErrorKind.{ErrorKind}
use Rattle.std.specs.declared.io.ErrorKind.TheVariants as kind
use Rattle.trace_files.specs.declared.regular.fault.FileFault.{FileFault}
use Rattle.trace_files.specs.declared.regular.fault.FileFault.TheVariants as fault

-- by the kind of the system's error
abbrev pub fault_of : ErrorKind → FileFault
fault_of kind.NotFound = fault.Missing
fault_of kind.OutOfMemory = fault.OutOfMemory
fault_of _ = fault.Unread

-- a file has at most so many bytes
abbrev pub is_too_long : ℕ → ℕ → Bool
is_too_long len most = nat_lt most len
