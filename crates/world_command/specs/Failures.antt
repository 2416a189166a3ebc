-- Why a story is not played to its end, and the status of the program then.
use Rattle.std.specs.Prelude.{ℕ}
use Rattle.trace_files.specs.declared.regular.fault.FileFault.{FileFault}
use Rattle.trace_files.specs.declared.regular.fault.FileFault.TheVariants as file
use Rattle.world_command.specs.declared.failure.WorldFailure.{WorldFailure}
use Rattle.world_command.specs.declared.failure.WorldFailure.TheVariants as failure

-- 1 where the output takes nothing, 3 where the story or a profile is bad, 7 where there is no memory
abbrev pub status_of : WorldFailure → ℕ
status_of (failure.Unread why) = 3
status_of (failure.Line number why) = 3
status_of (failure.LateDevice number) = 3
status_of (failure.UnreadProfile number why) = 3
status_of (failure.Profile number why) = 3
status_of (failure.Events number) = 3
status_of (failure.World number why) = 3
status_of failure.Write = 1
status_of failure.OutOfMemory = 7

-- why the file of a story is not read
abbrev pub unread_story : FileFault → WorldFailure
unread_story file.OutOfMemory = failure.OutOfMemory
unread_story other = failure.Unread other

-- why the file of the profile in a line is not read
abbrev pub unread_profile : ℕ → FileFault → WorldFailure
unread_profile number file.OutOfMemory = failure.OutOfMemory
unread_profile number other = failure.UnreadProfile number other
