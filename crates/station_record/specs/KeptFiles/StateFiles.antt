-- What the file of a station's state says.
use Rattle.std.specs.Prelude.{ℕ, ◌==◌, if◌then◌else◌, Option, Some, None, Result, Ok, Err}
use Rattle.trace_files.specs.declared.regular.fault.FileFault.{FileFault}
use Rattle.trace_files.specs.declared.regular.fault.FileFault.TheVariants as file
use Rattle.station_record.specs.declared.kept_state.state.StationState.{StationState}
use Rattle.station_record.specs.declared.kept_files.state_file.StateFault.{StateFault}
use Rattle.station_record.specs.declared.kept_files.state_file.StateFault.TheVariants as fault

-- a file's text is a state, or it is a fault
abbrev pub held_state : Option StationState → Result (Option StationState) StateFault
held_state (Some state) = Ok (Some state)
held_state None = Err fault.NoState

-- a file that is not there is the first start; one that is there has to be read
abbrev pub unread_state : FileFault → Result (Option StationState) StateFault
unread_state file.Missing = Ok None
unread_state file.OutOfMemory = Err fault.OutOfMemory
unread_state other = Err (fault.Unread other)

-- a number that is drawn is a serial number, if it is not 0
abbrev pub drawn_number : ℕ → Option ℕ
drawn_number number = if number == 0 then None else Some number
