-- Why the program fails, what its line names, and its status.
use Rattle.std.specs.Prelude.{ℕ, if◌then◌else◌, Bool, true, false, Result, Ok, Err, Option, Some, None}
use Rattle.cip_events.specs.Faults.{fault_number}
use Rattle.cip_events.specs.declared.event.NewFault.{NewFault}
use Rattle.cip_events.specs.declared.event.NewFault.TheVariants as new
use Rattle.station.specs.declared.fault.EarlyEnd.{EarlyEnd}
use Rattle.station.specs.declared.fault.EarlyEnd.TheVariants as early
use Rattle.station_port.specs.declared.fault.StationFault.{StationFault}
use Rattle.station_port.specs.declared.fault.StationFault.TheVariants as port
use Rattle.station_record.specs.declared.fault.RecordFault.{RecordFault}
use Rattle.station_record.specs.declared.fault.RecordFault.TheVariants as record_fault
use Rattle.station_record.specs.declared.kept_files.state_file.StateFault.{StateFault}
use Rattle.station_record.specs.declared.kept_files.state_file.StateFault.TheVariants as state
use Rattle.station_setup.specs.Opening.Places.{no_place}
use Rattle.station_setup.specs.declared.opening.places.SocketPlace.{SocketPlace}
use Rattle.station_setup.specs.declared.opening.profiles.UnusableProfile.{UnusableProfile}
use Rattle.station_setup.specs.declared.opening.profiles.UnusableProfile.TheVariants as profile
use Rattle.station_setup.specs.declared.reports.ReportFault.{ReportFault}
use Rattle.station_setup.specs.declared.reports.ReportFault.TheVariants as report
use Rattle.trace_commands.specs.declared.fault.TracesFault.TheVariants as traces
use Rattle.trace_text.specs.declared.trace.TraceFault.{TraceFault}
use Rattle.trace_text.specs.declared.trace.TraceFault.TheVariants as trace
use Rattle.plant_command.specs.declared.failure.PlantFailure.TheVariants as plant
use Rattle.settle_command.specs.Faults.{file_of}
use Rattle.world_command.specs.declared.failure.WorldFailure.TheVariants as world
use Rattle.station_port.specs.declared.fault.SocketCause.TheVariants as cause
use Rattle.command_lines.specs.declared.station_options.StationMisuse.TheVariants as misuse
use Rattle.identity_search.specs.Statuses.{search_status}
use Rattle.plant_command.specs.Statuses.{is_reported as is_plant_reported, status_of as plant_status}
use Rattle.settle_command.specs.Faults.{status_of as settle_status}
use Rattle.trace_commands.specs.Unread.{traces_status}
use Rattle.world_command.specs.Failures.{status_of as world_status}
use Rattle.eip_station.specs.declared.failure.Failure.{Failure}
use Rattle.eip_station.specs.declared.failure.Failure.TheVariants as failure
use Rattle.eip_station.specs.declared.failure.Subject.{Subject}
use Rattle.eip_station.specs.declared.failure.Subject.TheVariants as subject

-- 1 after an early end, where the output takes nothing or no device answers, 2 after a wrong word, 3 after a bad profile or state, 4 after an
-- address that is none, 5 where a socket cannot be made, 6 where the record, the state or the report cannot be written, 7 where
-- there is no memory, 8 where a script has not passed
abbrev pub status_of : Failure → ℕ
status_of (failure.Early end) = 1
status_of failure.Output = 1
status_of failure.Unheard = 1
status_of (failure.Traces fault) = traces_status fault
status_of (failure.Settling fault) = settle_status fault
status_of (failure.World why) = world_status why
status_of (failure.Search fault) = search_status fault
status_of (failure.Plant why) = plant_status why
status_of (failure.Words (misuse.BadAddress left)) = 4
status_of (failure.Words other) = 2
status_of (failure.Unread why) = 3
status_of (failure.Profile fault) = 3
status_of failure.Events = 3
status_of failure.WrongKind = 3
status_of failure.Unserved = 3
status_of (failure.UnreadState why) = 3
status_of failure.State = 3
status_of failure.Script = 3
status_of (failure.Socket socket cause.NoAddress place) = 4
status_of (failure.Socket socket _ place) = 5
status_of failure.Token = 5
status_of failure.Record = 6
status_of failure.RecordEnd = 6
status_of failure.NoState = 6
status_of (failure.Report why) = 6
status_of failure.Unpassed = 8
status_of failure.Thread = 7
status_of failure.OutOfMemory = 7

-- the failures of which a line has told already, or none is to
abbrev pub is_reported : Failure → Bool
is_reported (failure.Profile fault) = true
is_reported failure.Unserved = true
is_reported failure.Unheard = true
is_reported (failure.UnreadState why) = true
is_reported failure.State = true
is_reported failure.NoState = true
is_reported failure.Script = true
is_reported failure.Unpassed = true
is_reported failure.RecordEnd = true
is_reported (failure.Plant why) = is_plant_reported why
is_reported other = false

-- the status behind what the program did
abbrev pub end_status : Result Unit Failure → ℕ
end_status (Ok done) = 0
end_status (Err why) = status_of why

-- how a task ends that writes a text or a capture file: if nobody reads on, nothing is said of it
abbrev pub unread_end : Result Unit Failure → (is_unread : Bool) → Result Unit Failure
unread_end (Ok done) is_unread = Ok done
unread_end (Err why) is_unread = if is_unread then Err failure.Unheard else Err why

-- WHAT FAILED

-- a text is no trace, or no profile
abbrev pub trace_failure : TraceFault → Failure
trace_failure trace.OutOfMemory = failure.OutOfMemory
trace_failure other = failure.Profile other

-- a file gives no profile of a station
abbrev pub profile_failure : UnusableProfile → Failure
profile_failure (profile.Unread why) = failure.Unread why
profile_failure (profile.Bad why sentence) = trace_failure why
profile_failure profile.Events = failure.Events
profile_failure (profile.Unserved sentence) = failure.Unserved
profile_failure profile.OutOfMemory = failure.OutOfMemory

-- a socket at this place cannot be made
abbrev pub failure_at : StationFault → SocketPlace → Failure
failure_at (port.Socket socket cause) place = failure.Socket socket cause place
failure_at port.OutOfMemory place = failure.OutOfMemory

abbrev pub port_failure : StationFault → Failure
port_failure fault = failure_at fault no_place

-- a profile makes no device
abbrev pub new_failure : NewFault → Failure
new_failure new.OutOfMemory = failure.OutOfMemory
new_failure new.WrongKind = failure.WrongKind
new_failure (new.Profile first) = failure.Profile (trace.BadProfile (fault_number first))

-- there is no state to begin with
abbrev pub state_failure : StateFault → Failure
state_failure (state.Unread why) = failure.UnreadState why
state_failure state.NoState = failure.State
state_failure state.Unwritten = failure.NoState
state_failure state.OutOfMemory = failure.OutOfMemory

-- where a report is not written
abbrev pub report_failure : ReportFault → Failure
report_failure report.OutOfMemory = failure.OutOfMemory
report_failure other = failure.Report other

-- a record cannot be begun
abbrev pub record_failure : RecordFault → Failure
record_failure record_fault.OutOfMemory = failure.OutOfMemory
record_failure record_fault.Refused = failure.Record
record_failure record_fault.Full = failure.Record

-- a life ended before its time
abbrev pub early_failure : EarlyEnd → Failure
early_failure early.OutOfMemory = failure.OutOfMemory
early_failure other = failure.Early other

-- WHAT THE LINE OF A FAILURE NAMES

abbrev pub file_subject : Option ℕ → Subject
file_subject (Some place) = subject.File place
file_subject None = subject.Nothing

-- the wrong word, or the file that is not what it is to be, or the record
abbrev pub subject_in : Failure → Subject
subject_in (failure.Words misuse) = subject.Word misuse
subject_in (failure.Unread why) = subject.File 0
subject_in failure.Events = subject.File 0
subject_in failure.WrongKind = subject.File 0
subject_in (failure.World world.Write) = subject.Nothing
subject_in (failure.World world.OutOfMemory) = subject.Nothing
subject_in (failure.World other) = subject.File 0
subject_in (failure.Plant (plant.Unread why)) = subject.File 0
subject_in (failure.Traces traces.Events) = subject.File 0
subject_in (failure.Traces traces.Scanner) = subject.File 0
subject_in (failure.Traces (traces.Unread place why)) = subject.File place
subject_in (failure.Settling fault) = file_subject (file_of fault)
subject_in failure.Record = subject.Record
subject_in other = subject.Nothing
