-- Why a plant fails, and the status of the program then.
use Rattle.std.specs.Prelude.{ℕ, Bool, true, false}
use Rattle.trace_files.specs.declared.regular.fault.FileFault.{FileFault}
use Rattle.trace_files.specs.declared.regular.fault.FileFault.TheVariants as file
use Rattle.plant_rim.specs.declared.failure.DeviceFailure.{DeviceFailure}
use Rattle.plant_rim.specs.declared.failure.DeviceFailure.TheVariants as device
use Rattle.station_port.specs.declared.fault.SocketCause.TheVariants.{NoAddress}
use Rattle.station_setup.specs.declared.reports.ReportFault.{ReportFault}
use Rattle.station_setup.specs.declared.reports.ReportFault.TheVariants as report
use Rattle.plant_command.specs.declared.failure.PlantFailure.{PlantFailure}
use Rattle.plant_command.specs.declared.failure.PlantFailure.TheVariants as failure

-- as that of a station which fails so
abbrev pub device_status : DeviceFailure → ℕ
device_status (device.Socket socket NoAddress) = 4
device_status (device.Socket socket cause) = 5
device_status device.Record = 6
device_status device.RecordEnd = 6
device_status (device.Early end) = 1
device_status device.Profile = 3
device_status device.OutOfMemory = 7

abbrev pub status_of : PlantFailure → ℕ
status_of (failure.Unread why) = 3
status_of failure.Bad = 3
status_of failure.Folder = 6
status_of (failure.Report why) = 6
status_of failure.Script = 8
status_of (failure.Device why) = device_status why
status_of failure.Clock = 1
status_of failure.OutOfMemory = 7

-- the failures of which a line has told already
abbrev pub is_reported : PlantFailure → Bool
is_reported failure.Bad = true
is_reported (failure.Device why) = true
is_reported failure.Script = true
is_reported other = false

-- why the file of a plant is not read
abbrev pub unread_plant : FileFault → PlantFailure
unread_plant file.OutOfMemory = failure.OutOfMemory
unread_plant other = failure.Unread other

-- where a report is not written
abbrev pub report_failure : ReportFault → PlantFailure
report_failure report.OutOfMemory = failure.OutOfMemory
report_failure other = failure.Report other
