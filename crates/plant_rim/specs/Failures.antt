-- Why a device of a plant fails, by what failed.
use Rattle.cip_events.specs.declared.event.NewFault.{NewFault}
use Rattle.cip_events.specs.declared.event.NewFault.TheVariants as new
use Rattle.station.specs.declared.fault.EarlyEnd.{EarlyEnd}
use Rattle.station.specs.declared.fault.EarlyEnd.TheVariants as early
use Rattle.station_port.specs.declared.fault.StationFault.{StationFault}
use Rattle.station_port.specs.declared.fault.StationFault.TheVariants as port
use Rattle.station_record.specs.declared.fault.RecordFault.{RecordFault}
use Rattle.station_record.specs.declared.fault.RecordFault.TheVariants as record_fault
use Rattle.plant_rim.specs.declared.failure.DeviceFailure.{DeviceFailure}
use Rattle.plant_rim.specs.declared.failure.DeviceFailure.TheVariants.{Socket, Record, Early, Profile, OutOfMemory}

-- its port cannot be opened
abbrev pub port_failure : StationFault → DeviceFailure
port_failure (port.Socket socket cause) = Socket socket cause
port_failure port.OutOfMemory = OutOfMemory

-- its record cannot be begun
abbrev pub record_failure : RecordFault → DeviceFailure
record_failure record_fault.Refused = Record
record_failure record_fault.Full = Record
record_failure record_fault.OutOfMemory = OutOfMemory

-- its life ended before its time
abbrev pub early_failure : EarlyEnd → DeviceFailure
early_failure early.OutOfMemory = OutOfMemory
early_failure other = Early other

-- its profile makes no device
abbrev pub new_failure : NewFault → DeviceFailure
new_failure new.OutOfMemory = OutOfMemory
new_failure other = Profile
