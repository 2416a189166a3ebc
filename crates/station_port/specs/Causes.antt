-- Why a socket cannot be made, by the system's error.
use Rattle.std.specs.declared.io.ErrorKind.{ErrorKind}
use Rattle.std.specs.declared.io.ErrorKind.TheVariants.{AddrInUse, AddrNotAvailable, PermissionDenied}
use Rattle.station_port.specs.declared.fault.SocketCause.{SocketCause}
use Rattle.station_port.specs.declared.fault.SocketCause.TheVariants as cause

abbrev pub cause_of : ErrorKind → SocketCause
cause_of AddrInUse = cause.InUse
cause_of AddrNotAvailable = cause.NoAddress
cause_of PermissionDenied = cause.NotAllowed
cause_of kind = cause.Other
