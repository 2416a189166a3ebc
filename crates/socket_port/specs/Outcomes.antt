-- The outcomes of calls of sockets: which failure ends a run, and which a peer can cause.
use Rattle.std.specs.Prelude.{ℕ, ◌≤◌, Bool, true, false, nat_eq, Option, Some, None, Result, Ok, Err, if◌then◌else◌}
use Rattle.std.specs.declared.io.Error.{Error}
use Rattle.std.specs.declared.io.ErrorKind.{ErrorKind}
use Rattle.std.specs.declared.io.ErrorKind.TheVariants.{ConnectionRefused, ConnectionReset, ConnectionAborted, Interrupted, OutOfMemory, WouldBlock}
use Rattle.std.specs.IoError.{error_kind}
use Rattle.udp_runner.specs.declared.fault.PortFault.{PortFault}
use Rattle.udp_runner.specs.declared.fault.PortFault.TheVariants as port
use Rattle.socket_port.specs.declared.outcomes.ReadOutcome.{ReadOutcome}
use Rattle.socket_port.specs.declared.outcomes.ReadOutcome.TheVariants as read

-- a failure that a peer can cause, or that means only that nothing can be received or sent now
abbrev pub is_passing : ErrorKind → Bool
is_passing WouldBlock = true
is_passing Interrupted = true
is_passing ConnectionRefused = true
is_passing ConnectionReset = true
is_passing ConnectionAborted = true
is_passing kind = false

-- a call for a datagram that failed: there is nothing, or the port fails
abbrev pub unless_passing : {T : Type 0} → ErrorKind → T → PortFault → Result T PortFault
unless_passing kind nothing fault = if is_passing kind then Ok nothing else Err fault

-- the datagram that is received
abbrev pub received_of : {T : Type 0} → Result T Error → Result (Option T) PortFault
received_of (Ok datagram) = Ok (Some datagram)
received_of (Err error) = unless_passing (error_kind error) None port.Receive

-- a datagram was sent, or lost as on the network
abbrev pub sent_of : Result ℕ Error → Result Unit PortFault
sent_of (Ok count) = Ok tt
sent_of (Err error) = unless_passing (error_kind error) tt port.Send

-- an accept that failed: there is no connection, but for want of memory
abbrev pub not_accepted : {T : Type 0} → ErrorKind → Result (Option T) PortFault
not_accepted OutOfMemory = Err port.Memory
not_accepted kind = Ok None

-- the connection that is accepted
abbrev pub accepted_of : {T : Type 0} → Result T Error → Result (Option T) PortFault
accepted_of (Ok connection) = Ok (Some connection)
accepted_of (Err error) = not_accepted (error_kind error)

-- a read of a stream that failed: there is nothing yet, or the stream has ended
abbrev pub not_read : ErrorKind → ReadOutcome
not_read WouldBlock = read.Nothing
not_read Interrupted = read.Nothing
not_read kind = read.End

-- the bytes of a stream that are read: none if its peer has ended it
abbrev pub read_of : Result ℕ Error → ReadOutcome
read_of (Ok count) = if nat_eq count 0 then read.End else read.Bytes count
read_of (Err error) = not_read (error_kind error)

-- no more bytes were read than the buffer has
abbrev pub Fits : ReadOutcome → ℕ → Type 0
Fits read.Nothing space = Unit {0}
Fits (read.Bytes count) space = count ≤ space
Fits read.End space = Unit {0}
