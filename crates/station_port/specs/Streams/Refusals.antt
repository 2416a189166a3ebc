-- What became of a stream that is being opened, by the system's error.
use Rattle.std.specs.Prelude.{Bool, true, false, if◌then◌else◌, Option, Some, None, Result, Ok, Err}
use Rattle.std.specs.IoError.{error_kind}
use Rattle.std.specs.declared.io.Error.{Error}
use Rattle.std.specs.declared.io.ErrorKind.{ErrorKind}
use Rattle.std.specs.declared.io.ErrorKind.TheVariants.{ConnectionRefused, ConnectionReset, ConnectionAborted}
use Rattle.station_port.specs.declared.streams.targets.DialOutcome.{DialOutcome}
use Rattle.station_port.specs.declared.streams.targets.DialOutcome.TheVariants as dial

-- the target of the stream refused it: it answered
abbrev pub is_refusal : ErrorKind → Bool
is_refusal ConnectionRefused = true
is_refusal ConnectionReset = true
is_refusal ConnectionAborted = true
is_refusal kind = false

-- What became of a stream that is being opened, by the system's error of it and whether it has a peer. A target that does
-- not answer, and a system that does not say, are one thing.
abbrev pub dial_outcome : Result (Option Error) Error → Bool → DialOutcome
dial_outcome (Ok None) has_peer = if has_peer then dial.Open else dial.Pending
dial_outcome (Ok (Some error)) has_peer = if is_refusal (error_kind error) then dial.Refused else dial.Unanswered
dial_outcome (Err error) has_peer = dial.Unanswered
