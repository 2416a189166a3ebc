-- What a fault of a turn means for a station.
use Rattle.std.specs.Prelude.{ℕ, ◌+◌, nat_le, if◌then◌else◌, Option, Some, None, Result, Ok, Err}
use Rattle.cip_events.specs.declared.event.StepFault.TheVariants as step
use Rattle.udp_runner.specs.declared.fault.PortFault.TheVariants as port
use Rattle.udp_runner.specs.declared.fault.RunFault.{RunFault}
use Rattle.udp_runner.specs.declared.fault.RunFault.TheVariants as run
use Rattle.station.specs.declared.fault.EarlyEnd.{EarlyEnd}
use Rattle.station.specs.declared.fault.EarlyEnd.TheVariants as station

-- the fault that ends the station; none if it goes on, as after a datagram that could not be sent
abbrev pub end_after : RunFault → Option EarlyEnd
end_after (run.Port port.Memory) = Some station.OutOfMemory
end_after (run.Port port.Receive) = None
end_after (run.Port port.Send) = None
end_after (run.Step step.OutOfMemory) = Some station.OutOfMemory
end_after (run.Step fault) = Some station.Clock

-- one failure of the port more: the one that follows 1,000 in a row ends the station
abbrev pub counted : ℕ → Result ℕ EarlyEnd
counted failures = if nat_le 1000 failures then Err station.Port else Ok (failures + 1)

abbrev pub unless_ended : ℕ → Option EarlyEnd → Result ℕ EarlyEnd
unless_ended failures (Some end) = Err end
unless_ended failures None = counted failures

-- the failures in a row after a turn, with so many before it: a turn without a fault begins the count anew
abbrev pub failures_after_turn : ℕ → Result ℕ RunFault → Result ℕ EarlyEnd
failures_after_turn failures (Ok events) = Ok 0
failures_after_turn failures (Err fault) = unless_ended failures (end_after fault)

-- the failures in a row after a call: one that the device refuses, or that is sent, does not change them
abbrev pub failures_after_call : ℕ → Result Unit RunFault → Result ℕ EarlyEnd
failures_after_call failures (Ok done) = Ok failures
failures_after_call failures (Err (run.Port fault)) = counted failures
failures_after_call failures (Err (run.Step step.OutOfMemory)) = Err station.OutOfMemory
failures_after_call failures (Err (run.Step fault)) = Ok failures
