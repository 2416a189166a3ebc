-- Why a line over sockets ends early, for each fault that ends it.
use Rattle.cip_events.specs.declared.event.NewFault.{NewFault}
use Rattle.cip_events.specs.declared.event.NewFault.TheVariants as making
use Rattle.cip_events.specs.declared.event.StepFault.{StepFault}
use Rattle.cip_events.specs.declared.event.StepFault.TheVariants as stepping
use Rattle.socket_port.specs.declared.port.OpenFault.{OpenFault}
use Rattle.socket_port.specs.declared.port.OpenFault.TheVariants as opening
use Rattle.udp_runner.specs.declared.fault.PortFault.{PortFault}
use Rattle.udp_runner.specs.declared.fault.PortFault.TheVariants as at_port
use Rattle.udp_runner.specs.declared.fault.RunFault.{RunFault}
use Rattle.udp_runner.specs.declared.fault.RunFault.TheVariants as run
use Rattle.eip_line.specs.declared.socket_loop.fault.LoopFault.{LoopFault}
use Rattle.eip_line.specs.declared.socket_loop.fault.LoopFault.TheVariants as loop

-- a port that could not be opened
abbrev pub of_open : OpenFault → LoopFault
of_open opening.Socket = loop.Port
of_open opening.OutOfMemory = loop.OutOfMemory

-- a device that could not be made
abbrev pub of_new : NewFault → LoopFault
of_new making.OutOfMemory = loop.OutOfMemory
of_new _ = loop.New

-- an event that was refused
abbrev pub of_step : StepFault → LoopFault
of_step stepping.OutOfMemory = loop.OutOfMemory
of_step _ = loop.Step

-- a port that failed
abbrev pub of_port : PortFault → LoopFault
of_port at_port.Memory = loop.OutOfMemory
of_port _ = loop.Port

-- a turn that ended early
abbrev pub of_run : RunFault → LoopFault
of_run (run.Port fault) = of_port fault
of_run (run.Step fault) = of_step fault
