-- Which fault of a run the fault of one of its parts is, and the line that reports a fault.
use Rattle.std.specs.Prelude.{ℕ, List, ◌++◌, codes, decimal}
use Rattle.trace_text.specs.declared.trace.TraceFault.{TraceFault}
use Rattle.trace_text.specs.declared.trace.TraceFault.TheVariants as trace
use Rattle.trace_stepper.specs.declared.stepper.StepperFault.{StepperFault}
use Rattle.trace_stepper.specs.declared.stepper.StepperFault.TheVariants as stepper
use Rattle.eip_line.specs.declared.socket_loop.fault.LoopFault.TheVariants as loop
use Rattle.line_threads.specs.declared.fault.LineFault.TheVariants as line
use Rattle.settling.specs.declared.settled.Unsettled.TheVariants as unsettled
use Rattle.eip_line.specs.declared.faults.ProgramFault.{ProgramFault}
use Rattle.eip_line.specs.declared.faults.ProgramFault.TheVariants as program

abbrev pub program_fault_of_trace : TraceFault → ProgramFault
program_fault_of_trace (trace.BadLine number) = program.BadLine number
program_fault_of_trace (trace.BadProfile number) = program.BadProfile number
program_fault_of_trace trace.OutOfMemory = program.OutOfMemory

-- A trace that was read has a good profile, and is played at a device of its own kind: no other fault is left.
abbrev pub program_fault_of_step : StepperFault → ProgramFault
program_fault_of_step stepper.Write = program.Write
program_fault_of_step stepper.Profile = program.OutOfMemory
program_fault_of_step stepper.OutOfMemory = program.OutOfMemory
program_fault_of_step stepper.WrongKind = program.OutOfMemory

-- a line of a word and a number
abbrev pub numbered_line : List ℕ → ℕ → List ℕ
numbered_line word number = word ++ (decimal number ++ codes "\n")

-- the line that reports a fault
abbrev pub fault_line : ProgramFault → List ℕ
fault_line program.TooLong = codes "too long\n"
fault_line (program.BadLine number) = numbered_line (codes "bad line ") number
fault_line (program.BadProfile number) = numbered_line (codes "bad profile ") number
fault_line program.OutOfMemory = codes "no memory\n"
fault_line program.Read = codes "fault Read\n"
fault_line program.Write = codes "fault Write\n"
fault_line (program.Loop loop.Port) = codes "fault Port\n"
fault_line (program.Loop loop.New) = codes "fault New\n"
fault_line (program.Loop loop.Step) = codes "fault Step\n"
fault_line (program.Loop loop.OutOfMemory) = codes "no memory\n"
fault_line (program.Line (line.Step fault)) = codes "fault Step\n"
fault_line (program.Line line.TraceFull) = codes "fault TraceFull\n"
fault_line (program.Line line.Gate) = codes "fault Gate\n"
fault_line (program.Line line.OutOfMemory) = codes "no memory\n"
fault_line (program.Line line.World) = codes "fault World\n"
fault_line (program.Line line.StreamFull) = codes "fault StreamFull\n"
fault_line (program.Unsettled (unsettled.Foreign device index)) = codes "fault Foreign\n"
fault_line (program.Unsettled (unsettled.Missing device index)) = codes "fault Missing\n"
fault_line (program.Unsettled (unsettled.Uncaused device index)) = codes "fault Uncaused\n"
fault_line (program.Unsettled unsettled.OutOfMemory) = codes "no memory\n"
