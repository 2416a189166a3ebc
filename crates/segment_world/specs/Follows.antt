-- The outcome of an act.
use Rattle.std.specs.Prelude.{◌≡◌, ◌≢◌, Bool, true, false, Option, Result, Ok, Err, IsOk}
use Rattle.std.specs.Option.{option_map}
use Rattle.cip_events.specs.declared.event.Answer.{Answer}
use Rattle.cip_events.specs.declared.event.StepFault.TheVariants as step_fault
use Rattle.segment_world.specs.declared.act.Act.{Act}
use Rattle.segment_world.specs.declared.act.Act.TheVariants.{Local, Deliver, NextFrame, OpenStream, CutStream}
use Rattle.segment_world.specs.declared.act.ActFault.{ActFault}
use Rattle.segment_world.specs.declared.act.ActFault.TheVariants.{NoSuchDevice, NeverSent, StreamEmpty, NoSuchStream, Step, OutOfMemory}
use Rattle.segment_world.specs.World.{World, ReportedEvent, Happened}

abbrev pub answer_of : ReportedEvent → Answer
answer_of reported = reported.answer

-- the act is possible, whatever the device's step answers
abbrev pub IsPossible : Happened → Type 0
IsPossible (Ok done) = Unit {0}
IsPossible (Err (Step fault)) = Unit {0}
IsPossible (Err NoSuchDevice) = ⊥
IsPossible (Err NeverSent) = ⊥
IsPossible (Err StreamEmpty) = ⊥
IsPossible (Err NoSuchStream) = ⊥
IsPossible (Err OutOfMemory) = ⊥

-- An act has this outcome and leads from old to new, where `said` is what happens by the definition. The world may find no
-- memory if the act is possible, and the device if its step has an answer. After any fault the world is unchanged.
abbrev pub ActFollows : Happened → World → Result (Option Answer) ActFault → World → Type 0
ActFollows said old (Ok answer) new = (reported : Option ReportedEvent) × (said ≡ Ok (reported, new)) × (answer ≡ option_map answer_of reported)
ActFollows said old (Err OutOfMemory) new = IsPossible said × (new ≡ old)
ActFollows said old (Err (Step step_fault.OutOfMemory)) new = IsOk said × (new ≡ old)
ActFollows said old (Err fault) new = (said ≡ Err fault) × (new ≡ old)

-- The act takes no memory: a datagram is in the log already, and a cut only drops frames.
abbrev pub takes_no_memory : Act → Bool
takes_no_memory (Local device call) = false
takes_no_memory (Deliver index device) = true
takes_no_memory (NextFrame stream direction) = false
takes_no_memory (OpenStream from to) = false
takes_no_memory (CutStream stream) = true

-- neither the world nor a device found no memory
abbrev pub NeverOutOfMemory : Result (Option Answer) ActFault → Type 0
NeverOutOfMemory answered = (answered ≢ Err OutOfMemory) × (answered ≢ Err (Step step_fault.OutOfMemory))
