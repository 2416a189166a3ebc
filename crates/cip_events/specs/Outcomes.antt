-- The outcomes of events, and their relation to the steps of a table.
use Rattle.std.specs.Prelude.{◌≡◌, Bool, true, false, Result, Ok, Err, IsOk}
use Rattle.cip_events.specs.declared.event.Answer.{Answer}
use Rattle.cip_events.specs.declared.event.StepFault.{StepFault}
use Rattle.cip_events.specs.declared.event.StepFault.TheVariants.{OutOfMemory}

-- the outcome of an event
abbrev pub Outcome : Type 0
Outcome = Result Answer StepFault

-- The outcome and the new table follow from the step of the old one. Out of memory comes only where the step has
-- an answer. After any fault the table is unchanged.
abbrev pub Follows : {T : Type 0} → Result (Answer × T) StepFault → T → Outcome → T → Type 0
Follows said old (Ok answer) new = said ≡ Ok (answer, new)
Follows said old (Err OutOfMemory) new = IsOk said × (new ≡ old)
Follows said old (Err fault) new = (said ≡ Err fault) × (new ≡ old)

-- the outcome is not out of memory
abbrev pub found_memory : Outcome → Bool
found_memory (Ok answer) = true
found_memory (Err OutOfMemory) = false
found_memory (Err fault) = true
