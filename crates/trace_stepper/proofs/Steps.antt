-- Steps of a stepper.
use Rattle.std.proofs.Common.{suc, ◌≡◌, ◌≢◌, ℕ, ◌+◌, ◌<◌, List, [], ◌∷◌, ◌++◌, drop, length, get_or, drop-cons, subst, Some, None, Result, Ok, Err, refl, sym, ap, ◌∙◌, arith, append_assoc, Option, Bool, true}
use Rattle.cip_events.specs.declared.event.Answer.{Answer}
use Rattle.cip_events.specs.declared.event.StepFault.{StepFault}
use Rattle.cip_events.specs.declared.event.StepFault.TheVariants as step_fault
use Rattle.cip_tables.specs.declared.table.DeviceTable.{DeviceTable}
use Rattle.cip_tables.specs.Step.{step, opening_table}
use Rattle.cip_events.specs.Outcomes.{Outcome, Follows}
use Rattle.cip_tables.specs.Run.{outcome_of, table_of, outcomes_of}
use Rattle.trace_text.specs.declared.trace.Trace.{Trace}
use Rattle.trace_text.specs.Reading.{Entry}
use Rattle.cip_events.specs.declared.profile_fault.ProfileFault.{ProfileFault}
use Rattle.trace_stepper.specs.declared.stepper.StepperFault.{StepperFault}
use Rattle.trace_stepper.specs.declared.stepper.StepperFault.TheVariants as stepper
use Rattle.trace_stepper.specs.Stepping.{events_of, outcomes_of_trace, MovesOn, IsRefused}

-- an outcome that is no want of memory is the step's
pub follows_said : (said : Result (Answer × DeviceTable) StepFault) (old new : DeviceTable) (outcome : Outcome) → Follows said old outcome new → outcome ≢ Err step_fault.OutOfMemory → (outcome ≡ outcome_of said) × (new ≡ table_of old said)
follows_said said old new (Ok answer) h found = rw h (refl, refl)
follows_said said old new (Err step_fault.OutOfMemory) h found = absurd (found refl)
follows_said said old new (Err step_fault.TickTooLong) h found = rw h.0 (refl, h.1)
follows_said said old new (Err step_fault.ClockEnd) h found = rw h.0 (refl, h.1)
follows_said said old new (Err step_fault.NoSuchPoint) h found = rw h.0 (refl, h.1)
follows_said said old new (Err step_fault.WrongLength) h found = rw h.0 (refl, h.1)
follows_said said old new (Err step_fault.NoSuchSlot) h found = rw h.0 (refl, h.1)
follows_said said old new (Err step_fault.NotAllowedNow) h found = rw h.0 (refl, h.1)

-- the outcomes so far, and those to come
pub continued : (all front front' : List Outcome) (old new : DeviceTable) (left rest : List Entry) (outcome : Outcome) → all ≡ front ++ outcomes_of old (events_of left) → MovesOn old left (Ok (Some outcome)) new rest → front' ≡ front ++ outcome ∷ [] → all ≡ front' ++ outcomes_of new (events_of rest)
continued all front front' old new left rest outcome so_far (entry, taken, is, table) pushed =
    so_far
    ∙ ap (λ entries. front ++ outcomes_of old (events_of entries)) taken
    ∙ ap (λ o. front ++ (o ∷ outcomes_of (table_of old (step old entry.0)) (events_of rest))) (sym is)
    ∙ ap (λ t. front ++ (outcome ∷ outcomes_of t (events_of rest))) (sym table)
    ∙ sym (append_assoc front (outcome ∷ []) (outcomes_of new (events_of rest)))
    ∙ ap (λ f. f ++ outcomes_of new (events_of rest)) (sym pushed)

dropped : (entries : List Entry) (place : ℕ) (entry : Entry) → place < length entries → entry ≡ get_or entries place entry → drop place entries ≡ entry ∷ drop (place + 1) entries
dropped entries place entry below is =
    let next : suc place ≡ place + 1 = omega arith in
    drop-cons entries place entry below ∙ ap (λ e. e ∷ drop (suc place) entries) (sym is) ∙ ap (λ n. entry ∷ drop n entries) next

pub moved : (old new : DeviceTable) (slice entries : List Entry) (place : ℕ) (entry : Entry) (outcome : Outcome) → slice ≡ entries → place < length slice → entry ≡ get_or slice place entry → Follows (step old entry.0) old outcome new → outcome ≢ Err step_fault.OutOfMemory → MovesOn old (drop place entries) (Ok (Some outcome)) new (drop (place + 1) entries)
moved old new slice entries place entry outcome same below is h memory =
    let said = follows_said (step old entry.0) old new outcome h memory in
    let at : drop place entries ≡ entry ∷ drop (place + 1) entries = subst (λ xs. drop place xs ≡ entry ∷ drop (place + 1) xs) same (dropped slice place entry below is) in
    (entry, at, said.0, said.1)

pub begun : (trace : Trace) (front : List Outcome) (table : DeviceTable) (left : List Entry) → front ≡ [] → table ≡ opening_table trace.config → left ≡ trace.events → outcomes_of_trace trace ≡ front ++ outcomes_of table (events_of left)
begun trace front table left none fresh all = rw (none, fresh, all) refl

-- a step that is not taken is refused for want of memory alone
pub not_moved : (old new : DeviceTable) (left rest : List Entry) (wrong : Option ProfileFault) (same : Bool) (fault : StepperFault) → MovesOn old left (Err fault) new rest → wrong ≡ None → same ≡ true → IsRefused wrong same fault
not_moved old new left rest wrong same stepper.OutOfMemory moves good kind = (good, kind)
not_moved old new left rest wrong same stepper.Profile moves good kind = absurd moves
not_moved old new left rest wrong same stepper.WrongKind moves good kind = absurd moves
not_moved old new left rest wrong same stepper.Write moves good kind = absurd moves
