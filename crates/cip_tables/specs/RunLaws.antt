-- A run goes on by one event, and is the fold of the step over the events that found memory.
use Rattle.std.proofs.Common.{◌≡◌, ℕ, List, [], ◌∷◌, ◌++◌, true, false, filter, ◌≤◌, length, take, refl, subst, Result, Ok, Err}
use Rattle.std.proofs.lemmas.List.{take_all}
use Rattle.cip_events.specs.declared.event.Event.{Event}
use Rattle.cip_events.specs.declared.event.Answer.{Answer}
use Rattle.cip_events.specs.declared.event.StepFault.{StepFault}
use Rattle.cip_events.specs.declared.event.StepFault.TheVariants.{OutOfMemory, TickTooLong, ClockEnd, NoSuchPoint, WrongLength, NoSuchSlot, NotAllowedNow}
use Rattle.cip_tables.specs.declared.table.DeviceTable.{DeviceTable}
use Rattle.cip_tables.specs.Step.{DeviceNext, step}
use Rattle.cip_events.specs.Outcomes.{Outcome, Follows, found_memory}
use Rattle.cip_tables.specs.Run.{Runs, outcome_of, table_of, outcomes_of, table_after, performed}

pub Runs_more : (old mid new : DeviceTable) (events : List Event) (event : Event) (outcomes : List Outcome) (outcome : Outcome) → Runs old events outcomes mid → Follows (step mid event) mid outcome new → Runs old (events ++ event ∷ []) (outcomes ++ outcome ∷ []) new
Runs_more old mid new [] event [] outcome ran next =
    (new, subst (λ (t : DeviceTable). Follows (step t event) t outcome new) ran next, refl)
Runs_more old mid new [] event (other ∷ outcomes) outcome ran next = absurd ran
Runs_more old mid new (first ∷ events) event [] outcome ran next = absurd ran
Runs_more old mid new (first ∷ events) event (other ∷ outcomes) outcome ran next =
    (ran.0, ran.1, Runs_more ran.0 mid new events event outcomes outcome ran.2 next)

-- one outcome, as the fold has it
record Counted (old : DeviceTable) (said : Result DeviceNext StepFault) (outcome : Outcome) (new : DeviceTable) : Type 0 where
  same : outcome ≡ outcome_of said
  moved : new ≡ table_of old said

counted_ok : (said : Result DeviceNext StepFault) (old : DeviceTable) (answer : Answer) (new : DeviceTable) → said ≡ Ok (answer, new) → Counted old said (Ok answer) new
counted_ok said old answer new is = record { same = rw is refl; moved = rw is refl }

counted_err : (said : Result DeviceNext StepFault) (old : DeviceTable) (fault : StepFault) (new : DeviceTable) → said ≡ Err fault → new ≡ old → Counted old said (Err fault) new
counted_err said old fault new is stays = record { same = rw is refl; moved = rw (is, stays) refl }

-- what a run is, as a fold
pub record IsFold (old : DeviceTable) (events : List Event) (outcomes : List Outcome) (new : DeviceTable) : Type 0 where
  pub reported : filter found_memory outcomes ≡ outcomes_of old (performed events outcomes)
  pub table : new ≡ table_after old (performed events outcomes)

fold_more : (old mid new : DeviceTable) (event : Event) (events : List Event) (outcome : Outcome) (outcomes : List Outcome) → found_memory outcome ≡ true → Counted old (step old event) outcome mid → IsFold mid events outcomes new → IsFold old (event ∷ events) (outcome ∷ outcomes) new
fold_more old mid new event events outcome outcomes found counted rest =
    let same = counted.same in
    let moved = counted.moved in
    let reported = rest.reported in
    let table = rest.table in
    record { reported = rw found cc; table = rw found cc }

fold_refused : (old mid new : DeviceTable) (event : Event) (events : List Event) (outcome : Outcome) (outcomes : List Outcome) → found_memory outcome ≡ false → mid ≡ old → IsFold mid events outcomes new → IsFold old (event ∷ events) (outcome ∷ outcomes) new
fold_refused old mid new event events outcome outcomes found stays rest =
    let reported = rest.reported in
    let table = rest.table in
    record { reported = rw found cc; table = rw found cc }

fold_fault : (old mid new : DeviceTable) (event : Event) (events : List Event) (fault : StepFault) (outcomes : List Outcome) → found_memory (Err fault) ≡ true → (step old event ≡ Err fault) × (mid ≡ old) → IsFold mid events outcomes new → IsFold old (event ∷ events) (Err fault ∷ outcomes) new
fold_fault old mid new event events fault outcomes found follows rest = fold_more old mid new event events (Err fault) outcomes found (counted_err _ old fault mid follows.0 follows.1) rest

fold_step : (old mid new : DeviceTable) (event : Event) (events : List Event) (outcome : Outcome) (outcomes : List Outcome) → Follows (step old event) old outcome mid → IsFold mid events outcomes new → IsFold old (event ∷ events) (outcome ∷ outcomes) new
fold_step old mid new event events (Ok answer) outcomes follows rest = fold_more old mid new event events (Ok answer) outcomes refl (counted_ok _ old answer mid follows) rest
fold_step old mid new event events (Err OutOfMemory) outcomes follows rest = fold_refused old mid new event events (Err OutOfMemory) outcomes refl follows.1 rest
fold_step old mid new event events (Err TickTooLong) outcomes follows rest = fold_fault old mid new event events TickTooLong outcomes refl follows rest
fold_step old mid new event events (Err ClockEnd) outcomes follows rest = fold_fault old mid new event events ClockEnd outcomes refl follows rest
fold_step old mid new event events (Err NoSuchPoint) outcomes follows rest = fold_fault old mid new event events NoSuchPoint outcomes refl follows rest
fold_step old mid new event events (Err WrongLength) outcomes follows rest = fold_fault old mid new event events WrongLength outcomes refl follows rest
fold_step old mid new event events (Err NoSuchSlot) outcomes follows rest = fold_fault old mid new event events NoSuchSlot outcomes refl follows rest
fold_step old mid new event events (Err NotAllowedNow) outcomes follows rest = fold_fault old mid new event events NotAllowedNow outcomes refl follows rest

pub run_folds : (old : DeviceTable) (events : List Event) (outcomes : List Outcome) (new : DeviceTable) → Runs old events outcomes new → IsFold old events outcomes new
run_folds old [] [] new ran = record { reported = refl; table = ran }
run_folds old [] (outcome ∷ outcomes) new ran = absurd ran
run_folds old (event ∷ events) [] new ran = absurd ran
run_folds old (event ∷ events) (outcome ∷ outcomes) new ran = fold_step old ran.0 new event events outcome outcomes ran.1 (run_folds ran.0 events outcomes new ran.2)

-- the loop has come to the end
pub run_all : (old new : DeviceTable) (events : List Event) (outcomes : List Outcome) (i : ℕ) → length events ≤ i → Runs old (take i events) outcomes new → Runs old events outcomes new
run_all old new events outcomes i le ran = subst (λ (es : List Event). Runs old es outcomes new) (take_all i events le) ran
