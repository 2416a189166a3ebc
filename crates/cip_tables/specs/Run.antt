-- Runs: a device over a list of events.
use Rattle.std.specs.Prelude.{◌≡◌, if◌then◌else◌, List, [], ◌∷◌, Result, Ok, Err}
use Rattle.cip_events.specs.declared.event.Event.{Event}
use Rattle.cip_events.specs.declared.event.Answer.{Answer}
use Rattle.cip_events.specs.declared.event.StepFault.{StepFault}
use Rattle.cip_tables.specs.declared.table.DeviceTable.{DeviceTable}
use Rattle.cip_tables.specs.Step.{step}
use Rattle.cip_events.specs.Outcomes.{Outcome, Follows, found_memory}

-- a run from an old table, with these events and outcomes, ends in a new table
abbrev pub Runs : DeviceTable → List Event → List Outcome → DeviceTable → Type 0
Runs old [] [] new = new ≡ old
Runs old (event ∷ events) (outcome ∷ outcomes) new = (mid : DeviceTable) × Follows (step old event) old outcome mid × Runs mid events outcomes new
Runs old [] (outcome ∷ outcomes) new = ⊥
Runs old (event ∷ events) [] new = ⊥

-- The same as a fold over the events that found memory.

-- the outcome of a step
abbrev pub outcome_of : Result (Answer × DeviceTable) StepFault → Outcome
outcome_of (Ok next) = Ok next.0
outcome_of (Err fault) = Err fault

-- the table that a step leaves
abbrev pub table_of : DeviceTable → Result (Answer × DeviceTable) StepFault → DeviceTable
table_of old (Ok next) = next.1
table_of old (Err fault) = old

abbrev pub outcomes_of : DeviceTable → List Event → List Outcome
outcomes_of t [] = []
outcomes_of t (event ∷ events) = outcome_of (step t event) ∷ outcomes_of (table_of t (step t event)) events

abbrev pub table_after : DeviceTable → List Event → DeviceTable
table_after t [] = t
table_after t (event ∷ events) = table_after (table_of t (step t event)) events

-- the events that found memory: those whose outcome is not `OutOfMemory`
abbrev pub performed : List Event → List Outcome → List Event
performed (event ∷ events) (outcome ∷ outcomes) = if found_memory outcome then event ∷ performed events outcomes else performed events outcomes
performed [] outcomes = []
performed (event ∷ events) [] = []
