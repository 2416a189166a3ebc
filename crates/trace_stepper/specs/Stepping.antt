-- What a stepper does: a device takes the events of a trace, one after the other.
use Rattle.std.specs.Prelude.{◌≡◌, ◌≢◌, Bool, true, false, List, [], ◌∷◌, map, Option, Some, None, Result, Ok, Err}
use Rattle.cip_events.specs.declared.event.Event.{Event}
use Rattle.cip_events.specs.declared.profile_fault.ProfileFault.{ProfileFault}
use Rattle.cip_tables.specs.declared.table.DeviceTable.{DeviceTable}
use Rattle.cip_events.specs.Outcomes.{Outcome}
use Rattle.cip_tables.specs.Run.{outcome_of, table_of, outcomes_of}
use Rattle.cip_tables.specs.Step.{step, opening_table}
use Rattle.trace_text.specs.declared.trace.Trace.{Trace}
use Rattle.trace_text.specs.Reading.{Entry}
use Rattle.trace_stepper.specs.declared.stepper.StepperFault.{StepperFault}
use Rattle.trace_stepper.specs.declared.stepper.StepperFault.TheVariants as fault

-- the events of entries
abbrev pub events_of : List Entry → List Event
events_of entries = map (λ entry. entry.0) entries

-- the outcomes of a trace's events at a fresh device
abbrev pub outcomes_of_trace : Trace → List Outcome
outcomes_of_trace trace = outcomes_of (opening_table trace.config) (events_of trace.events)

-- The next entry's event is taken, with the outcome of the table's step; or no entry is left; or an allocation was
-- refused, and the same event is next again.
abbrev pub MovesOn : DeviceTable → List Entry → Result (Option Outcome) StepperFault → DeviceTable → List Entry → Type 0
MovesOn old left (Ok (Some outcome)) new rest = (entry : Entry) × (left ≡ entry ∷ rest) × (outcome ≡ outcome_of (step old entry.0)) × (new ≡ table_of old (step old entry.0))
MovesOn old left (Ok None) new rest = (left ≡ []) × (rest ≡ []) × (new ≡ old)
MovesOn old left (Err fault.OutOfMemory) new rest = (left ≢ []) × (rest ≡ left) × (new ≡ old)
MovesOn old left (Err fault.Profile) new rest = ⊥
MovesOn old left (Err fault.WrongKind) new rest = ⊥
MovesOn old left (Err fault.Write) new rest = ⊥

-- a stepper is refused for the profile, or else since the device does not accept it, or else for lack of memory
abbrev pub IsRefused : Option ProfileFault → Bool → StepperFault → Type 0
IsRefused wrong accepted fault.Profile = wrong ≢ None
IsRefused wrong accepted fault.WrongKind = (wrong ≡ None) × (accepted ≡ false)
IsRefused wrong accepted fault.OutOfMemory = (wrong ≡ None) × (accepted ≡ true)
IsRefused wrong accepted fault.Write = ⊥
