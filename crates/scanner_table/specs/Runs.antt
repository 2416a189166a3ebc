-- A scanner over a list of events: a fold over its step, where an event that is refused leaves the table.
use Rattle.std.specs.Prelude.{ℕ, ◌≡◌, List, [], ◌∷◌, Some, Result, Ok, Err}
use Rattle.cip_events.specs.declared.event.Event.{Event}
use Rattle.cip_events.specs.declared.event.StepFault.{StepFault}
use Rattle.scanner_table.specs.declared.profile.ScannerProfile.{ScannerProfile}
use Rattle.scanner_table.specs.declared.table.ScannerTable.{ScannerTable}
use Rattle.scanner_table.specs.Slots.{IndexedSlot, slot_at}
use Rattle.scanner_table.specs.Effects.{Next}
use Rattle.scanner_table.specs.Step.{scanner_step, scanner_table}

-- THE FOLD

-- the table that a step leaves
abbrev pub left_by : ScannerTable → Result Next StepFault → ScannerTable
left_by t (Ok next) = next.1
left_by t (Err fault) = t

-- the table after the events
abbrev pub table_after : ScannerTable → List Event → ScannerTable
table_after t [] = t
table_after t (event ∷ events) = table_after (left_by t (scanner_step t event)) events

-- SLOTS

-- the property holds of each slot of the table
abbrev pub OfEachSlot : (IndexedSlot → Type 0) → ScannerTable → Type 0
OfEachSlot P t = (number : ℕ) (indexed : IndexedSlot) → slot_at t number ≡ Some indexed → P indexed

-- the relation holds of each slot as it was and as it is now
abbrev pub OfEachChange : (IndexedSlot → IndexedSlot → Type 0) → ScannerTable → ScannerTable → Type 0
OfEachChange R old new =
    (number : ℕ) (was now : IndexedSlot) → slot_at old number ≡ Some was → slot_at new number ≡ Some now → R was now

-- LAWS

-- each step relates the table before it to the next table
abbrev pub StepsLead : (ScannerTable → ScannerTable → Type 0) → Type 0
StepsLead R = (t : ScannerTable) (event : Event) (next : Next) → scanner_step t event ≡ Ok next → R t next.1

-- each list of events does so
abbrev pub EventsLead : (ScannerTable → ScannerTable → Type 0) → Type 0
EventsLead R = (t : ScannerTable) (events : List Event) → R t (table_after t events)

-- each step keeps the property
abbrev pub StepsKeep : (ScannerTable → Type 0) → Type 0
StepsKeep P = (t : ScannerTable) (event : Event) (next : Next) → scanner_step t event ≡ Ok next → P t → P next.1

-- each list of events keeps the property
abbrev pub EventsKeep : (ScannerTable → Type 0) → Type 0
EventsKeep P = (t : ScannerTable) (events : List Event) → P t → P (table_after t events)

-- the property holds of every fresh scanner after every list of events
abbrev pub HoldsFromFresh : (ScannerTable → Type 0) → Type 0
HoldsFromFresh P = (profile : ScannerProfile) (events : List Event) → P (table_after (scanner_table profile) events)

-- each step and each list of events keep the property, and it holds of every scanner that was fresh
pub record IsLaw (P : ScannerTable → Type 0) : Type 0 where
  pub steps : StepsKeep P
  pub events : EventsKeep P
  pub fresh : HoldsFromFresh P
