-- What each step does, each list of events does.
use Rattle.std.proofs.Common.{◌≡◌, [], ◌∷◌, Result, Ok, Err, refl, subst}
use Rattle.cip_events.specs.declared.event.StepFault.{StepFault}
use Rattle.scanner_table.specs.declared.profile.ScannerProfile.{ScannerProfile}
use Rattle.scanner_table.specs.declared.table.ScannerTable.{ScannerTable}
use Rattle.scanner_table.specs.Effects.{Next}
use Rattle.scanner_table.specs.Step.{scanner_step, scanner_table}
use Rattle.scanner_table.specs.Runs.{left_by, table_after, StepsLead, EventsLead, StepsKeep, EventsKeep, IsLaw}
use Rattle.scanner_table.specs.Lemmas.Moves.{KeptAlways, Leads, step_leads}

pub leads_next : (R : ScannerTable → ScannerTable → Type 0) (t : ScannerTable) (said : Result Next StepFault) (next : Next) → said ≡ Ok next → Leads R t said → R t next.1
leads_next R t said next is leads = subst (Leads R t) is leads

pub steps_lead : (R : ScannerTable → ScannerTable → Type 0) → KeptAlways R → StepsLead R
steps_lead R kept t event next is = leads_next R t (scanner_step t event) next is (step_leads R kept t event)

left_leads : (R : ScannerTable → ScannerTable → Type 0) (t : ScannerTable) (said : Result Next StepFault) → R t t → Leads R t said → R t (left_by t said)
left_leads R t (Ok next) same leads = leads
left_leads R t (Err fault) same leads = same

pub events_lead : (R : ScannerTable → ScannerTable → Type 0) → KeptAlways R → EventsLead R
events_lead R kept t [] = kept.widely.slots.same t
events_lead R kept t (event ∷ events) =
    let next = left_by t (scanner_step t event) in
    kept.widely.slots.after t next (table_after next events) (left_leads R t (scanner_step t event) (kept.widely.slots.same t) (step_leads R kept t event)) (events_lead R kept next events)

left_keeps : (P : ScannerTable → Type 0) (t : ScannerTable) (said : Result Next StepFault) → P t → ((next : Next) → said ≡ Ok next → P next.1) → P (left_by t said)
left_keeps P t (Ok next) holds keep = keep next refl
left_keeps P t (Err fault) holds keep = holds

pub events_keep : (P : ScannerTable → Type 0) → StepsKeep P → EventsKeep P
events_keep P keep t [] holds = holds
events_keep P keep t (event ∷ events) holds =
    events_keep P keep (left_by t (scanner_step t event)) events (left_keeps P t (scanner_step t event) holds (λ next is. keep t event next is holds))

-- a property that each step keeps, and that holds of fresh scanners, is a law
pub law_of : (P : ScannerTable → Type 0) → StepsKeep P → ((profile : ScannerProfile) → P (scanner_table profile)) → IsLaw P
law_of P keep fresh = record {
  steps = keep;
  events = events_keep P keep;
  fresh = λ profile events. events_keep P keep (scanner_table profile) events (fresh profile);
}
