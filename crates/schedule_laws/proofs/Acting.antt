-- A scanner in a schedule: what it did by a moment is the beginning of what it did by a later one.
use Rattle.std.proofs.Common.{◌≡◌, ℕ, zero, suc, List, [], ◌∷◌, ◌++◌, map, filter, slice_get, Option, Some, None, Result, Ok, Err, IfOk, refl, sym, ◌∙◌, ap, subst}
use Rattle.std.proofs.lemmas.List.{append-nil, append_assoc, map-append}
use Rattle.std.proofs.lemmas.List.Elements.{filter-append}
use Rattle.device_laws.specs.Lemmas.Stepping.{table_is}
use Rattle.device_laws.specs.Lemmas.Folds.{fold_of}
use Rattle.scanner_table.specs.declared.profile.ScannerProfile.{ScannerProfile}
use Rattle.scanner_table.specs.declared.table.ScannerTable.{ScannerTable}
use Rattle.scanner_table.specs.Slots.{IndexedSlot}
use Rattle.scanner_table.specs.Step.{scanner_table}
use Rattle.device_laws.specs.Newest.{OpeningsAreNumbered}
use Rattle.scanner_table.specs.Runs.{table_after as scanner_after, IsLaw}
use Rattle.cip_tables.specs.declared.table.Config.{Config}
use Rattle.cip_tables.specs.declared.table.Config.TheVariants as config
use Rattle.cip_tables.specs.declared.table.DeviceTable.{DeviceTable}
use Rattle.cip_tables.specs.declared.table.DeviceTable.TheVariants.{Scanner}
use Rattle.cip_tables.specs.Step.{opening_table}
use Rattle.segment_world.specs.declared.act.Act.{Act}
use Rattle.segment_world.specs.declared.act.ActFault.{ActFault}
use Rattle.segment_world.specs.Configs.{opening_world}
use Rattle.segment_world.specs.Story.{Story, reported_more, goes_on, reports, runs, begins, is_of, event_reported, events_of, ProjectionsAreRuns}
use Rattle.segment_world.specs.World.{ReportedEvent, Happened, happens}
use Rattle.device_laws.specs.ProductionRuns.{SlotsHaveOpeningsOfTheirOwn}
use Rattle.schedule_laws.specs.OpeningNumbers.{HasOpening}
use Rattle.schedule_laws.specs.ScheduledOpenings.{HasOpeningAfter, SchedulesNameOneSlot}
use Rattle.schedule_laws.proofs.Drawing.{one_slot}

-- ---- more acts

-- the events begin with these
record Begins (before : List ReportedEvent) (story : Story) : Type 0 where
  rest : List ReportedEvent
  is : story.reported ≡ before ++ rest

begins_more : (before : List ReportedEvent) (story : Story) (done : Option ReportedEvent) → Begins before story → (rest : List ReportedEvent) × (reported_more story.reported done ≡ before ++ rest)
begins_more before story None ok = (ok.rest, ok.is)
begins_more before story (Some event) ok = (ok.rest ++ event ∷ [], ap (λ (xs : List ReportedEvent). xs ++ event ∷ []) ok.is ∙ append_assoc before ok.rest (event ∷ []))

begins_on : (before : List ReportedEvent) (story : Story) (said : Happened) → Begins before story → IfOk (goes_on story.reported said) (Begins before)
begins_on before story (Err fault) ok = tt
begins_on before story (Ok done) ok = let more = begins_more before story done.0 ok in record { rest = more.0; is = more.1 }

act_begins : (before : List ReportedEvent) (so_far : Result Story ActFault) (act : Act) → IfOk so_far (Begins before) → IfOk (reports so_far act) (Begins before)
act_begins before (Err fault) act ok = tt
act_begins before (Ok story) act ok = begins_on before story (happens story.world act) ok

acts_begin : (before : List ReportedEvent) (acts : List Act) (so_far : Result Story ActFault) → IfOk so_far (Begins before) → IfOk (runs so_far acts) (Begins before)
unfolding runs
acts_begin before [] so_far ok = ok
acts_begin before (act ∷ acts) so_far ok = acts_begin before acts (reports so_far act) (act_begins before so_far act ok)

runs_both : (so_far : Result Story ActFault) (acts more : List Act) → runs so_far (acts ++ more) ≡ runs (runs so_far acts) more
unfolding runs
runs_both so_far [] more = refl
runs_both so_far (act ∷ acts) more = runs_both (reports so_far act) acts more

-- the later story has the events of the earlier one, and more
goes_further : (start : Result Story ActFault) (acts more : List Act) (was now : Story) → runs start acts ≡ Ok was → runs start (acts ++ more) ≡ Ok now → Begins was.reported now
goes_further start acts more was now first second =
    let so : runs (Ok was) more ≡ Ok now = sym (ap (λ (s : Result Story ActFault). runs s more) first) ∙ sym (runs_both start acts more) ∙ second in
    subst (λ (s : Result Story ActFault). IfOk s (Begins was.reported)) so
    (acts_begin was.reported more (Ok was) (record { rest = []; is = sym (append-nil was.reported) }))

events_both : (device : ℕ) (before rest : List ReportedEvent) → events_of device (before ++ rest) ≡ events_of device before ++ events_of device rest
events_both device before rest =
    ap (map event_reported) (filter-append (is_of device) before rest)
    ∙ map-append event_reported (filter (is_of device) before) (filter (is_of device) rest)

-- ---- a scanner

opens_at : (configs : List Config) (device : ℕ) (profile : ScannerProfile) → slice_get configs device ≡ Some (config.Scanner profile) → slice_get (map opening_table configs) device ≡ Some (Scanner (scanner_table profile))
opens_at [] device profile at = absurd (let e = at in cc)
opens_at (made ∷ configs) zero profile at = let same : made ≡ config.Scanner profile = cc in ap (λ (c : Config). Some (opening_table c)) same
opens_at (made ∷ configs) (suc device) profile at = opens_at configs device profile at

-- the table is the one to which the scanner's own events lead
leads_there : ProjectionsAreRuns → (configs : List Config) (acts : List Act) (device : ℕ) (profile : ScannerProfile) (place : IndexedSlot) (number : ℕ) → slice_get configs device ≡ Some (config.Scanner profile) → (after : HasOpeningAfter configs acts device place number) → after.table ≡ scanner_after (scanner_table profile) (events_of device after.story.reported)
leads_there projections configs acts device profile place number at after =
    let events = events_of device after.story.reported in
    table_is after.table (scanner_after (scanner_table profile) events)
    (sym after.there ∙ projections (opening_world configs) acts after.story device (Scanner (scanner_table profile)) after.ran (opens_at configs device profile at)
    ∙ ap (λ (x : DeviceTable). Some x) (fold_of (scanner_table profile) events))

pub schedules_name_one : ProjectionsAreRuns → IsLaw OpeningsAreNumbered → SlotsHaveOpeningsOfTheirOwn → SchedulesNameOneSlot
schedules_name_one projections law differ configs acts more device profile first later number at was now =
    let further = goes_further (begins (opening_world configs)) acts more was.story now.story was.ran now.ran in
    let events = events_of device was.story.reported in
    let rest = events_of device further.rest in
    let split : events_of device now.story.reported ≡ events ++ rest = ap (events_of device) further.is ∙ events_both device was.story.reported further.rest in
    let before = leads_there projections configs acts device profile first number at was in
    let behind = leads_there projections configs (acts ++ more) device profile later number at now in
    one_slot law differ profile events rest first later number
    (subst (λ (t : ScannerTable). HasOpening t first number) before was.has)
    (subst (λ (t : ScannerTable). HasOpening t later number) (behind ∙ ap (scanner_after (scanner_table profile)) split) now.has)
