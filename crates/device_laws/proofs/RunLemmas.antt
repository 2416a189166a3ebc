-- A law over every list of events holds over every run of a scanner.
use Rattle.std.proofs.Common.{◌≡◌, List, None, sym, ◌∙◌, subst}
use Rattle.cip_events.specs.declared.event.Event.{Event}
use Rattle.cip_events.specs.Outcomes.{Outcome}
use Rattle.scanner_table.specs.declared.profile.ScannerProfile.{ScannerProfile}
use Rattle.scanner_table.specs.declared.table.ScannerTable.{ScannerTable}
use Rattle.scanner_table.specs.Profiles.{profile_fault}
use Rattle.scanner_table.specs.Step.{scanner_table}
use Rattle.scanner_table.specs.Runs.{table_after as scanner_after}
use Rattle.scanner_table.specs.Whole.{IsWholeScanner}
use Rattle.cip_tables.specs.declared.table.DeviceTable.TheVariants.{Scanner}
use Rattle.cip_tables.specs.Step.{opening_table}
use Rattle.cip_tables.specs.Run.{Runs, performed}
use Rattle.device_laws.specs.ScannerRuns.{RunsFoldEvents, OverWholeRuns, OverFreshRuns, OverScannerRuns}
use Rattle.cip_tables.specs.RunLaws.{run_folds}
use Rattle.cip_tables.specs.Whole.{RunsKeepWhole, FreshDevicesAreWhole}
use Rattle.device_laws.specs.Scanners.{OverEveryScanner}
use Rattle.device_laws.specs.Lemmas.Folds.{scanner_is, fold_of}

-- ---- a run is the fold of its events

pub runs_fold : RunsFoldEvents
runs_fold t events outcomes new ran = (run_folds (Scanner t) events outcomes new ran).table ∙ fold_of t (performed events outcomes)

-- ---- laws over events

ends_in : RunsFoldEvents → (t new : ScannerTable) (events : List Event) (outcomes : List Outcome) → Runs (Scanner t) events outcomes (Scanner new) → scanner_after t (performed events outcomes) ≡ new
ends_in fold t new events outcomes ran = sym (scanner_is new _ (fold t events outcomes (Scanner new) ran))

-- fresh scanners are whole, if their profiles have no fault
abbrev pub FreshScanners : Type 0
FreshScanners = (profile : ScannerProfile) → profile_fault profile ≡ None → IsWholeScanner (scanner_table profile)

-- a relation that holds of each whole scanner over all events
abbrev pub OverEvents : (ScannerTable → List Event → ScannerTable → Type 0) → Type 0
OverEvents Holds = (t : ScannerTable) (events : List Event) → IsWholeScanner t → Holds t events (scanner_after t events)

pub over_whole : (Holds : ScannerTable → List Event → ScannerTable → Type 0) → RunsFoldEvents → OverEvents Holds → OverWholeRuns Holds
over_whole Holds fold law old new events outcomes whole ran =
    subst (Holds old (performed events outcomes)) (ends_in fold old new events outcomes ran) (law old (performed events outcomes) whole)

pub over_fresh : (Holds : ScannerProfile → List Event → ScannerTable → Type 0) → RunsFoldEvents → ((profile : ScannerProfile) (events : List Event) → profile_fault profile ≡ None → Holds profile events (scanner_after (scanner_table profile) events)) → OverFreshRuns Holds
over_fresh Holds fold law profile new events outcomes none ran =
    subst (Holds profile (performed events outcomes)) (ends_in fold (scanner_table profile) new events outcomes ran) (law profile (performed events outcomes) none)

pub over_runs : (Holds : ScannerTable → List Event → ScannerTable → Type 0) → RunsFoldEvents → FreshScanners → OverEvents Holds → OverScannerRuns Holds
over_runs Holds fold fresh law = record {
  whole = over_whole Holds fold law;
  fresh = over_fresh (λ profile events new. Holds (scanner_table profile) events new) fold (λ profile events none. law (scanner_table profile) events (fresh profile none));
}

-- ---- tables that runs reach

-- every scanner's table that a run reaches is whole
pub reached_scanners : RunsKeepWhole → FreshDevicesAreWhole → OverEveryScanner IsWholeScanner
reached_scanners keep fresh = record {
  whole = λ old events outcomes t whole ran. keep old (Scanner t) events outcomes whole ran;
  fresh = λ made events outcomes t none ran. keep (opening_table made) (Scanner t) events outcomes (fresh made none) ran;
}

-- a property of whole scanners holds over every run
pub over_scanners : (P : ScannerTable → Type 0) → ((t : ScannerTable) → IsWholeScanner t → P t) → OverEveryScanner IsWholeScanner → OverEveryScanner P
over_scanners P has over = record {
  whole = λ old events outcomes t whole ran. has t (over.whole old events outcomes t whole ran);
  fresh = λ made events outcomes t none ran. has t (over.fresh made events outcomes t none ran);
}
