-- A device that is a scanner is stepped as its table is.
use Rattle.std.proofs.Common.{◌≡◌, List, [], ◌∷◌, Result, Ok, Err, refl, ◌∙◌, ap}
use Rattle.cip_events.specs.declared.event.Event.{Event}
use Rattle.cip_events.specs.declared.event.StepFault.{StepFault}
use Rattle.scanner_table.specs.declared.table.ScannerTable.{ScannerTable}
use Rattle.scanner_table.specs.Effects.{Next as ScannerNext}
use Rattle.scanner_table.specs.Step.{scanner_step}
use Rattle.scanner_table.specs.Runs.{left_by, table_after as scanner_after}
use Rattle.cip_tables.specs.declared.table.DeviceTable.{DeviceTable}
use Rattle.cip_tables.specs.declared.table.DeviceTable.TheVariants.{Scanner}
use Rattle.cip_tables.specs.Step.{as_scanner, step}
use Rattle.cip_tables.specs.Run.{table_of, table_after}

pub scanner_is : (a b : ScannerTable) → Scanner a ≡ Scanner b → a ≡ b
scanner_is a b is = cc

pub leaves_as : (t : ScannerTable) (said : Result ScannerNext StepFault) → table_of (Scanner t) (as_scanner said) ≡ Scanner (left_by t said)
leaves_as t (Ok next) = refl
leaves_as t (Err fault) = refl

pub step_leaves : (t : ScannerTable) (event : Event) → table_of (Scanner t) (step (Scanner t) event) ≡ Scanner (left_by t (scanner_step t event))
unfolding step
step_leaves t event = leaves_as t (scanner_step t event)

pub fold_of : (t : ScannerTable) (events : List Event) → table_after (Scanner t) events ≡ Scanner (scanner_after t events)
fold_of t [] = refl
fold_of t (event ∷ events) =
    ap (λ (d : DeviceTable). table_after d events) (step_leaves t event) ∙ fold_of (left_by t (scanner_step t event)) events
