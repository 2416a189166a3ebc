-- A step of a device that is a scanner, and its tables.
use Rattle.std.proofs.Common.{◌≡◌, Result, Ok, Err, Some, ap, ◌∙◌}
use Rattle.std.proofs.lemmas.Option.{same_Some}
use Rattle.cip_events.specs.declared.event.Answer.{Answer}
use Rattle.cip_events.specs.declared.event.Event.{Event}
use Rattle.cip_events.specs.declared.event.StepFault.{StepFault}
use Rattle.scanner_table.specs.declared.table.ScannerTable.{ScannerTable}
use Rattle.scanner_table.specs.Effects.{Next as ScannerNext}
use Rattle.scanner_table.specs.Step.{scanner_step}
use Rattle.cip_tables.specs.declared.table.DeviceTable.TheVariants.{Scanner}
use Rattle.cip_tables.specs.Step.{DeviceNext, as_scanner, step}
use Rattle.device_laws.specs.Lemmas.Folds.{scanner_is}

abbrev ok_of : DeviceNext → Result DeviceNext StepFault
ok_of n = Ok n

pub ok_inside : (x y : DeviceNext) → ok_of x ≡ ok_of y → x ≡ y
ok_inside x y e = cc

stepped_so : (a : Answer) (v : ScannerTable) (said : Result ScannerNext StepFault) → as_scanner said ≡ Ok (a, Scanner v) → said ≡ Ok (a, v)
stepped_so a v (Err fault) is = absurd (let e = is in cc)
stepped_so a v (Ok n) is =
    let e = ok_inside (n.0, Scanner n.1) (a, Scanner v) is in
    let answer : n.0 ≡ a = ap (λ (p : DeviceNext). p.0) e in
    let table : n.1 ≡ v = scanner_is n.1 v (ap (λ (p : DeviceNext). p.1) e) in
    ap (λ (x : Answer). Ok (x, n.1)) answer ∙ ap (λ (x : ScannerTable). Ok (a, x)) table

pub device_stepped : (u v : ScannerTable) (happens : Event) (a : Answer) → step (Scanner u) happens ≡ Ok (a, Scanner v) → scanner_step u happens ≡ Ok (a, v)
unfolding step
device_stepped u v happens a is = stepped_so a v (scanner_step u happens) is

pub table_is : (a b : ScannerTable) → Some (Scanner a) ≡ Some (Scanner b) → a ≡ b
table_is a b is = scanner_is a b (same_Some (Scanner a) (Scanner b) is)
