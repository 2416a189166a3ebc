-- Which explicit requests are sent.
use Rattle.std.proofs.Common.{◌≡◌, ℕ, Bool, true, cond, List, Some, Result, Ok, Err, refl}
use Rattle.std.specs.List.{list_any}
use Rattle.cip_types.specs.declared.names.Node.{Node}
use Rattle.cip_events.specs.declared.event.StepFault.{StepFault}
use Rattle.cip_events.specs.declared.event.StepFault.TheVariants.{NotAllowedNow}
use Rattle.scanner_table.specs.declared.table.ScannerTable.{ScannerTable}
use Rattle.scanner_table.specs.declared.table.Session.{Session}
use Rattle.scanner_table.specs.Effects.{Next, done}
use Rattle.scanner_table.specs.Explicit.{connects_to, explicit_request, explicit_sent, has_explicit_length, is_barred}
use Rattle.scanner_table.specs.Sessions.{session_with}

-- a request of a right length within a session
pub judged : (t : ScannerTable) (target : Node) (number : ℕ) (bytes : List ℕ) (session : Session) (barred : Bool) → list_any (connects_to target) t.profile.slots ≡ true → has_explicit_length bytes ≡ true → session_with t target ≡ Some session → is_barred t number bytes ≡ barred → ◌≡◌ {A = Result Next StepFault} (explicit_request t target number bytes) (cond barred (Err NotAllowedNow) (Ok (done (explicit_sent t session number bytes))))
unfolding explicit_request
judged t target number bytes session barred connects sized within is = rw (connects, sized, within, is) refl
