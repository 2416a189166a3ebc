-- The outcomes of explicit requests, by the results of this crate's functions.
use Rattle.std.specs.Prelude.{ℕ, List, Result, Ok, Err}
use Rattle.cip_events.specs.declared.event.StepFault.{StepFault}
use Rattle.scanner_table.specs.declared.table.ScannerTable.{ScannerTable}
use Rattle.scanner_table.specs.declared.table.Session.{Session}
use Rattle.scanner_table.specs.Effects.{Next, done}
use Rattle.scanner_table.specs.Explicit.{explicit_sent}

-- the request is sent within the session, or refused
abbrev pub sent_within : ScannerTable → ℕ → List ℕ → Result Session StepFault → Result Next StepFault
sent_within t number bytes (Ok session) = Ok (done (explicit_sent t session number bytes))
sent_within t number bytes (Err why) = Err why
