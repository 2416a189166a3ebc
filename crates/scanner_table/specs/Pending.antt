-- What is true of the explicit requests that wait for their replies: there are few, no two have one number, each went over a
-- stream that is open, and none waits longer than the open timeout.
use Rattle.std.specs.Prelude.{ℕ, ◌≡◌, ◌+◌, ◌<◌, ◌≤◌, true, false, List, [], ◌∷◌, length}
use Rattle.std.specs.List.{list_any, AllByRecursion}
use Rattle.cip_types.specs.declared.names.Ms.{Ms}
use Rattle.scanner_table.specs.declared.explicit.PendingExplicit.{PendingExplicit}
use Rattle.scanner_table.specs.declared.table.ScannerTable.{ScannerTable}
use Rattle.scanner_table.specs.declared.table.TargetStream.{TargetStream}
use Rattle.scanner_table.specs.Explicit.{has_number, is_request}
use Rattle.scanner_table.specs.Sessions.{is_stream}

-- no two requests have one number of the application's, or one number of the scanner's
abbrev pub ExplicitDiffer : List PendingExplicit → Type 0
ExplicitDiffer [] = Unit {0}
ExplicitDiffer (p ∷ rest) = (list_any (has_number p.number) rest ≡ false) × (list_any (is_request p.request) rest ≡ false) × ExplicitDiffer rest

-- the scanner's number was given out before, the stream is open, and the scanner gives the request up at this time at the
-- latest
pub record IsPending (next_request latest : ℕ) (streams : List TargetStream) (p : PendingExplicit) : Type 0 where
  pub request : p.request < next_request
  pub stream : list_any (is_stream p.stream) streams ≡ true
  pub deadline : p.deadline.0 ≤ latest

-- the deadline of the request has not come
abbrev pub IsInTime : Ms → PendingExplicit → Type 0
IsInTime clock p = clock.0 < p.deadline.0

-- at most 16 requests, which differ; each is pending, and none is late
pub record ArePending (next_request : ℕ) (clock : Ms) (timeout : ℕ) (streams : List TargetStream) (pending : List PendingExplicit) : Type 0 where
  pub few : length pending ≤ 16
  pub differ : ExplicitDiffer pending
  pub each : AllByRecursion (IsPending next_request (clock.0 + timeout) streams) pending
  pub in_time : 1 ≤ timeout → AllByRecursion (IsInTime clock) pending

-- the explicit requests of the table are so
abbrev pub ExplicitArePending : ScannerTable → Type 0
ExplicitArePending t = ArePending t.next_request t.clock t.profile.open_timeout t.streams t.explicit
