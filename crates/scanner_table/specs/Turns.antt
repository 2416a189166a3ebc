-- How many openings of one target are under way (Volume 1, chapter 3, Forward_Open service).
use Rattle.std.specs.Prelude.{ℕ, ◌≤◌, Option, Some, None}
use Rattle.cip_types.specs.declared.names.Node.{Node}
use Rattle.scanner_table.specs.declared.table.ScannerTable.{ScannerTable}
use Rattle.scanner_table.specs.Opening.{openings_at}

-- so many are at most the limit, if there is one
abbrev pub IsWithin : Option ℕ → ℕ → Type 0
IsWithin None count = Unit {0}
IsWithin (Some most) count = count ≤ most

-- as many openings of each target wait for their replies as the profile allows at one time, or fewer
abbrev pub OpeningsTakeTurns : ScannerTable → Type 0
OpeningsTakeTurns t = (target : Node) → IsWithin t.profile.openings (openings_at t target)
