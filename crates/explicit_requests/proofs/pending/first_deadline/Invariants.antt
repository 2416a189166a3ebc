use Rattle.std.proofs.Common.{◌≡◌, ◌≤◌, ℕ, List, drop, min}
use Rattle.cip_tables.specs.Wakes.{never, explicit_due}
use Rattle.scanner_table.specs.declared.explicit.PendingExplicit.{PendingExplicit}
use Rattle.explicit_requests.proofs.pending.first_deadline.Given as goal

-- the first deadline so far, and those of the requests from a place on, give the first of all
pub record IsFirst (first index : ℕ) (pending : List PendingExplicit) : Type 0 where
  pub so_far : min first (explicit_due (drop index pending)) ≡ explicit_due pending
  pub within : first ≤ never

abbrev pub invariant-loop-explicit : goal.invariant-loop-explicit
invariant-loop-explicit l = IsFirst l.first l.explicit-index l.pending
