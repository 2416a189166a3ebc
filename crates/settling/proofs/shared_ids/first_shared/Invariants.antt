use Rattle.std.proofs.Common.{◌≡◌, drop}
use Rattle.settling.specs.SharedIds.{first_shared}
use Rattle.settling.proofs.shared_ids.first_shared.Given as goal

abbrev pub invariant-loop-place : goal.invariant-loop-place
invariant-loop-place l = first_shared l.place (drop l.place l.ids) ≡ first_shared 0 l.ids
