use Rattle.std.proofs.Common.{◌≡◌, drop}
use Rattle.settling.specs.SharedIds.{sharer}
use Rattle.settling.proofs.shared_ids.sharer.Given as goal

abbrev pub invariant-loop-other : goal.invariant-loop-other
invariant-loop-other l = sharer l.blocks l.other (drop l.other l.ids) ≡ sharer l.blocks l.from (drop l.from l.ids)
