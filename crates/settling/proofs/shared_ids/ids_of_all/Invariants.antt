use Rattle.std.proofs.Common.{◌≡◌, take}
use Rattle.settling.specs.SharedIds.{ids_of_all}
use Rattle.settling.proofs.shared_ids.ids_of_all.Given as goal

abbrev pub invariant-loop-history : goal.invariant-loop-history
invariant-loop-history g l = l.all.items ≡ ids_of_all (take l.history-index l.histories)
