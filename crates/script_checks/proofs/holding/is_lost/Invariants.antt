use Rattle.std.proofs.Common.{◌≡◌}
use Rattle.script_checks.specs.Holding.{lost_below}
use Rattle.script_checks.proofs.holding.is_lost.Given as goal

-- one of the connections at the places so far is a lost owner
abbrev pub invariant-loop-place : goal.invariant-loop-place
invariant-loop-place g l = l.lost ≡ lost_below (g.D.Device.table l.device) l.point l.place
