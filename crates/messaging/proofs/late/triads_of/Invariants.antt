use Rattle.std.proofs.Common.{◌≡◌, map, take}
use Rattle.messaging.specs.Endings.{ending_triad}
use Rattle.messaging.proofs.late.triads_of.Given as goal

abbrev pub invariant-loop-ending : goal.invariant-loop-ending
invariant-loop-ending l = l.triads.items ≡ map ending_triad (take l.ending-index l.endings)
