use Rattle.std.proofs.Common.{◌≡◌, ◌++◌, map, take}
use Rattle.line_threads.specs.Openings.{opening}
use Rattle.line_threads.proofs.openings.add_openings.Given as goal

abbrev pub invariant-loop-to : goal.invariant-loop-to
invariant-loop-to l = l.openings.items ≡ l.initial.openings.items ++ map (opening l.from) (take l.to-index l.reached)
