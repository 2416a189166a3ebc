use Rattle.std.proofs.Common.{◌≡◌, drop}
use Rattle.station.specs.Script.Due.{earlier, next_due}
use Rattle.station.proofs.script.due.next_due.Given as goal

-- the earliest time so far, or one of the lines that are left
abbrev pub invariant-loop-line : goal.invariant-loop-line
invariant-loop-line l = earlier l.least (next_due l.now_ms (drop l.line-index l.lines)) ≡ next_due l.now_ms l.lines
