use Rattle.std.proofs.Common.{◌≡◌, map, take}
use Rattle.station.specs.Script.Checks.{no_check}
use Rattle.station.proofs.script.checks.ScriptChecks.of.Given as goal

-- the lines so far
abbrev pub invariant-loop-line : goal.invariant-loop-line
invariant-loop-line l = l.lines.items ≡ map (λ line. no_check) (take l._line-index l.script)
