use Rattle.std.proofs.Common.{◌≡◌, drop}
use Rattle.station.specs.Script.Checks.{first_expiry_in}
use Rattle.station.specs.Script.Due.{earlier}
use Rattle.station.proofs.script.checks.ScriptChecks.first_expiry.Given as goal

-- the first end so far, or one of the lines that are left
abbrev pub invariant-loop-line : goal.invariant-loop-line
invariant-loop-line l = earlier l.first (first_expiry_in (drop l.line-index l.self.lines)) ≡ first_expiry_in l.self.lines
