use Rattle.std.proofs.Common.{◌≡◌}
use Rattle.station.specs.Script.Checks.{first_to}
use Rattle.station.proofs.script.checks.ScriptChecks.first_decided.Given as goal

-- the first of the lines so far about which something is decided
abbrev pub invariant-loop-line : goal.invariant-loop-line
invariant-loop-line g l = l.first ≡ first_to (g.D.Device.table l.device) l.now_ms l.script l.self.lines l.line
