use Rattle.std.proofs.Common.{◌≡◌}
use Rattle.station.specs.Script.Report.{counts_to}
use Rattle.station.proofs.script.report.ScriptReport.counts.Given as goal

-- what came of the lines so far
abbrev pub invariant-loop-line : goal.invariant-loop-line
invariant-loop-line l = l.counts ≡ counts_to l.self.script.now l.self.checks.now l.line
