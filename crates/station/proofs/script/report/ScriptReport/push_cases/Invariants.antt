use Rattle.std.proofs.Common.{◌≡◌, ◌++◌}
use Rattle.station.specs.Script.Report.{cases_to}
use Rattle.station.proofs.script.report.ScriptReport.push_cases.Given as goal

-- the cases of the lines so far
abbrev pub invariant-loop-line : goal.invariant-loop-line
invariant-loop-line l = l.out.items ≡ l.fn.out.items ++ cases_to l.self.name.now l.self.script.now l.self.checks.now l.line
