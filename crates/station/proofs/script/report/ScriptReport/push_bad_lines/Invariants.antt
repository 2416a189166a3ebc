use Rattle.std.proofs.Common.{◌≡◌, ◌++◌}
use Rattle.station.specs.Script.Report.{bad_to}
use Rattle.station.proofs.script.report.ScriptReport.push_bad_lines.Given as goal

-- the lines of words about the lines so far
abbrev pub invariant-loop-line : goal.invariant-loop-line
invariant-loop-line l = l.out.items ≡ l.fn.out.items ++ bad_to l.self.name.now l.self.script.now l.self.checks.now l.line
