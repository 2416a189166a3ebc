use Rattle.std.proofs.Common.{◌≡◌, ◌+◌, ◌++◌, map, drop}
use Rattle.trace_explain.specs.Lines.{moment_of_line, moments}
use Rattle.trace_explain.proofs.lines.lines_of.Given as goal

-- the lines so far are those of the first events
abbrev pub invariant-loop-index : goal.invariant-loop-index
invariant-loop-index l = map moment_of_line l.lines.items ++ moments (l.index + 1) l.time (drop l.index l.entries) ≡ moments 1 0 l.entries
