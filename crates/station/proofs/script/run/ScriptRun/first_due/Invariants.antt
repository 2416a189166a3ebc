use Rattle.std.proofs.Common.{◌≡◌, ◌<◌, drop, length}
use Rattle.std.specs.Prelude.{IfSome}
use Rattle.station.specs.Script.Runs.{first_from, sooner, taken}
use Rattle.station.proofs.script.run.ScriptRun.first_due.Given as goal

-- the first line so far, or one of those that are left
abbrev pub invariant-loop-line : goal.invariant-loop-line
invariant-loop-line l = record {
  first : sooner l.first (first_from l.self l.now_ms l.line (drop l.line l.script)) ≡ taken l.self l.now_ms l.script;
  inside : IfSome l.first (λ due. due.line < length l.script);
}
