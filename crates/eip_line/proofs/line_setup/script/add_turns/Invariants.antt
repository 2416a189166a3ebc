use Rattle.std.proofs.Common.{◌≡◌, ◌++◌}
use Rattle.eip_line.specs.LineSetup.Scripts.{turns_of}
use Rattle.eip_line.proofs.line_setup.script.add_turns.Given as goal

abbrev pub invariant-loop-turn : goal.invariant-loop-turn
invariant-loop-turn l = l.script.items ≡ l.initial.script.items ++ turns_of l.point l.turn
