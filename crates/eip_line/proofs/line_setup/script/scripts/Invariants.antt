use Rattle.std.proofs.Common.{◌≡◌, map}
use Rattle.line_threads.specs.Scripts.{events_in}
use Rattle.eip_line.specs.LineSetup.Scripts.{line_scripts}
use Rattle.eip_line.proofs.line_setup.script.scripts.Given as goal

abbrev pub invariant-loop-number : goal.invariant-loop-number
invariant-loop-number l = map events_in l.scripts.items ≡ line_scripts l.number l.turns
