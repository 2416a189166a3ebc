use Rattle.std.proofs.Common.{◌≡◌, ◌+◌, length}
use Rattle.trace_faults.specs.Lexical.{bad_character}
use Rattle.trace_faults.proofs.lexical.bad_character.Given as goal

-- what is left is judged as the whole line is
abbrev pub invariant-loop-rest : goal.invariant-loop-rest
invariant-loop-rest l = (bad_character l.before l.done l.rest ≡ bad_character 32 0 l.fn.line) × (l.done + length l.rest ≡ length l.fn.line)

abbrev pub decreases-loop-rest : goal.decreases-loop-rest
decreases-loop-rest l = length l.rest
