use Rattle.std.proofs.Common.{◌≡◌, length, map}
use Rattle.command_lines.specs.Words.Help.{some_help}
use Rattle.command_lines.proofs.words.help.some_help.Given as goal

-- the words that are left request help exactly if all words do
abbrev pub invariant-loop-word : goal.invariant-loop-word
invariant-loop-word g l = some_help (map g.S.AsStr.text l.fn.words) ≡ some_help (map g.S.AsStr.text l.rest)

abbrev pub decreases-loop-word : goal.decreases-loop-word
decreases-loop-word g l = length l.rest
