use Rattle.std.proofs.Common.{◌≡◌, length, map}
use Rattle.command_lines.specs.StationOptions.{options_after, usual}
use Rattle.command_lines.proofs.station_options.read_options.Given as goal

-- the words that are left give the same with the options so far as all words with the usual ones
abbrev pub invariant-loop-name : goal.invariant-loop-name
invariant-loop-name g l = options_after usual (map g.S.AsStr.text l.fn.words) ≡ options_after l.options (map g.S.AsStr.text l.rest)

abbrev pub decreases-loop-name : goal.decreases-loop-name
decreases-loop-name g l = length l.rest
