use Rattle.std.proofs.Common.{◌≡◌, ◌++◌, ◌-◌, string_bytes}
use Rattle.eds_text.specs.Sheet.{words_text}
use Rattle.eds_text.proofs.sheet.push_words.Given as goal

abbrev pub invariant-loop-place : goal.invariant-loop-place
invariant-loop-place l = string_bytes l.out ++ words_text l.place (l.fn.count - l.place) ≡ string_bytes l.fn.out ++ words_text 0 l.fn.count
