use Rattle.std.proofs.Common.{rules}
use Rattle.trace_words.proofs.NumberWords.{number_parsed, not_short}
use Rattle.trace_words.proofs.words.read_u64.Goals as goal

pub returns-then-not-is_short_form : goal.returns-then-not-is_short_form
returns-then-not-is_short_form c = not_short 64 _ (search rules)

pub returns : goal.returns
returns c = rw c.ok.ensures.value (number_parsed _ _ c.parse.ensures.value.0 (search rules))
