use Rattle.std.proofs.Common.{◌∙◌, sym, ap}
use Rattle.trace_words.specs.Reader.{words_left}
use Rattle.trace_words.proofs.LineWords.{some_word}
use Rattle.trace_words.proofs.words.Words.end.Goals as goal

pub returns-in-Some-clause-end : goal.returns-in-Some-clause-end
returns-in-Some-clause-end c = (λ none. absurd (cc), λ none. absurd (some_word c.in-Some.field-0.now (sym (ap words_left c.in-Some.is) ∙ none)))
