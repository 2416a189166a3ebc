use Rattle.std.proofs.Common.{◌∙◌, sym}
use Rattle.trace_words.specs.Reader.{unread_words}
use Rattle.trace_words.specs.Words.{words_of}
use Rattle.trace_faults.proofs.Lines.{as_shaped}
use Rattle.trace_faults.proofs.reasons.reason_of_words.Goals as goal

pub returns-in-Some : goal.returns-in-Some
returns-in-Some c = as_shaped c.checked.result (words_of c.args.line.now) c.in-Ok.first.now (unread_words c.word.new.self) (c.in-Some.shape.0.now, c.in-Some.shape.1.now) (sym c.of-words.ensures ∙ c.in-Ok.ensures) c.in-Some.ensures c.checked.ensures
