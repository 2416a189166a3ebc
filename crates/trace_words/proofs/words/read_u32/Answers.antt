use Rattle.std.proofs.Common.{rules, arith}
use Rattle.trace_words.proofs.NumberWords.{narrowed, none_narrowed}
use Rattle.trace_words.proofs.words.read_u32.Goals as goal

pub returns-in_err-number : goal.returns-in_err-number
returns-in_err-number c = search (rules, none_narrowed 32 _ (omega arith) c.in_err-number.ensures)

pub returns : goal.returns
returns c = rw c.ok.ensures.value (narrowed 32 _ _ _ (omega arith) c.in_ok-number.ensures c.try_from.ensures)
