use Rattle.std.proofs.Common.{◌∙◌}
use Rattle.eds_text.proofs.Words.{words_step}
use Rattle.eds_text.proofs.sheet.push_words.Goals as goal

pub loop-place-preserved : goal.loop-place-preserved
loop-place-preserved c = rw c.in_ok-push_word.ensures (words_step _ c.loop-place.place c.args.count c.loop-place-test.true ∙ c.loop-place.invariant)
