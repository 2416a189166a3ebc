use Rattle.std.specs.Prelude.{codes}
use Rattle.trace_words.specs.Words.{bytes_word}
use Rattle.page_feed.proofs.Pieces.{of_three}
use Rattle.page_feed.proofs.points.push_slot_output.Goals as goal

pub returns : goal.returns
returns c = of_three _ _ _ _ (codes "\",\"output\":\"") (bytes_word c.args.output.now) (codes "\",\"state\":") c.in_ok-push_text.ensures c.in_ok-push_bytes.ensures c.in_ok-push_text-2.ensures
