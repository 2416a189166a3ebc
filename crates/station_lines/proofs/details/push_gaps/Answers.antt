use Rattle.std.specs.Prelude.{codes}
use Rattle.station_lines.specs.Details.{count_text, mean_text}
use Rattle.station_lines.specs.Attributes.Lemmas.Appended.{four}
use Rattle.station_lines.proofs.details.push_gaps.Goals as goal

pub returns : goal.returns
returns c = four _ _ _ _ _ (count_text c.args.word.now c.args.sums.count) (mean_text (codes " mean ") c.args.sums.sum_ms c.args.sums.count) (count_text (codes " longest ") c.args.sums.greatest_ms) (mean_text (codes " jitter ") c.args.sums.moved_ms c.args.sums.count) c.in_ok-write.ensures.bytes c.in_ok-push_mean.ensures c.in_ok-write-2.ensures.bytes c.in_ok-push_mean-2.ensures
