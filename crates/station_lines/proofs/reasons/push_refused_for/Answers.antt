use Rattle.std.specs.Prelude.{codes}
use Rattle.trace_words.specs.StatusWords.Reasons.{reason_text}
use Rattle.station_lines.specs.Attributes.Lemmas.Appended.{three}
use Rattle.station_lines.proofs.reasons.push_refused_for.Goals as goal

pub returns : goal.returns
returns c = three _ _ _ _ (codes "not opened: ") (reason_text c.args.reason) (codes "; ") c.in_ok-push_text.ensures c.in_ok-push_reason.ensures c.in_ok-push_text-2.ensures
