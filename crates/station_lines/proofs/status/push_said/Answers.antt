use Rattle.std.specs.Prelude.{codes}
use Rattle.trace_outcomes.specs.WrittenOutcomes.{verdict_words}
use Rattle.station_lines.specs.Status.{moment_text}
use Rattle.station_lines.specs.Attributes.Lemmas.Appended.{three}
use Rattle.station_lines.proofs.status.push_said.Goals as goal

pub returns : goal.returns
returns c = three _ _ _ _ (moment_text c.args.at) (verdict_words c.args.verdict.now) (codes "\n") c.in_ok-push_moment.ensures c.in_ok-push_verdict.ensures c.in_ok-push_text.ensures
