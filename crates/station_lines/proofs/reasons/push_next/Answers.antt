use Rattle.std.specs.Prelude.{◌/◌, codes}
use Rattle.station_lines.specs.Reasons.{tenths_text}
use Rattle.station_lines.specs.Attributes.Lemmas.Appended.{three}
use Rattle.station_lines.proofs.reasons.push_next.Goals as goal

pub returns : goal.returns
returns c = three _ _ _ _ (codes "the next try is in ") (tenths_text (c.args.ms / 100)) (codes " s") c.in_ok-push_text.ensures c.in_ok-push_tenths.ensures c.in_ok-push_text-2.ensures
