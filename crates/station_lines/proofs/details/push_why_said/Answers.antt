use Rattle.std.specs.Prelude.{codes}
use Rattle.station_lines.specs.Reasons.{why_text}
use Rattle.station_lines.specs.Status.{point_head}
use Rattle.station_lines.specs.Attributes.Lemmas.Appended.{three}
use Rattle.station_lines.proofs.details.push_why_said.Goals as goal

pub returns : goal.returns
returns c = three _ _ _ _ (point_head c.args.at (codes "why slot ") c.args.slot) (why_text c.args.at.ms c.args.target c.args.note c.args.wait) (codes "\n") c.in_ok-push_point_head.ensures c.in_ok-push_why.ensures c.in_ok-push_text.ensures
