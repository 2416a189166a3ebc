use Rattle.std.specs.Prelude.{codes}
use Rattle.station_lines.specs.Status.{owner_text, point_head}
use Rattle.station_lines.specs.Attributes.Lemmas.Appended.{three}
use Rattle.station_lines.proofs.status.push_owner.Goals as goal

pub returns : goal.returns
returns c = three _ _ _ _ (point_head c.args.at (codes "owner ") c.args.point) (owner_text c.args.owner) (codes "\n") c.in_ok-push_point_head.ensures c.in_ok-push_owner_text.ensures c.in_ok-push_text.ensures
