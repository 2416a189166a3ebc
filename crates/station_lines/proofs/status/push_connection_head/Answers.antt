use Rattle.std.specs.Prelude.{codes}
use Rattle.station_lines.specs.Status.{id_text, moment_text}
use Rattle.station_lines.specs.Attributes.Lemmas.Appended.{four}
use Rattle.station_lines.proofs.status.push_connection_head.Goals as goal

pub returns : goal.returns
returns c = four _ _ _ _ _ (moment_text c.args.at) (codes "connection ") (id_text c.args.id) (codes " ") c.in_ok-push_moment.ensures c.in_ok-push_text.ensures c.in_ok-push_id.ensures c.in_ok-push_text-2.ensures
