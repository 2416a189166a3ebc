use Rattle.std.specs.Prelude.{codes}
use Rattle.station_lines.specs.Details.{entry_text}
use Rattle.station_lines.specs.Status.{id_text, moment_text}
use Rattle.station_lines.specs.Attributes.Lemmas.Appended.{four}
use Rattle.station_lines.proofs.details.push_connection_gaps.Goals as goal

pub returns : goal.returns
returns c = four _ _ _ _ _ (moment_text c.args.at) (codes "gaps connection ") (id_text c.args.entry.now.id) (entry_text c.args.at.ms c.args.entry.now) c.in_ok-push_moment.ensures c.in_ok-push_text.ensures c.in_ok-push_id.ensures c.in_ok-push_entry.ensures
