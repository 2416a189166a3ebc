use Rattle.std.specs.Prelude.{codes}
use Rattle.station_lines.specs.Details.{mode_name}
use Rattle.station_lines.specs.Status.{moment_text}
use Rattle.station_lines.specs.Attributes.Lemmas.Appended.{four}
use Rattle.station_lines.proofs.details.push_said_mode.Goals as goal

pub returns : goal.returns
returns c = four _ _ _ _ _ (moment_text c.args.at) (codes "mode ") (mode_name c.args.run) (codes "\n") c.in_ok-push_moment.ensures c.in_ok-push_text.ensures c.in_ok-push_mode_name.ensures c.in_ok-push_text-2.ensures
