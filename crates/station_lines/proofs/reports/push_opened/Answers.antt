use Rattle.std.specs.Prelude.{codes}
use Rattle.station_lines.specs.Reports.{stream_text}
use Rattle.station_lines.specs.Attributes.Lemmas.Appended.{two}
use Rattle.station_lines.proofs.reports.push_opened.Goals as goal

pub returns : goal.returns
returns c = two _ _ _ (stream_text c.args.stream c.args.peer) (codes " is open\n") c.in_ok-push_stream.ensures c.in_ok-push_text.ensures
