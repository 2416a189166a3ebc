use Rattle.std.specs.Prelude.{codes}
use Rattle.station_lines.specs.Reports.{ending_text, stream_text}
use Rattle.station_lines.specs.Attributes.Lemmas.Appended.{four}
use Rattle.station_lines.proofs.reports.push_ended.Goals as goal

pub returns : goal.returns
returns c = four _ _ _ _ _ (stream_text c.args.stream c.args.peer) (codes " ended: ") (ending_text c.args.silent_s c.args.cause) (codes "\n") c.in_ok-push_stream.ensures c.in_ok-push_text.ensures c.in_ok-push_ending.ensures c.in_ok-push_text-2.ensures
