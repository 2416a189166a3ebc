use Rattle.station_lines.specs.Status.{moment_text, traffic_text, use_text}
use Rattle.station_lines.specs.Attributes.Lemmas.Appended.{three}
use Rattle.station_lines.proofs.status.push_totals_line.Goals as goal

pub returns : goal.returns
returns c = three _ _ _ _ (moment_text c.args.at) (use_text c.args.device) (traffic_text c.args.traffic) c.in_ok-push_moment.ensures c.in_ok-write.ensures.bytes c.in_ok-write-2.ensures.bytes
