use Rattle.std.specs.Prelude.{codes}
use Rattle.station_lines.specs.Details.{time_outs_front, time_text}
use Rattle.station_lines.specs.Attributes.Lemmas.Appended.{three}
use Rattle.station_lines.proofs.details.push_time_outs.Goals as goal

pub returns : goal.returns
returns c = three _ _ _ _ (time_outs_front c.args.note.time_outs) (time_text c.args.note.last_time_out_ms) (codes "\n") c.in_ok-write.ensures.bytes c.in_ok-push_time.ensures c.in_ok-push_text.ensures
