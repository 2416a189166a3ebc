use Rattle.std.specs.Prelude.{codes}
use Rattle.station_lines.specs.Details.{gaps_text, minute_text, since_text, time_outs_text}
use Rattle.station_lines.specs.Attributes.Lemmas.Appended.{four}
use Rattle.station_lines.proofs.details.push_entry.Goals as goal

pub returns : goal.returns
returns c = four _ _ _ _ _ (since_text c.args.entry.now.note.since_ms c.args.entry.now.counts) (minute_text c.args.now_ms c.args.entry.now.gaps) (gaps_text (codes " whole ") c.args.entry.now.gaps.whole) (time_outs_text c.args.entry.now.note) c.in_ok-push_since.ensures c.in_ok-push_minute.ensures c.in_ok-push_gaps.ensures c.in_ok-push_time_outs.ensures
